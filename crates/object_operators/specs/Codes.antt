-- The commands of the operators of the object language.
use Rattle.std.specs.Prelude.{ℕ, ◌+◌, List, [], ◌∷◌, true, false, None}
use Rattle.gil_values.specs.declared.operators.UnOp.TheVariants as unary
use Rattle.gil_values.specs.Pure.{boolean, procedure}
use Rattle.gil_syntax.specs.Pure.{PureExpr, literal, name, unary_of, assign, call, PureNumberedCommand}
use Rattle.source_language.specs.Code.{truth, jump}
use Rattle.source_language.specs.Names.{temporary}
use Rattle.source_language.specs.Procedures.{placed}
use Rattle.source_operators.specs.declared.trees.Connective.{Connective}
use Rattle.source_operators.specs.declared.trees.Connective.TheVariants.{And, Or}
use Rattle.source_operators.specs.Codes.{Codes}
use Rattle.object_operators.specs.declared.trees.Prefix.{Prefix}
use Rattle.object_operators.specs.declared.trees.Prefix.TheVariants.{Minus, Not}
use Rattle.object_operators.specs.declared.trees.Joint.{Joint}
use Rattle.object_operators.specs.declared.trees.Joint.TheVariants.{Operation, Property}
use Rattle.object_operators.specs.Operations.{operation}
use Rattle.object_operators.specs.Walk.{get_name}

-- a temporary gets a value
abbrev pub sets : ℕ → ℕ → PureExpr → PureNumberedCommand
sets at t e = placed at (assign (temporary t) e)

abbrev pub applied_code : Prefix → ℕ → ℕ → PureExpr → List PureNumberedCommand
applied_code Minus at i e = sets at i (unary_of unary.Neg e) ∷ []
applied_code Not at i e = sets at i (unary_of unary.Not e) ∷ []

-- the call that reads a property, which has no handler
abbrev pub property_call : ℕ → ℕ → PureExpr → PureExpr → PureNumberedCommand
property_call at i d e = placed at (call (temporary i) (literal (procedure get_name)) (d ∷ e ∷ []) None)

abbrev pub joined_code : Joint → ℕ → ℕ → PureExpr → PureExpr → List PureNumberedCommand
joined_code (Operation op) at i d e = sets at i (operation op d e) ∷ []
joined_code Property at i d e = property_call at i d e ∷ []

-- before so many commands of the right side: `a && ..` is false where it is skipped, and `a || ..` is a
abbrev pub decision_code : Connective → ℕ → ℕ → ℕ → ℕ → PureExpr → List PureNumberedCommand
decision_code And pc at t right a = jump at a (pc + 3) ∷ sets at t (literal (boolean false)) ∷ jump at truth (pc + 3 + right + 1) ∷ []
decision_code Or pc at t right a = sets at t a ∷ jump at a (pc + 2 + right + 1) ∷ []

abbrev pub decision_size : Connective → ℕ
decision_size And = 3
decision_size Or = 2

abbrev pub codes_of_operators : Codes Prefix Joint
codes_of_operators = record {
  variable = name;
  apply_uses = λ u. 1;
  apply = λ u pc at i e. applied_code u at i e;
  join_uses = λ j. 1;
  join = λ j pc at i d e. joined_code j at i d e;
  early = true;
  decide_size = decision_size;
  decide = decision_code;
  conclude = λ c pc at t b. sets at t b ∷ [];
}
