-- The jumps of the commands of the operators stay within them.
use Rattle.std.proofs.Common.{ℕ, ◌+◌, ◌≤◌, [], ◌∷◌, false, refl, arith}
use Rattle.gil_values.specs.Pure.{boolean}
use Rattle.gil_syntax.specs.Pure.{PureExpr, literal}
use Rattle.source_language.specs.Code.{truth, jump}
use Rattle.source_language.proofs.Labels.{Fits, fits_jump}
use Rattle.source_operators.specs.declared.trees.Connective.{Connective}
use Rattle.source_operators.specs.declared.trees.Connective.TheVariants.{And, Or}
use Rattle.source_operators.proofs.Fitting.{OperatorsFit}
use Rattle.object_operators.specs.declared.trees.Prefix.{Prefix}
use Rattle.object_operators.specs.declared.trees.Prefix.TheVariants.{Minus, Not}
use Rattle.object_operators.specs.declared.trees.Joint.{Joint}
use Rattle.object_operators.specs.declared.trees.Joint.TheVariants.{Operation, Property}
use Rattle.object_operators.specs.Codes.{sets, applied_code, joined_code, decision_code, decision_size, codes_of_operators}
use Rattle.object_operators.proofs.Running.{decided_long}

applied-fits : (u : Prefix) (n at i : ℕ) (e : PureExpr) → Fits n (applied_code u at i e)
applied-fits Minus n at i e = refl
applied-fits Not n at i e = refl

joined-fits : (j : Joint) (n at i : ℕ) (d e : PureExpr) → Fits n (joined_code j at i d e)
joined-fits (Operation op) n at i d e = refl
joined-fits Property n at i d e = refl

decision-fits : (o : Connective) (n pc at t right : ℕ) (d : PureExpr) → pc + decision_size o + right + 1 ≤ n → Fits n (decision_code o pc at t right d)
decision-fits And n pc at t right d le =
    fits_jump n at (pc + 3) d (sets at t (literal (boolean false)) ∷ jump at truth (pc + 3 + right + 1) ∷ []) (omega (arith, le))
    (fits_jump n at (pc + 3 + right + 1) truth [] (omega (arith, le)) refl)
decision-fits Or n pc at t right d le = fits_jump n at (pc + 2 + right + 1) d [] (omega (arith, le)) refl

pub operators_fit : OperatorsFit codes_of_operators
operators_fit = record {
  applies = λ u n pc at i e le. applied-fits u n at i e;
  joins = λ j n pc at i d e le. joined-fits j n at i d e;
  decide_long = decided_long;
  decides = λ o n pc at t right d e le. decision-fits o n pc at t right d le;
  concludes = λ o n pc at t e le. refl;
}
