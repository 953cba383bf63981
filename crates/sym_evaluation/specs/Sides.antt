-- The sides of a guard as the code finds them.
use Rattle.std.specs.Prelude.{List, [], ◌∷◌, ◌++◌, Bool, true, false, not, if◌then◌else◌, Option, Some, None}
use Rattle.gil_values.specs.declared.kinds.Kind.{Kind}
use Rattle.gil_values.specs.declared.operators.UnOp.{UnOp}
use Rattle.gil_values.specs.declared.operators.BinOp.{BinOp}
use Rattle.gil_values.specs.Equality.{same_kind}
use Rattle.pure_terms.specs.declared.literals.Literal.{Literal}
use Rattle.pure_terms.specs.declared.variables.Sort.{Sort}
use Rattle.pure_terms.specs.declared.variables.Var.{Var}
use Rattle.pure_terms.specs.Kinds.{known_kind}
use Rattle.pure_terms.specs.Pure.{PureTerm, literal, variable, list_of, unary_of, binary_of, PureAtom, positive, negative}
use Rattle.sym_evaluation.specs.Checks.{is_of_kind}
use Rattle.sym_evaluation.specs.Pure.{PureSides}

-- the term is true, or false
abbrev pub said : Bool → PureTerm → List PureAtom
said true t = positive t ∷ []
said false t = negative t ∷ []

abbrev pub is_boolean : PureTerm → Bool → PureTerm
is_boolean t b = binary_of BinOp.Equal t (literal (Literal.Bool b))

-- A variable of sort any is compared with the literal, since it is no atom of the fragment by itself.
abbrev pub variable_said : Bool → Var → Sort → List PureAtom
variable_said b x Sort.Any = positive (is_boolean (variable x) b) ∷ []
variable_said b x _ = said b (variable x)

-- the conditions of both operands are those of the term
abbrev pub splits : Bool → BinOp → Bool
splits b BinOp.And = b
splits b BinOp.Or = not b
splits b _ = false

-- The conditions under which a term is true or false. A conjunction that is true is split, and so is a disjunction that is false;
-- `not` turns the side.
abbrev pub conditions_of : Bool → PureTerm → List PureAtom
conditions_of b (variable x) = variable_said b x x.sort
conditions_of b (unary_of UnOp.Not t) = conditions_of (not b) t
conditions_of b (unary_of UnOp.Neg t) = said b (unary_of UnOp.Neg t)
conditions_of b (unary_of UnOp.Len t) = said b (unary_of UnOp.Len t)
conditions_of b (unary_of UnOp.Kind t) = said b (unary_of UnOp.Kind t)
conditions_of b (binary_of op s t) = if splits b op then conditions_of b s ++ conditions_of b t else said b (binary_of op s t)
conditions_of b (literal l) = said b (literal l)
conditions_of b (list_of ts) = said b (list_of ts)

abbrev pub no_boolean : PureSides
no_boolean = record { when_true = None; when_false = None; when_no_boolean = Some [] }

abbrev pub both_sides : PureTerm → Option (List PureAtom) → PureSides
both_sides t otherwise = record {
  when_true = Some (conditions_of true t);
  when_false = Some (conditions_of false t);
  when_no_boolean = otherwise;
}

abbrev pub sides_by_kind : Option Kind → PureTerm → PureSides
sides_by_kind (Some k) t = if same_kind k Kind.Bool then both_sides t None else no_boolean
sides_by_kind None t = both_sides t (Some (negative (is_of_kind t Kind.Bool) ∷ []))

abbrev pub literal_sides : Literal → PureSides
literal_sides (Literal.Bool true) = record { when_true = Some []; when_false = None; when_no_boolean = None }
literal_sides (Literal.Bool false) = record { when_true = None; when_false = Some []; when_no_boolean = None }
literal_sides _ = no_boolean

abbrev pub sides_of : PureTerm → PureSides
sides_of (literal l) = literal_sides l
sides_of t = sides_by_kind (known_kind t) t
