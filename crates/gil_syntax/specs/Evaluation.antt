-- The value of an expression where its names have values: left to right, the value or the first fault.
-- From Gillian, Part I (PLDI 2020); the operator table is that of gil_values.
use Rattle.std.specs.Prelude.{◌≡◌, ℕ, List, [], ◌∷◌, slice_get, if◌then◌else◌, Option, Some, None, Result, Ok, Err}
use Rattle.std.specs.Str.{bytes_eq}
use Rattle.gil_values.specs.Pure.{PureValue, list, from_list as list_elements}
use Rattle.gil_values.specs.Operators.{Fault, unset_variable, Outcome, unary, binary}
use Rattle.gil_syntax.specs.Pure.{PureExpr, literal, name, logical, list_of, unary_of, binary_of, PureExprs, no_exprs, expr_and, from_list}

-- A store gives values to names: a list of bindings, the newest first, so that of two bindings of one name the first
-- one counts. A logical name stands in it with its '#'.
pub record Binding : Type 0 where
  pub name : List ℕ
  pub value : PureValue

abbrev pub Store : Type 0
Store = List Binding

-- the store in which the name has this value and every other name is as before
abbrev pub bind : List ℕ → PureValue → Store → Store
bind x v s = record { name = x; value = v } ∷ s

abbrev pub value_of : Store → List ℕ → Option PureValue
value_of [] x = None
value_of (b ∷ s) x = if bytes_eq b.name x then Some b.value else value_of s x

-- The store gives each of these names its value.
abbrev pub Agrees : Store → List (List ℕ) → List PureValue → Type 0
Agrees s xs vs = (i : ℕ) (x : List ℕ) (v : PureValue) → slice_get xs i ≡ Some x → slice_get vs i ≡ Some v → value_of s x ≡ Some v

abbrev pub set_or_fault : Option PureValue → Outcome
set_or_fault (Some v) = Ok v
set_or_fault None = Err unset_variable

-- what goes on after a value, and after the values of a list
abbrev pub after_value : Outcome → (PureValue → Outcome) → Outcome
after_value (Ok v) go_on = go_on v
after_value (Err f) go_on = Err f

abbrev pub Outcomes : Type 0
Outcomes = Result (List PureValue) Fault

-- a first value and the values after it: the first fault counts
abbrev pub both : Outcome → Outcomes → Outcomes
both (Ok v) (Ok vs) = Ok (v ∷ vs)
both (Ok v) (Err f) = Err f
both (Err f) rest = Err f

abbrev pub as_list : Outcomes → Outcome
as_list (Ok vs) = Ok (list (list_elements vs))
as_list (Err f) = Err f

abbrev mutual
  pub evaluate : PureExpr → Store → Outcome
  evaluate (literal v) s = Ok v
  evaluate (name x) s = set_or_fault (value_of s x)
  evaluate (logical x) s = set_or_fault (value_of s x)
  evaluate (list_of es) s = as_list (evaluate_elements es s)
  evaluate (unary_of op e) s = after_value (evaluate e s) (unary op)
  evaluate (binary_of op d e) s = after_value (evaluate d s) (λ v. after_value (evaluate e s) (binary op v))

  pub evaluate_elements : PureExprs → Store → Outcomes
  evaluate_elements no_exprs s = Ok []
  evaluate_elements (expr_and e es) s = both (evaluate e s) (evaluate_elements es s)

-- the values of a list of arguments
abbrev pub evaluate_all : List PureExpr → Store → Outcomes
evaluate_all es s = evaluate_elements (from_list es) s
