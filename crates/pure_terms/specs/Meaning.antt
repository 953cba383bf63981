-- Terms and atoms under a valuation: values by the operator table, proper valuations, truth, and lists that no proper
-- valuation makes true.
use Rattle.std.specs.Prelude.{◌≡◌, ℕ, ◌<◌, List, [], ◌∷◌, length, slice_get, Bool, true, false, Option, Some, None, IsTrue}
use Rattle.std.specs.Option.{is_some, option_map, option_and_then}
use Rattle.std.specs.Result.{result_ok}
use Rattle.std.specs.List.{Contains, list_all}
use Rattle.gil_values.specs.Operators.{unary, binary}
use Rattle.gil_values.specs.Pure.{PureValue, integer, boolean, text, symbol, kind, procedure, list, from_list}
use Rattle.gil_values.specs.Symbols.{OccursIn}
use Rattle.pure_terms.specs.declared.literals.Literal.{Literal}
use Rattle.pure_terms.specs.declared.variables.Sort.{Sort}
use Rattle.pure_terms.specs.declared.variables.Var.{Var}
use Rattle.pure_terms.specs.Kinds.{has_sort}
use Rattle.pure_terms.specs.Pure.{PureTerm, literal, variable, list_of, unary_of, binary_of, PureTerms, no_terms, term_and, PureAtom, positive, negative, opening, variables, variables_of_atoms}

abbrev pub literal_value : Literal → PureValue
literal_value (Literal.Int n) = integer n
literal_value (Literal.Bool b) = boolean b
literal_value (Literal.Str cs) = text cs
literal_value (Literal.Kind k) = kind k
literal_value (Literal.Proc name) = procedure name

-- a first value and the values after it, where all are defined
abbrev pub both : Option PureValue → Option (List PureValue) → Option (List PureValue)
both (Some w) (Some ws) = Some (w ∷ ws)
both _ _ = None

-- the value of a term where the variables 0, 1, 2 and so on have these values. It is undefined where an operator faults
-- and where a variable has no value.
abbrev mutual
  pub value : List PureValue → PureTerm → Option PureValue
  value v (literal l) = Some (literal_value l)
  value v (variable x) = slice_get v x.number
  value v (list_of ts) = option_map (λ ws. list (from_list ws)) (values v ts)
  value v (unary_of op t) = option_and_then (λ a. result_ok (unary op a)) (value v t)
  value v (binary_of op s t) = option_and_then (λ a. option_and_then (λ b. result_ok (binary op a b)) (value v t)) (value v s)

  pub values : List PureValue → PureTerms → Option (List PureValue)
  values v no_terms = Some []
  values v (term_and t ts) = both (value v t) (values v ts)

-- one value for each variable, of the variable's sort; the symbol of a fresh variable occurs in no value of a variable
-- with a lower number
pub record IsProper (vars : List Sort) (v : List PureValue) : Type 0 where
  pub one_each : length v ≡ length vars
  pub sorts : (x : ℕ) (s : Sort) (w : PureValue) → slice_get vars x ≡ Some s → slice_get v x ≡ Some w → IsTrue (has_sort s w)
  pub fresh : (x y n : ℕ) (w : PureValue) → slice_get vars x ≡ Some Sort.Fresh → slice_get v x ≡ Some (symbol n) → y < x
      → slice_get v y ≡ Some w → ¬ OccursIn n w

-- the term, or each atom, names only variables of the table, with their sorts there
abbrev pub AreVariablesOf : List Sort → List Var → Type 0
AreVariablesOf vars xs = (x : Var) → Contains xs x → slice_get vars x.number ≡ Some x.sort

abbrev pub IsOver : List Sort → PureTerm → Type 0
IsOver vars t = AreVariablesOf vars (variables t)

abbrev pub AreOver : List Sort → List PureAtom → Type 0
AreOver vars atoms = AreVariablesOf vars (variables_of_atoms atoms)

abbrev pub is_that_boolean : Bool → Option PureValue → Bool
is_that_boolean true (Some (boolean b)) = b
is_that_boolean false (Some (boolean true)) = false
is_that_boolean false (Some (boolean false)) = true
is_that_boolean _ _ = false

-- whether the atom is true
abbrev pub truth : List PureValue → PureAtom → Bool
truth v (positive t) = is_that_boolean true (value v t)
truth v (negative t) = is_that_boolean false (value v t)
truth v (opening t) = is_some (value v t)

-- every atom of the list is true
abbrev pub all_true : List PureValue → List PureAtom → Bool
all_true v atoms = list_all (truth v) atoms

-- the valuation is proper and makes every atom true
pub record Satisfies (vars : List Sort) (v : List PureValue) (atoms : List PureAtom) : Type 0 where
  pub proper : IsProper vars v
  pub true_there : IsTrue (all_true v atoms)

abbrev pub IsUnsatisfiable : List Sort → List PureAtom → Type 0
IsUnsatisfiable vars atoms = (v : List PureValue) → ¬ Satisfies vars v atoms
