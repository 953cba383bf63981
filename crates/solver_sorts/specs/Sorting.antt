-- Variables of sort any of which a list of atoms says a kind, taken as variables of the sort whose values have this kind.
use Rattle.std.specs.Prelude.{◌≡◌, ◌⊎◌, ℕ, List, map, length, slice_get, Option, Some, None}
use Rattle.gil_values.specs.declared.kinds.Kind.{Kind}
use Rattle.gil_values.specs.declared.operators.UnOp.{UnOp}
use Rattle.pure_terms.specs.declared.literals.Literal.{Literal}
use Rattle.pure_terms.specs.declared.variables.Sort.{Sort}
use Rattle.pure_terms.specs.declared.variables.Var.{Var}
use Rattle.pure_terms.specs.Kinds.{kind_of_sort}
use Rattle.pure_terms.specs.Pure.{PureTerm, literal, variable, list_of, unary_of, binary_of, PureTerms, no_terms, term_and, PureAtom, positive, negative, opening}
use Rattle.solver_proof.specs.Chains.{kind_is}

-- the sort of the fragment whose values are those of a kind
abbrev pub sort_of_kind : Kind → Option Sort
sort_of_kind Kind.Int = Some Sort.Int
sort_of_kind Kind.Bool = Some Sort.Bool
sort_of_kind Kind.Str = Some Sort.Str
sort_of_kind Kind.Sym = Some Sort.Sym
sort_of_kind _ = None

-- the atom says of the variable with this number, of sort any, that its kind is that of the sort
pub record SaysSort (a : PureAtom) (x : ℕ) (s : Sort) : Type 0 where
  pub kind : Kind
  pub is : a ≡ positive (kind_is (variable (record { number = x; sort = Sort.Any })) kind)
  pub sort : sort_of_kind kind ≡ Some s

-- an atom of the list says so
pub record IsSaid (list : List PureAtom) (x : ℕ) (s : Sort) : Type 0 where
  pub place : ℕ
  pub atom : PureAtom
  pub at : slice_get list place ≡ Some atom
  pub says : SaysSort atom x s

-- each variable has its sort, or in place of sort any one that is said of it, and none of which one is said stays of sort any
pub record IsSortedTable (vars : List Sort) (list : List PureAtom) (sorted : List Sort) : Type 0 where
  pub one_each : length sorted ≡ length vars
  pub each : (x : ℕ) (s t : Sort) → slice_get vars x ≡ Some s → slice_get sorted x ≡ Some t → (t ≡ s) ⊎ ((s ≡ Sort.Any) × IsSaid list x t)
  pub all : (x : ℕ) (s : Sort) → IsSaid list x s → slice_get sorted x ≡ Some Sort.Any → ⊥

-- ---- terms over the sorted table

abbrev pub sort_or : Option Sort → Sort → Sort
sort_or (Some s) t = s
sort_or None t = t

abbrev pub sorted_variable : List Sort → Var → Var
sorted_variable sorted x = record { number = x.number; sort = sort_or (slice_get sorted x.number) x.sort }

abbrev pub told_kind : Option Kind → PureTerm → PureTerm
told_kind (Some k) t = literal (Literal.Kind k)
told_kind None t = unary_of UnOp.Kind t

-- the kind of a variable is a literal where its sort tells it
abbrev pub sorted_unary : UnOp → PureTerm → PureTerm
sorted_unary UnOp.Kind (variable x) = told_kind (kind_of_sort x.sort) (variable x)
sorted_unary op t = unary_of op t

-- the term with each variable of its sort in the table
abbrev mutual
  pub sorted_term : List Sort → PureTerm → PureTerm
  sorted_term sorted (literal l) = literal l
  sorted_term sorted (variable x) = variable (sorted_variable sorted x)
  sorted_term sorted (list_of ts) = list_of (sorted_terms sorted ts)
  sorted_term sorted (unary_of op t) = sorted_unary op (sorted_term sorted t)
  sorted_term sorted (binary_of op s t) = binary_of op (sorted_term sorted s) (sorted_term sorted t)

  pub sorted_terms : List Sort → PureTerms → PureTerms
  sorted_terms sorted no_terms = no_terms
  sorted_terms sorted (term_and t ts) = term_and (sorted_term sorted t) (sorted_terms sorted ts)

abbrev pub sorted_atom : List Sort → PureAtom → PureAtom
sorted_atom sorted (positive t) = positive (sorted_term sorted t)
sorted_atom sorted (negative t) = negative (sorted_term sorted t)
sorted_atom sorted (opening t) = opening (sorted_term sorted t)

abbrev pub sorted_atoms : List Sort → List PureAtom → List PureAtom
sorted_atoms sorted list = map (sorted_atom sorted) list
