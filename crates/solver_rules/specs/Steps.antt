-- Lists of atoms of the fragment, and the next step on one.
use Rattle.std.specs.Prelude.{◌≡◌, ◌⊎◌, ℕ, List, slice_get, true, Some, IsTrue}
use Rattle.std.specs.List.{list_all}
use Rattle.gil_values.specs.declared.kinds.Kind.{Kind}
use Rattle.gil_values.specs.declared.operators.BinOp.{BinOp}
use Rattle.gil_values.specs.View.{values_view}
use Rattle.pure_terms.specs.declared.literals.Literal.{Literal}
use Rattle.pure_terms.specs.declared.variables.Sort.{Sort}
use Rattle.pure_terms.specs.declared.variables.Var.{Var}
use Rattle.pure_terms.specs.Deciding.{has_moderate_numbers}
use Rattle.pure_terms.specs.Fragment.{is_variable_of, is_integer_side, has_fragment_form, has_narrow_literals}
use Rattle.pure_terms.specs.Meaning.{Satisfies, IsOver}
use Rattle.pure_terms.specs.Pure.{PureTerm, literal, variable, list_of, binary_of, PureTerms, PureAtom, positive, negative, term_of}
use Rattle.pure_terms.specs.View.{term_view}
use Rattle.solver_proof.specs.Chains.{equals, kind_is}
use Rattle.solver_proof.specs.Closing.{Closes, HaveOneLength, may_split}
use Rattle.solver_proof.specs.View.{proof_view}
use Rattle.equality_core.specs.Classes.{PureClasses, given_list}
use Rattle.equality_core.specs.Classified.{IsWhole}
use Rattle.equality_core.specs.Equating.{EquatesNoClash}
use Rattle.equality_core.specs.Valued.{is_small_kind}
use Rattle.equality_core.specs.Values.{IsInTable}
use Rattle.solver_rules.specs.declared.steps.Step.{Step}
use Rattle.solver_rules.specs.Rules.{IsUnsaid, IsUndecided, ElementsDiffer}

-- the atom is of the fragment by itself, and names only variables of the table
pub record IsPlainAtom (vars : List Sort) (a : PureAtom) : Type 0 where
  pub over : IsOver vars (term_of a)
  pub form : has_fragment_form a ≡ true
  pub literals : has_narrow_literals a ≡ true

abbrev pub ArePlain : List Sort → List PureAtom → Type 0
ArePlain vars atoms = (i : ℕ) (a : PureAtom) → slice_get atoms i ≡ Some a → IsPlainAtom vars a

-- a list of such atoms with the classes of its terms
pub record IsNode (vars : List Sort) (list : List PureAtom) (c : PureClasses) : Type 0 where
  pub plain : ArePlain vars list
  pub given : given_list c ≡ list
  pub whole : IsWhole c
  pub clear : EquatesNoClash list

-- the atom says of a variable that it has a kind with few values, and the list doesn't say which one it has
pub record IsSmallFact (list : List PureAtom) (place : ℕ) : Type 0 where
  pub x : Var
  pub kind : Kind
  pub at : slice_get list place ≡ Some (positive (kind_is (variable x) kind))
  pub small : is_small_kind kind ≡ true
  pub unsaid : (l : Literal) → IsUnsaid list (positive (equals (variable x) (literal l)))

-- the atom is a disequality of list terms of one length, and the list says of no elements that they differ
pub record IsListDisequality (list : List PureAtom) (place : ℕ) : Type 0 where
  pub left : PureTerms
  pub right : PureTerms
  pub at : slice_get list place ≡ Some (negative (equals (list_of left) (list_of right)))
  pub one_length : HaveOneLength left right
  pub unsaid : ElementsDiffer list left right → ⊥

-- `=` or `<=` of two terms that are whole numbers by form and sort
pub record IsNumberTest (t : PureTerm) : Type 0 where
  pub op : BinOp
  pub left : PureTerm
  pub right : PureTerm
  pub is : t ≡ binary_of op left right
  pub form : (op ≡ BinOp.Equal) ⊎ (op ≡ BinOp.LessOrEqual)
  pub whole_left : is_integer_side left ≡ true
  pub whole_right : is_integer_side right ≡ true

-- a term by which a list may be split: a Bool variable or a test of numbers, over the table and with narrow literals
pub record IsSplit (vars : List Sort) (t : PureTerm) : Type 0 where
  pub may : may_split t ≡ true
  pub true_there : IsPlainAtom vars (positive t)
  pub basic : (is_variable_of Sort.Bool t ≡ true) ⊎ IsNumberTest t

-- a variable of sort any, of which the list says no kind
pub record IsOpenVariable (vars : List Sort) (list : List PureAtom) (x : Var) : Type 0 where
  pub there : IsInTable vars x
  pub any : x.sort ≡ Sort.Any
  pub unsaid : (k : Kind) → IsUnsaid list (positive (kind_is (variable x) k))

-- a valuation that meets the list, a proof that closes it, or atoms of which one may be added; what is added wasn't said before
abbrev pub IsStep : List Sort → List PureAtom → Step → Type 0
IsStep vars list (Step.Model v) = Satisfies vars (values_view v) list × IsTrue (list_all has_moderate_numbers (values_view v))
IsStep vars list (Step.Closed p) = Closes vars list (proof_view p)
IsStep vars list (Step.Split t) = IsSplit vars (term_view t) × IsUndecided list (term_view t)
IsStep vars list (Step.Cases x) = IsOpenVariable vars list x
IsStep vars list (Step.Values j) = IsSmallFact list j
IsStep vars list (Step.Differ j) = IsListDisequality list j
