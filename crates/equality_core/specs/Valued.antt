-- Values for the variables of a table, where equalities, numbers, kinds and disequalities are given.
use Rattle.std.specs.Prelude.{◌≡◌, ◌⊎◌, ℕ, ◌^◌, ℤ, pos, neg_ℤ, List, length, slice_get, Bool, true, false, Option, Some, IsTrue}
use Rattle.std.specs.List.{list_all}
use Rattle.std.specs.Option.{is_some, option_map}
use Rattle.gil_values.specs.declared.kinds.Kind.{Kind}
use Rattle.gil_values.specs.Pure.{PureValue, integer, kind_of}
use Rattle.pure_terms.specs.declared.literals.Literal.{Literal}
use Rattle.pure_terms.specs.declared.variables.Sort.{Sort}
use Rattle.pure_terms.specs.Deciding.{has_moderate_numbers}
use Rattle.pure_terms.specs.Fragment.{is_flat, is_integer_literal, is_integer_side, is_variable_of, has_literals_between, has_narrow_literals}
use Rattle.pure_terms.specs.Kinds.{known_kind, kind_of_sort, allows}
use Rattle.pure_terms.specs.Meaning.{value, truth, all_true, IsProper, IsOver}
use Rattle.pure_terms.specs.Numbers.{is_between}
use Rattle.pure_terms.specs.Pure.{PureTerm, literal, variable, PureAtom, negative, term_of}
use Rattle.solver_proof.specs.Chains.{equals, equality_of, is_empty_kind}
use Rattle.equality_core.specs.Equating.{Equates, HaveFragmentForms}

-- each equality of the list has a form of the fragment and narrow literals, and names only variables of the table
pub record AreFragmentEqualities (vars : List Sort) (atoms : List PureAtom) : Type 0 where
  pub forms : HaveFragmentForms atoms
  pub literals : (i : ℕ) (a : PureAtom) → slice_get atoms i ≡ Some a → is_some (equality_of a) ≡ true → has_narrow_literals a ≡ true
  pub over : (i : ℕ) (a : PureAtom) → slice_get atoms i ≡ Some a → is_some (equality_of a) ≡ true → IsOver vars (term_of a)

-- a whole number from -2^124 to 2^124
pub record IsModerateNumber (w : Option PureValue) : Type 0 where
  pub number : ℤ
  pub is : w ≡ Some (integer number)
  pub between : is_between (neg_ℤ (pos (2 ^ 124))) (pos (2 ^ 124)) number ≡ true

-- the Int variables have moderate numbers, with which whole numbers by form and sort that are equated are the same
pub record FitNumbers (vars : List Sort) (atoms : List PureAtom) (numbers : List PureValue) : Type 0 where
  pub each : (x : ℕ) → slice_get vars x ≡ Some Sort.Int → IsModerateNumber (slice_get numbers x)
  pub equated : (s t : PureTerm) → Equates atoms s t → is_integer_side s ≡ true → is_integer_side t ≡ true → value numbers s ≡ value numbers t

-- the kind of a term where the variables 0, 1, 2 and so on have these kinds
abbrev pub kind_with : List Kind → PureTerm → Option Kind
kind_with kinds (variable x) = slice_get kinds x.number
kind_with kinds t = known_kind t

-- one kind for each variable, which its sort allows and which a value may have; terms that are equated have one kind
pub record FitKinds (vars : List Sort) (atoms : List PureAtom) (kinds : List Kind) : Type 0 where
  pub one_each : length kinds ≡ length vars
  pub sorts : (x : ℕ) (s : Sort) (k : Kind) → slice_get vars x ≡ Some s → slice_get kinds x ≡ Some k → allows (kind_of_sort s) k ≡ true
  pub inhabited : (x : ℕ) (k : Kind) → slice_get kinds x ≡ Some k → is_empty_kind k ≡ false
  pub alike : (s t : PureTerm) → Equates atoms s t → kind_with kinds s ≡ kind_with kinds t

-- the kinds that have few values
abbrev pub is_small_kind : Kind → Bool
is_small_kind Kind.Bool = true
is_small_kind Kind.Kind = true
is_small_kind k = false

-- a variable of the table, or a narrow literal; where it is of a kind with few values, it is equated with a literal
pub record IsSide (vars : List Sort) (atoms : List PureAtom) (kinds : List Kind) (t : PureTerm) : Type 0 where
  pub flat : is_flat t ≡ true
  pub over : IsOver vars t
  pub narrow : has_literals_between (neg_ℤ (pos (2 ^ 80))) (pos (2 ^ 80)) t ≡ true
  pub settled : (k : Kind) → kind_with kinds t ≡ Some k → is_small_kind k ≡ true → (l : Literal) × Equates atoms t (literal l)

-- the term is equated with no Int variable and no number
abbrev pub HasNoNumber : List PureAtom → PureTerm → Type 0
HasNoNumber atoms t = (u : PureTerm) → Equates atoms t u → (is_variable_of Sort.Int u ≡ false) × (is_integer_literal u ≡ false)

-- the atom is a disequality of variables and literals that aren't equated, one of which is equated with no number
pub record MayDiffer (vars : List Sort) (atoms : List PureAtom) (kinds : List Kind) (a : PureAtom) : Type 0 where
  pub left : PureTerm
  pub right : PureTerm
  pub is : a ≡ negative (equals left right)
  pub left_side : IsSide vars atoms kinds left
  pub right_side : IsSide vars atoms kinds right
  pub apart : Equates atoms left right → ⊥
  pub open_side : HasNoNumber atoms left ⊎ HasNoNumber atoms right

abbrev pub MayAllDiffer : List Sort → List PureAtom → List Kind → List PureAtom → Type 0
MayAllDiffer vars atoms kinds apart = (i : ℕ) (a : PureAtom) → slice_get apart i ≡ Some a → MayDiffer vars atoms kinds a

-- the valuation is proper, and makes the equalities of the first list and all atoms of the second one true; the Int variables
-- have these numbers, and all variables these kinds; its numbers lie from -2^125 to 2^125
pub record MeetsApart (vars : List Sort) (atoms : List PureAtom) (numbers : List PureValue) (kinds : List Kind) (apart : List PureAtom) (v : List PureValue) : Type 0 where
  pub proper : IsProper vars v
  pub equal : (i : ℕ) (a : PureAtom) → slice_get atoms i ≡ Some a → is_some (equality_of a) ≡ true → truth v a ≡ true
  pub differ : IsTrue (all_true v apart)
  pub same_numbers : (x : ℕ) → slice_get vars x ≡ Some Sort.Int → slice_get v x ≡ slice_get numbers x
  pub same_kinds : (x : ℕ) → option_map kind_of (slice_get v x) ≡ slice_get kinds x
  pub moderate : IsTrue (list_all has_moderate_numbers v)
