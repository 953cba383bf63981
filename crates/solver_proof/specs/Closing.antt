-- What each proof closes, over a list of atoms that grows.
use Rattle.std.specs.Prelude.{◌≡◌, ℕ, List, [], ◌∷◌, ◌++◌, map, length, slice_get, Bool, true, false, not, ◌&&◌, ◌||◌, if◌then◌else◌, Option, Some, None, IsTrue}
use Rattle.std.specs.Option.{option_and_then, IsSomeAnd}
use Rattle.pure_terms.specs.Equality.{same_term}
use Rattle.gil_values.specs.declared.kinds.Kind.{Kind}
use Rattle.gil_values.specs.declared.operators.BinOp.{BinOp}
use Rattle.pure_terms.specs.declared.literals.Literal.{Literal}
use Rattle.pure_terms.specs.declared.variables.Sort.{Sort}
use Rattle.pure_terms.specs.Fragment.{is_order, is_variable_of, is_simple_equality, is_comparison}
use Rattle.pure_terms.specs.Meaning.{truth, IsOver}
use Rattle.pure_terms.specs.Pure.{PureTerm, literal, variable, list_of, binary_of, PureTerms, term_and, to_list, PureAtom, positive, negative, term_of}
use Rattle.solver_proof.specs.declared.proofs.ChainEnd.{ChainEnd}
use Rattle.solver_proof.specs.Chains.{equals, truth_term, kind_is, Sides, sides_of_equality, KindFact, kind_fact_at, disequality_at, are_sides, Leads, end_closes}
use Rattle.solver_proof.specs.Pure.{PureProof, sum_of, false_at, chain, cases_of, values_at, parts_apart, parts_at, differ_at, split_on, meet_at, PureProofs, no_proofs, proof_and}
use Rattle.solver_proof.specs.Sums.{SumCloses}

-- the atom stands at this place of the list
abbrev pub StandsAt : List PureAtom → ℕ → PureAtom → Type 0
StandsAt atoms i a = slice_get atoms i ≡ Some a

abbrev pub at_most : PureTerm → PureTerm → PureTerm
at_most s t = binary_of BinOp.LessOrEqual s t

abbrev pub compares : BinOp → Bool
compares BinOp.Equal = true
compares op = is_order op

-- whether the atom compares two literals by `=`, `<` or `<=`
abbrev pub compares_literals : PureTerm → Bool
compares_literals (binary_of op (literal k) (literal l)) = compares op
compares_literals t = false

-- whether the atom compares two literals and isn't true
abbrev pub is_false_comparison : Option PureAtom → Bool
is_false_comparison (Some a) = compares_literals (term_of a) && not (truth [] a)
is_false_comparison None = false

-- a term by which a list may be split: a Bool variable, `=` of two simple terms, or `<` or `<=` of two that are whole
-- numbers by form and sort
abbrev pub may_split : PureTerm → Bool
may_split t = is_variable_of Sort.Bool t || (is_simple_equality t || is_comparison t)

abbrev pub is_variable : PureTerm → Bool
is_variable (variable x) = true
is_variable t = false

-- the kinds that values have, in their order
abbrev pub kinds_of_values : List Kind
kinds_of_values = Kind.Int ∷ Kind.Bool ∷ Kind.Str ∷ Kind.Sym ∷ Kind.Kind ∷ Kind.Proc ∷ Kind.List ∷ []

-- the kinds that are values, in their order
abbrev pub all_kinds : List Kind
all_kinds = Kind.Int ∷ Kind.Bool ∷ Kind.Str ∷ Kind.Sym ∷ Kind.Kind ∷ Kind.Proc ∷ Kind.List ∷ Kind.Undef ∷ Kind.Null ∷ []

abbrev pub kind_atoms : PureTerm → List PureAtom
kind_atoms t = map (λ k. positive (kind_is t k)) kinds_of_values

abbrev pub boolean_atoms : PureTerm → List PureAtom
boolean_atoms t = positive (equals t (truth_term true)) ∷ positive (equals t (truth_term false)) ∷ []

abbrev pub kind_value_atoms : PureTerm → List PureAtom
kind_value_atoms t = map (λ k. positive (equals t (literal (Literal.Kind k)))) all_kinds

-- the equalities, and the disequalities, of the elements of two list terms
abbrev pub element_equalities : PureTerms → PureTerms → List PureAtom
element_equalities (term_and t ts) (term_and u us) = positive (equals t u) ∷ element_equalities ts us
element_equalities _ _ = []

abbrev pub element_disequalities : PureTerms → PureTerms → List PureAtom
element_disequalities (term_and t ts) (term_and u us) = negative (equals t u) ∷ element_disequalities ts us
element_disequalities _ _ = []

abbrev pub HaveOneLength : PureTerms → PureTerms → Type 0
HaveOneLength ts us = length (to_list ts) ≡ length (to_list us)

-- the elements of two list terms
pub record Lists : Type 0 where
  pub left : PureTerms
  pub right : PureTerms

abbrev pub lists_of_terms : PureTerm → PureTerm → Option Lists
lists_of_terms (list_of ts) (list_of us) = Some (record { left = ts; right = us })
lists_of_terms s t = None

abbrev pub lists_of : Option Sides → Option Lists
lists_of (Some sides) = lists_of_terms sides.left sides.right
lists_of None = None

abbrev pub equal_sides_of : PureAtom → Option Sides
equal_sides_of (positive t) = sides_of_equality t
equal_sides_of a = None

-- the list terms that the atom at this place says to be equal, and to be different
abbrev pub equal_lists_at : List PureAtom → ℕ → Option Lists
equal_lists_at atoms i = lists_of (option_and_then equal_sides_of (slice_get atoms i))

abbrev pub different_lists_at : List PureAtom → ℕ → Option Lists
different_lists_at atoms i = lists_of (disequality_at atoms i)

-- the atoms of a variable and each value of the kind that is said of it, which is Bool or Kind
abbrev pub atoms_of_kind : PureTerm → Kind → Option (List PureAtom)
atoms_of_kind t Kind.Bool = Some (boolean_atoms t)
atoms_of_kind t Kind.Kind = Some (kind_value_atoms t)
atoms_of_kind t k = None

abbrev pub atoms_of_subject : PureTerm → Kind → Option (List PureAtom)
atoms_of_subject (variable x) k = atoms_of_kind (variable x) k
atoms_of_subject t k = None

abbrev pub value_atoms : Option KindFact → Option (List PureAtom)
value_atoms (Some fact) = if fact.is_so then atoms_of_subject fact.subject fact.kind else None
value_atoms None = None

-- equalities lead to two terms that can't be equal
abbrev pub ChainCloses : List PureAtom → List ℕ → ChainEnd → Type 0
ChainCloses atoms is end = (s : PureTerm) × ((t : PureTerm) × (Leads atoms is s t × IsTrue (end_closes atoms end s t)))

-- the two terms of which an atom says `s <= t`
abbrev pub sides_of_at_most : PureTerm → Option Sides
sides_of_at_most (binary_of BinOp.LessOrEqual s t) = Some (record { left = s; right = t })
sides_of_at_most t = None

abbrev pub at_most_of : PureAtom → Option Sides
at_most_of (positive t) = sides_of_at_most t
at_most_of a = None

abbrev pub at_most_at : List PureAtom → ℕ → Option Sides
at_most_at atoms i = option_and_then at_most_of (slice_get atoms i)

-- `s <= t`, `t <= s`, and that s and t differ
abbrev pub meet : Option Sides → Option Sides → Option Sides → Bool
meet (Some up) (Some down) differ = (same_term up.left down.right && same_term up.right down.left) && are_sides differ up.left up.right
meet up down differ = false

-- the proof closes the list
abbrev mutual
  pub Closes : List Sort → List PureAtom → PureProof → Type 0
  Closes vars atoms (sum_of fs) = SumCloses atoms fs
  Closes vars atoms (false_at i) = IsTrue (is_false_comparison (slice_get atoms i))
  Closes vars atoms (chain is end) = ChainCloses atoms is end
  Closes vars atoms (cases_of t ps) = IsOver vars t × IsTrue (is_variable t) × CloseEach vars atoms (kind_atoms t) ps
  Closes vars atoms (values_at i ps) = IsSomeAnd (value_atoms (kind_fact_at atoms i)) (λ more. CloseEach vars atoms more ps)
  Closes vars atoms (parts_apart i) = IsSomeAnd (equal_lists_at atoms i) (λ lists. ¬ HaveOneLength lists.left lists.right)
  Closes vars atoms (parts_at i p) =
      IsSomeAnd (equal_lists_at atoms i) (λ lists. HaveOneLength lists.left lists.right
      × Closes vars (atoms ++ element_equalities lists.left lists.right) p)
  Closes vars atoms (differ_at i ps) =
      IsSomeAnd (different_lists_at atoms i) (λ lists. HaveOneLength lists.left lists.right
      × CloseEach vars atoms (element_disequalities lists.left lists.right) ps)
  Closes vars atoms (split_on t p q) =
      IsOver vars t × IsTrue (may_split t) × Closes vars (atoms ++ positive t ∷ []) p × Closes vars (atoms ++ negative t ∷ []) q
  Closes vars atoms (meet_at i j k) = IsTrue (meet (at_most_at atoms i) (at_most_at atoms j) (disequality_at atoms k))

  -- there is one proof for each of these atoms, and closes the list with that atom appended
  pub CloseEach : List Sort → List PureAtom → List PureAtom → PureProofs → Type 0
  CloseEach vars atoms [] no_proofs = Unit {0}
  CloseEach vars atoms (a ∷ more) (proof_and p ps) = Closes vars (atoms ++ a ∷ []) p × CloseEach vars atoms more ps
  CloseEach vars atoms _ _ = ⊥
