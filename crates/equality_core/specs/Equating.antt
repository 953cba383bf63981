-- What the equalities of a list equate, and which terms can't be equal.
use Rattle.std.specs.Prelude.{◌≡◌, ℕ, List, length, slice_get, Bool, true, false, not, ◌||◌, Some, nat_eq}
use Rattle.std.specs.Option.{is_some}
use Rattle.pure_terms.specs.Fragment.{has_fragment_form}
use Rattle.pure_terms.specs.Kinds.{known_kind}
use Rattle.pure_terms.specs.Pure.{PureTerm, list_of, PureTerms, to_list, PureAtom}
use Rattle.solver_proof.specs.Chains.{equality_of, equality_at, are_different_literals, are_other_kinds, is_fresh_over}

-- a term is equated with itself, the sides of an equality with each other, and the elements of list terms that are equated
-- with each other, and so on along chains
pub data Equates (atoms : List PureAtom) : PureTerm → PureTerm → Type 0 where
  itself : {t : PureTerm} → Equates atoms t t
  by_atom : {s t : PureTerm} (i : ℕ) → equality_at atoms i ≡ Some (record { left = s; right = t }) → Equates atoms s t
  turned : {s t : PureTerm} → Equates atoms s t → Equates atoms t s
  joined : {s t u : PureTerm} → Equates atoms s t → Equates atoms t u → Equates atoms s u
  by_elements : {ts us : PureTerms} {s t : PureTerm} (i : ℕ) → Equates atoms (list_of ts) (list_of us) → slice_get (to_list ts) i ≡ Some s
      → slice_get (to_list us) i ≡ Some t → Equates atoms s t

-- list terms of different length
abbrev pub have_other_lengths : PureTerm → PureTerm → Bool
have_other_lengths (list_of ts) (list_of us) = not (nat_eq (length (to_list ts)) (length (to_list us)))
have_other_lengths _ _ = false

-- two different literals, terms of different kinds by form or sort, a Fresh variable and a term over variables with lower
-- numbers, or list terms of different length
abbrev pub clash : PureTerm → PureTerm → Bool
clash s t =
    are_different_literals s t || (are_other_kinds (known_kind s) (known_kind t)
    || (is_fresh_over s t || (is_fresh_over t s || have_other_lengths s t)))

abbrev pub EquatesNoClash : List PureAtom → Type 0
EquatesNoClash atoms = (s t : PureTerm) → Equates atoms s t → clash s t ≡ false

-- each equality of the list has a form of the fragment
abbrev pub HaveFragmentForms : List PureAtom → Type 0
HaveFragmentForms atoms = (i : ℕ) (a : PureAtom) → slice_get atoms i ≡ Some a → is_some (equality_of a) ≡ true → has_fragment_form a ≡ true
