-- Lists with atoms that aren't of the fragment.
use Rattle.std.specs.Prelude.{◌≡◌, ℕ, List, slice_get, Bool, true, ◌&&◌, Some}
use Rattle.pure_terms.specs.declared.deciders.Reason.{Reason}
use Rattle.pure_terms.specs.Deciding.{IsReason}
use Rattle.pure_terms.specs.Fragment.{has_fragment_form, has_narrow_literals, InFragment}
use Rattle.pure_terms.specs.Pure.{PureAtom}

-- the atom is of the fragment by itself
abbrev pub is_plain_atom : PureAtom → Bool
is_plain_atom a = has_fragment_form a && has_narrow_literals a

abbrev pub AreAllPlain : List PureAtom → Type 0
AreAllPlain atoms = (i : ℕ) (a : PureAtom) → slice_get atoms i ≡ Some a → is_plain_atom a ≡ true

-- an atom keeps the list out of the fragment, and the reason names it
abbrev pub IsKeptOut : List PureAtom → Reason → Type 0
IsKeptOut atoms reason = (¬ InFragment atoms) × IsReason atoms reason
