-- Atoms that are true one after the other.
use Rattle.std.proofs.Common.{◌≡◌, ℕ, zero, suc, ◌+◌, ◌<◌, List, [], ◌∷◌, ◌++◌, length, get_or, take, true, Some, slice_get, refl, sym, ap, ◌∙◌, add-one}
use Rattle.std.proofs.lemmas.Bool.{and_from}
use Rattle.std.proofs.lemmas.List.Folds.{list_all-append}
use Rattle.std.proofs.lemmas.Option.{same_Some}
use Rattle.gil_values.specs.Pure.{PureValue}
use Rattle.gil_values.proofs.Lists.{slice_get-read}
use Rattle.pure_terms.specs.declared.atoms.Atom.{Atom}
use Rattle.pure_terms.specs.Meaning.{truth, all_true}
use Rattle.pure_terms.specs.Pure.{PureAtom}
use Rattle.pure_terms.specs.View.{atom_view, atoms_view}

-- what stands at a place of the items
pub item_at : (atoms items : List Atom) (i : ℕ) (x : Atom) → items ≡ atoms → i < length items → x ≡ get_or items i x → slice_get (atoms_view atoms) i ≡ Some (atom_view x)
item_at atoms items i x same below is = ap (λ (xs : List Atom). slice_get (atoms_view xs) i) (sym same) ∙ slice_get-read atom_view items i x below is

-- one more of the first items
take_at : {X : Type 0} (xs : List X) (i : ℕ) (x : X) → slice_get xs i ≡ Some x → take (i + 1) xs ≡ take i xs ++ x ∷ []
take_at xs i x at = rw add-one (at_next xs i x at) where
  at_next : {X : Type 0} (xs : List X) (i : ℕ) (x : X) → slice_get xs i ≡ Some x → take (suc i) xs ≡ take i xs ++ x ∷ []
  at_next [] i x at = cc
  at_next (y ∷ ys) zero x at = ap (λ z. z ∷ []) (same_Some y x at)
  at_next (y ∷ ys) (suc i) x at = ap (λ zs. y ∷ zs) (at_next ys i x at)

pub true_next : (v : List PureValue) (atoms : List PureAtom) (i : ℕ) (a : PureAtom) → slice_get atoms i ≡ Some a → all_true v (take i atoms) ≡ true → truth v a ≡ true → all_true v (take (i + 1) atoms) ≡ true
true_next v atoms i a at before is =
    ap (all_true v) (take_at atoms i a at) ∙ list_all-append (truth v) (take i atoms) (a ∷ []) ∙ and_from (all_true v (take i atoms)) (all_true v (a ∷ [])) before (and_from (truth v a) true is refl)
