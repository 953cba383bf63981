use Rattle.std.proofs.Common.{◌≡◌, ℕ, zero, suc, ◌+◌, List, [], ◌∷◌, ◌++◌, map, take, Some, slice_get, sym, ap, ◌∙◌, arith, add-one}
use Rattle.std.proofs.lemmas.List.{map-append}
use Rattle.std.proofs.lemmas.Option.{same_Some}
use Rattle.gil_values.proofs.Lists.{slice_get-read}
use Rattle.pure_terms.specs.declared.atoms.Atom.{Atom}
use Rattle.pure_terms.specs.declared.variables.Sort.{Sort}
use Rattle.pure_terms.specs.Pure.{PureAtom}
use Rattle.pure_terms.specs.View.{atom_view, atoms_view}
use Rattle.solver_sorts.specs.Sorting.{sorted_atom, sorted_atoms}
use Rattle.solver_sorts.proofs.terms.sorted_atoms.Goals as goal

take_at : {X : Type 0} (xs : List X) (i : ℕ) (x : X) → slice_get xs i ≡ Some x → take (i + 1) xs ≡ take i xs ++ x ∷ []
take_at xs i x at = rw add-one (at_next xs i x at) where
  at_next : {X : Type 0} (xs : List X) (i : ℕ) (x : X) → slice_get xs i ≡ Some x → take (suc i) xs ≡ take i xs ++ x ∷ []
  at_next [] i x at = cc
  at_next (y ∷ ys) zero x at = ap (λ z. z ∷ []) (same_Some y x at)
  at_next (y ∷ ys) (suc i) x at = ap (λ zs. y ∷ zs) (at_next ys i x at)

sorted_next : (sorted : List Sort) (atoms done : List PureAtom) (i : ℕ) (a b : PureAtom) → slice_get atoms i ≡ Some a → done ≡ sorted_atoms sorted (take i atoms) → b ≡ sorted_atom sorted a → done ++ b ∷ [] ≡ sorted_atoms sorted (take (i + 1) atoms)
sorted_next sorted atoms done i a b at before is =
    (λ j. before j ++ is j ∷ []) ∙ sym (map-append (sorted_atom sorted) (take i atoms) (a ∷ [])) ∙ ap (map (sorted_atom sorted)) (sym (take_at atoms i a at))

pub loop-atom-preserved : goal.loop-atom-preserved
loop-atom-preserved c =
    let here : slice_get (atoms_view c.as_slice-atom-items.result.now) c.loop-atom.atom-index ≡ Some (atom_view c.atom-item.result) = slice_get-read atom_view c.as_slice-atom-items.result.now c.loop-atom.atom-index c.atom-item.result (omega arith) c.atom-item.is in
    let there : slice_get (atoms_view c.args.atoms.now) c.loop-atom.atom-index ≡ Some (atom_view c.atom-item.result) = ap (λ (xs : List Atom). slice_get (atoms_view xs) c.loop-atom.atom-index) (sym c.as_slice-atom-items.ensures) ∙ here in
    ap atoms_view c.in_ok-push.ensures.ok ∙ map-append atom_view c.loop-atom.list (c.in_ok-sorted_atom.field-0 ∷ [])
    ∙ sorted_next c.args.sorted.now (atoms_view c.args.atoms.now) (atoms_view c.loop-atom.list) c.loop-atom.atom-index (atom_view c.atom-item.result) (atom_view c.in_ok-sorted_atom.field-0) there c.loop-atom.invariant c.in_ok-sorted_atom.ensures
