-- Rows of lists, one atom after another.
use Rattle.std.proofs.Common.{◌≡◌, ℕ, zero, suc, ◌+◌, ◌<◌, List, [], ◌∷◌, ◌++◌, drop, length, get_or, map, Option, Some, None, slice_get, refl, sym, ap, ◌∙◌, append_assoc, arith}
use Rattle.std.specs.Option.{option_map}
use Rattle.std.proofs.lemmas.Option.{same_Some, slice_get-map, slice_get_read}
use Rattle.pure_terms.specs.declared.atoms.Atom.{Atom}
use Rattle.pure_terms.specs.Pure.{PureAtom}
use Rattle.pure_terms.specs.View.{atom_view}
use Rattle.solver_proof.specs.Sums.{Row, row_of}
use Rattle.linear_core.specs.declared.rows.Row.{Row as LinearRow}
use Rattle.solver_rules.specs.Rows.{linear_row, row_before, rows_from, place_before, places_from, found_rows, found_places}

drop_next : {X : Type 0} (xs : List X) (i : ℕ) (x : X) → slice_get xs i ≡ Some x → drop i xs ≡ x ∷ drop (suc i) xs
drop_next [] i x at = cc
drop_next (y ∷ ys) zero x at = ap (λ z. z ∷ ys) (same_Some y x at)
drop_next (y ∷ ys) (suc i) x at = drop_next ys i x at

pub drop_at : {X : Type 0} (xs : List X) (i : ℕ) (x : X) → slice_get xs i ≡ Some x → drop i xs ≡ x ∷ drop (i + 1) xs
drop_at xs i x at = drop_next xs i x at ∙ ap (λ n. x ∷ drop n xs) (next i) where
  next : (i : ℕ) → suc i ≡ i + 1
  next i = omega arith

rows_found : (o : Option Row) (rows : List LinearRow) → row_before o rows ≡ found_rows (option_map linear_row o) ++ rows
rows_found (Some r) rows = refl
rows_found None rows = refl

places_found : (o : Option Row) (place : ℕ) (places : List ℕ) → place_before o place places ≡ found_places place (option_map linear_row o) ++ places
places_found (Some r) place places = refl
places_found None place places = refl

module _ (atoms : List PureAtom) (i : ℕ) (a : PureAtom) (at : slice_get atoms i ≡ Some a) where
  pub rows_more : (all rows new : List LinearRow) → all ≡ rows ++ rows_from (drop i atoms) → new ≡ rows ++ found_rows (option_map linear_row (row_of a)) → all ≡ new ++ rows_from (drop (i + 1) atoms)
  rows_more all rows new before is =
      before ∙ ap (λ l. rows ++ rows_from l) (drop_at atoms i a at) ∙ ap (λ l. rows ++ l) (rows_found (row_of a) (rows_from (drop (i + 1) atoms)))
      ∙ sym (append_assoc rows (found_rows (option_map linear_row (row_of a))) (rows_from (drop (i + 1) atoms))) ∙ ap (λ l. l ++ rows_from (drop (i + 1) atoms)) (sym is)

  pub places_more : (all places new : List ℕ) → all ≡ places ++ places_from i (drop i atoms) → new ≡ places ++ found_places i (option_map linear_row (row_of a)) → all ≡ new ++ places_from (i + 1) (drop (i + 1) atoms)
  places_more all places new before is =
      before ∙ ap (λ l. places ++ places_from i l) (drop_at atoms i a at) ∙ ap (λ l. places ++ l) (places_found (row_of a) i (places_from (i + 1) (drop (i + 1) atoms)))
      ∙ sym (append_assoc places (found_places i (option_map linear_row (row_of a))) (places_from (i + 1) (drop (i + 1) atoms))) ∙ ap (λ l. l ++ places_from (i + 1) (drop (i + 1) atoms)) (sym is)

pub atom_there : (items : List Atom) (i : ℕ) (a : Atom) → i < length items → a ≡ get_or items i a → slice_get (map atom_view items) i ≡ Some (atom_view a)
atom_there items i a below is = slice_get-map atom_view items i ∙ ap (option_map atom_view) (slice_get_read items (length items) i a refl below is)
