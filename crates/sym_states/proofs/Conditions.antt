-- How conditions grow, and what is then true of them.
use Rattle.std.proofs.Common.{◌≡◌, List, [], ◌∷◌, ◌++◌, length, drop, Bool, true, false, ◌&&◌, ◌||◌, IsTrue, refl, sym, ap, ◌∙◌, append_assoc, true≢false}
use Rattle.std.specs.List.{list_any}
use Rattle.std.proofs.Math.Seq.{drop-append_seam}
use Rattle.std.proofs.lemmas.Bool.{and_parts}
use Rattle.std.proofs.lemmas.List.Folds.{list_all-append, list_any-append}
use Rattle.gil_values.specs.Pure.{PureValue}
use Rattle.pure_terms.specs.Meaning.{truth, all_true}
use Rattle.pure_terms.specs.Pure.{PureAtom}
use Rattle.pure_terms.specs.View.{atom_view, atoms_view}
use Rattle.pure_terms.specs.declared.atoms.Atom.{Atom}
use Rattle.sym_model.specs.Meaning.{is_open, has_open}
use Rattle.sym_states.specs.Producing.{added_conds}
use Rattle.sym_states.specs.Pure.{PureState}

-- ---- truth

module _ (v : List PureValue) where
  pub met_parts : (xs ys : List PureAtom) → IsTrue (all_true v (xs ++ ys)) → IsTrue (all_true v xs) × IsTrue (all_true v ys)
  met_parts xs ys met = and_parts (all_true v xs) (all_true v ys) (sym (list_all-append (truth v) xs ys) ∙ met)

  pub met_both : (xs ys : List PureAtom) → IsTrue (all_true v xs) → IsTrue (all_true v ys) → IsTrue (all_true v (xs ++ ys))
  met_both xs ys first second = list_all-append (truth v) xs ys ∙ (λ i. first i && second i)

-- ---- literal forms

or_true : (b : Bool) → (b || true) ≡ true
or_true true = refl
or_true false = refl

or_false : (b c : Bool) → (b || c) ≡ false → (b ≡ false) × (c ≡ false)
or_false true c is = absurd (true≢false is)
or_false false c is = (refl, is)

pub open_left : (xs ys : List PureAtom) → IsTrue (has_open xs) → IsTrue (has_open (xs ++ ys))
open_left xs ys is = list_any-append is_open xs ys ∙ ap (λ b. b || has_open ys) is

pub open_right : (xs ys : List PureAtom) → IsTrue (has_open ys) → IsTrue (has_open (xs ++ ys))
open_right xs ys is = list_any-append is_open xs ys ∙ ap (λ b. has_open xs || b) is ∙ or_true (has_open xs)

pub none_open : (xs ys : List PureAtom) → has_open (xs ++ ys) ≡ false → (has_open xs ≡ false) × (has_open ys ≡ false)
none_open xs ys is = or_false (has_open xs) (has_open ys) (sym (list_any-append is_open xs ys) ∙ is)

pub open_seen : (atoms : List Atom) → has_open (atoms_view atoms) ≡ list_any (λ a. is_open (atom_view a)) atoms
open_seen [] = refl
open_seen (a ∷ atoms) = ap (λ b. is_open (atom_view a) || b) (open_seen atoms)

-- ---- what was added

module _ {S : Type 0} where
  pub added_is : (s r : PureState S) (more : List PureAtom) → r.conds ≡ s.conds ++ more → added_conds s r ≡ more
  added_is s r more is = ap (drop (length s.conds)) is ∙ drop-append_seam s.conds more

  pub grown : (s q r : PureState S) (first more : List PureAtom) → q.conds ≡ s.conds ++ first → r.conds ≡ q.conds ++ more → r.conds ≡ s.conds ++ (first ++ more)
  grown s q r first more is_first is_more = is_more ∙ ap (λ cs. cs ++ more) is_first ∙ append_assoc s.conds first more
