-- The steps of loops over lists that combine alternatives.
use Rattle.std.proofs.Common.{◌≡◌, ℕ, zero, suc, ◌+◌, ◌<◌, ◌≤◌, List, [], ◌∷◌, ◌++◌, map, take, drop, get_or, length, Bool, true, false, ◌||◌, refl, sym, ap, ◌∙◌, subst, arith}
use Rattle.std.specs.List.{flat_map, list_any}
use Rattle.std.proofs.lemmas.List.{append-nil, map-append, take_more, drop_more, take_all}
use Rattle.std.proofs.lemmas.Grind.{flat_map-append}
use Rattle.pure_terms.specs.declared.atoms.Atom.{Atom}
use Rattle.pure_terms.specs.View.{atom_view}
use Rattle.sym_model.specs.Alternatives.{Alternatives, alternatives_view, both, all_from, is_empty}

module _ {X A : Type 0} (g : X → A) where
  pub flat_step : {B : Type 0} (f : A → List B) (items : List X) (i : ℕ) (x : X) (out next : List B) → i < length items → x ≡ get_or items i x → out ≡ flat_map f (map g (take i items)) → next ≡ out ++ f (g x) → next ≡ flat_map f (map g (take (i + 1) items))
  flat_step f items i x out next below is so_far added =
      added
      ∙ (λ j. so_far j ++ sym (append-nil (f (g x))) j)
      ∙ sym (flat_map-append f (map g (take i items)) (g x ∷ []))
      ∙ ap (flat_map f) (sym (map-append g (take i items) (x ∷ [])))
      ∙ ap (λ xs. flat_map f (map g xs)) (ap (λ y. take i items ++ y ∷ []) is ∙ sym (take_more items i x below))

  pub all_step : (f : A → Alternatives) (items : List X) (i : ℕ) (x : X) (acc next whole : Alternatives) → i < length items → x ≡ get_or items i x → all_from acc f (map g (drop i items)) ≡ whole → next ≡ both acc (f (g x)) → all_from next f (map g (drop (i + 1) items)) ≡ whole
  all_step f items i x acc next whole below is so_far added =
      ap (λ a. all_from a f (map g (drop (i + 1) items))) added
      ∙ ap (λ xs. all_from acc f (map g xs)) (ap (λ y. y ∷ drop (i + 1) items) is ∙ sym (drop_more items i x below))
      ∙ so_far

  dropped_all : (items : List X) (i : ℕ) → length items ≤ i → drop i items ≡ []
  dropped_all [] zero past = refl
  dropped_all [] (suc i) past = refl
  dropped_all (x ∷ items) zero past = absurd (omega (arith, past))
  dropped_all (x ∷ items) (suc i) past = dropped_all items i (omega (arith, past))

  pub all_end : (f : A → Alternatives) (items : List X) (i : ℕ) (acc whole : Alternatives) → length items ≤ i → all_from acc f (map g (drop i items)) ≡ whole → acc ≡ whole
  all_end f items i acc whole past so_far = ap (λ xs. all_from acc f (map g xs)) (sym (dropped_all items i past)) ∙ so_far

  pub flat_end : {B : Type 0} (f : A → List B) (items : List X) (i : ℕ) (out : List B) → length items ≤ i → out ≡ flat_map f (map g (take i items)) → out ≡ flat_map f (map g items)
  flat_end f items i out past so_far = so_far ∙ ap (λ xs. flat_map f (map g xs)) (take_all i items past)

no_conditions : (x : List Atom) → length x ≡ 0 → is_empty (map atom_view x) ≡ true
no_conditions [] none = refl
no_conditions (a ∷ x) none = absurd (omega (arith, none))

or_later : (b c : Bool) → c ≡ true → (b || c) ≡ true
or_later true c is = refl
or_later false c is = is

pub found_empty : (items : List (List Atom)) (i : ℕ) (x : List Atom) → i < length items → x ≡ get_or items i x → length x ≡ 0 → list_any is_empty (alternatives_view items) ≡ true
found_empty [] i x below is none = absurd (omega (arith, below))
found_empty (y ∷ items) zero x below is none = ap (λ b. b || list_any is_empty (alternatives_view items)) (no_conditions y (ap length (sym is) ∙ none))
found_empty (y ∷ items) (suc i) x below is none = or_later (is_empty (map atom_view y)) _ (found_empty items i x (omega (arith, below)) is none)
