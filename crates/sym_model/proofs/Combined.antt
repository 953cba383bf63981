-- What is made of alternatives holds where they do.
use Rattle.std.proofs.Common.{◌≡◌, ◌⊎◌, ⊎_elim, inl, inr, List, [], ◌∷◌, ◌++◌, map, Bool, true, false, ◌&&◌, if◌then◌else◌, IsTrue, refl, sym, ap, subst, ◌∙◌, true≢false}
use Rattle.std.specs.List.{list_all, list_any}
use Rattle.std.proofs.lemmas.Bool.{and_parts, and_from}
use Rattle.std.proofs.lemmas.List.Folds.{list_all-append}
use Rattle.gil_values.specs.Pure.{PureValue}
use Rattle.pure_terms.specs.Meaning.{truth, all_true}
use Rattle.pure_terms.specs.Pure.{PureTerm, PureAtom}
use Rattle.sym_model.specs.Alternatives.{Alternatives, Hold, always, both, any, all_from, all, is_empty, settled, with_form}
use Rattle.sym_model.specs.Lists.{Each, OneOf}
use Rattle.sym_model.proofs.ListLaws.{one_left, one_right, one_parts, one_map, one_mapped, one_flat, one_flattened, one_to}

module _ (v : List PureValue) where
  abbrev AllTrue : List PureAtom → Type 0
  AllTrue conds = IsTrue (all_true v conds)

  joined_true : (a b : List PureAtom) → AllTrue a → AllTrue b → AllTrue (a ++ b)
  joined_true a b first second = list_all-append (truth v) a b ∙ and_from _ _ first second

  first_true : (a b : List PureAtom) → AllTrue (a ++ b) → AllTrue a
  first_true a b whole = (and_parts (all_true v a) (all_true v b) (sym (list_all-append (truth v) a b) ∙ whole)).0

  second_true : (a b : List PureAtom) → AllTrue (a ++ b) → AllTrue b
  second_true a b whole = (and_parts (all_true v a) (all_true v b) (sym (list_all-append (truth v) a b) ∙ whole)).1

  with_first : (a : List PureAtom) (y : Alternatives) → AllTrue a → Hold v y → Hold v (map (λ b. a ++ b) y)
  with_first a y first second = one_map AllTrue (λ b. a ++ b) y (one_to AllTrue (λ b. AllTrue (a ++ b)) y (λ b is. joined_true a b first is) second)

  pub both_from : (x y : Alternatives) → Hold v x → Hold v y → Hold v (both x y)
  both_from x y first second =
      one_flat AllTrue (λ a. map (λ b. a ++ b) y) x (one_to AllTrue (λ a. Hold v (map (λ b. a ++ b) y)) x (λ a is. with_first a y is second) first)

  of_first : (a : List PureAtom) (y : Alternatives) → Hold v (map (λ b. a ++ b) y) → AllTrue a × Hold v y
  of_first a [] one = absurd one
  of_first a (b ∷ y) one = ⊎_elim (λ here. (first_true a b here, inl (second_true a b here))) (λ later. let rest = of_first a y later in (rest.0, inr rest.1)) one

  pub both_parts : (x y : Alternatives) → Hold v (both x y) → Hold v x × Hold v y
  both_parts [] y one = absurd one
  both_parts (a ∷ x) y one =
      ⊎_elim (λ here. let parts = of_first a y here in (inl parts.0, parts.1)) (λ later. let parts = both_parts x y later in (inr parts.0, parts.1))
      (one_parts AllTrue (map (λ b. a ++ b) y) (both x y) one)

  pub all_from_from : {A : Type 0} (f : A → Alternatives) (es : List A) (x : Alternatives) → Hold v x → Each (λ e. Hold v (f e)) es → Hold v (all_from x f es)
  all_from_from f [] x first each = first
  all_from_from f (e ∷ es) x first each = all_from_from f es (both x (f e)) (both_from x (f e) first each.0) each.1

  pub all_from_parts : {A : Type 0} (f : A → Alternatives) (es : List A) (x : Alternatives) → Hold v (all_from x f es) → Hold v x × Each (λ e. Hold v (f e)) es
  all_from_parts f [] x one = (one, tt)
  all_from_parts f (e ∷ es) x one =
      let rest = all_from_parts f es (both x (f e)) one in
      let parts = both_parts x (f e) rest.0 in
      (parts.0, (parts.1, rest.1))

  pub always_true : Hold v always
  always_true = inl refl

  sure_true : (x : Alternatives) → list_any is_empty x ≡ true → Hold v x
  sure_true [] sure = absurd (true≢false (sym sure))
  sure_true ([] ∷ x) sure = inl refl
  sure_true ((a ∷ conds) ∷ x) sure = inr (sure_true x sure)

  settled_by : (b : Bool) (x : Alternatives) → list_any is_empty x ≡ b → Hold v (if b then always else x) → Hold v x
  settled_by true x sure one = sure_true x sure
  settled_by false x sure one = one

  by_settled : (b : Bool) (x : Alternatives) → Hold v x → Hold v (if b then always else x)
  by_settled true x one = always_true
  by_settled false x one = one

  pub settled_parts : (x : Alternatives) → Hold v (settled x) → Hold v x
  settled_parts x one = settled_by (list_any is_empty x) x refl one

  pub settled_from : (x : Alternatives) → Hold v x → Hold v (settled x)
  settled_from x one = by_settled (list_any is_empty x) x one
