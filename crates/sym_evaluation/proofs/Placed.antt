-- Where names stand in stores.
use Rattle.std.proofs.Common.{◌≡◌, ℕ, zero, suc, ◌+◌, ◌<◌, ◌≤◌, List, [], ◌∷◌, ◌++◌, drop, set, length, get_or, Bool, true, false, if◌then◌else◌, Option, Some, None, refl, sym, ap, ◌∙◌, arith, true≢false}
use Rattle.std.specs.Option.{option_map}
use Rattle.std.specs.Str.{bytes_eq}
use Rattle.std.proofs.lemmas.List.{drop_more}
use Rattle.std.proofs.lemmas.Slice.Eq.{bytes_eq-Decides}
use Rattle.pure_terms.specs.Pure.{PureTerm}
use Rattle.pure_terms.specs.View.{term_view}
use Rattle.sym_model.proofs.ListLaws.{same_some, not_none}
use Rattle.sym_evaluation.specs.declared.store.Binding.{Binding}
use Rattle.sym_evaluation.specs.Pure.{PureBinding, PureStore, term_at, place_at}
use Rattle.sym_evaluation.specs.View.{binding_view, bindings_view}

-- a place that is counted from another one
abbrev pub shifted : ℕ → Option ℕ → Option ℕ
shifted n o = option_map (λ i. n + i) o

pub next_dropped : {X : Type 0} (items : List X) (i : ℕ) (x : X) → i < length items → x ≡ get_or items i x → drop i items ≡ x ∷ drop (i + 1) items
next_dropped items i x below is = drop_more items i x below ∙ ap (λ y. y ∷ drop (i + 1) items) (sym is)

pub none_dropped : {X : Type 0} (items : List X) (i : ℕ) → length items ≤ i → drop i items ≡ []
none_dropped [] zero past = refl
none_dropped [] (suc i) past = refl
none_dropped (x ∷ items) zero past = absurd (omega (arith, past))
none_dropped (x ∷ items) (suc i) past = none_dropped items i (omega (arith, past))

-- ---- looking up

looked : (items : List Binding) (i : ℕ) (b : Binding) (x : List ℕ) (test : Bool) → i < length items → b ≡ get_or items i b → bytes_eq b.name x ≡ test → term_at (bindings_view (drop i items)) x ≡ (if test then Some (term_view b.term) else term_at (bindings_view (drop (i + 1) items)) x)
looked items i b x test below is here = ap (λ bs. term_at (bindings_view bs) x) (next_dropped items i b below is) ∙ ap (λ t. if t then Some (term_view b.term) else term_at (bindings_view (drop (i + 1) items)) x) here

pub found_here : (items : List Binding) (i : ℕ) (b : Binding) (x : List ℕ) (whole : Option PureTerm) → i < length items → b ≡ get_or items i b → bytes_eq b.name x ≡ true → term_at (bindings_view (drop i items)) x ≡ whole → Some (term_view b.term) ≡ whole
found_here items i b x whole below is here so_far = sym (looked items i b x true below is here) ∙ so_far

pub not_here : (items : List Binding) (i : ℕ) (b : Binding) (x : List ℕ) (whole : Option PureTerm) → i < length items → b ≡ get_or items i b → bytes_eq b.name x ≡ false → term_at (bindings_view (drop i items)) x ≡ whole → term_at (bindings_view (drop (i + 1) items)) x ≡ whole
not_here items i b x whole below is here so_far = sym (looked items i b x false below is here) ∙ so_far

pub nowhere : (items : List Binding) (i : ℕ) (x : List ℕ) (whole : Option PureTerm) → length items ≤ i → term_at (bindings_view (drop i items)) x ≡ whole → None ≡ whole
nowhere items i x whole past so_far = sym (ap (λ bs. term_at (bindings_view bs) x) (none_dropped items i past)) ∙ so_far

-- ---- places

placed : (items : List Binding) (i : ℕ) (b : Binding) (x : List ℕ) (test : Bool) → i < length items → b ≡ get_or items i b → bytes_eq b.name x ≡ test → place_at (bindings_view (drop i items)) x ≡ (if test then Some 0 else option_map suc (place_at (bindings_view (drop (i + 1) items)) x))
placed items i b x test below is here = ap (λ bs. place_at (bindings_view bs) x) (next_dropped items i b below is) ∙ ap (λ t. if t then Some 0 else option_map suc (place_at (bindings_view (drop (i + 1) items)) x)) here

pub place_here : (items : List Binding) (i : ℕ) (b : Binding) (x : List ℕ) (whole : Option ℕ) → i < length items → b ≡ get_or items i b → bytes_eq b.name x ≡ true → shifted i (place_at (bindings_view (drop i items)) x) ≡ whole → Some i ≡ whole
place_here items i b x whole below is here so_far = (let e : i ≡ i + 0 = omega arith in ap Some e) ∙ sym (ap (shifted i) (placed items i b x true below is here)) ∙ so_far

one_more : (i : ℕ) (o : Option ℕ) → shifted i (option_map suc o) ≡ shifted (i + 1) o
one_more i (Some n) = let e : i + suc n ≡ (i + 1) + n = omega arith in ap Some e
one_more i None = refl

pub place_later : (items : List Binding) (i : ℕ) (b : Binding) (x : List ℕ) (whole : Option ℕ) → i < length items → b ≡ get_or items i b → bytes_eq b.name x ≡ false → shifted i (place_at (bindings_view (drop i items)) x) ≡ whole → shifted (i + 1) (place_at (bindings_view (drop (i + 1) items)) x) ≡ whole
place_later items i b x whole below is here so_far = sym (one_more i _) ∙ sym (ap (shifted i) (placed items i b x false below is here)) ∙ so_far

pub place_nowhere : (items : List Binding) (i : ℕ) (x : List ℕ) (whole : Option ℕ) → length items ≤ i → shifted i (place_at (bindings_view (drop i items)) x) ≡ whole → None ≡ whole
place_nowhere items i x whole past so_far = sym (ap (λ bs. shifted i (place_at (bindings_view bs) x)) (none_dropped items i past)) ∙ so_far

no_shift : (o : Option ℕ) → shifted 0 o ≡ o
no_shift (Some n) = let e : 0 + n ≡ n = omega arith in ap Some e
no_shift None = refl

pub place_first : (items : List Binding) (x : List ℕ) → shifted 0 (place_at (bindings_view items) x) ≡ place_at (bindings_view items) x
place_first items x = no_shift (place_at (bindings_view items) x)

-- ---- setting

abbrev chosen : Bool → PureTerm → Option PureTerm → Option PureTerm
chosen b t o = if b then Some t else o

-- of two names that are the same, both are or neither is a third one
same_tests : (x y z : List ℕ) → bytes_eq x y ≡ true → bytes_eq x z ≡ bytes_eq y z
same_tests x y z is = ap (λ n. bytes_eq n z) ((bytes_eq-Decides x y).0 is)

skipped : (b c : Bool) (t u : PureTerm) (o : Option PureTerm) → (b ≡ true → c ≡ true → ⊥) → chosen b u (chosen c t o) ≡ chosen c t (chosen b u o)
skipped true true t u o apart = absurd (apart refl refl)
skipped true false t u o apart = refl
skipped false true t u o apart = refl
skipped false false t u o apart = refl

apart_names : (n x y : List ℕ) → bytes_eq n x ≡ false → bytes_eq n y ≡ true → bytes_eq x y ≡ true → ⊥
apart_names n x y other first second =
    let e : n ≡ x = (bytes_eq-Decides n y).0 first ∙ sym ((bytes_eq-Decides x y).0 second) in
    true≢false (sym ((bytes_eq-Decides n x).1 e) ∙ other)

not_zero : {X : Type 0} (o : Option ℕ) → option_map suc o ≡ Some 0 → X
not_zero (Some n) e = let no : suc n ≡ 0 = same_some e in absurd (omega (arith, no))
not_zero None e = not_none e

one_less : (o : Option ℕ) (i : ℕ) → option_map suc o ≡ Some (suc i) → o ≡ Some i
one_less (Some n) i e = let is : suc n ≡ suc i = same_some e in let less : n ≡ i = omega (arith, is) in ap Some less
one_less None i e = not_none e

no_first : {X : Type 0} (i : ℕ) → Some 0 ≡ Some (suc i) → X
no_first i e = let no : 0 ≡ suc i = same_some e in absurd (omega (arith, no))

nothing_mapped : (o : Option ℕ) → option_map suc o ≡ None → o ≡ None
nothing_mapped (Some n) e = not_none (sym e)
nothing_mapped None e = refl

module _ (x : List ℕ) (t : PureTerm) (y : List ℕ) where
  abbrev after_set : PureStore → Option PureTerm
  after_set bs = chosen (bytes_eq x y) t (term_at bs y)

  covered : (c d : Bool) (u : PureTerm) (o : Option PureTerm) → c ≡ d → chosen c t o ≡ chosen c t (chosen d u o)
  covered true d u o same = refl
  covered false d u o same = ap (λ e. chosen e u o) same

  set_first : (test : Bool) (b : PureBinding) (bs : PureStore) → bytes_eq b.name x ≡ test → (if test then Some 0 else option_map suc (place_at bs x)) ≡ Some 0 → after_set bs ≡ chosen (bytes_eq x y) t (chosen (bytes_eq b.name y) b.term (term_at bs y))
  set_first true b bs here is = covered (bytes_eq x y) (bytes_eq b.name y) b.term (term_at bs y) (sym (same_tests b.name x y here))
  set_first false b bs here is = not_zero (place_at bs x) is

  set_later : (test : Bool) (b : PureBinding) (bs cs : PureStore) (i : ℕ) → bytes_eq b.name x ≡ test → (if test then Some 0 else option_map suc (place_at bs x)) ≡ Some (suc i) → (place_at bs x ≡ Some i → term_at cs y ≡ after_set bs)
      → chosen (bytes_eq b.name y) b.term (term_at cs y) ≡ chosen (bytes_eq x y) t (chosen (bytes_eq b.name y) b.term (term_at bs y))
  set_later true b bs cs i here is later = no_first i is
  set_later false b bs cs i here is later =
      ap (chosen (bytes_eq b.name y) b.term) (later (one_less (place_at bs x) i is))
      ∙ skipped (bytes_eq b.name y) (bytes_eq x y) t b.term (term_at bs y) (λ first second. apart_names b.name x y here first second)

  added_later : (test : Bool) (b : PureBinding) (bs cs : PureStore) → bytes_eq b.name x ≡ test → (if test then Some 0 else option_map suc (place_at bs x)) ≡ None → (place_at bs x ≡ None → term_at cs y ≡ after_set bs)
      → chosen (bytes_eq b.name y) b.term (term_at cs y) ≡ chosen (bytes_eq x y) t (chosen (bytes_eq b.name y) b.term (term_at bs y))
  added_later true b bs cs here is later = not_none (sym is)
  added_later false b bs cs here is later =
      ap (chosen (bytes_eq b.name y) b.term) (later (nothing_mapped (place_at bs x) is))
      ∙ skipped (bytes_eq b.name y) (bytes_eq x y) t b.term (term_at bs y) (λ first second. apart_names b.name x y here first second)

-- a binding in the place of the name's sets its term
pub set_here : (items : List Binding) (i : ℕ) (new : Binding) (y : List ℕ) → place_at (bindings_view items) new.name ≡ Some i → term_at (bindings_view (set items i new)) y ≡ chosen (bytes_eq new.name y) (term_view new.term) (term_at (bindings_view items) y)
set_here [] i new y is = not_none is
set_here (b ∷ items) zero new y is = set_first new.name (term_view new.term) y (bytes_eq b.name new.name) (binding_view b) (bindings_view items) refl is
set_here (b ∷ items) (suc i) new y is =
    set_later new.name (term_view new.term) y (bytes_eq b.name new.name) (binding_view b) (bindings_view items) (bindings_view (set items i new)) i refl is (λ later. set_here items i new y later)

-- at a new name it is added at the end
pub set_new : (items : List Binding) (new : Binding) (y : List ℕ) → place_at (bindings_view items) new.name ≡ None → term_at (bindings_view (items ++ new ∷ [])) y ≡ chosen (bytes_eq new.name y) (term_view new.term) (term_at (bindings_view items) y)
set_new [] new y is = refl
set_new (b ∷ items) new y is =
    added_later new.name (term_view new.term) y (bytes_eq b.name new.name) (binding_view b) (bindings_view items) (bindings_view (items ++ new ∷ [])) refl is (λ later. set_new items new y later)

below_by : (test : Bool) (o : Option ℕ) (i n : ℕ) → (if test then Some 0 else option_map suc o) ≡ Some i → ((j : ℕ) → o ≡ Some j → j < n) → i < suc n
below_by true o i n is below = let e : 0 ≡ i = same_some is in omega (arith, e)
below_by false (Some j) i n is below = let e : suc j ≡ i = same_some is in let less : j < n = below j refl in omega (arith, e, less)
below_by false None i n is below = not_none is

pub place_below : (items : List Binding) (x : List ℕ) (i : ℕ) → place_at (bindings_view items) x ≡ Some i → i < length items
place_below [] x i is = not_none is
place_below (b ∷ items) x i is = below_by (bytes_eq b.name x) (place_at (bindings_view items) x) i (length items) is (λ j there. place_below items x j there)
