-- Invariants: what they match, and that what they leave is the same or isn't.
use Rattle.std.proofs.Common.{◌≡◌, ℕ, List, [], ◌∷◌, Bool, true, false, not, ◌&&◌, ◌||◌, cond, All, Option, Some, None, refl, sym, ap, subst, ◌∙◌, true≢false}
use Rattle.std.specs.Prelude.{nat_eq}
use Rattle.std.proofs.lemmas.Bool.Decides.{Decides-eqb}
use Rattle.std.specs.FinMap.{get}
use Rattle.std.specs.Str.{bytes_eq}
use Rattle.std.proofs.lemmas.Slice.Eq.{bytes_eq-Decides}
use Rattle.std.proofs.lemmas.Bool.{and_parts}
use Rattle.std.proofs.lemmas.List.Elements.{All-head, All-tail}
use Rattle.gil_values.specs.Equality.{same_value, same_elements}
use Rattle.gil_values.specs.EqualityLaws.{same_value-same, same_value-refl, same_elements-Decides}
use Rattle.gil_values.specs.Pure.{PureValue}
use Rattle.gil_syntax.specs.declared.assertions.Param.{Param}
use Rattle.gil_syntax.specs.Pure.{PureItem, PureCommand, loop_invariant, PureParts}
use Rattle.gil_syntax.specs.Evaluation.{Store, value_of}
use Rattle.mem_model.specs.declared.keys.MemoryName.{MemoryName}
use Rattle.mem_model.specs.Actions.{Actions}
use Rattle.mem_model.specs.Heaps.{Heap}
use Rattle.mem_model.proofs.Joins.{same_heap}
use Rattle.gil_machine.specs.State.{Frame}
use Rattle.assert_logic.specs.LogicStates.{Fact, LogicState}
use Rattle.assert_logic.specs.Matching.{Match, Matching, matched, stops}
use Rattle.assert_logic.specs.Sorts.{has_sort, fits_sorts, HasSorts}
use Rattle.checked_runs.specs.Checked.{Passed, Checked, Entry, fits_if_known, known_fit, unlisted_in, match_of, passed_at, current_passed, IsAsBefore}
use Rattle.checked_runs.proofs.Justified.{IsJustified, AreJustified}
use Rattle.checked_runs.proofs.Stores.{same_some, no_value}

-- ---- invariants

abbrev pub listed_in : PureCommand → List (List ℕ)
listed_in (loop_invariant xs ps items) = xs
listed_in _ = []

abbrev pub declared_in : PureCommand → List Param
declared_in (loop_invariant xs ps items) = ps
declared_in _ = []

abbrev pub items_in : PureCommand → List PureItem
items_in (loop_invariant xs ps items) = items
items_in _ = []

pub match_was : (b : Bool) (o : Matching) (found : Match) → match_of b o ≡ Some found → (b ≡ true) × (o ≡ matched found)
match_was true (matched other) found is = (refl, ap matched (same_some is))
match_was true (stops n) found is = no_value found is
match_was false (matched other) found is = no_value found is
match_was false (stops n) found is = no_value found is

pub fit_sorts : (ps : List Param) (names : Store) → known_fit names ps ≡ true → HasSorts ps names
fit_sorts [] names fit x v is = refl
fit_sorts (q ∷ qs) names fit x v is =
    let (here, there) = and_parts (fits_if_known (value_of names q.name) q) (known_fit names qs) fit in
    by (bytes_eq q.name x) refl here (fit_sorts qs names there x v is)
  where
    by : (b : Bool) → bytes_eq q.name x ≡ b → fits_if_known (value_of names q.name) q ≡ true → fits_sorts qs x v ≡ true → ((not b || has_sort q.sort v) && fits_sorts qs x v) ≡ true
    by false other here later = later
    by true same here later =
        let at : value_of names q.name ≡ Some v = ap (value_of names) ((bytes_eq-Decides q.name x).0 same) ∙ is in
        ap (λ b. b && fits_sorts qs x v) (sym (ap (λ o. fits_if_known o q) at) ∙ here) ∙ later

-- equality of what a remainder is made of is decided, so what can't fail to be equal is
pub stable : {X : Type 0} (same : X → X → Bool) → ((x y : X) → same x y ≡ true → x ≡ y) → ((x : X) → same x x ≡ true) → (x y : X) → ¬ ¬ (x ≡ y) → x ≡ y
stable same sound itself x y isnt = by (same x y) refl
  where
    by : (b : Bool) → same x y ≡ b → x ≡ y
    by true is = sound x y is
    by false is = absurd (isnt (λ equal. true≢false (sym (itself x) ∙ ap (same x) equal ∙ is)))

pub stable_value : (v w : PureValue) → ¬ ¬ (v ≡ w) → v ≡ w
stable_value = stable same_value same_value-same same_value-refl

pub stable_option : (v w : Option PureValue) → ¬ ¬ (v ≡ w) → v ≡ w
stable_option None None isnt = refl
stable_option None (Some w) isnt = absurd (isnt (λ is. no_value w is))
stable_option (Some v) None isnt = absurd (isnt (λ is. no_value v (sym is)))
stable_option (Some v) (Some w) isnt = ap Some (stable_value v w (λ other. isnt (λ is. other (same_some is))))

pub stable_fact : (f g : Fact) → ¬ ¬ (f ≡ g) → f ≡ g
stable_fact f g isnt = λ i. record {
  pred = stable bytes_eq (λ x y. (bytes_eq-Decides x y).0) (λ x. (bytes_eq-Decides x x).1 refl) f.pred g.pred (λ other. isnt (λ is. other (ap (λ x. x.pred) is))) i;
  ins = stable same_elements (λ x y. (same_elements-Decides x y).0) (λ x. (same_elements-Decides x x).1 refl) f.ins g.ins (λ other. isnt (λ is. other (ap (λ x. x.ins) is))) i;
  outs = stable same_elements (λ x y. (same_elements-Decides x y).0) (λ x. (same_elements-Decides x x).1 refl) f.outs g.outs (λ other. isnt (λ is. other (ap (λ x. x.outs) is))) i;
}

pub first_facts : (f g : Fact) (fs gs : List Fact) → ◌≡◌ {A = List Fact} (f ∷ fs) (g ∷ gs) → (f ≡ g) × (fs ≡ gs)
first_facts f g fs gs is = (cc, cc)

pub stable_facts : (fs gs : List Fact) → ¬ ¬ (fs ≡ gs) → fs ≡ gs
stable_facts [] [] isnt = refl
stable_facts [] (g ∷ gs) isnt = absurd (isnt (λ is. absurd (cc)))
stable_facts (f ∷ fs) [] isnt = absurd (isnt (λ is. absurd (cc)))
stable_facts (f ∷ fs) (g ∷ gs) isnt =
    let head = stable_fact f g (λ other. isnt (λ is. other (first_facts f g fs gs is).0)) in
    let tail = stable_facts fs gs (λ other. isnt (λ is. other (first_facts f g fs gs is).1)) in
    λ i. head i ∷ tail i

pub stable_heap : (g h : Heap) → ¬ ¬ (g ≡ h) → g ≡ h
stable_heap g h isnt = same_heap g h (λ k. stable_option (get g k) (get h k) (λ other. isnt (λ is. other (ap (λ x. get x k) is))))

pub before_stable : (p : PureParts) (memory : MemoryName) (m : Actions) (entry : Entry) (xs : List (List ℕ)) (q : Passed) (left : LogicState) (c : Checked) → ¬ ¬ IsAsBefore p memory m entry xs q left c → IsAsBefore p memory m entry xs q left c
before_stable p memory m entry xs q left c isnt = record {
  same_heap = stable_heap left.heap q.remainder.heap (λ other. isnt (λ is. other is.same_heap));
  same_facts = stable_facts left.facts q.remainder.facts (λ other. isnt (λ is. other is.same_facts));
  same_values = λ x. stable_option (value_of (unlisted_in xs c.machine.current.store) x) (value_of q.unlisted x) (λ other. isnt (λ is. other (is.same_values x)));
}

pub place_passed : (P : Passed → Type 0) (i : ℕ) (qs : List Passed) (q : Passed) → passed_at i qs ≡ Some q → All P qs → (q.at ≡ i) × P q
place_passed P i [] q is all = no_value q is
place_passed P i (r ∷ rs) q is all = by (nat_eq r.at i) refl is (λ later. place_passed P i rs q later (All-tail P r rs all))
  where
    by : (b : Bool) → nat_eq r.at i ≡ b → cond b (Some r) (passed_at i rs) ≡ Some q → (passed_at i rs ≡ Some q → (q.at ≡ i) × P q) → (q.at ≡ i) × P q
    by true same found later = subst (λ x. (x.at ≡ i) × P x) (same_some found) ((Decides-eqb r.at i).0 same, All-head P r rs all)
    by false other found later = later found

pub passed_justified : (p : PureParts) (memory : MemoryName) (m : Actions) (entry : Entry) (counter : ℕ) (f : Frame) (fs : List Frame) (qss : List (List Passed)) (i : ℕ) (q : Passed) → AreJustified p memory m entry counter (f ∷ fs) qss → passed_at i (current_passed qss) ≡ Some q
    → (q.at ≡ i) × IsJustified p memory m entry counter f.procedure fs q
passed_justified p memory m entry counter f fs [] i q j is = absurd j
passed_justified p memory m entry counter f fs (qs ∷ qss) i q j is = place_passed (IsJustified p memory m entry counter f.procedure fs) i qs q is j.0
