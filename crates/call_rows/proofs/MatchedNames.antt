-- What was matched gives each name that stands in the items a value.
use Rattle.std.proofs.Common.{◌≡◌, ⊎_elim, ℕ, ◌+◌, List, [], ◌∷◌, ◌++◌, Bool, true, false, ◌&&◌, cond, Option, Some, None, is_some, IsSome, Result, Ok, Err, refl, sym, ap, subst, ◌∙◌, true≢false}
use Rattle.std.specs.Option.{option_and_then}
use Rattle.std.specs.FinMap.{get}
use Rattle.gil_values.specs.Pure.{PureValue, boolean}
use Rattle.gil_values.specs.Equality.{same_value}
use Rattle.gil_values.specs.Operators.{Fault}
use Rattle.gil_syntax.specs.declared.assertions.Param.{Param}
use Rattle.gil_syntax.specs.Evaluation.{Store, value_of, Outcomes, evaluate, evaluate_all}
use Rattle.gil_syntax.specs.Pure.{PureExpr, PurePredUse, PureItem, pure, uses, PurePredDef}
use Rattle.mem_model.specs.declared.cores.Core.{Core}
use Rattle.mem_model.specs.declared.keys.Key.{Key}
use Rattle.mem_model.specs.CoreNames.{core_of}
use Rattle.mem_model.specs.Cores.{entry_of}
use Rattle.mem_model.specs.KeyOrder.{key_eq}
use Rattle.assert_logic.specs.Adding.{where_true, with_values, added}
use Rattle.assert_logic.specs.LogicStates.{LogicState, nothing}
use Rattle.assert_logic.specs.Matching.{match_values, match_pure, known_outs, fits_fact, FoundFact, first_fact, Match, ItemMatch, Matching, matched, stops, CaseMatch, Cases, pure_match, held, key_of, key_match, where_entry_is, match_held, match_core, fact_match, case_match, match_case, match_fact_or, match_use, match_outcomes, match_item, taken_before, go_on, match_from, once, match_assertion}
use Rattle.assert_logic.specs.Names.{Known, named_by_item, named_by_items}
use Rattle.assert_logic.specs.Sorts.{Extends}
use Rattle.assert_logic.proofs.AddingLaws.{same_some, no_value}
use Rattle.assert_logic.proofs.Evaluations.{all_extend}
use Rattle.assert_logic.proofs.GivenNames.{Gains, same_match, no_match, items_gain, or_left}
use Rattle.assert_logic.proofs.Givings.{values_go, pure_goes}
use Rattle.sym_states.proofs.AddedNames.{added_known}
use Rattle.sym_states.proofs.Names.{one_of_two}

-- each of these names has a value
abbrev AreKnown : Known → Store → Type 0
AreKnown named t = (x : List ℕ) → named x ≡ true → IsSome (value_of t x)

pure_read : (e : PureExpr) (t : Store) → evaluate e t ≡ Ok (boolean true) → AreKnown (named_by_item (pure e)) t
pure_read e t holds x named =
    added_known t (pure e ∷ []) nothing nothing (ap (λ o. option_and_then (added t []) (where_true o nothing)) holds) x (or_left (named_by_item (pure e) x) false named)

use_read : (u : PurePredUse) (ins outs : List PureValue) (s t : Store) → Extends s t → evaluate_all u.ins s ≡ Ok ins → evaluate_all u.outs t ≡ Ok outs → AreKnown (named_by_item (uses u)) t
use_read u ins outs s t extends ins_are outs_are x named =
    let there : evaluate_all u.ins t ≡ Ok ins = all_extend s t extends u.ins ins ins_are in
    added_known t (uses (record { pred = []; ins = u.ins; outs = u.outs }) ∷ []) nothing (record nothing { facts = record { pred = []; ins = ins; outs = outs } ∷ [] })
    (λ i. option_and_then (added t []) (with_values [] (there i) (outs_are i) nothing)) x (or_left (named_by_item (uses u) x) false named)

still_known : (scope : List Param) (named : Known) (s t : Store) (x : List ℕ) → Gains scope named s t → IsSome (value_of s x) → IsSome (value_of t x)
still_known scope named s t x gains known = by (value_of t x) refl
  where
    by : (o : Option PureValue) → value_of t x ≡ o → is_some o ≡ true
    by (Some v) at = refl
    by None none = absurd (true≢false (sym known ∙ ap is_some (gains.none x none)))

module _ (scope : List Param) (cases : Cases) where
  outs_read : (u : PurePredUse) (ins vs : List PureValue) (t v : Store) → evaluate_all u.ins t ≡ Ok ins → match_values scope u.outs vs t ≡ Some v → AreKnown (named_by_item (uses u)) v
  outs_read u ins vs t v ins_are is = let (goes, all) = values_go scope u.outs vs t v is in use_read u ins vs t v goes.extends ins_are all

  pure_match_read : (e : PureExpr) (t : Store) (s : LogicState) (m : ItemMatch) (o : Option Store) → match_pure scope e t ≡ o → pure_match s o ≡ Some m → AreKnown (named_by_item (pure e)) m.store
  pure_match_read e t s m None matches is = no_value m is
  pure_match_read e t s m (Some v) matches is = subst (λ n. AreKnown (named_by_item (pure e)) n.store) (same_some is) (pure_read e v (pure_goes scope e t v matches).1)

  key_read : (u : PurePredUse) (ins vs : List PureValue) (k : Key) (t : Store) (s : LogicState) (m : ItemMatch) (o : Option Store) → evaluate_all u.ins t ≡ Ok ins → match_values scope u.outs vs t ≡ o → key_match s k o ≡ Some m → AreKnown (named_by_item (uses u)) m.store
  key_read u ins vs k t s m None ins_are matches is = no_value m is
  key_read u ins vs k t s m (Some v) ins_are matches is = subst (λ n. AreKnown (named_by_item (uses u)) n.store) (same_some is) (outs_read u ins vs t v ins_are matches)

  held_read : (u : PurePredUse) (core : Core) (ins : List PureValue) (k : Key) (t : Store) (s : LogicState) (m : ItemMatch) (o : Option PureValue) → evaluate_all u.ins t ≡ Ok ins → match_held scope core ins u.outs k o t s ≡ Some m → AreKnown (named_by_item (uses u)) m.store
  held_read u core ins k t s m None ins_are is = no_value m is
  held_read u core ins k t s m (Some v) ins_are is = by_entry (entry_of core (ins ++ held core v)) is
    where
      by_test : (b : Bool) → cond b (key_match s k (match_values scope u.outs (held core v) t)) None ≡ Some m → AreKnown (named_by_item (uses u)) m.store
      by_test false is = no_value m is
      by_test true is = key_read u ins (held core v) k t s m (match_values scope u.outs (held core v) t) ins_are refl is

      by_entry : (o : Option (Key × PureValue)) → where_entry_is o k v (key_match s k (match_values scope u.outs (held core v) t)) ≡ Some m → AreKnown (named_by_item (uses u)) m.store
      by_entry None is = no_value m is
      by_entry (Some e) is = by_test (key_eq e.0 k && same_value e.1 v) is

  core_read : (u : PurePredUse) (core : Core) (ins : List PureValue) (t : Store) (s : LogicState) (m : ItemMatch) (o : Option Key) → evaluate_all u.ins t ≡ Ok ins → match_core scope core ins u.outs o t s ≡ Some m → AreKnown (named_by_item (uses u)) m.store
  core_read u core ins t s m None ins_are is = no_value m is
  core_read u core ins t s m (Some k) ins_are is = held_read u core ins k t s m (get s.heap k) ins_are is

  fact_read : (u : PurePredUse) (ins : List PureValue) (found : FoundFact) (t : Store) (s : LogicState) (m : ItemMatch) (o : Option Store) → evaluate_all u.ins t ≡ Ok ins → match_values scope u.outs found.fact.outs t ≡ o → fact_match found s o ≡ Some m → AreKnown (named_by_item (uses u)) m.store
  fact_read u ins found t s m None ins_are matches is = no_value m is
  fact_read u ins found t s m (Some v) ins_are matches is = subst (λ n. AreKnown (named_by_item (uses u)) n.store) (same_some is) (outs_read u ins found.fact.outs t v ins_are matches)

  case_read : (u : PurePredUse) (ins : List PureValue) (found : CaseMatch) (t : Store) (m : ItemMatch) (o : Option Store) → evaluate_all u.ins t ≡ Ok ins → match_values scope u.outs found.outs t ≡ o → case_match found o ≡ Some m → AreKnown (named_by_item (uses u)) m.store
  case_read u ins found t m None ins_are matches is = no_value m is
  case_read u ins found t m (Some v) ins_are matches is = subst (λ n. AreKnown (named_by_item (uses u)) n.store) (same_some is) (outs_read u ins found.outs t v ins_are matches)

  cases_read : (u : PurePredUse) (ins : List PureValue) (t : Store) (m : ItemMatch) (o : Option CaseMatch) → evaluate_all u.ins t ≡ Ok ins → match_case scope u.outs o t ≡ Some m → AreKnown (named_by_item (uses u)) m.store
  cases_read u ins t m None ins_are is = no_value m is
  cases_read u ins t m (Some found) ins_are is = case_read u ins found t m (match_values scope u.outs found.outs t) ins_are refl is

  user_read : (u : PurePredUse) (ins : List PureValue) (outs : List (Option PureValue)) (t : Store) (s : LogicState) (m : ItemMatch) (o : Option FoundFact) → evaluate_all u.ins t ≡ Ok ins → match_fact_or cases scope o u ins outs t s ≡ Some m → AreKnown (named_by_item (uses u)) m.store
  user_read u ins outs t s m (Some found) ins_are is = fact_read u ins found t s m (match_values scope u.outs found.fact.outs t) ins_are refl is
  user_read u ins outs t s m None ins_are is = cases_read u ins t m (cases u.pred ins outs s) ins_are is

  by_use_read : (u : PurePredUse) (ins : List PureValue) (outs : List (Option PureValue)) (t : Store) (s : LogicState) (m : ItemMatch) (o : Option Core) → evaluate_all u.ins t ≡ Ok ins → match_use cases scope o u ins outs t s ≡ Some m → AreKnown (named_by_item (uses u)) m.store
  by_use_read u ins outs t s m (Some core) ins_are is = core_read u core ins t s m (key_of core ins) ins_are is
  by_use_read u ins outs t s m None ins_are is = user_read u ins outs t s m (first_fact (fits_fact u.pred ins outs) s.facts) ins_are is

  outcomes_read : (u : PurePredUse) (t : Store) (s : LogicState) (m : ItemMatch) (ins : Outcomes) (outs : Result (List (Option PureValue)) Fault) → evaluate_all u.ins t ≡ ins → match_outcomes cases scope ins outs u t s ≡ Some m → AreKnown (named_by_item (uses u)) m.store
  outcomes_read u t s m (Ok ins) (Ok outs) ins_are is = by_use_read u ins outs t s m (core_of u.pred) ins_are is
  outcomes_read u t s m (Ok ins) (Err f) ins_are is = no_value m is
  outcomes_read u t s m (Err f) outs ins_are is = no_value m is

  item_read : (item : PureItem) (t : Store) (s : LogicState) (m : ItemMatch) → match_item cases scope item t s ≡ Some m → AreKnown (named_by_item item) m.store
  item_read (pure e) t s m is = pure_match_read e t s m (match_pure scope e t) refl is
  item_read (uses u) t s m is = outcomes_read u t s m (evaluate_all u.ins t) (known_outs t u.outs) refl is

  items_read : (n : ℕ) (items : List PureItem) (t : Store) (s : LogicState) (m : Match) → match_from cases scope n items t s ≡ matched m → AreKnown (named_by_items items) m.store
  items_read n [] t s m is = λ x named. absurd (true≢false (sym named))
  items_read n (item ∷ items) t s m is = by_item (λ u v x. items_read (n + 1) items u v x) (match_item cases scope item t s) refl is
    where
      by_later : ((u : Store) (v : LogicState) (x : Match) → match_from cases scope (n + 1) items u v ≡ matched x → AreKnown (named_by_items items) x.store) → (i : ItemMatch) → match_item cases scope item t s ≡ Some i → (o : Matching) → match_from cases scope (n + 1) items i.store i.state ≡ o → taken_before i.taken o ≡ matched m
          → AreKnown (named_by_items (item ∷ items)) m.store
      by_later each i here (stops k) later is = no_match m is
      by_later each i here (matched x) later is =
          subst (λ y. AreKnown (named_by_items (item ∷ items)) y.store) (same_match is)
          (λ z named. ⊎_elim (λ first. still_known scope (named_by_items items) i.store x.store z (items_gain scope cases (n + 1) items i.store i.state x later) (item_read item t s i here z first)) (each i.store i.state x later z)
          (one_of_two (named_by_item item z) (named_by_items items z) named))

      by_item : ((u : Store) (v : LogicState) (x : Match) → match_from cases scope (n + 1) items u v ≡ matched x → AreKnown (named_by_items items) x.store) → (o : Option ItemMatch) → match_item cases scope item t s ≡ o → go_on o n (match_from cases scope (n + 1) items) ≡ matched m
          → AreKnown (named_by_items (item ∷ items)) m.store
      by_item each None here is = no_match m is
      by_item each (Some i) here is = by_later each i here (match_from cases scope (n + 1) items i.store i.state) refl is

pub matched_known : (preds : List PurePredDef) (scope : List Param) (items : List PureItem) (t : Store) (s : LogicState) (m : Match) → match_assertion preds scope items t s ≡ matched m → (x : List ℕ) → named_by_items items x ≡ true → (v : PureValue) × (value_of m.store x ≡ Some v)
matched_known preds scope items t s m matches x named = by (value_of m.store x) refl (items_read scope (once preds) 0 items t s m matches x named)
  where
    by : (o : Option PureValue) → value_of m.store x ≡ o → is_some o ≡ true → (v : PureValue) × (value_of m.store x ≡ Some v)
    by (Some v) at is = (v, at)
    by None at is = absurd (true≢false (sym is))
