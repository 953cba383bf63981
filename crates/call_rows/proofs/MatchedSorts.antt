-- Matching keeps the values of names and their sorts: what it gives to names has the sorts that are declared.
use Rattle.std.proofs.Common.{◌≡◌, ℕ, ◌+◌, List, [], ◌∷◌, ◌++◌, Bool, true, false, ◌&&◌, cond, Option, Some, None, Result, Ok, Err, refl, ap, subst}
use Rattle.std.specs.FinMap.{get}
use Rattle.gil_values.specs.Pure.{PureValue}
use Rattle.gil_values.specs.Equality.{same_value}
use Rattle.gil_values.specs.Operators.{Fault}
use Rattle.gil_syntax.specs.declared.assertions.Param.{Param}
use Rattle.gil_syntax.specs.Pure.{PureExpr, PurePredUse, PureItem, pure, uses}
use Rattle.gil_syntax.specs.Evaluation.{Store, Outcomes, evaluate_all}
use Rattle.mem_model.specs.declared.cores.Core.{Core}
use Rattle.mem_model.specs.declared.keys.Key.{Key}
use Rattle.mem_model.specs.CoreNames.{core_of}
use Rattle.mem_model.specs.Cores.{entry_of}
use Rattle.mem_model.specs.KeyOrder.{key_eq}
use Rattle.assert_logic.specs.LogicStates.{LogicState}
use Rattle.assert_logic.specs.Matching.{match_values, match_pure, known_outs, fits_fact, FoundFact, first_fact, Match, ItemMatch, Matching, matched, stops, CaseMatch, Cases, pure_match, held, key_of, key_match, where_entry_is, match_held, match_core, fact_match, case_match, match_case, match_fact_or, match_use, match_outcomes, match_item, taken_before, go_on, match_from, once, match_assertion}
use Rattle.assert_logic.proofs.AddingLaws.{same_some, no_value}
use Rattle.assert_logic.proofs.GivenNames.{same_match, no_match}
use Rattle.assert_logic.proofs.Givings.{Goes, goes_nowhere, goes_further, values_go, pure_goes}

module _ (scope : List Param) (cases : Cases) where
  pure_match_goes : (e : PureExpr) (t : Store) (s : LogicState) (m : ItemMatch) (o : Option Store) → match_pure scope e t ≡ o → pure_match s o ≡ Some m → Goes scope t m.store
  pure_match_goes e t s m None matches is = no_value m is
  pure_match_goes e t s m (Some v) matches is = subst (λ n. Goes scope t n.store) (same_some is) (pure_goes scope e t v matches).0

  key_goes : (u : PurePredUse) (vs : List PureValue) (k : Key) (t : Store) (s : LogicState) (m : ItemMatch) (o : Option Store) → match_values scope u.outs vs t ≡ o → key_match s k o ≡ Some m → Goes scope t m.store
  key_goes u vs k t s m None matches is = no_value m is
  key_goes u vs k t s m (Some v) matches is = subst (λ n. Goes scope t n.store) (same_some is) (values_go scope u.outs vs t v matches).0

  held_goes : (u : PurePredUse) (core : Core) (ins : List PureValue) (k : Key) (t : Store) (s : LogicState) (m : ItemMatch) (o : Option PureValue) → match_held scope core ins u.outs k o t s ≡ Some m → Goes scope t m.store
  held_goes u core ins k t s m None is = no_value m is
  held_goes u core ins k t s m (Some v) is = by_entry (entry_of core (ins ++ held core v)) is
    where
      by_test : (b : Bool) → cond b (key_match s k (match_values scope u.outs (held core v) t)) None ≡ Some m → Goes scope t m.store
      by_test false is = no_value m is
      by_test true is = key_goes u (held core v) k t s m (match_values scope u.outs (held core v) t) refl is

      by_entry : (o : Option (Key × PureValue)) → where_entry_is o k v (key_match s k (match_values scope u.outs (held core v) t)) ≡ Some m → Goes scope t m.store
      by_entry None is = no_value m is
      by_entry (Some e) is = by_test (key_eq e.0 k && same_value e.1 v) is

  core_goes : (u : PurePredUse) (core : Core) (ins : List PureValue) (t : Store) (s : LogicState) (m : ItemMatch) (o : Option Key) → match_core scope core ins u.outs o t s ≡ Some m → Goes scope t m.store
  core_goes u core ins t s m None is = no_value m is
  core_goes u core ins t s m (Some k) is = held_goes u core ins k t s m (get s.heap k) is

  fact_goes : (u : PurePredUse) (found : FoundFact) (t : Store) (s : LogicState) (m : ItemMatch) (o : Option Store) → match_values scope u.outs found.fact.outs t ≡ o → fact_match found s o ≡ Some m → Goes scope t m.store
  fact_goes u found t s m None matches is = no_value m is
  fact_goes u found t s m (Some v) matches is = subst (λ n. Goes scope t n.store) (same_some is) (values_go scope u.outs found.fact.outs t v matches).0

  case_goes : (u : PurePredUse) (found : CaseMatch) (t : Store) (m : ItemMatch) (o : Option Store) → match_values scope u.outs found.outs t ≡ o → case_match found o ≡ Some m → Goes scope t m.store
  case_goes u found t m None matches is = no_value m is
  case_goes u found t m (Some v) matches is = subst (λ n. Goes scope t n.store) (same_some is) (values_go scope u.outs found.outs t v matches).0

  cases_go : (u : PurePredUse) (t : Store) (m : ItemMatch) (o : Option CaseMatch) → match_case scope u.outs o t ≡ Some m → Goes scope t m.store
  cases_go u t m None is = no_value m is
  cases_go u t m (Some found) is = case_goes u found t m (match_values scope u.outs found.outs t) refl is

  user_goes : (u : PurePredUse) (ins : List PureValue) (outs : List (Option PureValue)) (t : Store) (s : LogicState) (m : ItemMatch) (o : Option FoundFact) → match_fact_or cases scope o u ins outs t s ≡ Some m → Goes scope t m.store
  user_goes u ins outs t s m (Some found) is = fact_goes u found t s m (match_values scope u.outs found.fact.outs t) refl is
  user_goes u ins outs t s m None is = cases_go u t m (cases u.pred ins outs s) is

  use_goes : (u : PurePredUse) (ins : List PureValue) (outs : List (Option PureValue)) (t : Store) (s : LogicState) (m : ItemMatch) (o : Option Core) → match_use cases scope o u ins outs t s ≡ Some m → Goes scope t m.store
  use_goes u ins outs t s m (Some core) is = core_goes u core ins t s m (key_of core ins) is
  use_goes u ins outs t s m None is = user_goes u ins outs t s m (first_fact (fits_fact u.pred ins outs) s.facts) is

  outcomes_go : (u : PurePredUse) (t : Store) (s : LogicState) (m : ItemMatch) (ins : Outcomes) (outs : Result (List (Option PureValue)) Fault) → match_outcomes cases scope ins outs u t s ≡ Some m → Goes scope t m.store
  outcomes_go u t s m (Ok ins) (Ok outs) is = use_goes u ins outs t s m (core_of u.pred) is
  outcomes_go u t s m (Ok ins) (Err f) is = no_value m is
  outcomes_go u t s m (Err f) outs is = no_value m is

  item_goes : (item : PureItem) (t : Store) (s : LogicState) (m : ItemMatch) → match_item cases scope item t s ≡ Some m → Goes scope t m.store
  item_goes (pure e) t s m is = pure_match_goes e t s m (match_pure scope e t) refl is
  item_goes (uses u) t s m is = outcomes_go u t s m (evaluate_all u.ins t) (known_outs t u.outs) is

  items_go : (n : ℕ) (items : List PureItem) (t : Store) (s : LogicState) (m : Match) → match_from cases scope n items t s ≡ matched m → Goes scope t m.store
  items_go n [] t s m is = goes_nowhere scope t m.store (ap (λ x. x.store) (same_match is))
  items_go n (item ∷ items) t s m is = by_item (λ u v x. items_go (n + 1) items u v x) (match_item cases scope item t s) refl is
    where
      by_later : ((u : Store) (v : LogicState) (x : Match) → match_from cases scope (n + 1) items u v ≡ matched x → Goes scope u x.store) → (i : ItemMatch) → match_item cases scope item t s ≡ Some i → (o : Matching) → match_from cases scope (n + 1) items i.store i.state ≡ o → taken_before i.taken o ≡ matched m → Goes scope t m.store
      by_later each i here (stops k) later is = no_match m is
      by_later each i here (matched x) later is =
          subst (λ y. Goes scope t y.store) (same_match is)
          (goes_further scope t i.store x.store (item_goes item t s i here) (each i.store i.state x later))

      by_item : ((u : Store) (v : LogicState) (x : Match) → match_from cases scope (n + 1) items u v ≡ matched x → Goes scope u x.store) → (o : Option ItemMatch) → match_item cases scope item t s ≡ o → go_on o n (match_from cases scope (n + 1) items) ≡ matched m → Goes scope t m.store
      by_item each None here is = no_match m is
      by_item each (Some i) here is = by_later each i here (match_from cases scope (n + 1) items i.store i.state) refl is

pub match_goes : (preds : _) (scope : List Param) (items : List PureItem) (t : Store) (s : LogicState) (m : Match) → match_assertion preds scope items t s ≡ matched m → Goes scope t m.store
match_goes preds scope items t s m is = items_go scope (once preds) 0 items t s m is
