-- What holds of each symbol of the store and of the state holds of each symbol of what matching gives and leaves.
use Rattle.std.proofs.Common.{◌≡◌, inl, inr, ℕ, ◌+◌, List, [], ◌∷◌, ◌++◌, map, Bool, true, false, ◌&&◌, cond, All, Option, Some, None, Result, Ok, Err, refl, sym, subst, ◌∙◌}
use Rattle.std.specs.List.{list_all}
use Rattle.std.specs.Option.{option_and_then, option_map}
use Rattle.std.specs.FinMap.{get, remove}
use Rattle.std.specs.Str.{bytes_eq}
use Rattle.std.proofs.lemmas.Bool.{and_parts}
use Rattle.std.proofs.lemmas.List.Elements.{All-head, All-tail}
use Rattle.std.proofs.lemmas.List.Folds.{list_all-append}
use Rattle.gil_values.specs.Pure.{PureValue}
use Rattle.gil_values.specs.Equality.{same_value}
use Rattle.gil_values.specs.Operators.{Fault, Outcome}
use Rattle.gil_syntax.specs.declared.assertions.Param.{Param}
use Rattle.gil_syntax.specs.Pure.{PureExpr, PurePredUse, PureItem, pure, uses, PurePredDef, PureParts}
use Rattle.gil_syntax.specs.Programs.{find_pred}
use Rattle.gil_syntax.specs.Subexpressions.{exprs_of_item}
use Rattle.gil_syntax.specs.Valid.{param_names}
use Rattle.gil_syntax.specs.WellMade.{is_well_made_expr, is_well_made_assertion, is_well_made_proc, is_well_made_spec, is_well_made_pred, is_well_made, are_program_names, are_logical}
use Rattle.gil_syntax.specs.Evaluation.{Store, bind, value_of, Outcomes, evaluate, evaluate_all}
use Rattle.gil_syntax.proofs.Symbols.{Holds, HoldsOfAll, HoldsInStore, HoldsIfValue, HoldsIfValues, evaluate-holds, evaluate_all-holds}
use Rattle.mem_model.specs.declared.cores.Core.{Core}
use Rattle.mem_model.specs.declared.keys.Key.{Key}
use Rattle.mem_model.specs.CoreNames.{core_of}
use Rattle.mem_model.specs.Cores.{entry_of, one_key}
use Rattle.mem_model.specs.KeyOrder.{key_eq}
use Rattle.assert_logic.specs.LogicStates.{Fact, LogicState}
use Rattle.assert_logic.specs.Sorts.{fits_sorts}
use Rattle.assert_logic.specs.Matching.{match_value, match_values, match_pure, is_known, known_and, unknown_and, known_outs, agrees_with, fits_fact, FoundFact, found_after, first_fact, Match, ItemMatch, Matching, matched, stops, CaseMatch, Cases, no_cases, pure_match, held, key_of, key_match, where_entry_is, match_held, match_core, fact_match, case_match, match_case, match_fact_or, match_use, match_outcomes, match_item, taken_before, go_on, match_from, bound_to, values_of, scope_of, case_store, case_from, case_of, first_of, try_cases, try_pred, once, match_assertion, match_fold}
use Rattle.assert_logic.proofs.AddingLaws.{same_some, no_value}
use Rattle.assert_logic.proofs.InventionLaws.{HeapHolds, part_holds, found_at, made_at}
use Rattle.assert_logic.proofs.SplitLaws.{key_splits}
use Rattle.assert_logic.proofs.GivenNames.{IsStep, value_steps, IsPureStep, pure_steps, same_match, no_match}

pub cases_made : (p : PureParts) → is_well_made p ≡ true → (x : List ℕ) (d : PurePredDef) → find_pred p.preds x ≡ Some d → list_all is_well_made_assertion d.cases ≡ true
cases_made p made x d found =
    let preds = (and_parts (list_all is_well_made_proc p.procs && list_all is_well_made_spec p.specs) (list_all is_well_made_pred p.preds) made).1 in
    let (i, at) = found_at p.preds x d found in
    (and_parts (are_program_names d.ins && are_program_names d.outs && are_logical d.logicals) (list_all is_well_made_assertion d.cases) (made_at p.preds i d at preds)).1

module _ (P : ℕ → Type 0) where
  abbrev pub FactHolds : Fact → Type 0
  FactHolds f = HoldsOfAll P f.ins × HoldsOfAll P f.outs

  abbrev pub EachFactHolds : List Fact → Type 0
  EachFactHolds [] = Unit {0}
  EachFactHolds (f ∷ fs) = FactHolds f × EachFactHolds fs

  pub each_fact : (fs : List Fact) → All FactHolds fs → EachFactHolds fs
  each_fact [] all = tt
  each_fact (f ∷ fs) all = (All-head FactHolds f fs all, each_fact fs (All-tail FactHolds f fs all))

  abbrev pub StateHolds : LogicState → Type 0
  StateHolds s = HeapHolds P s.heap × EachFactHolds s.facts

  -- of the values that are known
  abbrev pub HoldsOfKnown : List (Option PureValue) → Type 0
  HoldsOfKnown [] = Unit {0}
  HoldsOfKnown (Some v ∷ ks) = Holds P v × HoldsOfKnown ks
  HoldsOfKnown (None ∷ ks) = HoldsOfKnown ks

  pub bind_holds : (x : List ℕ) (v : PureValue) (s : Store) → Holds P v → HoldsInStore P s → HoldsInStore P (bind x v s)
  bind_holds x v s h k y w = by (bytes_eq x y)
    where
      by : (b : Bool) → cond b (Some v) (value_of s y) ≡ Some w → Holds P w
      by true is = subst (Holds P) (same_some is) h
      by false is = k y w is

  pub nothing_holds : HoldsInStore P []
  nothing_holds x v is = no_value v is

  -- ---- facts

  pub found_holds : (fits : Fact → Bool) (fs : List Fact) (found : FoundFact) → first_fact fits fs ≡ Some found → EachFactHolds fs → FactHolds found.fact × EachFactHolds found.others
  found_holds fits [] found is hold = no_value found is
  found_holds fits (f ∷ fs) found is hold = by (λ g later. found_holds fits fs g later hold.1) (fits f) (first_fact fits fs) refl is
    where
      by : ((g : FoundFact) → first_fact fits fs ≡ Some g → FactHolds g.fact × EachFactHolds g.others) → (b : Bool) (o : Option FoundFact) → first_fact fits fs ≡ o → cond b (Some (record { fact = f; place = 0; others = fs })) (option_map (found_after f) o) ≡ Some found → FactHolds found.fact × EachFactHolds found.others
      by each true o later is = subst (λ x. FactHolds x.fact × EachFactHolds x.others) (same_some is) (hold.0, hold.1)
      by each false None later is = no_value found is
      by each false (Some g) later is =
          let (here, others) = each g later in
          subst (λ x. FactHolds x.fact × EachFactHolds x.others) (same_some is) (here, (hold.0, others))

  pub facts_hold_after : (fs : List Fact) (f : Fact) → EachFactHolds fs → FactHolds f → EachFactHolds (fs ++ f ∷ [])
  facts_hold_after [] f hold here = (here, tt)
  facts_hold_after (g ∷ gs) f hold here = (hold.0, facts_hold_after gs f hold.1 here)

  -- ---- values

  pub value_of_expr : (e : PureExpr) (s : Store) (v : PureValue) → is_well_made_expr e ≡ true → HoldsInStore P s → evaluate e s ≡ Ok v → Holds P v
  value_of_expr e s v made hold is = subst (HoldsIfValue P) is (evaluate-holds P e s made hold)

  pub values_of_exprs : (es : List PureExpr) (s : Store) (vs : List PureValue) → list_all is_well_made_expr es ≡ true → HoldsInStore P s → evaluate_all es s ≡ Ok vs → HoldsOfAll P vs
  values_of_exprs es s vs made hold is = subst (HoldsIfValues P) is (evaluate_all-holds P es s made hold)

  module _ (scope : List Param) where
    step_holds : (e : PureExpr) (v : PureValue) (s t : Store) → IsStep scope e v s t → HoldsInStore P s → Holds P v → HoldsInStore P t
    step_holds e v s t (inl same) h k = subst (HoldsInStore P) same h
    step_holds e v s t (inr (x, (is, others))) h k = subst (HoldsInStore P) (sym is) (bind_holds x v s k h)

    pub match_values_hold : (es : List PureExpr) (vs : List PureValue) (s t : Store) → match_values scope es vs s ≡ Some t → HoldsInStore P s → HoldsOfAll P vs → HoldsInStore P t
    match_values_hold [] [] s t is h k = subst (HoldsInStore P) (same_some is) h
    match_values_hold [] (v ∷ vs) s t is h k = no_value t is
    match_values_hold (e ∷ es) [] s t is h k = no_value t is
    match_values_hold (e ∷ es) (v ∷ vs) s t is h k = by (λ u later hold. match_values_hold es vs u t later hold k.1) (match_value scope e v s) refl is
      where
        by : ((u : Store) → match_values scope es vs u ≡ Some t → HoldsInStore P u → HoldsInStore P t) → (o : Option Store) → match_value scope e v s ≡ o → option_and_then (match_values scope es vs) o ≡ Some t → HoldsInStore P t
        by later None none is = no_value t is
        by later (Some u) first is = later u is (step_holds e v s u (value_steps scope e v s u first) h k.0)

    pure_holds : (e : PureExpr) (s t : Store) → is_well_made_expr e ≡ true → IsPureStep scope e s t → HoldsInStore P s → HoldsInStore P t
    pure_holds e s t made (inl same) h = subst (HoldsInStore P) same h
    pure_holds e s t made (inr is) h = subst (HoldsInStore P) (sym is.bound) (bind_holds is.var is.value s (value_of_expr is.expr s is.value (is.made made) h is.is_value) h)

  -- the outs that are known
  pub known_hold : (es : List PureExpr) (s : Store) (ks : List (Option PureValue)) → list_all is_well_made_expr es ≡ true → HoldsInStore P s → known_outs s es ≡ Ok ks → HoldsOfKnown ks
  known_hold [] s [] made h is = tt
  known_hold [] s (k ∷ ks) made h is = absurd (cc)
  known_hold (e ∷ es) s ks made h is =
      by (λ later rest. known_hold es s later (and_parts (is_well_made_expr e) (list_all is_well_made_expr es) made).1 h rest) (is_known s e) (evaluate e s) refl (known_outs s es) refl is
    where
      by : ((later : List (Option PureValue)) → known_outs s es ≡ Ok later → HoldsOfKnown later) → (b : Bool) (o : Outcome) → evaluate e s ≡ o → (r : Result (List (Option PureValue)) Fault) → known_outs s es ≡ r → cond b (known_and o r) (unknown_and r) ≡ Ok ks → HoldsOfKnown ks
      by each true (Ok v) value (Ok later) rest found =
          let same : ◌≡◌ {A = List (Option PureValue)} (Some v ∷ later) ks = cc in
          subst HoldsOfKnown same (value_of_expr e s v (and_parts (is_well_made_expr e) (list_all is_well_made_expr es) made).0 h value, each later rest)
      by each true (Ok v) value (Err f) rest found = absurd (cc)
      by each true (Err f) value r rest found = absurd (cc)
      by each false o value (Ok later) rest found =
          let same : ◌≡◌ {A = List (Option PureValue)} (None ∷ later) ks = cc in
          subst HoldsOfKnown same (each later rest)
      by each false o value (Err f) rest found = absurd (cc)

  -- ---- items

  abbrev pub CasesHold : Cases → Type 0
  CasesHold cases =
      (x : List ℕ) (ins : List PureValue) (outs : List (Option PureValue)) (s : LogicState) (found : CaseMatch)
      → cases x ins outs s ≡ Some found → HoldsOfAll P ins → HoldsOfKnown outs → StateHolds s → HoldsOfAll P found.outs × StateHolds found.state

  abbrev ItemHolds : ItemMatch → Type 0
  ItemHolds m = HoldsInStore P m.store × StateHolds m.state

  module _ (cases : Cases) (sound : CasesHold cases) (scope : List Param) where
    pure_match_holds : (e : PureExpr) (t : Store) (s : LogicState) (m : ItemMatch) (o : Option Store) → match_pure scope e t ≡ o → pure_match s o ≡ Some m → is_well_made_expr e ≡ true → HoldsInStore P t → StateHolds s → ItemHolds m
    pure_match_holds e t s m None matches is made h k = no_value m is
    pure_match_holds e t s m (Some v) matches is made h k = subst ItemHolds (same_some is) (pure_holds scope e t v made (pure_steps scope e t v matches) h, k)

    held_holds : (core : Core) (v : PureValue) → Holds P v → HoldsOfAll P (held core v)
    held_holds Core.Gone v h = tt
    held_holds Core.Prop v h = (h, tt)
    held_holds Core.Cell v h = (h, tt)
    held_holds Core.Shape v h = (h, tt)
    held_holds Core.Bound v h = (h, tt)
    held_holds Core.Dom v h = (h, tt)
    held_holds Core.Proto v h = (h, tt)

    held_match_holds : (outs : List PureExpr) (core : Core) (ins : List PureValue) (k : Key) (t : Store) (s : LogicState) (m : ItemMatch) (o : Option PureValue) → get s.heap k ≡ o → match_held scope core ins outs k o t s ≡ Some m → HoldsInStore P t → StateHolds s → ItemHolds m
    held_match_holds outs core ins k t s m None at is h holds = no_value m is
    held_match_holds outs core ins k t s m (Some v) at is h holds = by_entry (entry_of core (ins ++ held core v)) is
      where
        by_store : (o : Option Store) → match_values scope outs (held core v) t ≡ o → key_match s k o ≡ Some m → ItemHolds m
        by_store None matches is = no_value m is
        by_store (Some w) matches is =
            subst ItemHolds (same_some is)
            (match_values_hold scope outs (held core v) t w matches h (held_holds core v (holds.0 k v at).1), ((part_holds P s.heap (remove s.heap k) (one_key k v) (key_splits s.heap k v at) holds.0).0, holds.1))

        by_test : (b : Bool) → cond b (key_match s k (match_values scope outs (held core v) t)) None ≡ Some m → ItemHolds m
        by_test false is = no_value m is
        by_test true is = by_store (match_values scope outs (held core v) t) refl is

        by_entry : (o : Option (Key × PureValue)) → where_entry_is o k v (key_match s k (match_values scope outs (held core v) t)) ≡ Some m → ItemHolds m
        by_entry None is = no_value m is
        by_entry (Some e) is = by_test (key_eq e.0 k && same_value e.1 v) is

    core_match_holds : (outs : List PureExpr) (core : Core) (ins : List PureValue) (t : Store) (s : LogicState) (m : ItemMatch) (o : Option Key) → match_core scope core ins outs o t s ≡ Some m → HoldsInStore P t → StateHolds s → ItemHolds m
    core_match_holds outs core ins t s m None is h holds = no_value m is
    core_match_holds outs core ins t s m (Some k) is h holds = held_match_holds outs core ins k t s m (get s.heap k) refl is h holds

    fact_match_holds : (outs : List PureExpr) (found : FoundFact) (t : Store) (s : LogicState) (m : ItemMatch) (o : Option Store) → match_values scope outs found.fact.outs t ≡ o → fact_match found s o ≡ Some m → FactHolds found.fact → EachFactHolds found.others → HoldsInStore P t → StateHolds s → ItemHolds m
    fact_match_holds outs found t s m None matches is here others h holds = no_value m is
    fact_match_holds outs found t s m (Some v) matches is here others h holds = subst ItemHolds (same_some is) (match_values_hold scope outs found.fact.outs t v matches h here.1, (holds.0, others))

    case_match_holds : (outs : List PureExpr) (found : CaseMatch) (t : Store) (m : ItemMatch) (o : Option Store) → match_values scope outs found.outs t ≡ o → case_match found o ≡ Some m → HoldsOfAll P found.outs → StateHolds found.state → HoldsInStore P t → ItemHolds m
    case_match_holds outs found t m None matches is here left h = no_value m is
    case_match_holds outs found t m (Some v) matches is here left h = subst ItemHolds (same_some is) (match_values_hold scope outs found.outs t v matches h here, left)

    cases_match_holds : (u : PurePredUse) (ins : List PureValue) (outs : List (Option PureValue)) (t : Store) (s : LogicState) (m : ItemMatch) (o : Option CaseMatch) → cases u.pred ins outs s ≡ o → match_case scope u.outs o t ≡ Some m → HoldsOfAll P ins → HoldsOfKnown outs → HoldsInStore P t → StateHolds s → ItemHolds m
    cases_match_holds u ins outs t s m None finds is a b h holds = no_value m is
    cases_match_holds u ins outs t s m (Some found) finds is a b h holds =
        let (here, left) = sound u.pred ins outs s found finds a b holds in
        case_match_holds u.outs found t m (match_values scope u.outs found.outs t) refl is here left h

    user_match_holds : (u : PurePredUse) (ins : List PureValue) (outs : List (Option PureValue)) (t : Store) (s : LogicState) (m : ItemMatch) (o : Option FoundFact) → first_fact (fits_fact u.pred ins outs) s.facts ≡ o → match_fact_or cases scope o u ins outs t s ≡ Some m → HoldsOfAll P ins → HoldsOfKnown outs → HoldsInStore P t → StateHolds s → ItemHolds m
    user_match_holds u ins outs t s m (Some found) finds is a b h holds =
        let (here, others) = found_holds (fits_fact u.pred ins outs) s.facts found finds holds.1 in
        fact_match_holds u.outs found t s m (match_values scope u.outs found.fact.outs t) refl is here others h holds
    user_match_holds u ins outs t s m None finds is a b h holds = cases_match_holds u ins outs t s m (cases u.pred ins outs s) refl is a b h holds

    use_match_holds : (u : PurePredUse) (ins : List PureValue) (outs : List (Option PureValue)) (t : Store) (s : LogicState) (m : ItemMatch) (o : Option Core) → match_use cases scope o u ins outs t s ≡ Some m → HoldsOfAll P ins → HoldsOfKnown outs → HoldsInStore P t → StateHolds s → ItemHolds m
    use_match_holds u ins outs t s m (Some core) is a b h holds = core_match_holds u.outs core ins t s m (key_of core ins) is h holds
    use_match_holds u ins outs t s m None is a b h holds = user_match_holds u ins outs t s m (first_fact (fits_fact u.pred ins outs) s.facts) refl is a b h holds

    outcomes_match_holds : (u : PurePredUse) (t : Store) (s : LogicState) (m : ItemMatch) (ins : Outcomes) (outs : Result (List (Option PureValue)) Fault) → evaluate_all u.ins t ≡ ins → known_outs t u.outs ≡ outs → match_outcomes cases scope ins outs u t s ≡ Some m
        → list_all is_well_made_expr (u.ins ++ u.outs) ≡ true → HoldsInStore P t → StateHolds s → ItemHolds m
    outcomes_match_holds u t s m (Ok ins) (Ok outs) ins_are outs_are is made h holds =
        let (made_ins, made_outs) = and_parts (list_all is_well_made_expr u.ins) (list_all is_well_made_expr u.outs) (sym (list_all-append is_well_made_expr u.ins u.outs) ∙ made) in
        use_match_holds u ins outs t s m (core_of u.pred) is (values_of_exprs u.ins t ins made_ins h ins_are) (known_hold u.outs t outs made_outs h outs_are) h holds
    outcomes_match_holds u t s m (Ok ins) (Err f) ins_are outs_are is made h holds = no_value m is
    outcomes_match_holds u t s m (Err f) outs ins_are outs_are is made h holds = no_value m is

    item_match_holds : (item : PureItem) (t : Store) (s : LogicState) (m : ItemMatch) → match_item cases scope item t s ≡ Some m → list_all is_well_made_expr (exprs_of_item item) ≡ true → HoldsInStore P t → StateHolds s → ItemHolds m
    item_match_holds (pure e) t s m is made h holds = pure_match_holds e t s m (match_pure scope e t) refl is (and_parts (is_well_made_expr e) true made).0 h holds
    item_match_holds (uses u) t s m is made h holds = outcomes_match_holds u t s m (evaluate_all u.ins t) (known_outs t u.outs) refl refl is made h holds

    abbrev LaterHold : ℕ → List PureItem → Type 0
    LaterHold n items = (u : Store) (v : LogicState) (x : Match) → match_from cases scope n items u v ≡ matched x → HoldsInStore P u → StateHolds v → HoldsInStore P x.store × StateHolds x.state

    pub items_match_hold : (n : ℕ) (items : List PureItem) (t : Store) (s : LogicState) (m : Match) → match_from cases scope n items t s ≡ matched m → is_well_made_assertion items ≡ true → HoldsInStore P t → StateHolds s → HoldsInStore P m.store × StateHolds m.state
    items_match_hold n [] t s m is made h holds = subst (λ x. HoldsInStore P x.store × StateHolds x.state) (same_match is) (h, holds)
    items_match_hold n (item ∷ items) t s m is made h holds =
        by_item (λ u v x there k l. items_match_hold (n + 1) items u v x there (and_parts (list_all is_well_made_expr (exprs_of_item item)) (is_well_made_assertion items) made).1 k l) (match_item cases scope item t s) refl is
      where
        by_later : LaterHold (n + 1) items → (i : ItemMatch) → match_item cases scope item t s ≡ Some i → (o : Matching) → match_from cases scope (n + 1) items i.store i.state ≡ o → taken_before i.taken o ≡ matched m → HoldsInStore P m.store × StateHolds m.state
        by_later each i here (stops k) later is = no_match m is
        by_later each i here (matched x) later is =
            let (first, left) = item_match_holds item t s i here (and_parts (list_all is_well_made_expr (exprs_of_item item)) (is_well_made_assertion items) made).0 h holds in
            subst (λ y. HoldsInStore P y.store × StateHolds y.state) (same_match is) (each i.store i.state x later first left)

        by_item : LaterHold (n + 1) items → (o : Option ItemMatch) → match_item cases scope item t s ≡ o → go_on o n (match_from cases scope (n + 1) items) ≡ matched m → HoldsInStore P m.store × StateHolds m.state
        by_item each None here is = no_match m is
        by_item each (Some i) here is = by_later each i here (match_from cases scope (n + 1) items i.store i.state) refl is

  -- ---- cases

  values_hold_of : (t : Store) (xs : List (List ℕ)) (vs : List PureValue) → values_of t xs ≡ Some vs → HoldsInStore P t → HoldsOfAll P vs
  values_hold_of t [] vs is h = subst (HoldsOfAll P) (same_some is) tt
  values_hold_of t (x ∷ xs) vs is h = by (λ ws rest. values_hold_of t xs ws rest h) (value_of t x) refl (values_of t xs) refl is
    where
      by : ((ws : List PureValue) → values_of t xs ≡ Some ws → HoldsOfAll P ws) → (o : Option PureValue) → value_of t x ≡ o → (q : Option (List PureValue)) → values_of t xs ≡ q → option_and_then (λ v. option_map (λ ws. v ∷ ws) q) o ≡ Some vs → HoldsOfAll P vs
      by each None first q rest found = no_value vs found
      by each (Some v) first None rest found = no_value vs found
      by each (Some v) first (Some ws) rest found = subst (HoldsOfAll P) (same_some found) (h x v first, each ws rest)

  bound_holds : (sorts qs : List Param) (ks : List (Option PureValue)) (s t : Store) → bound_to sorts qs ks s ≡ Some t → HoldsOfKnown ks → HoldsInStore P s → HoldsInStore P t
  bound_holds sorts [] [] s t is k h = subst (HoldsInStore P) (same_some is) h
  bound_holds sorts [] (o ∷ ks) s t is k h = no_value t is
  bound_holds sorts (q ∷ qs) [] s t is k h = no_value t is
  bound_holds sorts (q ∷ qs) (None ∷ ks) s t is k h = bound_holds sorts qs ks s t is k h
  bound_holds sorts (q ∷ qs) (Some w ∷ ks) s t is k h = by (λ found. bound_holds sorts qs ks (bind q.name w s) t found k.1 (bind_holds q.name w s k.0 h)) (fits_sorts sorts q.name w && agrees_with (value_of s q.name) w) is
    where
      by : (bound_to sorts qs ks (bind q.name w s) ≡ Some t → HoldsInStore P t) → (b : Bool) → cond b (bound_to sorts qs ks (bind q.name w s)) None ≡ Some t → HoldsInStore P t
      by each false found = no_value t found
      by each true found = each found

  pub all_known : (vs : List PureValue) → HoldsOfAll P vs → HoldsOfKnown (map Some vs)
  all_known [] h = tt
  all_known (v ∷ vs) h = (h.0, all_known vs h.1)

  case_store_holds : (d : PurePredDef) (ins : List PureValue) (outs : List (Option PureValue)) (t : Store) → case_store d ins outs ≡ Some t → HoldsOfAll P ins → HoldsOfKnown outs → HoldsInStore P t
  case_store_holds d ins outs t is a b = by (bound_to (scope_of d) d.ins (map Some ins) []) refl is
    where
      by : (o : Option Store) → bound_to (scope_of d) d.ins (map Some ins) [] ≡ o → option_and_then (bound_to (scope_of d) d.outs outs) o ≡ Some t → HoldsInStore P t
      by None first is = no_value t is
      by (Some u) first is = bound_holds (scope_of d) d.outs outs u t is b (bound_holds (scope_of d) d.ins (map Some ins) [] u first (all_known ins a) nothing_holds)

  module _ (preds : List PurePredDef) (made : (x : List ℕ) (d : PurePredDef) → find_pred preds x ≡ Some d → list_all is_well_made_assertion d.cases ≡ true) where
    try_holds : (cases : Cases) → CasesHold cases → (d : PurePredDef) (n : ℕ) (later : List (List PureItem)) (t : Store) (s : LogicState) (found : CaseMatch) → try_cases cases d n later t s ≡ Some found → list_all is_well_made_assertion later ≡ true → HoldsInStore P t → StateHolds s
        → HoldsOfAll P found.outs × StateHolds found.state
    try_holds cases sound d n [] t s found is well h k = no_value found is
    try_holds cases sound d n (items ∷ later) t s found is well h k =
        by_matching (λ tries. try_holds cases sound d (n + 1) later t s found tries (and_parts (is_well_made_assertion items) (list_all is_well_made_assertion later) well).1 h k) (match_from cases (scope_of d) 0 items t s) refl is
      where
        by_values : (try_cases cases d (n + 1) later t s ≡ Some found → HoldsOfAll P found.outs × StateHolds found.state) → (m : Match) → match_from cases (scope_of d) 0 items t s ≡ matched m → (o : Option (List PureValue)) → values_of m.store (param_names d.outs) ≡ o
            → first_of (case_from n m o) (try_cases cases d (n + 1) later t s) ≡ Some found → HoldsOfAll P found.outs × StateHolds found.state
        by_values each m matches None values tries = each tries
        by_values each m matches (Some outs) values tries =
            let (store, left) = items_match_hold cases sound (scope_of d) 0 items t s m matches (and_parts (is_well_made_assertion items) (list_all is_well_made_assertion later) well).0 h k in
            subst (λ y. HoldsOfAll P y.outs × StateHolds y.state) (same_some tries) (values_hold_of m.store (param_names d.outs) outs values store, left)

        by_matching : (try_cases cases d (n + 1) later t s ≡ Some found → HoldsOfAll P found.outs × StateHolds found.state) → (o : Matching) → match_from cases (scope_of d) 0 items t s ≡ o → first_of (case_of d n o) (try_cases cases d (n + 1) later t s) ≡ Some found → HoldsOfAll P found.outs × StateHolds found.state
        by_matching each (stops k) matches tries = each tries
        by_matching each (matched m) matches tries = by_values each m matches (values_of m.store (param_names d.outs)) refl tries

    pred_holds : (cases : Cases) → CasesHold cases → (x : List ℕ) (ins : List PureValue) (outs : List (Option PureValue)) (s : LogicState) (found : CaseMatch) → try_pred cases (find_pred preds x) ins outs s ≡ Some found → HoldsOfAll P ins → HoldsOfKnown outs → StateHolds s → HoldsOfAll P found.outs × StateHolds found.state
    pred_holds cases sound x ins outs s found is a b k = by (find_pred preds x) refl is
      where
        by_store : (d : PurePredDef) → find_pred preds x ≡ Some d → (o : Option Store) → case_store d ins outs ≡ o → option_and_then (λ t. try_cases cases d 0 d.cases t s) o ≡ Some found → HoldsOfAll P found.outs × StateHolds found.state
        by_store d finds None begins tries = no_value found tries
        by_store d finds (Some t) begins tries = try_holds cases sound d 0 d.cases t s found tries (made x d finds) (case_store_holds d ins outs t begins a b) k

        by : (o : Option PurePredDef) → find_pred preds x ≡ o → try_pred cases o ins outs s ≡ Some found → HoldsOfAll P found.outs × StateHolds found.state
        by None finds tries = no_value found tries
        by (Some d) finds tries = by_store d finds (case_store d ins outs) refl tries

    none_hold : CasesHold no_cases
    none_hold x ins outs s found is a b k = no_value found is

    once_holds : CasesHold (once preds)
    once_holds x ins outs s found is a b k = pred_holds no_cases none_hold x ins outs s found is a b k

    pub assertion_holds : (scope : List Param) (items : List PureItem) (t : Store) (s : LogicState) (m : Match) → match_assertion preds scope items t s ≡ matched m → is_well_made_assertion items ≡ true → HoldsInStore P t → StateHolds s → HoldsInStore P m.store × StateHolds m.state
    assertion_holds scope items t s m is well h k = items_match_hold (once preds) once_holds scope 0 items t s m is well h k

    pub fold_holds : (x : List ℕ) (ins outs : List PureValue) (s : LogicState) (found : CaseMatch) → match_fold preds x ins outs s ≡ Some found → HoldsOfAll P ins → HoldsOfAll P outs → StateHolds s → HoldsOfAll P found.outs × StateHolds found.state
    fold_holds x ins outs s found is a b k = pred_holds (once preds) once_holds x ins (map Some outs) s found is a (all_known outs b) k
