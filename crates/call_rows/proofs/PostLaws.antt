-- Postconditions that are added to what a match left cover whatever values the names and the result may have.
use Rattle.std.proofs.Common.{◌≡◌, ◌⊎◌, ⊎_elim, inl, inr, ℕ, ◌+◌, List, [], ◌∷◌, ◌++◌, length, Bool, true, false, ◌||◌, Option, Some, None, is_some, IsTrue, slice_get, refl, sym, ap, subst, ◌∙◌, true≢false, append_assoc, arith}
use Rattle.std.specs.Str.{bytes_eq}
use Rattle.std.specs.List.{list_all}
use Rattle.std.proofs.lemmas.Bool.{and_parts}
use Rattle.std.proofs.lemmas.List.Folds.{list_all-append}
use Rattle.std.proofs.lemmas.Slice.Eq.{bytes_eq-Decides}
use Rattle.gil_values.specs.declared.places.Place.{Place}
use Rattle.gil_values.specs.Pure.{PureValue}
use Rattle.gil_values.specs.Symbols.{IsBelow, AreBelow}
use Rattle.gil_machine.specs.Proper.{IsStoreBelow}
use Rattle.gil_machine.specs.Step.{bind_all}
use Rattle.gil_syntax.specs.declared.assertions.Param.{Param}
use Rattle.gil_syntax.specs.Evaluation.{Store, value_of}
use Rattle.gil_syntax.specs.Pure.{PureParts, PureItem, PureSpec}
use Rattle.gil_syntax.specs.Valid.{IsValid, param_names, is_among}
use Rattle.gil_syntax.specs.WellMade.{has_hash, is_well_made_assertion}
use Rattle.mem_model.specs.declared.keys.MemoryName.{MemoryName}
use Rattle.mem_model.specs.Actions.{Actions}
use Rattle.mem_model.specs.Heaps.{Heap}
use Rattle.assert_logic.specs.LogicStates.{LogicState}
use Rattle.assert_logic.specs.Matching.{Match, matched, once, match_assertion}
use Rattle.assert_logic.specs.Modes.{precondition, postcondition, either, first_fault, assertion_fault, known_at_first, is_variable_of}
use Rattle.assert_logic.specs.Names.{named_by_items}
use Rattle.assert_logic.specs.Sorts.{Extends}
use Rattle.assert_logic.proofs.GivenNames.{Gains, items_gain}
use Rattle.checked_runs.specs.Checked.{Checked, Outcome, Entry, IsFactBelow, logic_state, Comes}
use Rattle.checked_runs.specs.Specifications.{entry_store, result_name}
use Rattle.checked_runs.proofs.Readable.{either_none, first_fault_at, names_length}
use Rattle.checked_runs.proofs.Stores.{IsGoodSpec, all_at, one_of_two, no_param, no_value, same_some, first_value}
use Rattle.footprint.specs.Pure.{PureMatch}
use Rattle.pure_terms.specs.Laws.{AgreeOn}
use Rattle.pure_terms.specs.Meaning.{value, IsOver}
use Rattle.pure_terms.specs.Pure.{PureTerm, PureAtom, term_of, variables}
use Rattle.pure_terms.proofs.VariableLaws.{stay_when_tables_grow}
use Rattle.sym_evaluation.specs.Meaning.{AreSame}
use Rattle.sym_evaluation.specs.Pure.{term_at}
use Rattle.sym_model.specs.Laws.{IsMeaning}
use Rattle.sym_model.specs.Lists.{Each, OneOf}
use Rattle.sym_model.specs.Meaning.{has_open}
use Rattle.sym_model.specs.Terms.{StateTerms, all_of, AreEachOver}
use Rattle.sym_model.proofs.ListLaws.{each_to}
use Rattle.sym_states.specs.Naming.{PureNamed, MayName, IsNamedAs}
use Rattle.sym_states.proofs.Inventing.{adding_invents_nothing}
use Rattle.sym_states.proofs.Names.{only_name}
use Rattle.sym_paths.proofs.Growing.{all_true-more}
use Rattle.sym_paths.proofs.Valuations.{below_both}
use Rattle.sym_states.proofs.Conditions.{added_is, open_right}
use Rattle.sym_states.specs.Meaning as states
use Rattle.sym_states.specs.Meaning.{Serves}
use Rattle.sym_states.specs.Producing.{added_conds}
use Rattle.sym_states.specs.Pure.{PureState}
use Rattle.sym_unfolding.specs.Adding.{MayBeAdded, IsAddedAs}
use Rattle.sym_unfolding.specs.Further.{IsFurther}
use Rattle.checked_paths.proofs.Above.{store_below}
use Rattle.checked_paths.proofs.Growing.{facts_more, agree_more, facts_over_more, entry_over_more}
use Rattle.checked_paths.proofs.Lists.{one_across, each_across}
use Rattle.checked_paths.specs.Covering.{CoversOutcome}
use Rattle.checked_paths.specs.Meaning.{IsEntryOver, StandsForChecked, MayGoOn}
use Rattle.checked_paths.specs.Pure.{PureEntry, PureChecking, PureNext}
use Rattle.checked_rows.proofs.BelowLaws.{each_below, all_each, value_below}
use Rattle.checked_rows.proofs.MatchLaws.{one_of_each}
use Rattle.call_rows.specs.declared.leaving.Completion.{Completion}
use Rattle.call_rows.specs.Arguments.{HasArguments}
use Rattle.call_rows.specs.Leaving.{after, with_number, IsCompleted, MayComplete}
use Rattle.call_rows.specs.Matches.{MatchOver, scope_of, StaysAt}
use Rattle.call_rows.specs.Posts.{PureReady, only_result, IsReady, ReadyOver, AnswersPost, AnswersOneOf, AnswersPosts}
use Rattle.call_rows.proofs.GatheringLaws.{place_gathered, all_gathered}
use Rattle.call_rows.proofs.LeavingLaws.{after_stays, after_covers}
use Rattle.call_rows.proofs.MatchedNames.{matched_known}

-- ---- postconditions can be read

abbrev pub Reads : MemoryName → PureSpec → List PureItem → Type 0
Reads memory used items = (is_well_made_assertion items ≡ true) × (assertion_fault memory (postcondition used) items ≡ None)

module _ (memory : MemoryName) (used : PureSpec) (good : IsGoodSpec memory used.name used) where
  later_made : (list_all is_well_made_assertion used.posts ≡ true) × (list_all is_well_made_assertion used.errors ≡ true)
  later_made =
      and_parts (list_all is_well_made_assertion used.posts) (list_all is_well_made_assertion used.errors)
      (sym (list_all-append is_well_made_assertion used.posts used.errors) ∙ (and_parts (is_well_made_assertion used.pre) (list_all is_well_made_assertion (used.posts ++ used.errors)) good.made).1)

  later_read : (first_fault (assertion_fault memory (postcondition used)) used.posts ≡ None) × (first_fault (assertion_fault memory (postcondition used)) used.errors ≡ None)
  later_read =
      either_none (first_fault (assertion_fault memory (postcondition used)) used.posts) (first_fault (assertion_fault memory (postcondition used)) used.errors)
      (either_none (assertion_fault memory (precondition used) used.pre) (either (first_fault (assertion_fault memory (postcondition used)) used.posts) (first_fault (assertion_fault memory (postcondition used)) used.errors)) good.reads).1

  pub post_reads : (i : ℕ) (items : List PureItem) → slice_get used.posts i ≡ Some items → Reads memory used items
  post_reads i items at = (all_at is_well_made_assertion used.posts i items at later_made.0, first_fault_at (assertion_fault memory (postcondition used)) used.posts i items later_read.0 at)

  pub error_reads : (i : ℕ) (items : List PureItem) → slice_get used.errors i ≡ Some items → Reads memory used items
  error_reads i items at = (all_at is_well_made_assertion used.errors i items at later_made.1, first_fault_at (assertion_fault memory (postcondition used)) used.errors i items later_read.1 at)

-- ---- tables

module _ {S : Type 0} (terms : S → StateTerms) (e : PureEntry) (given : List PureAtom) (scope : List Param) (m : PureMatch S) (over : MatchOver terms e given m) (ready : PureReady S) (is_ready : IsReady scope m ready) where
  abbrev pub named_there : PureNamed
  named_there = record { vars = ready.state.vars; store = ready.store }

  over_more : (t : PureTerm) → IsOver m.state.vars t → IsOver ready.state.vars t
  over_more t t_over = subst (λ vs. IsOver vs t) (sym is_ready.naming.grows) (stay_when_tables_grow.over t m.state.vars is_ready.naming.more t_over)

  ready_state_over : states.IsOverTable terms ready.state
  ready_state_over = subst (states.IsOverTable terms) (sym is_ready.state) (record {
    conds = each_to (λ a. IsOver m.state.vars (term_of a)) (λ a. IsOver ready.state.vars (term_of a)) m.state.conds (λ a. over_more (term_of a)) over.state.conds;
    given = each_to (λ a. IsOver m.state.vars (term_of a)) (λ a. IsOver ready.state.vars (term_of a)) m.state.given (λ a. over_more (term_of a)) over.state.given;
    memory = each_to (IsOver m.state.vars) (IsOver ready.state.vars) (all_of (terms m.state.memory)) over_more over.state.memory;
    facts = subst (λ vs. Each (λ c. AreEachOver vs (c.ins ++ c.outs)) m.state.facts) (sym is_ready.naming.grows) (facts_over_more m.state.vars is_ready.naming.more m.state.facts over.state.facts);
  })

  pub ready_over : ReadyOver terms e given ready
  ready_over =
      let store_over = is_ready.naming.over over.store in
      record {
        state = ready_state_over;
        store = store_over;
        result = store_over result_name ready.result is_ready.result;
        entry = subst (λ vs. IsEntryOver vs e) (sym is_ready.naming.grows) (entry_over_more m.state.vars is_ready.naming.more e over.entry);
        assumed = each_to (λ a. IsOver m.state.vars (term_of a)) (λ a. IsOver ready.state.vars (term_of a)) given (λ a. over_more (term_of a)) over.assumed;
      }

-- what is added stays in its table
pub may_complete : {S : Type 0} (terms : S → StateTerms) (kept : S → Type 0) (e : PureEntry) (given : List PureAtom) (ready : PureReady S) (r : PureState S) → ReadyOver terms e given ready → IsFurther terms kept ready.state r → MayComplete terms e given ready.result r
may_complete terms kept e given ready r over f = record {
  over = f.over;
  entry = subst (λ vs. IsEntryOver vs e) (sym f.vars) (entry_over_more ready.state.vars f.sorts e over.entry);
  assumed = subst (λ vs. Each (λ a. IsOver vs (term_of a)) given) (sym f.vars) (each_to (λ a. IsOver ready.state.vars (term_of a)) (λ a. IsOver (ready.state.vars ++ f.sorts) (term_of a)) given (λ a. stay_when_tables_grow.over (term_of a) ready.state.vars f.sorts) over.assumed);
  result = subst (λ vs. IsOver vs ready.result) (sym f.vars) (stay_when_tables_grow.over ready.result ready.state.vars f.sorts over.result);
}

-- ---- values

-- a name has a value where it had one, and a value that it had stays
module _ (scope : List Param) (preds : _) (items : List PureItem) (s : Store) (l : LogicState) (found : Match) (matches : match_assertion preds scope items s l ≡ matched found) where
  still_there : (x : List ℕ) (v : PureValue) → value_of s x ≡ Some v → (w : PureValue) × (value_of found.store x ≡ Some w)
  still_there x v at = by (value_of found.store x) refl
    where
      gains : Gains scope (named_by_items items) s found.store
      gains = items_gain scope (once preds) 0 items s l found matches

      by : (o : Option PureValue) → value_of found.store x ≡ o → (w : PureValue) × (value_of found.store x ≡ Some w)
      by (Some w) there = (w, there)
      by None none = no_value v (sym (gains.none x none) ∙ at)

-- what is known of a call whose precondition was matched
pub record IsMatched {S : Type 0} (p : PureParts) (stands : S → List PureValue → Heap → Type 0) (terms : S → StateTerms) (e : PureEntry) (used : PureSpec) (y : PureChecking S) (m : PureMatch S) (v : List PureValue) (entry : Entry) (c : Checked) (args : List PureValue) (found : Match) : Type 0 where
  pub standing : StandsForChecked stands e y v entry c
  pub arguments : HasArguments used args c
  pub matches : match_assertion p.preds (scope_of used) used.pre (entry_store used args []) (logic_state c) ≡ matched found
  pub serves : Serves stands terms m.state m.store v found.store found.state

module _ {S : Type 0} (p : PureParts) (memory : MemoryName) (m : Actions) (stands : S → List PureValue → Heap → Type 0) (terms : S → StateTerms) (meaning : IsMeaning memory stands terms) (kept : S → Type 0) (e : PureEntry) (y : PureChecking S) (may : MayGoOn p terms e y) (used : PureSpec)
    (q : PureMatch S) (q_vars : q.state.vars ≡ y.path.vars) (over : MatchOver terms e y.path.given q) where
  module _ (v : List PureValue) (entry : Entry) (c : Checked) (args : List PureValue) (found : Match) (is : IsMatched p stands terms e used y q v entry c args found) (posts : List (List PureItem)) (how : Completion) (here : Place) (out : Outcome)
      (comes : Comes p memory m entry used args found.store found.state posts (after how here c.machine.callers) c out) where
    -- the result may be named
    pub may_name : MayName (scope_of used) only_result q.state.vars q.store v found.store comes.store
    may_name = record {
      proper = is.serves.state.proper;
      over = over.store;
      stands = is.serves.store;
      extends = comes.is_store.variables_stay;
      sorts = comes.is_store.sorts;
      known = λ x among. ap is_some (ap (value_of comes.store) (only_name result_name x among) ∙ comes.is_store.result);
    }

    -- ---- what is below the counter

    found_below : IsStoreBelow comes.counter found.store
    found_below x w at k occurs =
        let lower = store_below c.machine.counter v is.standing.path.symbols_below q.store found.store is.serves.store x w at k occurs in
        let raised = comes.not_lower in
        omega (arith, lower, raised)

    result_is_below : (w : PureValue) → value_of comes.store result_name ≡ Some w → IsBelow comes.counter w
    result_is_below w at = subst (IsBelow comes.counter) (same_some (sym comes.is_store.result ∙ at)) (value_below comes.counter (comes.result ∷ []) 0 comes.result comes.result_below refl)

    known_below : (x : List ℕ) (w : PureValue) → known_at_first (postcondition used) x ≡ true → value_of comes.store x ≡ Some w → IsBelow comes.counter w
    known_below x w known at =
        ⊎_elim (λ front. ⊎_elim of_param of_variable (one_of_two (is_among (param_names used.params) x) (is_variable_of used x) front))
        (λ named. result_is_below w (sym (ap (value_of comes.store) ((bytes_eq-Decides x result_name).0 named)) ∙ at)) (one_of_two (is_among (param_names used.params) x || is_variable_of used x) (bytes_eq x result_name) known)
      where
        of_found : (z : PureValue) × (value_of found.store x ≡ Some z) → IsBelow comes.counter w
        of_found (z, there) = subst (IsBelow comes.counter) (same_some (sym (comes.is_store.variables_stay x z there) ∙ at)) (found_below x z there)

        entry_value : (o : Option PureValue) → value_of (bind_all (param_names used.params) args) x ≡ o → is_among (param_names used.params) x ≡ true → IsBelow comes.counter w
        entry_value (Some z) there among = of_found (still_there (scope_of used) p.preds used.pre (entry_store used args []) (logic_state c) found is.matches x z (first_value (bind_all (param_names used.params) args) [] x z there))
        entry_value None none among = absurd (true≢false (sym among ∙ no_param (param_names used.params) args x (names_length used.params ∙ is.arguments.as_many) none))

        of_param : is_among (param_names used.params) x ≡ true → IsBelow comes.counter w
        of_param among = entry_value (value_of (bind_all (param_names used.params) args) x) refl among

        of_variable : is_variable_of used x ≡ true → IsBelow comes.counter w
        of_variable is_variable = of_found (matched_known p.preds (scope_of used) used.pre (entry_store used args []) (logic_state c) found is.matches x (and_parts (has_hash x) (named_by_items used.pre x) is_variable).1)

    module _ (reads : Reads memory used comes.items) (ready : PureReady S) (is_ready : IsReady (scope_of used) q ready) where
      abbrev n : IsNamedAs (scope_of used) only_result q.state.vars q.store v found.store comes.store (named_there terms e y.path.given (scope_of used) q over ready is_ready)
      n = is_ready.naming.cover v found.store comes.store may_name

      abbrev u : List PureValue
      u = v ++ n.values

      one_each : length v ≡ length q.state.vars
      one_each = is.serves.state.proper.one_each

      named_below : (x : List ℕ) (w : PureValue) → named_by_items comes.items x ≡ true → value_of comes.store x ≡ Some w → IsBelow comes.counter w
      named_below x w named at =
          adding_invents_nothing memory (postcondition used) comes.items comes.store found.state comes.state comes.counter reads.0 reads.1 comes.adding.added_is
          (record { heap = comes.below.heap_below; facts = all_each (IsFactBelow comes.counter) comes.state.facts comes.below.facts_below }) known_below x w named at

      first_below : AreBelow comes.counter n.values
      first_below =
          each_below comes.counter n.values
          (each_to (λ w. OneOf (λ x. value_of comes.store x ≡ Some w) only_result) (IsBelow comes.counter) n.values (λ w one. ⊎_elim (result_is_below w) (λ none. absurd none) one) n.come)

      later_below : (values : List PureValue) → Each (λ w. (x : List ℕ) × (IsTrue (named_by_items comes.items x) × (value_of comes.store x ≡ Some w))) values → AreBelow comes.counter values
      later_below values come =
          each_below comes.counter values
          (each_to (λ w. (x : List ℕ) × (IsTrue (named_by_items comes.items x) × (value_of comes.store x ≡ Some w))) (IsBelow comes.counter) values (λ w (x, (named, at)). named_below x w named at) come)

      -- ---- the state to which the postcondition is added

      ready_stands : states.Stands stands ready.state u found.state
      ready_stands = subst (λ s. states.Stands stands s u found.state) (sym is_ready.state) (record {
        proper = n.proper;
        meets = all_true-more q.state.vars v n.values one_each q.state.conds over.state.conds ∙ is.serves.state.meets;
        memory = meaning.local q.state.memory v u found.state.heap (each_to (IsOver q.state.vars) (λ t. AgreeOn (variables t) v u) (all_of (terms q.state.memory)) (agree_more q.state.vars v n.values one_each) over.state.memory) is.serves.state.memory;
        facts = facts_more q.state.vars v n.values one_each q.state.facts found.state.facts over.state.facts is.serves.state.facts;
      })

      stores_extend : Extends n.store comes.store
      stores_extend x w at = by (is_among only_result x) refl
        where
          by : (b : Bool) → is_among only_result x ≡ b → value_of comes.store x ≡ Some w
          by true listed = sym (n.listed x listed) ∙ at
          by false other = comes.is_store.variables_stay x w (sym (n.others x other) ∙ at)

      over_ready : ReadyOver terms e y.path.given ready
      over_ready = ready_over terms e y.path.given (scope_of used) q over ready is_ready

      may_add : MayBeAdded memory stands terms kept (scope_of used) ready.store [] ready.state u n.store comes.store found.state
      may_add = record {
        over = over_ready.state;
        store_over = over_ready.store;
        conds_over = tt;
        stands_for = ready_stands;
        store = n.stands;
        conds_true = refl;
        extends = stores_extend;
        sorts = comes.is_store.sorts;
      }

      result_value : value u ready.result ≡ Some comes.result
      result_value =
          has_term (term_at ready.store result_name) (value_of n.store result_name) is_ready.result
          (n.listed result_name (among_only result_name) ∙ comes.is_store.result) (n.stands result_name)
        where
          has_term : (o : Option PureTerm) (w : Option PureValue) → o ≡ Some ready.result → w ≡ Some comes.result → AreSame u o w → value u ready.result ≡ Some comes.result
          has_term o w at is_w same = subst (λ k. AreSame u (Some ready.result) k) is_w (subst (λ k. AreSame u k w) at same)

          among_only : (x : List ℕ) → is_among (x ∷ []) x ≡ true
          among_only x = ap (λ b. b || false) ((bytes_eq-Decides x x).1 refl)

      -- ---- one state

      vars_of : (r : PureState S) (f : IsFurther terms kept ready.state r) → r.vars ≡ y.path.vars ++ (is_ready.naming.more ++ f.sorts)
      vars_of r f = f.vars ∙ ap (λ vs. vs ++ f.sorts) (is_ready.naming.grows ∙ ap (λ vs. vs ++ is_ready.naming.more) q_vars) ∙ append_assoc y.path.vars is_ready.naming.more f.sorts

      one_covers : (there_is : Place) (number : ℕ) (r : PureState S) (k : PureNext S) → IsCompleted p stands terms e y there_is how number ready.result r k → IsAddedAs memory stands terms kept (scope_of used) ready.store [] ready.state u comes.items comes.store comes.state r × IsFurther terms kept ready.state r → CoversOutcome stands e entry v out k
      one_covers there_is number r k (inr (inl (done, unsat))) (a, f) = absurd (unsat (u ++ a.values) (record { proper = a.proper; true_there = a.meets }))
      one_covers there_is number r k (inr (inr (reason, (outside, (cause, (is_cause, shows)))))) both = subst (CoversOutcome stands e entry v out) (sym is_cause) tt
      one_covers there_is number r k (inl (met, no_form, goes)) (a, f) = by a.is
        where
          longer : u ++ a.values ≡ v ++ (n.values ++ a.values)
          longer = append_assoc v n.values a.values

          below : AreBelow comes.counter (n.values ++ a.values)
          below = below_both comes.counter n.values a.values first_below (later_below a.values a.come)

          by : IsTrue (has_open (added_conds ready.state r)) ⊎ states.Stands stands r (u ++ a.values) comes.state → CoversOutcome stands e entry v out k
          by (inl open_there) =
              absurd (true≢false (sym (subst (λ atoms. IsTrue (has_open atoms)) (sym f.conds) (open_right ready.state.conds f.more (subst (λ atoms. IsTrue (has_open atoms)) (added_is ready.state r f.more f.conds) open_there))) ∙ no_form))
          by (inr stand_r) =
              let has : value (u ++ a.values) ready.result ≡ Some comes.result = stay_when_tables_grow.values ready.result ready.state.vars u a.values over_ready.result ready_stands.proper.one_each ∙ result_value in
              after_covers p memory m stands terms meaning e y may (with_number r number) (is_ready.naming.more ++ f.sorts) (vars_of r f) v (u ++ a.values) (n.values ++ a.values) entry c comes.state comes.counter out longer is.standing
              (record { proper = stand_r.proper; meets = stand_r.meets; memory = stand_r.memory; facts = stand_r.facts }) comes.not_lower below there_is how ready.result comes.result here k has goes comes.leads

      post_covers : (there_is : Place) (number : ℕ) (ks : List (PureNext S)) → AnswersPost p memory stands terms kept e y there_is (scope_of used) ready how number comes.items ks → OneOf (CoversOutcome stands e entry v out) ks
      post_covers there_is number ks (rs, (adds, each)) =
          one_across (IsCompleted p stands terms e y there_is how number ready.result) (λ r. IsAddedAs memory stands terms kept (scope_of used) ready.store [] ready.state u comes.items comes.store comes.state r × IsFurther terms kept ready.state r) (CoversOutcome stands e entry v out) rs ks each (one_covers there_is number)
          (one_of_each (IsFurther terms kept ready.state) (IsAddedAs memory stands terms kept (scope_of used) ready.store [] ready.state u comes.items comes.store comes.state) (λ r. IsAddedAs memory stands terms kept (scope_of used) ready.store [] ready.state u comes.items comes.store comes.state r × IsFurther terms kept ready.state r) rs
          (λ r f a. (a, f)) (adds.follow over_ready.state over_ready.store tt) (adds.cover u n.store comes.store found.state comes.state may_add comes.adding))

      pub posts_cover : (there_is : Place) (first : ℕ) (ks : List (PureNext S)) → AnswersPosts p memory stands terms kept e y there_is (scope_of used) ready how first posts ks → OneOf (CoversOutcome stands e entry v out) ks
      posts_cover there_is first ks gathers =
          place_gathered (AnswersOneOf p memory stands terms kept e y there_is (scope_of used) ready how first posts) (CoversOutcome stands e entry v out) posts ks comes.number comes.items gathers comes.is_post
          (λ ns (i, (at, answers)). post_covers there_is (first + i) ns answers)

  -- ---- what may go on

  module _ (valid : IsValid p) (ready : PureReady S) (is_ready : IsReady (scope_of used) q ready) (how : Completion) (there_is : Place) where
    completed_stays : (number : ℕ) (r : PureState S) (k : PureNext S) → IsCompleted p stands terms e y there_is how number ready.result r k → IsFurther terms kept ready.state r → StaysAt p terms e y k
    completed_stays number r k (inr (inl (done, unsat))) f = subst (StaysAt p terms e y) (sym done) tt
    completed_stays number r k (inr (inr (reason, (outside, (cause, (is_cause, shows)))))) f = subst (StaysAt p terms e y) (sym is_cause) tt
    completed_stays number r k (inl (met, no_form, goes)) f =
        let may_end = may_complete terms kept e y.path.given ready r (ready_over terms e y.path.given (scope_of used) q over ready is_ready) f in
        let vars : r.vars ≡ y.path.vars ++ (is_ready.naming.more ++ f.sorts) = f.vars ∙ ap (λ vs. vs ++ f.sorts) (is_ready.naming.grows ∙ ap (λ vs. vs ++ is_ready.naming.more) q_vars) ∙ append_assoc y.path.vars is_ready.naming.more f.sorts in
        after_stays p memory m stands terms meaning e y may (with_number r number) (is_ready.naming.more ++ f.sorts) vars there_is how ready.result k valid (record { conds = f.over.conds; given = f.over.given; memory = f.over.memory; facts = f.over.facts }) may_end.result goes

    post_stays : (number : ℕ) (items : List PureItem) (ks : List (PureNext S)) → AnswersPost p memory stands terms kept e y there_is (scope_of used) ready how number items ks → Each (StaysAt p terms e y) ks
    post_stays number items ks (rs, (adds, each)) =
        let over_ready = ready_over terms e y.path.given (scope_of used) q over ready is_ready in
        each_across (IsCompleted p stands terms e y there_is how number ready.result) (IsFurther terms kept ready.state) (StaysAt p terms e y) rs ks each (completed_stays number) (adds.follow over_ready.state over_ready.store tt)

    pub posts_stay : (first : ℕ) (posts : List (List PureItem)) (ks : List (PureNext S)) → AnswersPosts p memory stands terms kept e y there_is (scope_of used) ready how first posts ks → Each (StaysAt p terms e y) ks
    posts_stay first posts ks gathers = all_gathered (AnswersOneOf p memory stands terms kept e y there_is (scope_of used) ready how first posts) (StaysAt p terms e y) posts ks gathers (λ items ns (i, (at, answers)). post_stays (first + i) items ns answers)
