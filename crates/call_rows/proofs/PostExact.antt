-- Postconditions that are added to what a match left: whatever values a valuation gives to names and the result, the call comes back with
-- them.
use Rattle.std.proofs.Common.{◌≡◌, inl, inr, ℕ, ◌+◌, ◌≤◌, List, [], ◌∷◌, ◌++◌, length, true, false, Option, Some, None, IsTrue, slice_get, refl, sym, ap, subst, ◌∙◌, append_assoc, append-nil, arith, ⊎_elim, suc}
use Rattle.std.proofs.lemmas.List.{append_cancel_left}
use Rattle.gil_values.specs.declared.places.Place.{Place}
use Rattle.gil_values.specs.Pure.{PureValue}
use Rattle.gil_values.specs.Symbols.{AreBelow}
use Rattle.gil_machine.specs.State.{State, threw, Step, goes_on, ends, end_at, Frame}
use Rattle.gil_machine.specs.Step.{bind_all, leave, throw_to, handling, Handling}
use Rattle.gil_syntax.specs.Evaluation.{Store, value_of, Agrees}
use Rattle.gil_syntax.specs.Pure.{PureParts, PureItem, PureSpec}
use Rattle.gil_syntax.specs.Valid.{param_names}
use Rattle.mem_model.specs.declared.keys.MemoryName.{MemoryName}
use Rattle.mem_model.specs.Actions.{Actions}
use Rattle.mem_model.specs.Heaps.{Heap}
use Rattle.assert_logic.specs.LogicStates.{LogicState}
use Rattle.assert_logic.specs.Matching.{Match, matched, match_assertion}
use Rattle.assert_logic.specs.Sorts.{HasSorts}
use Rattle.checked_runs.specs.Checked.{Checked, Outcome, goes_on_to, has_fault, post, Entry, IsAbove, with_logic, moved, stepped, over_or, some_matches, result_store, logic_state, Comes, Called, CalledIfFit, is_over}
use Rattle.checked_runs.specs.Specifications.{entry_store, result_name, IsPostStore, fit_params}
use Rattle.footprint.specs.Pure.{PureMatch}
use Rattle.pure_terms.specs.declared.variables.Sort.{Sort}
use Rattle.pure_terms.specs.Meaning.{value, all_true, IsProper, IsOver, Satisfies}
use Rattle.pure_terms.specs.Pure.{PureAtom, term_of, variables}
use Rattle.pure_terms.proofs.VariableLaws.{stay_when_tables_grow}
use Rattle.sym_evaluation.specs.Meaning.{AreSame, StandsFor}
use Rattle.sym_leaving.specs.Leaving.{StandsWhereGoesOn, KeepsAllButFrames, caught, uncaught}
use Rattle.sym_model.specs.Laws.{IsMeaning}
use Rattle.sym_model.specs.Lists.{Each}
use Rattle.sym_model.specs.Meaning.{has_open}
use Rattle.sym_model.specs.Terms.{StateTerms, all_of}
use Rattle.sym_model.proofs.ListLaws.{each_to, not_none, same_some}
use Rattle.sym_states.specs.Naming.{AddsNames}
use Rattle.sym_states.proofs.NamingLaws.{proper_sorts}
use Rattle.sym_paths.proofs.Growing.{all_true-more}
use Rattle.sym_paths.specs.Meaning.{Stands}
use Rattle.sym_paths.specs.Pure.{PurePath}
use Rattle.sym_paths.specs.Steps.{counter_past}
use Rattle.sym_states.proofs.Conditions.{added_is, none_open}
use Rattle.sym_states.specs.Meaning as states
use Rattle.sym_states.specs.Meaning.{Serves}
use Rattle.sym_states.specs.Pure.{PureState}
use Rattle.sym_unfolding.specs.Adding.{IsBefore, IsAddingOf, AddsExactly}
use Rattle.sym_unfolding.specs.Further.{IsFurther}
use Rattle.sym_unfolding.specs.Unfolding.{IsMetAfter}
use Rattle.pure_terms.specs.Laws.{AgreeOn}
use Rattle.gil_machine.specs.Proper.{IsStoreBelow}
use Rattle.assert_logic.proofs.Givings.{Goes}
use Rattle.checked_runs.proofs.Entries.{entry_sorted}
use Rattle.checked_runs.proofs.Stores.{IsGoodSpec, first_value, args_agree}
use Rattle.footprint.proofs.Parts.{longer_both}
use Rattle.checked_paths.proofs.Above.{stands_above, store_below}
use Rattle.checked_paths.proofs.Growing.{store_more, agree_more, facts_more}
use Rattle.checked_paths.proofs.Lists.{each_across}
use Rattle.checked_paths.specs.declared.nexts.FaultKind.{FaultKind}
use Rattle.checked_paths.specs.Causes.{PureShown, shown_of}
use Rattle.checked_paths.specs.Choosing.{choice_of_called, choice_if_fit}
use Rattle.checked_paths.specs.Exactness.{AreNewValues, HaveMore}
use Rattle.checked_paths.specs.Following.{GoesOnWith, IsAnswerTo, IsAnswered}
use Rattle.checked_paths.specs.Meaning.{StandsForChecked, IsEntered, MayGoOn}
use Rattle.checked_paths.specs.Pure.{PureEntry, PureChecking, PureNext, further}
use Rattle.checked_rows.specs.Doubts.{PureDoubt, always, under, beyond, doubt_cause, IsDoubtIn}
use Rattle.checked_rows.specs.Ending.{MeetsNone, FinishesExactly}
use Rattle.checked_rows.specs.States.{IsStateOf, with_state}
use Rattle.checked_rows.proofs.BelowLaws.{each_below}
use Rattle.checked_rows.proofs.RowLaws.{passed_longer, goes_stands}
use Rattle.call_rows.specs.declared.leaving.Completion.{Completion}
use Rattle.call_rows.specs.Arguments.{HasArguments}
use Rattle.call_rows.specs.Leaving.{after, with_number, GoesOnAfter, IsCompleted}
use Rattle.call_rows.specs.Matches.{MatchOver, scope_of}
use Rattle.call_rows.specs.Posts.{PureReady, only_result, IsReady, ReadyOver, AnswersPost, AnswersOneOf, AnswersPosts}
use Rattle.call_rows.proofs.Called.{new_below, InTwo, in_two, IsUnderCall, LeadsByCall, LeadsOnByCall, IsShownFrom, IsRightCall, IsExactCall, AreExactCall}
use Rattle.call_rows.proofs.FrontLaws.{proper_part, meets_part, first_true}
use Rattle.call_rows.proofs.GatheringLaws.{all_gathered}
use Rattle.call_rows.proofs.LeavingLaws.{stands_there, entered as entered_there, state_there}
use Rattle.call_rows.proofs.MatchedSorts.{match_goes}
use Rattle.call_rows.proofs.PostLaws.{IsMatched, ready_over}

-- ---- lists

both_lengths : {A B : Type 0} (a b : List A) (xs ys : List B) → length a ≡ length xs → length b ≡ length ys → length (a ++ b) ≡ length (xs ++ ys)
both_lengths [] b [] ys first second = second
both_lengths [] b (x ∷ xs) ys first second = absurd (omega (arith, first))
both_lengths (c ∷ a) b [] ys first second = absurd (omega (arith, first))
both_lengths (c ∷ a) b (x ∷ xs) ys first second = ap suc (both_lengths a b xs ys (omega (arith, first)) second)

-- what holds of each for any of these holds for each of these of any
pub each_for_all : {A B : Type 0} (P : A → B → Type 0) (xs : List B) → ((a : A) → Each (P a) xs) → Each (λ x. (a : A) → P a x) xs
each_for_all P [] all = tt
each_for_all P (x ∷ xs) all = (λ a. (all a).0, each_for_all P xs (λ a. (all a).1))

both_of : {A : Type 0} (P Q : A → Type 0) (xs : List A) → Each P xs → Each Q xs → Each (λ x. P x × Q x) xs
both_of P Q [] first second = tt
both_of P Q (x ∷ xs) first second = ((first.0, second.0), both_of P Q xs first.1 second.1)

-- ---- the machine

going_on : (s t : State) → goes_on s ≡ goes_on t → s ≡ t
going_on s t is = cc

leave_counter : (fs : List Frame) (v : PureValue) (st s : State) → leave fs v st ≡ goes_on s → s.counter ≡ st.counter
leave_counter [] v st s is = absurd (cc)
leave_counter (f ∷ fs) v st s is = ap (λ (k : State). k.counter) (sym (going_on _ s is))

throw_counter : (o : Option Handling) (v : PureValue) (place : Place) (st s : State) → throw_to o v place st ≡ goes_on s → s.counter ≡ st.counter
throw_counter (Some h) v place st s is = ap (λ (k : State). k.counter) (sym (going_on _ s is))
throw_counter None v place st s is = absurd (cc)

after_counter : (how : Completion) (place : Place) (fs : List Frame) (v : PureValue) (st s : State) → after how place fs v st ≡ goes_on s → s.counter ≡ st.counter
after_counter Completion.Returns place fs v st s is = leave_counter fs v st s is
after_counter Completion.Throws place fs v st s is = throw_counter (handling fs) v place st s is

-- ---- the choice

abbrev pub posts_of : Completion → PureSpec → List (List PureItem)
posts_of Completion.Returns used = used.posts
posts_of Completion.Throws used = used.errors

abbrev pub first_of : Completion → PureSpec → ℕ
first_of Completion.Returns used = 0
first_of Completion.Throws used = length used.posts

module _ {S : Type 0} (p : PureParts) (memory : MemoryName) (m : Actions) (stands : S → List PureValue → Heap → Type 0) (terms : S → StateTerms) (meaning : IsMeaning memory stands terms) (kept : S → Type 0) (e : PureEntry) (y : PureChecking S) (may : MayGoOn p terms e y) (used : PureSpec)
    (good : IsGoodSpec memory used.name used) (here : Place) where
  -- what a state comes to that comes back so
  completes : (how : Completion) (entry : Entry) (d : Checked) (args : List PureValue) (place : Place) (found : Match) (out : Outcome) (fit : fit_params used.params args ≡ true)
      (matches : match_assertion p.preds (scope_of used) used.pre (entry_store used args []) (logic_state d) ≡ matched found) (i : ℕ)
      (comes : Comes p memory m entry used args found.store found.state (posts_of how used) (after how place d.machine.callers) d out) → comes.number ≡ i
      → (l : CalledIfFit p memory m entry (fit_params used.params args) used args place d out) × (choice_if_fit p memory m entry (fit_params used.params args) used args place d out l ≡ Some (first_of how used + i))
  completes how entry d args place found out fit matches i comes is =
      subst (λ b. (l : CalledIfFit p memory m entry b used args place d out) × (choice_if_fit p memory m entry b used args place d out l ≡ Some (first_of how used + i))) (sym fit)
      (subst (λ o. (l : Called p memory m entry used args place o d out) × (choice_of_called p memory m entry used args place o d out l ≡ Some (first_of how used + i))) (sym matches) (by how comes is))
    where
      by : (way : Completion) (comes_so : Comes p memory m entry used args found.store found.state (posts_of way used) (after way place d.machine.callers) d out) → comes_so.number ≡ i
          → (l : Called p memory m entry used args place (matched found) d out) × (choice_of_called p memory m entry used args place (matched found) d out l ≡ Some (first_of way used + i))
      by Completion.Returns comes_so is = let same : comes_so.number ≡ 0 + i = is ∙ omega arith in (inl comes_so, ap Some same)
      by Completion.Throws comes_so is = (inr comes_so, ap (λ n. Some (length used.posts + n)) is)

  module _ (q : PureMatch S) (q_vars : q.state.vars ≡ y.path.vars) (q_path : q.state.path ≡ y.path.choices) (q_longer : HaveMore y.path.conds q.state.conds) (over : MatchOver terms e y.path.given q)
      (found_there : (v : List PureValue) (entry : Entry) (d : Checked) (args : List PureValue) → StandsForChecked stands e y v entry d → HasArguments used args d → IsTrue (all_true v q.state.conds)
      → (fit_params used.params args ≡ true) × ((found : Match) × IsMatched p stands terms e used y q v entry d args found))
      (ready : PureReady S) (is_ready : IsReady (scope_of used) q ready) (how : Completion) where
    ready_vars : ready.state.vars ≡ y.path.vars ++ is_ready.naming.more
    ready_vars = is_ready.naming.grows ∙ ap (λ vs. vs ++ is_ready.naming.more) q_vars

    ready_conds : ready.state.conds ≡ q.state.conds
    ready_conds = ap (λ (s : PureState S). s.conds) is_ready.state

    ready_path : ready.state.path ≡ y.path.choices
    ready_path = ap (λ (s : PureState S). s.path) is_ready.state ∙ q_path

    -- a valuation of a state that was ready, and what it stands for there
    record Earlier : Type 0 where
      v : List PureValue
      values : List PureValue
      left : LogicState
      before : IsBefore memory stands terms kept (scope_of used) ready.store [] ready.state v left

    abbrev AddsFrom : List PureItem → Earlier → PureState S → Type 0
    AddsFrom items k r =
        IsMetAfter ready.state r (k.v ++ k.values) → AddsExactly memory stands terms kept (scope_of used) ready.store [] k.v k.left items (k.v ++ k.values) r

    abbrev AddsThere : List PureItem → PureState S → Type 0
    AddsThere items r = (k : Earlier) → AddsFrom items k r

    module _ (items : List PureItem) (i : ℕ) (is_post : slice_get (posts_of how used) i ≡ Some items) (r : PureState S) (f : IsFurther terms kept ready.state r) (adds : AddsThere items r) where
      abbrev rn : PureState S
      rn = with_number r (first_of how used + i)

      abbrev more : List Sort
      more = is_ready.naming.more ++ f.sorts

      r_vars : r.vars ≡ y.path.vars ++ more
      r_vars = f.vars ∙ (ap (λ vs. vs ++ f.sorts) ready_vars ∙ append_assoc y.path.vars is_ready.naming.more f.sorts)

      r_conds : r.conds ≡ q.state.conds ++ f.more
      r_conds = f.conds ∙ ap (λ cs. cs ++ f.more) ready_conds

      r_longer : HaveMore y.path.conds r.conds
      r_longer = longer_both y.path.conds q.state.conds r.conds q_longer (f.more, r_conds)

      rn_path : rn.path ≡ y.path.choices ++ (first_of how used + i) ∷ []
      rn_path = ap (λ cs. cs ++ (first_of how used + i) ∷ []) (ap (λ (s : PureState S). s.path) f.same_else ∙ ready_path)

      -- What the state stands for under a valuation: the call comes back with the term's value, to the state in which this was added.
      record Came (w : List PureValue) (entry : Entry) (d : Checked) (args : List PureValue) (place : Place) (counter : ℕ) : Type 0 where
        result : PureValue
        has : value w ready.result ≡ Some result
        logic : LogicState
        stands_r : states.Stands stands rn w logic
        on_path : Stands stands (with_state y.path rn) w (with_logic logic counter d).machine
        led : (out : Outcome) → out ≡ stepped p memory m entry (with_logic logic counter d) (after how place d.machine.callers result (with_logic logic counter d).machine) → LeadsByCall p memory m stands e used y here rn.path entry d args place (λ o. o ≡ out)

      module _ (no_form : has_open r.conds ≡ false) (v w : List PureValue) (entry : Entry) (d : Checked) (args : List PureValue) (place : Place) (standing : StandsForChecked stands e y v entry d) (arguments : HasArguments used args d)
          (new_vars : List Sort) (new_values : List PureValue) (table : r.vars ≡ y.path.vars ++ new_vars) (values : w ≡ v ++ new_values) (in_turn : AreNewValues d.machine.counter new_vars new_values) (meets : Satisfies r.vars w r.conds) where
        abbrev counter : ℕ
        counter = counter_past new_vars d.machine.counter

        new : (d.machine.counter ≤ counter) × AreBelow counter new_values
        new = new_below d.machine.counter new_vars new_values in_turn

        met_q : IsTrue (all_true v q.state.conds)
        met_q =
            (meets_part y.path.vars new_vars v new_values q.state.conds f.more standing.path.proper.one_each (subst (λ vs. Each (λ a. IsOver vs (term_of a)) q.state.conds) q_vars over.state.conds)
            (subst (λ cs. Satisfies (y.path.vars ++ new_vars) (v ++ new_values) cs) r_conds (subst (λ vs. Satisfies vs (v ++ new_values) r.conds) table (subst (λ u. Satisfies r.vars u r.conds) values meets)))).true_there

        fit : fit_params used.params args ≡ true
        fit = (found_there v entry d args standing arguments met_q).0

        abbrev found : Match
        found = (found_there v entry d args standing arguments met_q).1.0

        is : IsMatched p stands terms e used y q v entry d args found
        is = (found_there v entry d args standing arguments met_q).1.1

        goes : Goes (scope_of used) (entry_store used args []) found.store
        goes = match_goes p.preds (scope_of used) used.pre (entry_store used args []) (logic_state d) found is.matches

        found_sorted : HasSorts (scope_of used) found.store
        found_sorted = goes.sorts (entry_sorted memory used good args fit [] (λ x u none. not_none none))

        has_args : Agrees found.store (param_names used.params) args
        has_args k x u name at = goes.extends x u (first_value (bind_all (param_names used.params) args) [] x u (args_agree (param_names used.params) args good.distinct k x u name at))

        -- ---- the valuation of the state that was ready

        same_new : new_vars ≡ is_ready.naming.more ++ f.sorts
        same_new = append_cancel_left y.path.vars new_vars (is_ready.naming.more ++ f.sorts) (sym table ∙ r_vars)

        two : InTwo is_ready.naming.more new_values
        two = in_two d.machine.counter is_ready.naming.more f.sorts new_values (subst (λ vs. AreNewValues d.machine.counter vs new_values) same_new in_turn)

        abbrev u : List PureValue
        u = v ++ two.first

        w_is : w ≡ u ++ two.second
        w_is = values ∙ (ap (λ us. v ++ us) two.both ∙ sym (append_assoc v two.first two.second))

        one_each : length v ≡ length q.state.vars
        one_each = standing.path.proper.one_each ∙ ap length (sym q_vars)

        u_count : length u ≡ length ready.state.vars
        u_count = both_lengths v two.first q.state.vars is_ready.naming.more one_each two.counted ∙ ap length (sym is_ready.naming.grows)

        proper_u : IsProper ready.state.vars u
        proper_u = proper_part ready.state.vars f.sorts u two.second u_count (subst (λ vs. IsProper vs (u ++ two.second)) f.vars (subst (IsProper r.vars) w_is meets.proper))

        ready_stands : states.Stands stands ready.state u found.state
        ready_stands = subst (λ s. states.Stands stands s u found.state) (sym is_ready.state) (record {
          proper = proper_u;
          meets = all_true-more q.state.vars v two.first one_each q.state.conds over.state.conds ∙ is.serves.state.meets;
          memory = meaning.local q.state.memory v u found.state.heap (each_to (IsOver q.state.vars) (λ t. AgreeOn (variables t) v u) (all_of (terms q.state.memory)) (agree_more q.state.vars v two.first one_each) over.state.memory) is.serves.state.memory;
          facts = facts_more q.state.vars v two.first one_each q.state.facts found.state.facts over.state.facts is.serves.state.facts;
        })

        store_u : StandsFor u q.store found.store
        store_u = store_more q.state.vars v two.first one_each q.store found.store over.store is.serves.store

        over_ready : ReadyOver terms e y.path.given ready
        over_ready = ready_over terms e y.path.given (scope_of used) q over ready is_ready

        named : (t : Store) × (AddsNames (scope_of used) only_result q.state.vars q.store found.store t × StandsFor u ready.store t)
        named = is_ready.naming.exact u found.store (proper_sorts ready.state.vars u proper_u) store_u

        sorted : HasSorts (scope_of used) named.0
        sorted x z at = ⊎_elim (λ before. found_sorted x z before) (λ fresh. fresh.1) (named.1.0.added x z at)

        added : IsAddingOf memory stands terms kept (scope_of used) ready.store [] named.0 found.state items (u ++ two.second) r
        added =
            let earlier : Earlier = record { v = u; values = two.second; left = found.state; before = record { over = over_ready.state; store_over = over_ready.store; conds_over = tt; stands_for = ready_stands } } in
            let met : IsMetAfter ready.state r (u ++ two.second) = record {
              meets = subst (λ z. Satisfies r.vars z r.conds) w_is meets;
              no_form = ap has_open (added_is ready.state r f.more f.conds) ∙ (none_open ready.state.conds f.more (ap has_open (sym f.conds) ∙ no_form)).1;
            } in
            (adds earlier met).adding named.0 named.1.1 sorted

        result : (z : PureValue) × ((value_of named.0 result_name ≡ Some z) × (value u ready.result ≡ Some z))
        result = by (value_of named.0 result_name) refl (subst (λ o. AreSame u o (value_of named.0 result_name)) is_ready.result (named.1.1 result_name))
          where
            by : (o : Option PureValue) → value_of named.0 result_name ≡ o → AreSame u (Some ready.result) o → (z : PureValue) × ((value_of named.0 result_name ≡ Some z) × (value u ready.result ≡ Some z))
            by (Some z) at same = (z, (at, same))
            by None at same = absurd same

        has : value w ready.result ≡ Some result.0
        has = ap (λ z. value z ready.result) w_is ∙ (stay_when_tables_grow.values ready.result ready.state.vars u two.second over_ready.result u_count ∙ result.1.1)

        stands_r : states.Stands stands rn w added.next
        stands_r =
            let there : states.Stands stands r w added.next = subst (λ z. states.Stands stands r z added.next) (sym w_is) added.stands_for in
            record { proper = there.proper; meets = there.meets; memory = there.memory; facts = there.facts }

        abbrev later : Checked
        later = with_logic added.next counter d

        on_path : Stands stands (with_state y.path rn) w later.machine
        on_path = stands_there p memory m stands terms meaning e y may rn new_vars table v w new_values entry d added.next counter is_over values standing stands_r new.0 new.1

        standing_there : StandsForChecked stands e (record { path = with_state y.path rn; facts = r.facts; passed = y.passed }) w entry later
        standing_there = record {
          entered = entered_there p memory m stands terms meaning e y may rn new_vars table v w new_values entry d added.next counter is_over values standing stands_r new.0 new.1;
          path = on_path;
          facts = stands_r.facts;
          passed = passed_longer memory stands terms meaning e y may.over v w new_values entry d values standing;
        }

        above : IsAbove later
        above = stands_above memory stands terms meaning e (record { path = with_state y.path rn; facts = r.facts; passed = y.passed }) w entry later standing_there

        result_below : AreBelow counter (result.0 ∷ [])
        result_below =
            let in_store : IsStoreBelow counter named.0 = store_below counter w on_path.symbols_below ready.store named.0 (subst (λ z. StandsFor z ready.store named.0) (sym w_is) (store_more ready.state.vars u two.second u_count ready.store named.0 over_ready.store named.1.1)) in
            each_below counter (result.0 ∷ []) (in_store result_name result.0 result.1.0, tt)

        post_store : IsPostStore used args found.store result.0 added.store
        post_store = record {
          parameters = λ k x z name at. added.extends x z (named.1.0.extends x z (has_args k x z name at));
          variables_stay = λ x z at. added.extends x z (named.1.0.extends x z at);
          result = added.extends result_name result.0 result.1.0;
          sorts = added.sorts;
        }

        abbrev comes : (out : Outcome) → out ≡ stepped p memory m entry later (after how place d.machine.callers result.0 later.machine) → Comes p memory m entry used args found.store found.state (posts_of how used) (after how place d.machine.callers) d out
        comes out leads = record {
          number = i;
          items = items;
          is_post = is_post;
          result = result.0;
          store = added.store;
          is_store = post_store;
          state = added.next;
          adding = added.adding;
          counter = counter;
          not_lower = new.0;
          below = above;
          result_below = result_below;
          leads = leads;
        }

        came : Came w entry d args place counter
        came = record {
          result = result.0;
          has = has;
          logic = added.next;
          stands_r = stands_r;
          on_path = on_path;
          led = λ out leads.
              let (l, chosen) = completes how entry d args place found out fit is.matches i (comes out leads) refl in
              record { chosen = Some (first_of how used + i); choices_are = rn_path; outcome = out; leads = l; choice = chosen; is = refl };
        }

      -- ---- a path that goes on

      module _ (next : PurePath S) (k : PureNext S) (keeps : KeepsAllButFrames stands terms (with_state y.path rn) ready.result next) (answered : IsAnswered stands terms rn.facts y.passed next k) (no_form : has_open r.conds ≡ false)
          (goes_there : (place : Place) (w : List PureValue) (d : State) (result : PureValue) → Stands stands (with_state y.path rn) w d → value w ready.result ≡ Some result → StandsWhereGoesOn stands next w (after how place d.callers result d))
          (met : (w : List PureValue) × Satisfies r.vars w r.conds) where
        answer : (z : PureChecking S) × ((k ≡ further z) × GoesOnWith stands terms rn.facts y.passed next z)
        answer =
            let still : next.ending ≡ None = ap (λ (n : PurePath S). n.ending) keeps.same_else ∙ may.no_end in
            subst (λ o. IsAnswerTo stands terms rn.facts y.passed next o k) still answered

        abbrev z : PureChecking S
        z = answer.0

        same_vars : z.path.vars ≡ r.vars
        same_vars = ap (λ (n : PurePath S). n.vars) answer.1.1.same_path ∙ ap (λ (n : PurePath S). n.vars) keeps.same_else

        same_conds : z.path.conds ≡ r.conds
        same_conds = ap (λ (n : PurePath S). n.conds) answer.1.1.same_path ∙ ap (λ (n : PurePath S). n.conds) keeps.same_else

        same_choices : z.path.choices ≡ rn.path
        same_choices = ap (λ (n : PurePath S). n.choices) answer.1.1.same_path ∙ ap (λ (n : PurePath S). n.choices) keeps.same_else

        goes_on_so : (v w : List PureValue) (entry : Entry) (d : Checked) (args : List PureValue) (place : Place) (under_it : IsUnderCall p memory m stands e used y here z.path.vars z.path.conds v w entry d args)
            → LeadsOnByCall p memory m stands e used y here z w entry d args place under_it.continued.new_vars
        goes_on_so v w entry d args place under_it =
            let new_vars = under_it.continued.new_vars in
            let new_values = under_it.continued.new_values in
            let table : r.vars ≡ y.path.vars ++ new_vars = sym same_vars ∙ under_it.continued.table in
            let meets : Satisfies r.vars w r.conds = subst (λ vs. Satisfies vs w r.conds) same_vars (subst (λ cs. Satisfies z.path.vars w cs) same_conds under_it.meets) in
            let c = came no_form v w entry d args place under_it.standing under_it.arguments new_vars new_values table under_it.continued.values under_it.continued.in_turn meets in
            let counter = counter_past new_vars d.machine.counter in
            by v w entry d args place new_vars new_values under_it.continued.values under_it.standing c
            (after how place d.machine.callers c.result (with_logic c.logic counter d).machine) refl (goes_there place w (with_logic c.logic counter d).machine c.result c.on_path c.has)
          where
            by : (v w : List PureValue) (entry : Entry) (d : Checked) (args : List PureValue) (place : Place) (new_vars : List Sort) (new_values : List PureValue) → w ≡ v ++ new_values → StandsForChecked stands e y v entry d
                → (c : Came w entry d args place (counter_past new_vars d.machine.counter)) → (step : Step) → after how place d.machine.callers c.result (with_logic c.logic (counter_past new_vars d.machine.counter) d).machine ≡ step → StandsWhereGoesOn stands next w step
                → LeadsOnByCall p memory m stands e used y here z w entry d args place new_vars
            by v w entry d args place new_vars new_values values standing c (ends end) steps stood = absurd stood
            by v w entry d args place new_vars new_values values standing c (goes_on s) steps stood =
                let counter = counter_past new_vars d.machine.counter in
                let later = with_logic c.logic counter d in
                let led = c.led (goes_on_to (moved later s)) (sym (ap (stepped p memory m entry later) steps)) in
                record {
                  state = moved later s;
                  led = record { chosen = led.chosen; choices_are = same_choices ∙ led.choices_are; outcome = led.outcome; leads = led.leads; choice = led.choice; is = led.is };
                  stands_for = goes_stands memory stands terms meaning e y may.over next rn.facts y.passed z answer.1.1 v w new_values entry d later s values standing stood c.stands_r.facts (passed_longer memory stands terms meaning e y may.over v w new_values entry d values standing);
                  counted = after_counter how place d.machine.callers c.result later.machine s steps;
                }

        keeps_exact : IsExactCall p memory m stands e used y here k
        keeps_exact = subst (IsExactCall p memory m stands e used y here) (sym answer.1.0) (record {
          table = (more, same_vars ∙ r_vars);
          longer = subst (HaveMore y.path.conds) (sym same_conds) r_longer;
          met = λ v before. (met.0, subst (λ cs. Satisfies z.path.vars met.0 cs) (sym same_conds) (subst (λ vs. Satisfies vs met.0 r.conds) (sym same_vars) met.1));
          exact = goes_on_so;
        })

      -- ---- a throw that ends the entry

      module _ (path : PurePath S) (no_frame : path ≡ record (with_state y.path rn) { stack = [] }) (qs : PureState S) (is_state : IsStateOf stands terms path rn.facts qs) (no_form : has_open r.conds ≡ false)
          (throws : (place : Place) (w : List PureValue) (d : State) (result : PureValue) → Stands stands (with_state y.path rn) w d → after how place d.callers result d ≡ ends (end_at d (threw result place)))
          (met : (w : List PureValue) × Satisfies r.vars w r.conds) where
        path_vars : path.vars ≡ r.vars
        path_vars = ap (λ (n : PurePath S). n.vars) no_frame

        path_conds : path.conds ≡ r.conds
        path_conds = ap (λ (n : PurePath S). n.conds) no_frame

        path_choices : path.choices ≡ rn.path
        path_choices = ap (λ (n : PurePath S). n.choices) no_frame

        qs_vars : qs.vars ≡ r.vars
        qs_vars = ap (λ (s : PureState S). s.vars) is_state.is ∙ path_vars

        qs_conds : qs.conds ≡ r.conds
        qs_conds = ap (λ (s : PureState S). s.conds) is_state.is ∙ path_conds

        all_before : (w : List PureValue) (atoms : List PureAtom) → HaveMore r.conds atoms → Satisfies r.vars w atoms → Satisfies r.vars w r.conds
        all_before w atoms (rest, is) sat = record { proper = sat.proper; true_there = first_true w r.conds rest (subst (λ cs. IsTrue (all_true w cs)) is sat.true_there) }

        fails_so : (conds : List PureAtom) → HaveMore r.conds conds → ((w : List PureValue) → IsTrue (all_true w conds) → MeetsNone p stands e e.spec.errors ready.result qs w) → (shown : PureShown) → shown.vars ≡ path.vars → shown.choices ≡ path.choices → shown.conds ≡ conds
            → (v w : List PureValue) (entry : Entry) (d : Checked) (args : List PureValue) (place : Place) → IsUnderCall p memory m stands e used y here shown.vars shown.conds v w entry d args
            → LeadsByCall p memory m stands e used y here shown.choices entry d args place (λ out. out ≡ has_fault post)
        fails_so conds grown fails shown vars_are choices_are conds_are v w entry d args place under_it =
            let new_vars = under_it.continued.new_vars in
            let new_values = under_it.continued.new_values in
            let counter = counter_past new_vars d.machine.counter in
            let table : r.vars ≡ y.path.vars ++ new_vars = sym path_vars ∙ (sym vars_are ∙ under_it.continued.table) in
            let sat : Satisfies r.vars w conds = subst (λ vs. Satisfies vs w conds) (vars_are ∙ path_vars) (subst (λ cs. Satisfies shown.vars w cs) conds_are under_it.meets) in
            let c = came no_form v w entry d args place under_it.standing under_it.arguments new_vars new_values table under_it.continued.values under_it.continued.in_turn (all_before w conds grown sat) in
            let later = with_logic c.logic counter d in
            let new = new_below d.machine.counter new_vars new_values under_it.continued.in_turn in
            let entered : IsEntered w e entry = entered_there p memory m stands terms meaning e y may rn new_vars table v w new_values entry d c.logic counter is_over under_it.continued.values under_it.standing c.stands_r new.0 new.1 in
            let stood : states.Stands stands qs w c.logic = state_there p memory m stands terms meaning e y may rn new_vars table v w new_values entry d c.logic counter is_over under_it.continued.values under_it.standing c.stands_r new.0 new.1 qs path no_frame is_state in
            let none : some_matches p entry e.spec.errors (result_store entry c.result) c.logic ≡ false = fails w sat.true_there entry c.logic c.result entered stood c.has in
            let none_there : some_matches p entry entry.spec.errors (result_store entry c.result) c.logic ≡ false = ap (λ s. some_matches p entry s.errors (result_store entry c.result) c.logic) entered.spec ∙ none in
            let ends_so = throws place w later.machine c.result c.on_path in
            let led = c.led (has_fault post) (sym (ap (stepped p memory m entry later) ends_so ∙ ap (λ b. over_or b post) none_there)) in
            record { chosen = led.chosen; choices_are = choices_are ∙ (path_choices ∙ led.choices_are); outcome = led.outcome; leads = led.leads; choice = led.choice; is = led.is }

        shown_so : (conds : List PureAtom) → HaveMore r.conds conds → (shown : PureShown) → shown.place ≡ here → shown.vars ≡ path.vars → shown.conds ≡ conds → ((z : List PureValue) → shown.valuation ≡ Some z → Satisfies r.vars z conds)
            → IsShownFrom p memory m stands e used y here shown
        shown_so conds grown shown place_is vars_are conds_are known = record {
          place = place_is;
          table = (more, vars_are ∙ (path_vars ∙ r_vars));
          longer = subst (HaveMore y.path.conds) (sym conds_are) (longer_both y.path.conds r.conds conds r_longer grown);
          known = λ z is. subst (λ cs. Satisfies shown.vars z cs) (sym conds_are) (subst (λ vs. Satisfies vs z conds) (sym (vars_are ∙ path_vars)) (known z is));
        }

        grown_from : (conds : List PureAtom) → HaveMore qs.conds conds → HaveMore r.conds conds
        grown_from conds longer = subst (λ cs. HaveMore cs conds) qs_conds longer

        no_more : HaveMore r.conds r.conds
        no_more = ([], sym (append-nil r.conds))

        right : (doubt : PureDoubt) → IsDoubtIn qs (MeetsNone p stands e e.spec.errors ready.result qs) doubt → IsRightCall p memory m stands e used y here (doubt_cause FaultKind.Post (shown_of here path) doubt)
        right always fails = record {
          at = shown_so r.conds no_more (shown_of here path) refl refl path_conds (λ z none. not_none none);
          met = λ v before. (met.0, subst (λ cs. Satisfies path.vars met.0 cs) (sym path_conds) (subst (λ vs. Satisfies vs met.0 r.conds) (sym path_vars) met.1));
          exact = fails_so r.conds no_more (λ w true_there. fails w (subst (λ cs. IsTrue (all_true w cs)) (sym qs_conds) true_there)) (shown_of here path) refl refl path_conds;
        }
        right (under conds u) (longer, sat, fails) = record {
          at = shown_so conds (grown_from conds longer) (record (shown_of here path) { conds = conds; valuation = Some u }) refl refl refl (λ z is. subst (λ k. Satisfies r.vars k conds) (same_some is) (subst (λ vs. Satisfies vs u conds) qs_vars sat));
          met = λ v before. (u, subst (λ vs. Satisfies vs u conds) (qs_vars ∙ sym path_vars) sat);
          exact = fails_so conds (grown_from conds longer) fails (record (shown_of here path) { conds = conds; valuation = Some u }) refl refl refl;
        }
        right (beyond conds reason) (longer, outside) = record {
          at = shown_so conds (grown_from conds longer) (record (shown_of here path) { conds = conds }) refl refl refl (λ z none. not_none none);
          chosen = Some (first_of how used + i);
          choices = path_choices ∙ rn_path;
          outside = outside.outside;
          first = outside.first;
        }

        ends_exact : (k : PureNext S) → FinishesExactly p stands e e.spec.errors ready.result here path qs k → IsExactCall p memory m stands e used y here k
        ends_exact k (inl done) = subst (IsExactCall p memory m stands e used y here) (sym done) tt
        ends_exact k (inr (doubt, (told, (cause, (is, shows))))) =
            subst (IsExactCall p memory m stands e used y here) (sym is) (subst (IsRightCall p memory m stands e used y here) (sym shows) (right doubt told))

      -- ---- one state

      after_exact : has_open r.conds ≡ false → (w : List PureValue) × Satisfies r.vars w r.conds → (k : PureNext S) (way : Completion) → how ≡ way → GoesOnAfter p stands terms e y here way ready.result rn k → IsExactCall p memory m stands e used y here k
      after_exact no_form met k Completion.Returns is (next, (left, answered)) =
          keeps_exact next k left.keeps answered no_form (λ place w d result on has. subst (λ h. StandsWhereGoesOn stands next w (after h place d.callers result d)) (sym is) (left.stands_for w d result on has)) met
      after_exact no_form met k Completion.Throws is (caught next, (thrown, answered)) =
          keeps_exact next k thrown.keeps answered no_form (λ place w d result on has. subst (λ h. StandsWhereGoesOn stands next w (after h place d.callers result d)) (sym is) (thrown.stands_for w d result place on has)) met
      after_exact no_form met k Completion.Throws is (uncaught next, (thrown, (qs, (is_state, finishes, exactly)))) =
          ends_exact next thrown.no_frame qs is_state no_form (λ place w d result on. subst (λ h. after h place d.callers result d ≡ ends (end_at d (threw result place))) (sym is) (thrown.ends_there w d result place on)) met k exactly

      completed_exact : (k : PureNext S) → IsCompleted p stands terms e y here how (first_of how used + i) ready.result r k → IsExactCall p memory m stands e used y here k
      completed_exact k (inl (met, no_form, goes)) = after_exact no_form met k how refl goes
      completed_exact k (inr (inl (done, unsat))) = subst (IsExactCall p memory m stands e used y here) (sym done) tt
      completed_exact k (inr (inr (reason, (outside, (cause, (is, shows)))))) =
          subst (IsExactCall p memory m stands e used y here) (sym is) (subst (IsRightCall p memory m stands e used y here) (sym shows) (record {
            at = record { place = refl; table = (more, r_vars); longer = r_longer; known = λ z none. not_none none };
            chosen = Some (first_of how used + i);
            choices = rn_path;
            outside = outside.outside;
            first = outside.first;
          }))

    -- ---- all states, and all postconditions

    post_exact : (items : List PureItem) (i : ℕ) → slice_get (posts_of how used) i ≡ Some items → (ks : List (PureNext S)) → AnswersPost p memory stands terms kept e y here (scope_of used) ready how (first_of how used + i) items ks → AreExactCall p memory m stands e used y here ks
    post_exact items i at ks (rs, (adds, each)) =
        let over_ready = ready_over terms e y.path.given (scope_of used) q over ready is_ready in
        each_across (IsCompleted p stands terms e y here how (first_of how used + i) ready.result) (λ r. IsFurther terms kept ready.state r × AddsThere items r) (IsExactCall p memory m stands e used y here) rs ks each
        (λ r k done (f, exactly). completed_exact items i at r f exactly k done)
        (both_of (IsFurther terms kept ready.state) (AddsThere items) rs (adds.follow over_ready.state over_ready.store tt)
        (each_for_all (AddsFrom items) rs (λ k. adds.exact k.v k.values k.left k.before)))

    pub posts_exact : (ks : List (PureNext S)) → AnswersPosts p memory stands terms kept e y here (scope_of used) ready how (first_of how used) (posts_of how used) ks → AreExactCall p memory m stands e used y here ks
    posts_exact ks gathers =
        all_gathered (AnswersOneOf p memory stands terms kept e y here (scope_of used) ready how (first_of how used) (posts_of how used)) (IsExactCall p memory m stands e used y here) (posts_of how used) ks gathers
        (λ items ns (i, (at, answers)). post_exact items i at ns answers)
