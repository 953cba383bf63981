-- Which states of the machine a checked state stands for, beside any rest of the heap; and that starts and steps keep it.
use Rattle.std.proofs.Common.{◌≡◌, ◌⊎◌, ⊎_elim, inl, inr, ℕ, zero, suc, ◌+◌, ◌<◌, ◌≤◌, ℤ, List, [], ◌∷◌, ◌++◌, Bool, true, false, ◌&&◌, ◌||◌, map, cond, All, Option, Some, None, is_some, slice_get, Ok, Err, refl, sym, ap, subst, ◌∙◌, arith}
use Rattle.std.specs.Prelude.{codes}
use Rattle.std.specs.FinMap.{empty}
use Rattle.std.specs.Option.{option_and_then}
use Rattle.std.specs.Str.{bytes_eq}
use Rattle.std.proofs.lemmas.Slice.Eq.{bytes_eq-Decides}
use Rattle.std.specs.List.{list_all}
use Rattle.std.proofs.lemmas.Bool.{and_parts}
use Rattle.std.proofs.lemmas.List.Folds.{list_all-append}
use Rattle.std.proofs.lemmas.List.Elements.{All-nil, All-weaker}
use Rattle.gil_values.specs.declared.places.Place.{Place}
use Rattle.gil_values.specs.declared.kinds.Kind.{Kind}
use Rattle.gil_values.specs.Equality.{same_kind, same_elements}
use Rattle.gil_values.specs.Pure.{PureValue, text, kind_of}
use Rattle.gil_values.specs.Symbols.{OccursIn, IsBelow, AreBelow}
use Rattle.gil_syntax.specs.declared.assertions.Param.{Param}
use Rattle.gil_syntax.specs.Pure.{PureExpr, PurePredUse, PureItem, PureCommand, assign, call, act, usym, isym, ifgoto, return, fail, throw, vanish, fold_use, unfold_use, assert_that, loop_invariant, PureNumberedCommand, PureProc, PureSpec, PurePredDef, PureParts}
use Rattle.gil_syntax.specs.Evaluation.{Store, bind, Outcomes, value_of, evaluate_all}
use Rattle.gil_syntax.specs.Programs.{find_proc, find_spec, find_pred}
use Rattle.gil_syntax.specs.Subexpressions.{exprs_of}
use Rattle.gil_syntax.specs.Valid.{param_names, is_among, IsValid}
use Rattle.gil_syntax.specs.WellMade.{has_hash, has_well_made_names, is_well_made_command, is_well_made, is_well_made_expr, is_well_made_assertion}
use Rattle.gil_syntax.proofs.Symbols.{HoldsOfAll, HoldsInStore, each_of_all, all_of_each}
use Rattle.mem_model.specs.declared.cores.Core.{Core}
use Rattle.mem_model.specs.declared.keys.Key.{Key}
use Rattle.mem_model.specs.declared.keys.MemoryName.{MemoryName}
use Rattle.mem_model.specs.CoreNames.{core_of}
use Rattle.mem_model.specs.Actions.{Actions, ActionResult, IsMemory}
use Rattle.mem_model.specs.Heaps.{Heap, IsWellFormed, IsCompatible, IsHeapOf, IsHeapBelow, joined}
use Rattle.gil_machine.specs.Beside.{beside, step_beside, heap_after}
use Rattle.gil_machine.specs.Choices.{of_values, missed_key, result_of, miss_at}
use Rattle.gil_machine.specs.Proper.{IsStoreBelow, IsFrameBelow, IsProperState, IsEndingBelow, IsProperEnd, IsProperStep}
use Rattle.gil_machine.specs.Run.{after, run, reached as reached_in, params_of, start}
use Rattle.gil_machine.specs.State.{Frame, State, End, Ending, returned, threw, failed, vanished, no_input, bad_input, cut, Step, goes_on, ends, end_at, IsFailed}
use Rattle.gil_machine.specs.Step.{first_frame, resumed, leave, Handling, handling, caught, throw_to, handler_label, to_next, assigned, draw, command_of, command_at, action_result, do_command, step_at, step}
use Rattle.gil_machine.proofs.Beside.{steps_are_local, misses_fail}
use Rattle.gil_machine.proofs.Above.{steps_above_frames, reaches_above_frames, ends_above_frames}
use Rattle.gil_machine.proofs.Proper.{Below, MadeCommand, find_made, command_made, procs_made, stays_proper, ends_proper}
use Rattle.gil_machine.proofs.Runs.{cut_at_its_bound}
use Rattle.gil_machine.specs.Above.{above, at_end, ending_above, step_above}
use Rattle.assert_logic.specs.Adding.{IsAdding}
use Rattle.assert_logic.specs.LogicStates.{Fact, LogicState, nothing, FactsHold, Realizes}
use Rattle.assert_logic.specs.Matching.{Match, Matching, matched, stops, CaseMatch, FoundFact, all_agree, fits_fact, first_fact, match_assertion, match_fold}
use Rattle.assert_logic.specs.Meets.{Meets, HoldsAt, HoldsSomewhere}
use Rattle.assert_logic.specs.Laws.{IsKnownSymbol}
use Rattle.assert_logic.specs.Names.{named_by_items}
use Rattle.assert_logic.specs.Modes.{precondition, postcondition, is_variable_of, either, first_fault, assertion_fault, HasModes}
use Rattle.assert_logic.specs.Sorts.{HasSorts, Extends}
use Rattle.assert_logic.specs.Unions.{IsUnion}
use Rattle.assert_logic.proofs.AddedFacts.{added_facts}
use Rattle.assert_logic.proofs.AddingLaws.{realizes_with_fact, adding_is_complete}
use Rattle.assert_logic.proofs.CaseLaws.{fold_splits, assertion_splits}
use Rattle.assert_logic.proofs.FoldedOuts.{fold_outs}
use Rattle.assert_logic.proofs.InventionLaws.{HeapHolds, KnownHold, part_holds, meeting_invents_nothing}
use Rattle.assert_logic.proofs.MeetLaws.{meets_wider}
use Rattle.assert_logic.proofs.SplitLaws.{found_fits, found_splits}
use Rattle.assert_logic.proofs.MatchedValues.{FactHolds, EachFactHolds, StateHolds, facts_hold_after, found_holds, values_of_exprs, cases_made, fold_holds, assertion_holds}
use Rattle.assert_logic.proofs.UnionLaws.{union_commutes, union_with_none, union_after_none, regrouped, ungrouped}
use Rattle.checked_runs.specs.Checked.{Passed, Checked, Outcome, goes_on_to, has_fault, Fault, missing, post, call_precondition, fold_body, Entry, logic_state, with_logic, moved, variables_in, logicals_in, names_at, has_all, known_fit, unlisted_in, passed_at, current_passed, invariant_match, at_invariant, PassesFirst, IsAsBefore, Visits, Draws, folded, fold_by, Unfolds, UnfoldsFound, UnfoldsBy, asserted, Comes, Called, CalledIfFit, Entered, Calls, is_call, used_in, used_by, over_or, some_matches, result_store, fails_or_misses, ended, stepped, Leads, LeadsAt, LeadsBy, IsStart, IsReachedIn}
use Rattle.checked_runs.specs.Laws.{IsChosen, AreVerified}
use Rattle.checked_runs.specs.Specifications.{fit_params, IsEntry, entry_store, result_name, IsPostStore, Leaves as LeavesIt, EndsAsTold}
use Rattle.checked_runs.proofs.Entries.{meets_further, entry_holds, entry_sorted, variables_of_call, call_enters, call_keeps, call_store, call_entry_store, call_holds, returned_meets}
use Rattle.checked_runs.proofs.Justified.{same_next, IsJustified, reached_justified}
use Rattle.checked_runs.proofs.Forms.{IsCalm, EndsThere, Form, IsNoDraw, command_form, redrawn, command_redrawn}
use Rattle.checked_runs.proofs.Runs as runs
use Rattle.checked_runs.proofs.Runs.{named_has_value}
use Rattle.checked_runs.proofs.Stores.{same_some, one_of_two, all_at, no_value, either_value, fit_length, spec_at, IsGoodSpec, good_spec}
use Rattle.checked_runs.proofs.Parts.{union_parts, facts_below, facts_raised, store_raised}
use Rattle.checked_runs.proofs.Readable.{either_none, first_fault_at, place_of, value_at_place, in_heap_below, same_ok, items_made, all_below_one, case_reads, case_values}
use Rattle.checked_runs.proofs.Remainders.{listed_in, declared_in, items_in, match_was, fit_sorts, before_stable, passed_justified}

module _ (p : PureParts) (memory : MemoryName) where
  -- The frames and the counter are equal. What isn't the rest realizes the logic state. All symbols are below the counter.
  pub record IsRealized (entry : Entry) (c : Checked) (rest : Heap) (s : State) : Type 0 where
    pub own : Heap
    pub union : IsUnion s.heap own rest
    pub realizes : Realizes p.preds (logic_state c) own
    pub same_current : s.current ≡ c.machine.current
    pub same_callers : s.callers ≡ c.machine.callers
    pub same_counter : s.counter ≡ c.machine.counter
    pub proper : IsProperState memory s
    pub facts : EachFactHolds (Below c.machine.counter) c.facts
    pub variables : IsStoreBelow c.machine.counter entry.variables

  -- ---- a state to which an assertion is added

  -- the heap of a state that a part of a proper heap realizes
  pub state_heap : (s : LogicState) (h own rest : Heap) (counter : ℕ) → IsUnion h own rest → Realizes p.preds s own → IsHeapOf memory h → IsHeapBelow counter h → IsHeapOf memory s.heap × IsHeapBelow counter s.heap
  state_heap s h own rest counter u r is below = (
    (union_parts memory own s.heap r.own r.union (union_parts memory h own rest u is).0).0,
    (part_holds (Below counter) own s.heap r.own r.union (part_holds (Below counter) h own rest u below).0).0,
  )

  -- ---- the start

  module _ (entry : Entry) (good : IsGoodSpec memory entry.spec.name entry.spec) where
    pub start_realized : (part rest : Heap) (s : State) → IsEntry entry.spec entry.args entry.variables → Meets (HoldsSomewhere p.preds) (entry_store entry.spec entry.args entry.variables) entry.spec.pre part → IsUnion s.heap part rest
        → s.current ≡ first_frame entry.spec.name (params_of (find_proc p.procs entry.spec.name)) entry.args → s.callers ≡ [] → IsProperState memory s → AreBelow s.counter entry.args → IsStoreBelow s.counter entry.variables
        → (m : Actions) → (c : Checked) × (IsStart p memory m entry c × IsRealized entry c rest s)
    start_realized part rest s entered meets union current callers proper args_below variables_below m =
        let (t, (is_added, realizes)) = adding_is_complete p.preds (entry_store entry.spec entry.args entry.variables) entry.spec.pre nothing empty part part (record { own = empty; union = union_with_none empty; facts = refl }) (union_after_none part) meets in
        let (is_heap, heap_below) = state_heap t s.heap part rest s.counter union realizes proper.heap proper.heap_below in
        let store_holds = entry_holds (Below s.counter) entry.spec entry.args entry.variables (all_of_each (Below s.counter) entry.args args_below) variables_below in
        let made = (and_parts (is_well_made_assertion entry.spec.pre) _ good.made).0 in
        let facts = added_facts (Below s.counter) (entry_store entry.spec entry.args entry.variables) (λ x. true) (λ x v known is. store_holds x v is) entry.spec.pre nothing t is_added made (λ x is. refl) tt in
        let c : Checked = record { machine = start p entry.spec.name entry.args t.heap s.counter; facts = t.facts; passed = [] ∷ [] } in (
          c,
          (
            record {
              entered = entered;
              state = t;
              adding = record { added_is = is_added; well_formed = is_heap };
              counter = s.counter;
              is_start = refl;
              above = record {
                heap_below = heap_below;
                current_below = subst (IsFrameBelow s.counter) current proper.current_below;
                callers_below = All-nil (IsFrameBelow s.counter);
                facts_below = facts_below s.counter t.facts facts;
              };
              variables_below = variables_below;
            },
            record {
              own = part;
              union = union;
              realizes = realizes;
              same_current = current;
              same_callers = callers;
              same_counter = refl;
              proper = proper;
              facts = facts;
              variables = variables_below;
            },
          ),
        )

  -- ---- misses

  missed_redrawn : (m : Actions) (c : PureCommand) (s : State) (d : ℕ) → result_of p m c (record s { draws = d }) ≡ result_of p m c s
  missed_redrawn m (assign x e) s d = refl
  missed_redrawn m (call x e es handler) s d = refl
  missed_redrawn m (act x a es) s d = ap (λ f. of_values f (evaluate_all es s.current.store)) (ap (λ g. (λ args. Some (g args))) (taken (m.takes_symbol a)))
    where
      taken : (b : Bool) → ◌≡◌ {A = List PureValue → ActionResult} (λ args. action_result b m a args (record s { draws = d })) (λ args. action_result b m a args s)
      taken true = refl
      taken false = refl
  missed_redrawn m (usym x) s d = refl
  missed_redrawn m (isym x k) s d = refl
  missed_redrawn m (ifgoto e i) s d = refl
  missed_redrawn m (return e) s d = refl
  missed_redrawn m (fail e) s d = refl
  missed_redrawn m (throw e) s d = refl
  missed_redrawn m vanish s d = refl
  missed_redrawn m (fold_use u) s d = refl
  missed_redrawn m (unfold_use u) s d = refl
  missed_redrawn m (assert_that items) s d = refl
  missed_redrawn m (loop_invariant xs ps items) s d = refl

  -- ---- steps of the machine

  module _ (m : Actions) (chosen : List ℕ → Bool) (inputs : List PureValue) (made : is_well_made p ≡ true) (valid : IsValid p) (modes : HasModes p memory) (is_memory : IsMemory memory m) (verified : AreVerified p memory m chosen) where
    -- what is to be shown of the run from a state
    abbrev pub Shown : Entry → Heap → End → Type 0
    Shown entry rest e = EndsAsTold p entry.spec entry.args entry.variables rest e.ending e.heap

    abbrev pub IsSimulated : ℕ → Type 0
    IsSimulated k =
        (entry : Entry) (n : ℕ) (c : Checked) (rest : Heap) (s : State) → IsChosen p chosen entry.spec → IsReachedIn p memory m entry n c → IsRealized entry c rest s → Shown entry rest (run p m inputs k s)

    module _ (entry : Entry) (is_chosen : IsChosen p chosen entry.spec) (n : ℕ) (c : Checked) (reached : IsReachedIn p memory m entry n c) (rest : Heap) (s : State) (real : IsRealized entry c rest s) where
      pub no_fault : {P : Type 0} (fault : Fault) → Leads p memory m entry c (has_fault fault) → P
      no_fault fault leads = absurd (verified.no_fault entry.spec is_chosen entry.args entry.variables n c fault reached leads)

      pub good : IsGoodSpec memory entry.spec.name entry.spec
      good = good_spec p memory entry.spec.name entry.spec made valid modes is_chosen.found

      entered : (k : ℕ) (d : Checked) → IsReachedIn p memory m entry k d → IsEntry entry.spec entry.args entry.variables
      entered zero d is = is.entered
      entered (suc k) d (before, (is, leads)) = entered k before is

      -- the heap beside that of the checked state
      pub record Others : Type 0 where
        pub other : Heap
        pub whole : IsUnion s.heap c.machine.heap other
        pub parts : IsUnion other real.realizes.own rest

      pub others : Others
      others =
          let (e, (parts, whole)) = ungrouped s.heap real.own rest c.machine.heap real.realizes.own real.union real.realizes.union in
          record { other = e; whole = whole; parts = parts }

      is_beside : (o : Others) → s ≡ beside o.other (record c.machine { draws = s.draws })
      is_beside o = λ i. record { current = real.same_current i; callers = real.same_callers i; heap = o.whole.union i; counter = real.same_counter i; draws = s.draws }

      no_miss_later : miss_at p m c.machine ≡ None → miss_at p m (record c.machine { draws = s.draws }) ≡ None
      no_miss_later none = (λ i. option_and_then (λ r. missed_key r.outcome) (option_and_then (λ x. missed_redrawn m x.command c.machine s.draws i) (command_at p c.machine.current))) ∙ none

      pub record IsLocal (o : Others) (st : Step) : Type 0 where
        pub same : step p m inputs s ≡ step_beside o.other (redrawn s.draws st)
        pub compatible : IsCompatible (heap_after (redrawn s.draws st)) o.other

      pub local : (o : Others) (numbered : PureNumberedCommand) (command : PureCommand) → command_at p c.machine.current ≡ Some numbered → numbered.command ≡ command → IsNoDraw command → miss_at p m c.machine ≡ None
          → IsLocal o (do_command p m [] command (record { proc = c.machine.current.procedure; at = numbered.at }) c.machine)
      local o numbered command at is no_draw no_miss =
          let here : Place = record { proc = c.machine.current.procedure; at = numbered.at } in
          let small : State = record c.machine { draws = s.draws } in
          let small_step : step p m inputs small ≡ redrawn s.draws (do_command p m [] command here c.machine) =
          ap (λ x. step_at p m inputs x small) at ∙ ap (λ x. do_command p m inputs x here small) is ∙ command_redrawn s.draws p m inputs command here c.machine no_draw in
          let (is_heap, other_is_heap) = union_parts memory s.heap c.machine.heap o.other o.whole real.proper.heap in
          let compatible : IsCompatible c.machine.heap o.other = record { disjoint = o.whole.disjoint; union_well_formed = subst IsWellFormed o.whole.union real.proper.heap.well_formed } in
          let l = steps_are_local p memory m inputs small o.other made is_memory is_heap other_is_heap compatible (subst (IsProperState memory) (is_beside o) real.proper) (no_miss_later no_miss) in
          record { same = ap (step p m inputs) (is_beside o) ∙ l.same ∙ ap (step_beside o.other) small_step; compatible = subst (λ st. IsCompatible (heap_after st) o.other) small_step l.compatible }

      pub continues_at : (k l : ℕ) (d : Checked) (u : State) → IsSimulated k → IsReachedIn p memory m entry l d → step p m inputs s ≡ goes_on u → IsRealized entry d rest u → Shown entry rest (run p m inputs (suc k) s)
      continues_at k l d u sim there is next = subst (Shown entry rest) (sym (ap (λ st. after st (run p m inputs k)) is)) (sim entry l d rest u is_chosen there next)

      pub continues : (k : ℕ) (d : Checked) (u : State) → IsSimulated k → Leads p memory m entry c (goes_on_to d) → step p m inputs s ≡ goes_on u → IsRealized entry d rest u → Shown entry rest (run p m inputs (suc k) s)
      continues k d u sim leads is next = continues_at k (suc n) d u sim (c, (reached, leads)) is next

      pub proper_next : (u : State) → step p m inputs s ≡ goes_on u → IsProperState memory u
      proper_next u is = subst (IsProperStep memory) is (stays_proper p memory m inputs s made is_memory real.proper)

      -- ---- ends

      leaves_it : (posts : List (List PureItem)) (v : PureValue) (d : Checked) (own h : Heap) (b : Bool) → some_matches p entry posts (result_store entry v) (logic_state d) ≡ b → Leads p memory m entry c (over_or b post)
          → Realizes p.preds (logic_state d) own → IsUnion h own rest → LeavesIt p entry.spec entry.args entry.variables rest v posts h
      leaves_it posts v d own h false matches leads realizes union = no_fault post leads
      leaves_it posts v d own h true matches leads realizes union =
          (own, (union, returned_meets p memory entry posts v (logic_state d) own good (entered n c reached) matches realizes))

      missed_or_failed : {P : Type 0} (o : Option Key) (v : PureValue) → Leads p memory m entry c (fails_or_misses o v) → P
      missed_or_failed (Some k) v leads = no_fault missing leads
      missed_or_failed None v leads = no_fault (Fault.fails v) leads

      -- the step ends the run in a state that stands for d, or fails
      pub end_shown : (d : Checked) (own : Heap) (e : Ending) (h : Heap) → IsUnion h own rest ⊎ IsFailed e → Realizes p.preds (logic_state d) own → Leads p memory m entry c (ended p memory m entry d e)
          → EndsAsTold p entry.spec entry.args entry.variables rest e h
      end_shown d own (returned v) h (inl union) realizes leads = leaves_it entry.spec.posts v d own h _ refl leads realizes union
      end_shown d own (returned v) h (inr fails) realizes leads = absurd fails
      end_shown d own (threw v place) h (inl union) realizes leads = leaves_it entry.spec.errors v d own h _ refl leads realizes union
      end_shown d own (threw v place) h (inr fails) realizes leads = absurd fails
      end_shown d own (failed v place) h how realizes leads = missed_or_failed (miss_at p m d.machine) v leads
      end_shown d own vanished h how realizes leads = tt
      end_shown d own (no_input k) h how realizes leads = tt
      end_shown d own (bad_input k) h how realizes leads = tt
      end_shown d own cut h how realizes leads = tt

      -- ---- commands of the machine

      pub machine_shown : (k : ℕ) (o : Others) (st : Step) → IsSimulated k → Form c.machine st → IsLocal o st → ((out : Outcome) → out ≡ stepped p memory m entry c st → Leads p memory m entry c out) → Shown entry rest (run p m inputs (suc k) s)
      machine_shown k o (goes_on t) sim form l leads =
          let u : State = beside o.other (record t { draws = s.draws }) in
          let union : IsUnion u.heap t.heap o.other = record { disjoint = l.compatible.disjoint; union = refl } in
          let (own, (own_union, all)) = regrouped u.heap t.heap o.other real.realizes.own rest union o.parts in
          continues k (moved c t) u sim (leads (goes_on_to (moved c t)) refl) l.same (record {
            own = own;
            union = all;
            realizes = record { own = real.realizes.own; union = own_union; facts = real.realizes.facts };
            same_current = refl;
            same_callers = refl;
            same_counter = refl;
            proper = proper_next u l.same;
            facts = facts_raised c.machine.counter t.counter form.1 c.facts real.facts;
            variables = store_raised c.machine.counter t.counter form.1 entry.variables real.variables;
          })
      machine_shown k o (ends e) sim form l leads =
          let how : IsUnion (joined e.heap o.other) real.own rest ⊎ IsFailed e.ending =
          ⊎_elim (λ there. inl (subst (λ h. IsUnion h real.own rest) (sym (ap (λ h. joined h o.other) there.same_heap ∙ sym o.whole.union)) real.union)) (λ fails. inr fails) form in
          subst (Shown entry rest) (sym (ap (λ st. after st (run p m inputs k)) l.same))
          (end_shown c real.own e.ending (joined e.heap o.other) how real.realizes (leads (ended p memory m entry c e.ending) refl))

      missing_faults : {P : Type 0} (numbered : PureNumberedCommand) (command : PureCommand) (key : Key) → command_at p c.machine.current ≡ Some numbered → numbered.command ≡ command → miss_at p m c.machine ≡ Some key
          → ((out : Outcome) → out ≡ stepped p memory m entry c (do_command p m [] command (record { proc = c.machine.current.procedure; at = numbered.at }) c.machine) → Leads p memory m entry c out) → P
      missing_faults numbered command key at is miss leads =
          let (e, (place, (ends_so, fails))) = (misses_fail p m [] c.machine key miss).1 in
          let here : Place = record { proc = c.machine.current.procedure; at = numbered.at } in
          let same : do_command p m [] command here c.machine ≡ ends e =
          sym (ap (λ x. step_at p m [] x c.machine) at ∙ ap (λ x. do_command p m [] x here c.machine) is) ∙ ends_so in
          no_fault missing (leads (has_fault missing) (sym (ap (stepped p memory m entry c) same ∙ ap (ended p memory m entry c) fails ∙ ap (λ o. fails_or_misses o (text (codes "missing"))) miss)))

      pub plain_shown : (k : ℕ) (numbered : PureNumberedCommand) (command : PureCommand) → IsSimulated k → command_at p c.machine.current ≡ Some numbered → numbered.command ≡ command → IsNoDraw command
          → ((out : Outcome) → out ≡ stepped p memory m entry c (do_command p m [] command (record { proc = c.machine.current.procedure; at = numbered.at }) c.machine) → Leads p memory m entry c out) → Shown entry rest (run p m inputs (suc k) s)
      plain_shown k numbered command sim at is no_draw leads = by (miss_at p m c.machine) refl
        where
          by : (o : Option Key) → miss_at p m c.machine ≡ o → Shown entry rest (run p m inputs (suc k) s)
          by (Some key) miss = missing_faults numbered command key at is miss leads
          by None no_miss =
              machine_shown k others (do_command p m [] command (record { proc = c.machine.current.procedure; at = numbered.at }) c.machine) sim (command_form p m [] command (record { proc = c.machine.current.procedure; at = numbered.at }) c.machine no_draw)
              (local others numbered command at is no_draw no_miss) leads

      -- ---- what rows of logic commands need

      pub state_below : IsHeapBelow c.machine.counter c.machine.heap
      state_below = (state_heap (logic_state c) s.heap real.own rest c.machine.counter real.union real.realizes real.proper.heap (subst (λ k. IsHeapBelow k s.heap) real.same_counter real.proper.heap_below)).1

      pub current_below : IsFrameBelow c.machine.counter c.machine.current
      current_below = subst (IsFrameBelow c.machine.counter) real.same_current (subst (λ k. IsFrameBelow k s.current) real.same_counter real.proper.current_below)

      pub callers_below : All (IsFrameBelow c.machine.counter) c.machine.callers
      callers_below = subst (All (IsFrameBelow c.machine.counter)) real.same_callers (subst (λ k. All (IsFrameBelow k) s.callers) real.same_counter real.proper.callers_below)

      variables_here_below : (fs : List Frame) → IsStoreBelow c.machine.counter (variables_in fs entry)
      variables_here_below [] = real.variables
      variables_here_below (f ∷ fs) = λ x v is. no_value v is

      pub names_below : HoldsInStore (Below c.machine.counter) (names_at entry c)
      names_below x v is =
          ⊎_elim (current_below x v) (λ later. variables_here_below c.machine.callers x v later.1) (either_value c.machine.current.store (variables_in c.machine.callers entry) x v is)

      pub all_below : StateHolds (Below c.machine.counter) (logic_state c)
      all_below = (state_below, real.facts)

      -- a state that a part of the heap realizes
      pub is_proper_state : (t : LogicState) (own : Heap) (left : Heap) → IsUnion s.heap own left → Realizes p.preds t own → IsHeapOf memory t.heap × IsHeapBelow c.machine.counter t.heap
      is_proper_state t own left union realizes = state_heap t s.heap own left c.machine.counter union realizes real.proper.heap (subst (λ k. IsHeapBelow k s.heap) real.same_counter real.proper.heap_below)

      -- the step of the machine where a command stands
      pub steps_so : (numbered : PureNumberedCommand) (command : PureCommand) → command_at p c.machine.current ≡ Some numbered → numbered.command ≡ command → step p m inputs s ≡ do_command p m inputs command (record { proc = s.current.procedure; at = numbered.at }) s
      steps_so numbered command at is =
          ap (λ x. step_at p m inputs x s) (ap (command_at p) real.same_current ∙ at) ∙ ap (λ x. do_command p m inputs x (record { proc = s.current.procedure; at = numbered.at }) s) is

      -- the machine goes to the next command, and the checked run from d, which the heap realizes too
      pub next_shown : (k l : ℕ) (d t : Checked) → IsSimulated k → step p m inputs s ≡ to_next s → goes_on_to t ≡ stepped p memory m entry d (to_next d.machine) → IsReachedIn p memory m entry l t → s.current ≡ d.machine.current → s.callers ≡ d.machine.callers → s.counter ≡ d.machine.counter
          → Realizes p.preds (logic_state d) real.own → EachFactHolds (Below d.machine.counter) d.facts → IsStoreBelow d.machine.counter entry.variables → Shown entry rest (run p m inputs (suc k) s)
      next_shown k l d t sim is leads there current callers counter realizes facts variables =
          let u : State = record s { current = record s.current { next = s.current.next + 1 } } in
          let next : Checked = moved d (record d.machine { current = record d.machine.current { next = d.machine.current.next + 1 } }) in
          continues_at k l next u sim (subst (IsReachedIn p memory m entry l) (same_next t next leads) there) is (record {
            own = real.own;
            union = real.union;
            realizes = realizes;
            same_current = λ i. record (current i) { next = (current i).next + 1 };
            same_callers = callers;
            same_counter = counter;
            proper = proper_next u is;
            facts = facts;
            variables = variables;
          })

      -- the same where one step leads there
      pub row_shown : (k : ℕ) (d : Checked) → IsSimulated k → step p m inputs s ≡ to_next s → ((out : Outcome) → out ≡ stepped p memory m entry d (to_next d.machine) → Leads p memory m entry c out) → s.current ≡ d.machine.current → s.callers ≡ d.machine.callers → s.counter ≡ d.machine.counter
          → Realizes p.preds (logic_state d) real.own → EachFactHolds (Below d.machine.counter) d.facts → IsStoreBelow d.machine.counter entry.variables → Shown entry rest (run p m inputs (suc k) s)
      row_shown k d sim is leads current callers counter realizes facts variables =
          let next : Checked = moved d (record d.machine { current = record d.machine.current { next = d.machine.current.next + 1 } }) in
          next_shown k (suc n) d next sim is refl (c, (reached, leads (goes_on_to next) refl)) current callers counter realizes facts variables

      -- ---- draws

      pub draw_shown : (k : ℕ) (x : List ℕ) (kind : Kind) (numbered : PureNumberedCommand) → IsSimulated k → command_at p c.machine.current ≡ Some numbered → numbered.command ≡ isym x kind → ((out : Outcome) → Draws p memory m entry x kind c out → Leads p memory m entry c out) → Shown entry rest (run p m inputs (suc k) s)
      draw_shown k x kind numbered sim at is leads = by (slice_get inputs s.draws) refl
        where
          here : step p m inputs s ≡ draw (slice_get inputs s.draws) x kind (record s { draws = s.draws + 1 })
          here = steps_so numbered (isym x kind) at is

          drawn : (v : PureValue) (b : Bool) → same_kind (kind_of v) kind ≡ b → step p m inputs s ≡ cond b (assigned x v (record s { draws = s.draws + 1 })) (ends (end_at (record s { draws = s.draws + 1 }) (bad_input (s.draws + 1)))) → Shown entry rest (run p m inputs (suc k) s)
          drawn v false other steps = subst (Shown entry rest) (sym (ap (λ st. after st (run p m inputs k)) steps)) tt
          drawn v true same steps =
              let u : State = record s { current = record s.current { store = bind x v s.current.store; next = s.current.next + 1 }; draws = s.draws + 1 } in
              let t : State = record c.machine { current = record c.machine.current { store = bind x v c.machine.current.store; next = c.machine.current.next + 1 }; draws = c.machine.draws + 1 } in
              continues k (moved c t) u sim (leads (goes_on_to (moved c t)) (v, (same, refl))) steps (record {
                own = real.own;
                union = real.union;
                realizes = real.realizes;
                same_current = λ i. record (real.same_current i) { store = bind x v (real.same_current i).store; next = (real.same_current i).next + 1 };
                same_callers = real.same_callers;
                same_counter = real.same_counter;
                proper = proper_next u steps;
                facts = real.facts;
                variables = real.variables;
              })

          by : (o : Option PureValue) → slice_get inputs s.draws ≡ o → Shown entry rest (run p m inputs (suc k) s)
          by None none = subst (Shown entry rest) (sym (ap (λ st. after st (run p m inputs k)) (here ∙ ap (λ o. draw o x kind (record s { draws = s.draws + 1 })) none))) tt
          by (Some v) some = drawn v (same_kind (kind_of v) kind) refl (here ∙ ap (λ o. draw o x kind (record s { draws = s.draws + 1 })) some)

      -- ---- fold

      pub fold_shown : (k : ℕ) (u : PurePredUse) → IsSimulated k → step p m inputs s ≡ to_next s → list_all is_well_made_expr (u.ins ++ u.outs) ≡ true
          → (core : Option Core) (ins outs : Outcomes) → evaluate_all u.ins (names_at entry c) ≡ ins → evaluate_all u.outs (names_at entry c) ≡ outs → ((out : Outcome) → out ≡ fold_by p memory m entry core u.pred ins outs c → Leads p memory m entry c out) → Shown entry rest (run p m inputs (suc k) s)
      fold_shown k u sim is well (Some core) ins outs ins_are outs_are leads = no_fault fold_body (leads (has_fault fold_body) refl)
      fold_shown k u sim is well None (Err f) outs ins_are outs_are leads = no_fault fold_body (leads (has_fault fold_body) refl)
      fold_shown k u sim is well None (Ok ins) (Err f) ins_are outs_are leads = no_fault fold_body (leads (has_fault fold_body) refl)
      fold_shown k u sim is well None (Ok ins) (Ok outs) ins_are outs_are leads = by (match_fold p.preds u.pred ins outs (logic_state c)) refl leads
        where
          by : (o : Option CaseMatch) → match_fold p.preds u.pred ins outs (logic_state c) ≡ o → ((out : Outcome) → out ≡ folded p memory m entry o (record { pred = u.pred; ins = ins; outs = outs }) c → Leads p memory m entry c out) → Shown entry rest (run p m inputs (suc k) s)
          by None matches goes = no_fault fold_body (goes (has_fault fold_body) refl)
          by (Some found) matches goes =
              let f : Fact = record { pred = u.pred; ins = ins; outs = outs } in
              let split = fold_splits p.preds u.pred ins outs (logic_state c) found real.own matches real.realizes in
              let same = fold_outs p.preds u.pred ins outs (logic_state c) found real.own matches real.realizes in
              let holds : HoldsSomewhere p.preds u.pred ins outs split.part = subst (λ vs. HoldsSomewhere p.preds u.pred ins vs split.part) same split.taken in
              let realizes = realizes_with_fact p.preds found.state split.rest split.part real.own f split.realized (union_commutes real.own split.part split.rest split.union) holds in
              let (made_ins, made_outs) = and_parts (list_all is_well_made_expr u.ins) (list_all is_well_made_expr u.outs) (sym (list_all-append is_well_made_expr u.ins u.outs) ∙ well) in
              let ins_below = values_of_exprs (Below c.machine.counter) u.ins (names_at entry c) ins made_ins names_below ins_are in
              let outs_below = values_of_exprs (Below c.machine.counter) u.outs (names_at entry c) outs made_outs names_below outs_are in
              let left_below = (fold_holds (Below c.machine.counter) p.preds (cases_made p made) u.pred ins outs (logic_state c) found matches ins_below outs_below all_below).1.1 in
              row_shown k (with_logic (record found.state { facts = found.state.facts ++ f ∷ [] }) c.machine.counter c) sim is goes real.same_current real.same_callers real.same_counter realizes
              (facts_hold_after (Below c.machine.counter) found.state.facts f left_below (ins_below, outs_below)) real.variables

      -- ---- assert

      pub assert_shown : (k : ℕ) → IsSimulated k → step p m inputs s ≡ to_next s → (o : Matching) → ((out : Outcome) → out ≡ asserted p memory m entry o c → Leads p memory m entry c out) → Shown entry rest (run p m inputs (suc k) s)
      assert_shown k sim is (stops j) leads = no_fault fold_body (leads (has_fault fold_body) refl)
      assert_shown k sim is (matched found) leads = row_shown k c sim is leads real.same_current real.same_callers real.same_counter real.realizes real.facts real.variables

      -- ---- unfold

      -- the case that holds is added in place of the fact
      case_shown : (k : ℕ) (x : List ℕ) (ins outs : List PureValue) (found : FoundFact) (d : PurePredDef) → IsSimulated k → step p m inputs s ≡ to_next s → find_pred p.preds found.fact.pred ≡ Some d → (rank : ℕ) (part left : Heap) → IsUnion real.realizes.own part left
          → HoldsAt p.preds rank found.fact.pred found.fact.ins found.fact.outs part → FactsHold (HoldsSomewhere p.preds) found.others left → FactHolds (Below c.machine.counter) found.fact → EachFactHolds (Below c.machine.counter) found.others
          → ((out : Outcome) → Unfolds p memory m entry d found.fact (record (logic_state c) { facts = found.others }) c out → Leads p memory m entry c out) → Shown entry rest (run p m inputs (suc k) s)
      case_shown k x ins outs found d sim is finds zero part left union holds others here_below others_below leads = absurd holds
      case_shown k x ins outs found d sim is finds (suc rank) part left union holds others here_below others_below leads =
          let same : holds.pred ≡ d = same_some (sym holds.found ∙ finds) in
          let meets = meets_wider (HoldsAt p.preds rank) (HoldsSomewhere p.preds) (λ name vs ws h at. (rank, at)) holds.store holds.items part holds.meets in
          let (e, (left_union, all)) = regrouped real.own c.machine.heap real.realizes.own left part real.realizes.union (union_commutes real.realizes.own part left union) in
          let left_state : LogicState = record (logic_state c) { facts = found.others } in
          let (t, (is_added, realizes)) = adding_is_complete p.preds holds.store holds.items left_state e part real.own (record { own = left; union = left_union; facts = others }) all meets in
          let (is_heap, heap_below) = is_proper_state t real.own rest real.union realizes in
          let part_below = (part_holds (Below c.machine.counter) real.realizes.own part left union (part_holds (Below c.machine.counter) real.own c.machine.heap real.realizes.own real.realizes.union (part_holds (Below c.machine.counter) s.heap real.own rest real.union (subst (λ j. IsHeapBelow j s.heap) real.same_counter real.proper.heap_below)).0).1).0 in
          let (well, reads) = case_reads p memory made modes found.fact.pred holds.pred holds.number holds.items holds.found holds.case in
          let values = case_values p memory made modes c.machine.counter holds.pred found.fact.ins holds.items holds.store part well reads meets holds.ins_agree holds.as_many_ins here_below.0 part_below in
          let facts = added_facts (Below c.machine.counter) holds.store (named_by_items holds.items) values holds.items left_state t is_added well (λ y among. among) others_below in
          let next : Checked = with_logic t c.machine.counter c in
          let unfolds : (out : Outcome) → out ≡ stepped p memory m entry next (to_next next.machine) → Unfolds p memory m entry d found.fact left_state c out = λ out goes. subst (λ q. Unfolds p memory m entry q found.fact left_state c out) same (record {
            number = holds.number;
            items = holds.items;
            case = holds.case;
            store = holds.store;
            ins_agree = holds.ins_agree;
            outs_agree = holds.outs_agree;
            sorts = holds.sorts;
            counter = c.machine.counter;
            next = next;
            adds = record {
              state = t;
              adding = record { added_is = is_added; well_formed = is_heap };
              not_lower = omega arith;
              is_next = refl;
              above = record { heap_below = heap_below; current_below = current_below; callers_below = callers_below; facts_below = facts_below c.machine.counter t.facts facts };
            };
            leads = goes;
          }) in
          row_shown k next sim is (λ out goes. leads out (unfolds out goes)) real.same_current real.same_callers real.same_counter realizes facts real.variables

      pub unfold_shown : (k : ℕ) (x : List ℕ) → IsSimulated k → step p m inputs s ≡ to_next s → (core : Option Core) (ins outs : Outcomes) → ((out : Outcome) → UnfoldsBy p memory m entry core x ins outs c out → Leads p memory m entry c out) → Shown entry rest (run p m inputs (suc k) s)
      unfold_shown k x sim is (Some core) ins outs leads = no_fault fold_body (leads (has_fault fold_body) refl)
      unfold_shown k x sim is None (Err f) outs leads = no_fault fold_body (leads (has_fault fold_body) refl)
      unfold_shown k x sim is None (Ok ins) (Err f) leads = no_fault fold_body (leads (has_fault fold_body) refl)
      unfold_shown k x sim is None (Ok ins) (Ok outs) leads = by (first_fact (fits_fact x ins (map Some outs)) c.facts) refl (find_pred p.preds x) refl leads
        where
          by : (o : Option FoundFact) → first_fact (fits_fact x ins (map Some outs)) c.facts ≡ o → (q : Option PurePredDef) → find_pred p.preds x ≡ q → ((out : Outcome) → UnfoldsFound p memory m entry o q c out → Leads p memory m entry c out) → Shown entry rest (run p m inputs (suc k) s)
          by None finds q is_pred goes = no_fault fold_body (goes (has_fault fold_body) refl)
          by (Some found) finds None is_pred goes = no_fault fold_body (goes (has_fault fold_body) refl)
          by (Some found) finds (Some d) is_pred goes =
              let split = found_splits (HoldsSomewhere p.preds) (fits_fact x ins (map Some outs)) c.facts found real.realizes.own finds real.realizes.facts in
              let fits = found_fits (fits_fact x ins (map Some outs)) c.facts found finds in
              let front = (and_parts (bytes_eq found.fact.pred x && same_elements found.fact.ins ins) (all_agree (map Some outs) found.fact.outs) fits).0 in
              let named : found.fact.pred ≡ x = (bytes_eq-Decides found.fact.pred x).0 (and_parts (bytes_eq found.fact.pred x) (same_elements found.fact.ins ins) front).0 in
              let (here_below, others_below) = found_holds (Below c.machine.counter) (fits_fact x ins (map Some outs)) c.facts found finds real.facts in
              case_shown k x ins outs found d sim is (ap (find_pred p.preds) named ∙ is_pred) split.holds_there.0 split.part split.rest split.union split.holds_there.1 split.others here_below others_below goes

      -- ---- invariants

      module _ (xs : List (List ℕ)) (ps : List Param) (items : List PureItem) (well : is_well_made_assertion items ≡ true) (found : Match) (matches : invariant_match p memory m entry xs ps items c ≡ Some found) where
        -- the invariant is matched, and can be added again to what it leaves
        record IsAddedAgain : Type 0 where
          listed : has_all xs c.machine.current.store ≡ true
          extends : Extends (names_at entry c) found.store
          sorts : HasSorts (logicals_in c.machine.callers entry ++ ps) found.store
          state : LogicState
          adding : IsAdding memory found.store items found.state state
          realizes : Realizes p.preds state real.own
          heap_below : IsHeapBelow c.machine.counter state.heap
          facts : EachFactHolds (Below c.machine.counter) state.facts

        added_again : IsAddedAgain
        added_again =
            let scope : List Param = logicals_in c.machine.callers entry ++ ps in
            let (test, is_matched) = match_was (has_all xs c.machine.current.store && known_fit (names_at entry c) scope) (match_assertion p.preds scope items (names_at entry c) (logic_state c)) found matches in
            let (has, fit) = and_parts (has_all xs c.machine.current.store) (known_fit (names_at entry c) scope) test in
            let all = assertion_splits p.preds scope items (names_at entry c) (logic_state c) found real.own is_matched real.realizes in
            let (t, (is_added, realizes)) = adding_is_complete p.preds found.store items found.state all.split.rest all.split.part real.own all.split.realized (union_commutes real.own all.split.part all.split.rest all.split.union) all.split.taken in
            let (is_heap, heap_below) = is_proper_state t real.own rest real.union realizes in
            let (store_below, left_below) = assertion_holds (Below c.machine.counter) p.preds (cases_made p made) scope items (names_at entry c) (logic_state c) found is_matched well names_below all_below in
            record {
              listed = has;
              extends = all.goes.extends;
              sorts = all.goes.sorts (fit_sorts scope (names_at entry c) fit);
              state = t;
              adding = record { added_is = is_added; well_formed = is_heap };
              realizes = realizes;
              heap_below = heap_below;
              facts = added_facts (Below c.machine.counter) found.store (λ x. true) (λ x v known at. store_below x v at) items found.state t is_added well (λ x is. refl) left_below.1;
            }

        first_shown : (k : ℕ) → IsSimulated k → step p m inputs s ≡ to_next s → ((out : Outcome) → PassesFirst p memory m entry xs ps items found.state c out → Leads p memory m entry c out) → Shown entry rest (run p m inputs (suc k) s)
        first_shown k sim is leads =
            let a = added_again in
            let here : Checked = at_invariant p memory m entry xs found.state c.machine.current.store c in
            let next : Checked = with_logic a.state c.machine.counter here in
            row_shown k next sim is (λ out goes. leads out (record {
              store = c.machine.current.store;
              listed_have_values = a.listed;
              others_stay = λ x. refl;
              names = found.store;
              known_stay = a.extends;
              sorts = a.sorts;
              counter = c.machine.counter;
              next = next;
              adds = record {
                state = a.state;
                adding = a.adding;
                not_lower = omega arith;
                is_next = refl;
                above = record { heap_below = a.heap_below; current_below = current_below; callers_below = callers_below; facts_below = facts_below c.machine.counter a.state.facts a.facts };
              };
              leads = goes;
            })) real.same_current real.same_callers real.same_counter a.realizes a.facts real.variables

        -- The second visit: the run goes on from the first one, where the values could have been these.
        again_shown : (k : ℕ) (q : Passed) → IsSimulated k → step p m inputs s ≡ to_next s → IsAsBefore p memory m entry xs q found.state c → IsCalm c.machine.current → (j : IsJustified p memory m entry c.machine.counter c.machine.current.procedure c.machine.callers q) → q.at ≡ c.machine.current.next
            → loop_invariant j.xs j.ps j.items ≡ loop_invariant xs ps items → Shown entry rest (run p m inputs (suc k) s)
        again_shown k q sim is same calm j place command =
            let a = added_again in
            let d = j.before in
            let left_same : found.state ≡ j.found.state = (λ i. record { heap = same.same_heap i; facts = same.same_facts i }) ∙ sym j.remainder in
            let matches_there : invariant_match p memory m entry xs ps items d ≡ Some j.found = sym (λ i. invariant_match p memory m entry (listed_in (command i)) (declared_in (command i)) (items_in (command i)) d) ∙ j.matches in
            let unlisted_there : unlisted_in xs d.machine.current.store ≡ q.unlisted = sym (ap (λ l. unlisted_in (listed_in l) d.machine.current.store) command) ∙ j.unlisted in
            let here : Checked = at_invariant p memory m entry xs j.found.state c.machine.current.store d in
            let next : Checked = with_logic a.state c.machine.counter here in
            let frame_same : c.machine.current ≡ record d.machine.current { store = c.machine.current.store } = λ i. record {
              procedure = sym j.same_procedure i;
              next = (sym place ∙ sym j.stands) i;
              store = c.machine.current.store;
              waits = (calm.no_wait ∙ sym j.is_calm.no_wait) i;
              handler = (calm.no_handler ∙ sym j.is_calm.no_handler) i;
            } in
            let passes : PassesFirst p memory m entry xs ps items j.found.state d (stepped p memory m entry next (to_next next.machine)) = record {
              store = c.machine.current.store;
              listed_have_values = a.listed;
              others_stay = λ x. same.same_values x ∙ ap (λ u. value_of u x) (sym unlisted_there);
              names = found.store;
              known_stay = subst (λ fs. Extends (c.machine.current.store ++ variables_in fs entry) found.store) (sym j.same_callers) a.extends;
              sorts = subst (λ fs. HasSorts (logicals_in fs entry ++ ps) found.store) (sym j.same_callers) a.sorts;
              counter = c.machine.counter;
              next = next;
              adds = record {
                state = a.state;
                adding = subst (λ x. IsAdding memory found.store items x a.state) left_same a.adding;
                not_lower = j.not_higher;
                is_next = refl;
                above = record {
                  heap_below = a.heap_below;
                  current_below = current_below;
                  callers_below = subst (All (IsFrameBelow c.machine.counter)) (sym j.same_callers) callers_below;
                  facts_below = facts_below c.machine.counter a.state.facts a.facts;
                };
              };
              leads = refl;
            } in
            let visits : Visits p memory m entry (passed_at d.machine.current.next (current_passed d.passed)) (invariant_match p memory m entry xs ps items d) xs ps items d (stepped p memory m entry next (to_next next.machine)) =
            subst (λ o. Visits p memory m entry o (invariant_match p memory m entry xs ps items d) xs ps items d (stepped p memory m entry next (to_next next.machine))) (sym j.not_passed)
            (subst (λ o. Visits p memory m entry None o xs ps items d (stepped p memory m entry next (to_next next.machine))) (sym matches_there) passes) in
            let leads_there : Leads p memory m entry d (stepped p memory m entry next (to_next next.machine)) =
            subst (λ o. LeadsAt p memory m entry o d (stepped p memory m entry next (to_next next.machine))) (sym j.at)
            (subst (λ x. LeadsBy p memory m entry x (record { proc = d.machine.current.procedure; at = j.numbered.at }) d (stepped p memory m entry next (to_next next.machine))) (sym (j.command ∙ command)) visits) in
            next_shown k (suc j.steps) next (moved next (record next.machine { current = record next.machine.current { next = next.machine.current.next + 1 } })) sim is refl (d, (j.reached, leads_there)) (real.same_current ∙ frame_same) (real.same_callers ∙ sym j.same_callers) real.same_counter a.realizes a.facts real.variables

      pub visits_shown : (k : ℕ) (xs : List (List ℕ)) (ps : List Param) (items : List PureItem) (numbered : PureNumberedCommand) → IsSimulated k → step p m inputs s ≡ to_next s → is_well_made_assertion items ≡ true → command_at p c.machine.current ≡ Some numbered → numbered.command ≡ loop_invariant xs ps items
          → (o : Option Passed) → passed_at c.machine.current.next (current_passed c.passed) ≡ o → (q : Option Match) → invariant_match p memory m entry xs ps items c ≡ q → ((out : Outcome) → Visits p memory m entry o q xs ps items c out → Leads p memory m entry c out) → Shown entry rest (run p m inputs (suc k) s)
      visits_shown k xs ps items numbered sim is well at command None passed None matches leads = no_fault Fault.invariant (leads (has_fault Fault.invariant) refl)
      visits_shown k xs ps items numbered sim is well at command (Some q) passed None matches leads = no_fault Fault.invariant (leads (has_fault Fault.invariant) refl)
      visits_shown k xs ps items numbered sim is well at command None passed (Some found) matches leads = first_shown xs ps items well found matches k sim is leads
      visits_shown k xs ps items numbered sim is well at command (Some q) passed (Some found) matches leads =
          let justified = reached_justified p memory m entry n c reached in
          let (place, j) = passed_justified p memory m entry c.machine.counter c.machine.current c.machine.callers c.passed c.machine.current.next q justified.all passed in
          let stands : command_at p j.before.machine.current ≡ command_at p c.machine.current = λ i. command_of (find_proc p.procs (j.same_procedure i)) ((j.stands ∙ place) i) in
          let same_command : loop_invariant j.xs j.ps j.items ≡ loop_invariant xs ps items = sym j.command ∙ ap (λ x. x.command) (same_some (sym j.at ∙ stands ∙ at)) ∙ command in
          let as_before = before_stable p memory m entry xs q found.state c (λ isnt. no_fault Fault.invariant (leads (has_fault Fault.invariant) (inr (isnt, refl)))) in
          again_shown xs ps items well found matches k q sim is as_before justified.calm j place same_command

      -- ---- calls by specification

      module _ (var : List ℕ) (label : Option ℕ) (q : PureProc) (is_proc : find_proc p.procs q.name ≡ Some q) (args : List PureValue) (args_below : HoldsOfAll (Below c.machine.counter) args) (spec : PureSpec) (is_spec : find_spec p.specs q.name ≡ Some spec) (is_used : IsChosen p chosen spec) where
        abbrev caller : Frame
        caller = record c.machine.current { next = c.machine.current.next + 1; waits = Some var; handler = label }

        -- the state in the called procedure's first frame
        abbrev called : State
        called = record c.machine { current = first_frame q.name q.params args; callers = caller ∷ c.machine.callers }

        module _ (here : Place) (o : Others) (l : IsLocal o (goes_on called)) (fit : fit_params spec.params args ≡ true) (found : Match) (matches : match_assertion p.preds (spec.params ++ spec.logicals) spec.pre (entry_store spec args []) (logic_state c) ≡ matched found)
            (leads : (out : Outcome) → Called p memory m entry spec args here (matched found) (moved c called) out → Leads p memory m entry c out) where
          good_callee : IsGoodSpec memory spec.name spec
          good_callee = good_spec p memory spec.name spec made valid modes is_used.found

          abbrev callee : Entry
          callee = record { spec = spec; args = args; variables = variables_of_call memory spec good_callee args fit p.preds (logic_state c) found matches }

          -- what the call takes, and all else
          record Taken : Type 0 where
            part : Heap
            left : Heap
            besides : Heap
            meets : Meets (HoldsSomewhere p.preds) found.store spec.pre part
            realized : Realizes p.preds found.state left
            whole : IsUnion s.heap part besides
            others : IsUnion besides left rest
            sorts : HasSorts (spec.params ++ spec.logicals) found.store
            store_below : HoldsInStore (Below c.machine.counter) found.store
            left_below : EachFactHolds (Below c.machine.counter) found.state.facts

          taken : Taken
          taken =
              let all = assertion_splits p.preds (spec.params ++ spec.logicals) spec.pre (entry_store spec args []) (logic_state c) found real.own matches real.realizes in
              let (e, (others, whole)) = ungrouped s.heap real.own rest all.split.part all.split.rest real.union all.split.union in
              let no_store : HoldsInStore (Below c.machine.counter) [] = λ x v is. no_value v is in
              let (store_below, left_below) = assertion_holds (Below c.machine.counter) p.preds (cases_made p made) (spec.params ++ spec.logicals) spec.pre (entry_store spec args []) (logic_state c) found matches (and_parts (is_well_made_assertion spec.pre) _ good_callee.made).0 (entry_holds (Below c.machine.counter) spec args [] args_below no_store) all_below in
              record {
                part = all.split.part;
                left = all.split.rest;
                besides = e;
                meets = all.split.taken;
                realized = all.split.realized;
                whole = whole;
                others = others;
                sorts = all.goes.sorts (entry_sorted memory spec good_callee args fit [] (λ x v is. no_value v is));
                store_below = store_below;
                left_below = left_below.1;
              }

          -- the state of the machine after the step, and the same without the frames below
          abbrev after_step : State
          after_step = beside o.other (record called { draws = s.draws })

          abbrev alone : State
          alone = record after_step { callers = [] }

          heap_stays : after_step.heap ≡ s.heap
          heap_stays = sym o.whole.union

          proper_after : IsProperState memory after_step
          proper_after = proper_next after_step l.same

          callee_starts : (t : Taken) → (d : Checked) × (IsStart p memory m callee d × IsRealized callee d t.besides alone)
          callee_starts t =
              let named : q.name ≡ spec.name = sym (good_spec p memory q.name spec made valid modes is_spec).named in
              let meets = meets_further p.preds found.store (entry_store spec args callee.variables) (call_entry_store memory spec good_callee args fit p.preds (logic_state c) found matches) spec.pre t.part t.meets in
              let params : q.params ≡ params_of (find_proc p.procs spec.name) = sym (ap params_of (ap (find_proc p.procs) (sym named) ∙ is_proc)) in
              start_realized callee good_callee t.part t.besides alone (call_enters memory spec good_callee args fit p.preds (logic_state c) found matches t.sorts) meets (subst (λ h. IsUnion h t.part t.besides) (sym heap_stays) t.whole)
              (λ i. first_frame (named i) (params i) args) refl
              (record { heap = proper_after.heap; heap_below = proper_after.heap_below; current_below = proper_after.current_below; callers_below = All-nil (IsFrameBelow c.machine.counter) })
              (each_of_all (Below c.machine.counter) args args_below) (call_holds memory spec good_callee args fit p.preds (logic_state c) found matches (Below c.machine.counter) t.store_below) m

          -- ---- what is there when it has ended

          module _ (t : Taken) (e : End) (proper_end : IsProperEnd memory e) (not_lower : c.machine.counter ≤ e.counter) where
            abbrev arrived : LogicState → Checked
            arrived state = with_logic state e.counter (moved c called)

            record Arrives (posts : List (List PureItem)) (v : PureValue) : Type 0 where
              state : LogicState
              own : Heap
              union : IsUnion e.heap own rest
              realizes : Realizes p.preds state own
              facts : EachFactHolds (Below e.counter) state.facts
              comes : (after : PureValue → State → Step) (out : Outcome) → out ≡ stepped p memory m entry (arrived state) (after v (arrived state).machine) → Comes p memory m entry spec args found.store found.state posts after (moved c called) out

            -- the values of the names of a postcondition
            post_values : (v : PureValue) (items : List PureItem) (store : Store) (own : Heap) → IsBelow e.counter v → IsPostStore spec args callee.variables v store → is_well_made_assertion items ≡ true → assertion_fault memory (postcondition spec) items ≡ None → Meets (HoldsSomewhere p.preds) store items own
                → HeapHolds (Below e.counter) own → KnownHold (Below e.counter) (named_by_items items) store
            post_values v items store own v_below is_store well reads meets own_below x u named at n occurs =
                ⊎_elim known_below (λ is. in_heap_below e.counter own own_below n is) (meeting_invents_nothing p memory made modes (postcondition spec) items store own x u n well reads meets named at occurs)
              where
                of_param : (y : List ℕ) (w : PureValue) → is_among (param_names spec.params) y ≡ true → value_of store y ≡ Some w → OccursIn n w → n < e.counter
                of_param y w among value within =
                    let (i, name) = place_of (param_names spec.params) y among in
                    let (z, (in_args, below)) = value_at_place (Below c.machine.counter) (param_names spec.params) args i y (fit_length spec.params args fit) name args_below in
                    let lt = below n (subst (OccursIn n) (same_some (sym value ∙ is_store.parameters i y z name in_args)) within) in
                    omega (arith, lt, not_lower)

                of_variable : (y : List ℕ) (w : PureValue) → is_variable_of spec y ≡ true → value_of store y ≡ Some w → OccursIn n w → n < e.counter
                of_variable y w is_variable value within =
                    let (hash, in_pre) = and_parts (has_hash y) (named_by_items spec.pre y) is_variable in
                    let (z, has) = named_has_value found.store y p.preds spec.pre t.part t.meets in_pre in
                    let stays = is_store.variables_stay y z (call_keeps memory spec good_callee args fit p.preds (logic_state c) found matches y z hash has) in
                    let lt = t.store_below y z has n (subst (OccursIn n) (same_some (sym value ∙ stays)) within) in
                    omega (arith, lt, not_lower)

                of_result : (y : List ℕ) (w : PureValue) → bytes_eq y result_name ≡ true → value_of store y ≡ Some w → OccursIn n w → n < e.counter
                of_result y w named_so value within =
                    v_below n (subst (OccursIn n) (same_some (sym value ∙ ap (value_of store) ((bytes_eq-Decides y result_name).0 named_so) ∙ is_store.result)) within)

                known_below : IsKnownSymbol (postcondition spec) store n → n < e.counter
                known_below (y, (w, (known, (value, within)))) =
                    ⊎_elim (λ front. ⊎_elim (λ among. of_param y w among value within) (λ is_variable. of_variable y w is_variable value within) (one_of_two (is_among (param_names spec.params) y) (is_variable_of spec y) front))
                    (λ named_so. of_result y w named_so value within) (one_of_two (is_among (param_names spec.params) y || is_variable_of spec y) (bytes_eq y result_name) known)

            arrives : (posts : List (List PureItem)) (v : PureValue) → IsBelow e.counter v → ((i : ℕ) (items : List PureItem) → slice_get posts i ≡ Some items → (is_well_made_assertion items ≡ true) × (assertion_fault memory (postcondition spec) items ≡ None))
                → LeavesIt p spec args callee.variables t.besides v posts e.heap → Arrives posts v
            arrives posts v v_below read (own, (union, one)) =
                let extends = call_store memory spec good_callee args fit p.preds (logic_state c) found matches one.store one.is_store.parameters one.is_store.variables_stay in
                let (own2, (own_union, whole)) = regrouped e.heap own t.besides t.left rest union t.others in
                let (state, (is_added, realizes)) = adding_is_complete p.preds one.store one.post found.state t.left own own2 t.realized (union_commutes own2 own t.left own_union) one.meets in
                let (is_heap, heap_below) = state_heap state e.heap own2 rest e.counter whole realizes proper_end.heap proper_end.heap_below in
                let own_below = (part_holds (Below e.counter) e.heap own t.besides union proper_end.heap_below).0 in
                let (well, reads) = read one.number one.post one.is_post in
                let values = post_values v one.post one.store own v_below one.is_store well reads one.meets own_below in
                let left_below = facts_raised c.machine.counter e.counter not_lower found.state.facts t.left_below in
                let facts = added_facts (Below e.counter) one.store (named_by_items one.post) values one.post found.state state is_added well (λ y among. among) left_below in
                record {
                  state = state;
                  own = own2;
                  union = whole;
                  realizes = realizes;
                  facts = facts;
                  comes = λ after out goes. record {
                    number = one.number;
                    items = one.post;
                    is_post = one.is_post;
                    result = v;
                    store = one.store;
                    is_store = record { parameters = one.is_store.parameters; variables_stay = extends; result = one.is_store.result; sorts = one.is_store.sorts };
                    state = state;
                    adding = record { added_is = is_added; well_formed = is_heap };
                    counter = e.counter;
                    not_lower = not_lower;
                    below = record {
                      heap_below = heap_below;
                      current_below = store_raised c.machine.counter e.counter not_lower called.current.store proper_after.current_below;
                      callers_below = All-weaker (IsFrameBelow c.machine.counter) (IsFrameBelow e.counter) (λ f below. store_raised c.machine.counter e.counter not_lower f.store below) called.callers proper_after.callers_below;
                      facts_below = facts_below e.counter state.facts facts;
                    };
                    result_below = all_below_one e.counter v v_below;
                    leads = goes;
                  };
                }

          -- ---- where it has returned or thrown, the run goes on in the frames below

          abbrev frames : List Frame
          frames = caller ∷ c.machine.callers

          record IsEnd (e : End) : Type 0 where
            steps : ℕ
            state : State
            reached_there : reached_in p m inputs steps alone ≡ Some state
            ends_so : step p m inputs state ≡ ends e
            run_is : run p m inputs (suc steps) alone ≡ e

          module _ (e : End) (f : IsEnd e) where
            end_form : EndsThere f.state e ⊎ IsFailed e.ending
            end_form = subst (Form f.state) f.ends_so (runs.step_form p m inputs f.state)

            end_proper : IsProperEnd memory e
            end_proper =
                subst (IsProperEnd memory) f.run_is
                (ends_proper p memory m inputs (suc f.steps) alone made is_memory (record { heap = proper_after.heap; heap_below = proper_after.heap_below; current_below = proper_after.current_below; callers_below = All-nil (IsFrameBelow c.machine.counter) }))

            not_lower_end : EndsThere f.state e → c.machine.counter ≤ e.counter
            not_lower_end there =
                let grows : c.machine.counter ≤ f.state.counter = runs.reached_counter p m inputs f.steps alone f.state f.reached_there in
                let same = there.same_counter in
                omega (arith, grows, same)

            -- the state in the frames below is proper
            proper_below : (u : State) → ending_above frames e.ending (at_end e f.state) ≡ goes_on u → IsProperState memory u
            proper_below u is =
                let there = reaches_above_frames p m inputs f.steps alone f.state frames f.reached_there in
                let proper_there = runs.reached_proper p m inputs memory made is_memory f.steps after_step (above frames f.state) proper_after there in
                subst (IsProperStep memory) (steps_above_frames p m inputs f.state frames ∙ ap (step_above frames f.state) f.ends_so ∙ is) (stays_proper p memory m inputs (above frames f.state) made is_memory proper_there)

          module _ (i : ℕ) (sim : IsSimulated i) (t : Taken) (e : End) (f : IsEnd e) where
            -- a state in the frames below
            goes_below : (le : c.machine.counter ≤ e.counter) (posts : List (List PureItem)) (v : PureValue) (a : Arrives t e (end_proper e f) le posts v) (frame : Frame) (callers : List Frame) (resume : PureValue → State → Step)
                → resume v (arrived t e (end_proper e f) le a.state).machine ≡ goes_on (record (arrived t e (end_proper e f) le a.state).machine { current = frame; callers = callers })
                → ending_above frames e.ending (at_end e f.state) ≡ goes_on (record (at_end e f.state) { current = frame; callers = callers })
                → ((out : Outcome) → Comes p memory m entry spec args found.store found.state posts resume (moved c called) out → Leads p memory m entry c out)
                → Shown entry rest (after (ending_above frames e.ending (at_end e f.state)) (run p m inputs i))
            goes_below le posts v a frame callers resume checked real_step leads_so =
                let u : State = record (at_end e f.state) { current = frame; callers = callers } in
                let d0 : Checked = arrived t e (end_proper e f) le a.state in
                let d : Checked = moved d0 (record d0.machine { current = frame; callers = callers }) in
                let leads_there = leads_so (goes_on_to d) (a.comes resume (goes_on_to d) (sym (ap (stepped p memory m entry d0) checked))) in
                subst (Shown entry rest) (sym (ap (λ st. after st (run p m inputs i)) real_step)) (sim entry (suc n) d rest u is_chosen (c, (reached, leads_there)) (record {
                  own = a.own;
                  union = a.union;
                  realizes = a.realizes;
                  same_current = refl;
                  same_callers = refl;
                  same_counter = refl;
                  proper = proper_below e f u real_step;
                  facts = a.facts;
                  variables = store_raised c.machine.counter e.counter le entry.variables real.variables;
                }))

            -- no frame below takes what was thrown
            ends_below : (le : c.machine.counter ≤ e.counter) (v : PureValue) (place : Place) (a : Arrives t e (end_proper e f) le spec.errors v) → e.ending ≡ threw v place → handling frames ≡ None
                → Shown entry rest (after (ending_above frames e.ending (at_end e f.state)) (run p m inputs i))
            ends_below le v place a ending none =
                let d0 : Checked = arrived t e (end_proper e f) le a.state in
                let real_step : ending_above frames e.ending (at_end e f.state) ≡ ends (end_at (at_end e f.state) (threw v place)) =
                ap (λ x. ending_above frames x (at_end e f.state)) ending ∙ ap (λ o. throw_to o v place (at_end e f.state)) none in
                let checked : throw_to (handling frames) v here d0.machine ≡ ends (end_at d0.machine (threw v here)) = ap (λ o. throw_to o v here d0.machine) none in
                let leads_there = leads (ended p memory m entry d0 (threw v here)) (inr (a.comes (λ w. throw_to (handling frames) w here) (ended p memory m entry d0 (threw v here)) (sym (ap (stepped p memory m entry d0) checked)))) in
                subst (Shown entry rest) (sym (ap (λ st. after st (run p m inputs i)) real_step)) (end_shown d0 a.own (threw v place) e.heap (inl a.union) a.realizes leads_there)

            read_posts : (j : ℕ) (items : List PureItem) → slice_get spec.posts j ≡ Some items → (is_well_made_assertion items ≡ true) × (assertion_fault memory (postcondition spec) items ≡ None)
            read_posts j items at =
                let later = (and_parts (is_well_made_assertion spec.pre) (list_all is_well_made_assertion (spec.posts ++ spec.errors)) good_callee.made).1 in
                let posts = (and_parts (list_all is_well_made_assertion spec.posts) (list_all is_well_made_assertion spec.errors) (sym (list_all-append is_well_made_assertion spec.posts spec.errors) ∙ later)).0 in
                let behind = (either_none (assertion_fault memory (precondition spec) spec.pre) (either (first_fault (assertion_fault memory (postcondition spec)) spec.posts) (first_fault (assertion_fault memory (postcondition spec)) spec.errors)) good_callee.reads).1 in
                let read = (either_none (first_fault (assertion_fault memory (postcondition spec)) spec.posts) (first_fault (assertion_fault memory (postcondition spec)) spec.errors) behind).0 in
                (all_at is_well_made_assertion spec.posts j items at posts, first_fault_at (assertion_fault memory (postcondition spec)) spec.posts j items read at)

            read_errors : (j : ℕ) (items : List PureItem) → slice_get spec.errors j ≡ Some items → (is_well_made_assertion items ≡ true) × (assertion_fault memory (postcondition spec) items ≡ None)
            read_errors j items at =
                let later = (and_parts (is_well_made_assertion spec.pre) (list_all is_well_made_assertion (spec.posts ++ spec.errors)) good_callee.made).1 in
                let errors = (and_parts (list_all is_well_made_assertion spec.posts) (list_all is_well_made_assertion spec.errors) (sym (list_all-append is_well_made_assertion spec.posts spec.errors) ∙ later)).1 in
                let behind = (either_none (assertion_fault memory (precondition spec) spec.pre) (either (first_fault (assertion_fault memory (postcondition spec)) spec.posts) (first_fault (assertion_fault memory (postcondition spec)) spec.errors)) good_callee.reads).1 in
                let read = (either_none (first_fault (assertion_fault memory (postcondition spec)) spec.posts) (first_fault (assertion_fault memory (postcondition spec)) spec.errors) behind).1 in
                (all_at is_well_made_assertion spec.errors j items at errors, first_fault_at (assertion_fault memory (postcondition spec)) spec.errors j items read at)

            returned_below : (v : PureValue) → e.ending ≡ returned v → EndsThere f.state e → LeavesIt p spec args callee.variables t.besides v spec.posts e.heap → Shown entry rest (after (ending_above frames e.ending (at_end e f.state)) (run p m inputs i))
            returned_below v ending there told =
                let le = not_lower_end e f there in
                let v_below : IsBelow e.counter v = subst (IsEndingBelow e.counter) ending (end_proper e f).ending_below in
                let a = arrives t e (end_proper e f) le spec.posts v v_below read_posts told in
                goes_below le spec.posts v a (resumed (Some var) v caller) c.machine.callers (leave frames) refl (ap (λ x. ending_above frames x (at_end e f.state)) ending) (λ out comes. leads out (inl comes))

            threw_below : (v : PureValue) (place : Place) → e.ending ≡ threw v place → EndsThere f.state e → LeavesIt p spec args callee.variables t.besides v spec.errors e.heap → Shown entry rest (after (ending_above frames e.ending (at_end e f.state)) (run p m inputs i))
            threw_below v place ending there told =
                let le = not_lower_end e f there in
                let v_below : IsBelow e.counter v = subst (IsEndingBelow e.counter) ending (end_proper e f).ending_below in
                by le (arrives t e (end_proper e f) le spec.errors v v_below read_errors told) (handling frames) refl
              where
                by : (le : c.machine.counter ≤ e.counter) → Arrives t e (end_proper e f) le spec.errors v → (o : Option Handling) → handling frames ≡ o → Shown entry rest (after (ending_above frames e.ending (at_end e f.state)) (run p m inputs i))
                by le a None none = ends_below le v place a ending none
                by le a (Some h) handled =
                    goes_below le spec.errors v a (caught h.label v h.frame) h.callers (λ w. throw_to (handling frames) w here)
                    (ap (λ o. throw_to o v here (arrived t e (end_proper e f) le a.state).machine) handled)
                    (ap (λ x. ending_above frames x (at_end e f.state)) ending ∙ ap (λ o. throw_to o v place (at_end e f.state)) handled) (λ out comes. leads out (inr comes))

            not_failed : (x : Ending) → e.ending ≡ x → ¬ IsFailed x → EndsThere f.state e
            not_failed x ending isnt = ⊎_elim (λ there. there) (λ fails. absurd (isnt (subst IsFailed ending fails))) (end_form e f)

            below_shown : (x : Ending) → e.ending ≡ x → EndsAsTold p spec args callee.variables t.besides x e.heap → Shown entry rest (after (ending_above frames e.ending (at_end e f.state)) (run p m inputs i))
            below_shown (returned v) ending told = returned_below v ending (not_failed (returned v) ending (λ is. is)) told
            below_shown (threw v place) ending told = threw_below v place ending (not_failed (threw v place) ending (λ is. is)) told
            below_shown (failed v place) ending told = absurd told
            below_shown vanished ending told = subst (λ x. Shown entry rest (after (ending_above frames x (at_end e f.state)) (run p m inputs i))) (sym ending) tt
            below_shown (no_input k) ending told = subst (λ x. Shown entry rest (after (ending_above frames x (at_end e f.state)) (run p m inputs i))) (sym ending) tt
            below_shown (bad_input k) ending told = subst (λ x. Shown entry rest (after (ending_above frames x (at_end e f.state)) (run p m inputs i))) (sym ending) tt
            below_shown cut ending told = subst (λ x. Shown entry rest (after (ending_above frames x (at_end e f.state)) (run p m inputs i))) (sym ending) tt

          -- the whole run: the call by itself, and then the frames below
          called_shown : (k : ℕ) → ((j : ℕ) → j ≤ k → IsSimulated j) → Shown entry rest (run p m inputs (suc k) s)
          called_shown k sims = subst (Shown entry rest) (sym (ap (λ st. after st (run p m inputs k)) l.same)) (⊎_elim under_way ended_so (runs.finishes p m inputs k alone))
            where
              under_way : (w : State) × (reached_in p m inputs k alone ≡ Some w) → Shown entry rest (run p m inputs k after_step)
              under_way (w, there) =
                  let is_cut = (cut_at_its_bound p m inputs k after_step).1 (ap is_some (reaches_above_frames p m inputs k alone w frames there)) in
                  subst (λ x. EndsAsTold p entry.spec entry.args entry.variables rest x (run p m inputs k after_step).heap) (sym is_cut) tt

              ended_so : runs.IsFinished p m inputs k alone → Shown entry rest (run p m inputs k after_step)
              ended_so fin =
                  let t = taken in
                  let (d, (start, realized)) = callee_starts t in
                  let f : IsEnd fin.end = record { steps = fin.steps; state = fin.state; reached_there = fin.reached_there; ends_so = fin.ends_so; run_is = fin.run_is } in
                  let sum = fin.sum in
                  let told = subst (Shown callee t.besides) fin.run_is (sims (suc fin.steps) (omega (arith, sum)) callee 0 d t.besides alone is_used start realized) in
                  let below = below_shown fin.left (sims fin.left (omega (arith, sum))) t fin.end f fin.end.ending refl told in
                  subst (λ j. Shown entry rest (run p m inputs j after_step)) fin.sum
                  (subst (Shown entry rest) (sym (ends_above_frames p m inputs fin.steps fin.left alone fin.state fin.end frames fin.reached_there fin.ends_so)) below)

        -- sorts and the precondition
        module _ (here : Place) (o : Others) (l : IsLocal o (goes_on called)) (k : ℕ) (sims : (j : ℕ) → j ≤ k → IsSimulated j) where
          matched_shown : (fit : fit_params spec.params args ≡ true) (x : Matching) → match_assertion p.preds (spec.params ++ spec.logicals) spec.pre (entry_store spec args []) (logic_state c) ≡ x
              → ((out : Outcome) → Called p memory m entry spec args here x (moved c called) out → Leads p memory m entry c out) → Shown entry rest (run p m inputs (suc k) s)
          matched_shown fit (stops j) matches leads = no_fault call_precondition (leads (has_fault call_precondition) refl)
          matched_shown fit (matched found) matches leads = called_shown here o l fit found matches leads k sims

          contract_shown : (b : Bool) → fit_params spec.params args ≡ b → ((out : Outcome) → CalledIfFit p memory m entry b spec args here (moved c called) out → Leads p memory m entry c out) → Shown entry rest (run p m inputs (suc k) s)
          contract_shown false fit leads = no_fault call_precondition (leads (has_fault call_precondition) refl)
          contract_shown true fit leads = matched_shown fit (match_assertion p.preds (spec.params ++ spec.logicals) spec.pre (entry_store spec args []) (logic_state c)) refl leads

      -- ---- calls

      module _ (k : ℕ) (sims : (j : ℕ) → j ≤ k → IsSimulated j) (var : List ℕ) (e : PureExpr) (es : List PureExpr) (handler : Option ℤ) (numbered : PureNumberedCommand) (at : command_at p c.machine.current ≡ Some numbered) (is : numbered.command ≡ call var e es handler) (well : list_all is_well_made_expr es ≡ true) where
        abbrev here : Place
        here = record { proc = c.machine.current.procedure; at = numbered.at }

        abbrev made_step : Step
        made_step = do_command p m [] (call var e es handler) here c.machine

        no_miss : miss_at p m c.machine ≡ None
        no_miss =
            ap (λ x. option_and_then (λ r. missed_key r.outcome) (option_and_then (λ n. result_of p m n.command c.machine) x)) at
            ∙ ap (λ x. option_and_then (λ r. missed_key r.outcome) (result_of p m x c.machine)) is

        is_local : IsLocal others made_step
        is_local = local others numbered (call var e es handler) at is tt no_miss

        same_step : step p m [] c.machine ≡ made_step
        same_step = ap (λ x. step_at p m [] x c.machine) at ∙ ap (λ x. do_command p m [] x here c.machine) is

        chosen_spec : (t : State) (spec : PureSpec) → made_step ≡ goes_on t → find_spec p.specs t.current.procedure ≡ Some spec → IsChosen p chosen spec
        chosen_spec t spec goes found =
            let (name, place) = spec_at p.specs t.current.procedure spec found in
            let used : used_by p m (command_at p c.machine.current) c.machine ≡ Some spec =
            ap (λ x. used_by p m x c.machine) at ∙ ap (λ x. cond (is_call x) (used_in p (step p m [] c.machine)) None) is ∙ ap (used_in p) (same_step ∙ goes) ∙ found in
            record { found = ap (find_spec p.specs) name ∙ found; is_chosen = verified.uses_only entry.spec is_chosen entry.args entry.variables n c spec reached used }

        entered_shown : (t : State) → made_step ≡ goes_on t → runs.Entering p var (handler_label handler) es c.machine t → (o : Option PureSpec) → find_spec p.specs t.current.procedure ≡ o → (args : Outcomes) → evaluate_all es c.machine.current.store ≡ args
            → ((out : Outcome) → Entered p memory m entry o args here c t out → Leads p memory m entry c out) → Shown entry rest (run p m inputs (suc k) s)
        entered_shown t goes en None found args args_are leads =
            machine_shown k others (goes_on t) (sims k (omega arith)) (subst (Form c.machine) goes (command_form p m [] (call var e es handler) here c.machine tt)) (subst (IsLocal others) goes is_local) leads
        entered_shown t goes en (Some spec) found (Err f) args_are leads =
            machine_shown k others (goes_on t) (sims k (omega arith)) (subst (Form c.machine) goes (command_form p m [] (call var e es handler) here c.machine tt)) (subst (IsLocal others) goes is_local) leads
        entered_shown t goes en (Some spec) found (Ok args) args_are leads =
            let same_args : en.args ≡ args = same_ok en.args args (sym en.args_are ∙ args_are) in
            let below : HoldsOfAll (Below c.machine.counter) args = values_of_exprs (Below c.machine.counter) es c.machine.current.store args well current_below args_are in
            let frame : Frame = record c.machine.current { next = c.machine.current.next + 1; waits = Some var; handler = handler_label handler } in
            let there : State = record c.machine { current = first_frame en.proc.name en.proc.params args; callers = frame ∷ c.machine.callers } in
            let is_there : t ≡ there = en.is ∙ ap (λ vs. record c.machine { current = first_frame en.proc.name en.proc.params vs; callers = frame ∷ c.machine.callers }) same_args in
            let is_spec : find_spec p.specs en.proc.name ≡ Some spec = ap (λ x. find_spec p.specs x.current.procedure) (sym is_there) ∙ found in
            contract_shown var (handler_label handler) en.proc en.found args below spec is_spec (chosen_spec t spec goes found) here others (subst (λ x. IsLocal others (goes_on x)) is_there (subst (IsLocal others) goes is_local)) k sims (fit_params spec.params args) refl
            (subst (λ x. (out : Outcome) → CalledIfFit p memory m entry (fit_params spec.params args) spec args here (moved c x) out → Leads p memory m entry c out) is_there leads)

        calls_shown : (st : Step) → made_step ≡ st → ((out : Outcome) → Calls p memory m entry (evaluate_all es c.machine.current.store) here c st out → Leads p memory m entry c out) → Shown entry rest (run p m inputs (suc k) s)
        calls_shown (ends x) goes leads = machine_shown k others (ends x) (sims k (omega arith)) (subst (Form c.machine) goes (command_form p m [] (call var e es handler) here c.machine tt)) (subst (IsLocal others) goes is_local) leads
        calls_shown (goes_on t) goes leads = entered_shown t goes (runs.call_enters p m var e es handler here c.machine t goes) (find_spec p.specs t.current.procedure) refl (evaluate_all es c.machine.current.store) refl leads

      -- ---- the command at which the state stands

      commands_made : (numbered : PureNumberedCommand) → command_at p c.machine.current ≡ Some numbered → is_well_made_command numbered.command ≡ true
      commands_made numbered at = subst MadeCommand at (command_made (find_proc p.procs c.machine.current.procedure) c.machine.current.next (find_made p.procs c.machine.current.procedure (procs_made p made)))

      exprs_made : (numbered : PureNumberedCommand) (command : PureCommand) → command_at p c.machine.current ≡ Some numbered → numbered.command ≡ command → list_all is_well_made_expr (exprs_of command) ≡ true
      exprs_made numbered command at is = (and_parts (has_well_made_names command) (list_all is_well_made_expr (exprs_of command)) (ap is_well_made_command (sym is) ∙ commands_made numbered at)).1

      leads_by : (numbered : PureNumberedCommand) (command : PureCommand) → command_at p c.machine.current ≡ Some numbered → numbered.command ≡ command → (out : Outcome) → LeadsBy p memory m entry command (record { proc = c.machine.current.procedure; at = numbered.at }) c out → Leads p memory m entry c out
      leads_by numbered command at is out leads =
          subst (λ o. LeadsAt p memory m entry o c out) (sym at) (subst (λ x. LeadsBy p memory m entry x (record { proc = c.machine.current.procedure; at = numbered.at }) c out) (sym is) leads)

      module _ (k : ℕ) (sims : (j : ℕ) → j ≤ k → IsSimulated j) (numbered : PureNumberedCommand) (at : command_at p c.machine.current ≡ Some numbered) where
        sim : IsSimulated k
        sim = sims k (omega arith)

        command_shown : (command : PureCommand) → numbered.command ≡ command → Shown entry rest (run p m inputs (suc k) s)
        command_shown (isym x kind) is = draw_shown k x kind numbered sim at is (leads_by numbered (isym x kind) at is)
        command_shown (call x e es handler) is =
            let well = (and_parts (is_well_made_expr e) (list_all is_well_made_expr es) (exprs_made numbered (call x e es handler) at is)).1 in
            calls_shown k sims x e es handler numbered at is well (do_command p m [] (call x e es handler) (record { proc = c.machine.current.procedure; at = numbered.at }) c.machine) refl (leads_by numbered (call x e es handler) at is)
        command_shown (fold_use u) is =
            fold_shown k u sim (steps_so numbered (fold_use u) at is) (exprs_made numbered (fold_use u) at is) (core_of u.pred) (evaluate_all u.ins (names_at entry c)) (evaluate_all u.outs (names_at entry c)) refl refl (leads_by numbered (fold_use u) at is)
        command_shown (unfold_use u) is =
            unfold_shown k u.pred sim (steps_so numbered (unfold_use u) at is) (core_of u.pred) (evaluate_all u.ins (names_at entry c)) (evaluate_all u.outs (names_at entry c)) (leads_by numbered (unfold_use u) at is)
        command_shown (assert_that items) is =
            assert_shown k sim (steps_so numbered (assert_that items) at is) (match_assertion p.preds (logicals_in c.machine.callers entry) items (names_at entry c) (logic_state c)) (leads_by numbered (assert_that items) at is)
        command_shown (loop_invariant xs ps items) is =
            visits_shown k xs ps items numbered sim (steps_so numbered (loop_invariant xs ps items) at is) (items_made items (exprs_made numbered (loop_invariant xs ps items) at is)) at is
            (passed_at c.machine.current.next (current_passed c.passed)) refl (invariant_match p memory m entry xs ps items c) refl (leads_by numbered (loop_invariant xs ps items) at is)
        command_shown (assign x e) is = plain_shown k numbered (assign x e) sim at is tt (leads_by numbered (assign x e) at is)
        command_shown (act x a es) is = plain_shown k numbered (act x a es) sim at is tt (leads_by numbered (act x a es) at is)
        command_shown (usym x) is = plain_shown k numbered (usym x) sim at is tt (leads_by numbered (usym x) at is)
        command_shown (ifgoto e i) is = plain_shown k numbered (ifgoto e i) sim at is tt (leads_by numbered (ifgoto e i) at is)
        command_shown (return e) is = plain_shown k numbered (return e) sim at is tt (leads_by numbered (return e) at is)
        command_shown (fail e) is = plain_shown k numbered (fail e) sim at is tt (leads_by numbered (fail e) at is)
        command_shown (throw e) is = plain_shown k numbered (throw e) sim at is tt (leads_by numbered (throw e) at is)
        command_shown vanish is = plain_shown k numbered vanish sim at is tt (leads_by numbered vanish at is)

      -- where there is no command, nothing happens
      nothing_shown : (k : ℕ) → IsSimulated k → command_at p c.machine.current ≡ None → Shown entry rest (run p m inputs (suc k) s)
      nothing_shown k sim at =
          let is : step p m inputs s ≡ goes_on s = ap (λ x. step_at p m inputs x s) (ap (command_at p) real.same_current ∙ at) in
          let leads : (out : Outcome) → out ≡ stepped p memory m entry c (goes_on c.machine) → Leads p memory m entry c out = λ out goes. subst (λ o. LeadsAt p memory m entry o c out) (sym at) goes in
          continues k (moved c c.machine) s sim (leads (goes_on_to (moved c c.machine)) refl) is (record {
            own = real.own;
            union = real.union;
            realizes = real.realizes;
            same_current = real.same_current;
            same_callers = real.same_callers;
            same_counter = real.same_counter;
            proper = real.proper;
            facts = real.facts;
            variables = real.variables;
          })

      state_shown : (k : ℕ) → ((j : ℕ) → j ≤ k → IsSimulated j) → Shown entry rest (run p m inputs (suc k) s)
      state_shown k sims = by (command_at p c.machine.current) refl
        where
          by : (o : Option PureNumberedCommand) → command_at p c.machine.current ≡ o → Shown entry rest (run p m inputs (suc k) s)
          by None at = nothing_shown k (sims k (omega arith)) at
          by (Some numbered) at = command_shown k sims numbered at numbered.command refl

    -- ---- all runs, by induction on the number of steps, over all specifications at once

    one_more : (k : ℕ) → ((j : ℕ) → j ≤ k → IsSimulated j) → IsSimulated (suc k)
    one_more k sims entry n c rest s is_chosen reached real = state_shown entry is_chosen n c reached rest s real k sims

    pub all_simulated : (k j : ℕ) → j ≤ k → IsSimulated j
    all_simulated k zero le = λ entry n c rest s is_chosen reached real. tt
    all_simulated zero (suc j) le = absurd (omega (arith, le))
    all_simulated (suc k) (suc j) le = one_more j (λ i small. all_simulated k i (omega (arith, small, le)))
