-- Where a called procedure has ended by its specification, the path stands for the checked state where it has.
use Rattle.std.proofs.Common.{◌≡◌, inl, inr, ℕ, ◌≤◌, List, [], ◌++◌, length, true, Some, None, sym, ap, subst, ◌∙◌}
use Rattle.gil_values.specs.declared.places.Place.{Place}
use Rattle.gil_values.specs.Pure.{PureValue}
use Rattle.gil_values.specs.Symbols.{AreBelow}
use Rattle.gil_syntax.specs.Pure.{PureParts}
use Rattle.gil_syntax.specs.Valid.{IsValid}
use Rattle.gil_machine.specs.State.{State, threw, Step, goes_on, ends, end_at}
use Rattle.gil_machine.specs.Step.{leave, throw_to, handling}
use Rattle.mem_model.specs.declared.keys.MemoryName.{MemoryName}
use Rattle.mem_model.specs.Actions.{Actions}
use Rattle.mem_model.specs.Heaps.{Heap}
use Rattle.assert_logic.specs.LogicStates.{LogicState}
use Rattle.checked_runs.specs.Checked.{Checked, Outcome, goes_on_to, Entry, with_logic, moved, stepped, over_or, some_matches, result_store, post}
use Rattle.pure_terms.specs.declared.variables.Sort.{Sort}
use Rattle.pure_terms.specs.Meaning.{value, IsProper, IsOver}
use Rattle.pure_terms.specs.Pure.{PureTerm, PureAtom, term_of}
use Rattle.sym_engine.specs.Placed.{AreAtCommands}
use Rattle.sym_leaving.specs.Leaving.{StandsWhereGoesOn, KeepsAllButFrames, caught, uncaught}
use Rattle.sym_model.specs.Laws.{IsMeaning}
use Rattle.sym_model.specs.Lists.{Each}
use Rattle.sym_model.specs.Terms.{StateTerms, all_of, AreEachOver}
use Rattle.sym_paths.specs.Meaning.{AreFrames, frames_of, Stands, OfEachName, IsOverTable, end_terms}
use Rattle.sym_paths.specs.Pure.{PurePath}
use Rattle.sym_paths.proofs.Growing.{path_over, path_stands}
use Rattle.sym_states.specs.Meaning as states
use Rattle.sym_states.specs.Pure.{PureFact, PureState}
use Rattle.checked_paths.proofs.Growing.{entered_more, entry_over_more, passed_by_over_more}
use Rattle.checked_paths.proofs.Lists.{kept_each}
use Rattle.checked_paths.specs.Covering.{CoversOutcome, IsCaused}
use Rattle.checked_paths.specs.Following.{GoesOnWith, IsAnswerTo, IsAnswered}
use Rattle.checked_paths.specs.Meaning.{StandsForChecked, IsEntered, IsEntryOver, AreFactsOver, IsPassedOver, MayGoOn}
use Rattle.checked_paths.specs.Pure.{PureEntry, PureChecking, PureNext, further, over as done_over, caused}
use Rattle.checked_rows.specs.States.{IsStateOf, with_state}
use Rattle.checked_rows.proofs.RowLaws.{answer_of_cause, passed_longer, goes_covers}
use Rattle.call_rows.specs.declared.leaving.Completion.{Completion}
use Rattle.call_rows.specs.Leaving.{after, with_number, MayComplete, EndsOver, EndsEntry, GoesOnAfter}
use Rattle.call_rows.specs.Matches.{StaysAt}

-- a cause lets any path stay
pub cause_stays : {S : Type 0} (p : PureParts) (terms : S → StateTerms) (e : PureEntry) (y : PureChecking S) (k : PureNext S) → IsCaused k → StaysAt p terms e y k
cause_stays p terms e y (caused cause) is = tt
cause_stays p terms e y done_over is = tt
cause_stays p terms e y (further z) is = absurd is

module _ {S : Type 0} (p : PureParts) (memory : MemoryName) (m : Actions) (stands : S → List PureValue → Heap → Type 0) (terms : S → StateTerms) (meaning : IsMeaning memory stands terms) (e : PureEntry) (y : PureChecking S) (may : MayGoOn p terms e y) where
  -- the next path, with these facts and what was passed, may go on
  stays_on : (next : PurePath S) (facts : List PureFact) (z : PureChecking S) → GoesOnWith stands terms facts y.passed next z → (sorts : List Sort) → next.ending ≡ None → AreAtCommands p next.stack → IsOverTable terms next → AreFactsOver next.vars facts → next.vars ≡ y.path.vars ++ sorts → next.steps ≡ y.path.steps
      → StaysAt p terms e y (further z)
  stays_on next facts z with_it sorts still placed next_over facts_over vars steps =
      let passed_over : Each (Each (IsPassedOver terms next.vars)) y.passed = subst (λ vs. Each (Each (IsPassedOver terms vs)) y.passed) (sym vars) (passed_by_over_more y.path.vars sorts terms y.passed may.over.passed) in
      let same : z.path.vars ≡ next.vars = ap (λ (q : PurePath S). q.vars) with_it.same_path in (
        record {
          no_end = ap (λ (q : PurePath S). q.ending) with_it.same_path ∙ still;
          placed = subst (AreAtCommands p) (ap (λ (q : PurePath S). q.stack) (sym with_it.same_path)) placed;
          over = record {
            entry = subst (λ vs. IsEntryOver vs e) (sym (same ∙ vars)) (entry_over_more y.path.vars sorts e may.over.entry);
            path = subst (IsOverTable terms) (sym with_it.same_path) next_over;
            facts = subst (λ vs. AreFactsOver vs z.facts) (sym same) (subst (AreFactsOver next.vars) (sym with_it.same_facts) facts_over);
            passed = subst (λ vs. Each (Each (IsPassedOver terms vs)) z.passed) (sym same) (with_it.kept.over next.vars (kept_each (Each (IsPassedOver terms next.vars)) tt (length next.stack) y.passed passed_over));
          };
        },
        ap (λ (q : PurePath S). q.steps) with_it.same_path ∙ steps,
      )

  module _ (r : PureState S) (sorts : List Sort) (vars : r.vars ≡ y.path.vars ++ sorts) where
    abbrev pub there : PurePath S
    there = with_state y.path r

    pub there_over : states.IsOverTable terms r → IsOverTable terms there
    there_over over =
        let grown = path_over terms y.path sorts may.over.path in
        record {
          conds = over.conds;
          given = subst (λ vs. Each (λ a. IsOver vs (term_of a)) y.path.given) (sym vars) grown.given;
          stores = subst (λ vs. Each (λ f. OfEachName (IsOver vs) f.store) y.path.stack) (sym vars) grown.stores;
          memory = over.memory;
          drawn = subst (λ vs. AreEachOver vs y.path.drawn) (sym vars) grown.drawn;
          ending = subst (λ vs. AreEachOver vs (end_terms y.path.ending)) (sym vars) grown.ending;
        }

    -- ---- what may go on

    keeps_stays : (t : PureTerm) (next : PurePath S) (k : PureNext S) → IsValid p → states.IsOverTable terms r → IsOver r.vars t → KeepsAllButFrames stands terms there t next → IsAnswered stands terms r.facts y.passed next k → StaysAt p terms e y k
    keeps_stays t next k valid over t_over keeps answered =
        let still : next.ending ≡ None = ap (λ (q : PurePath S). q.ending) keeps.same_else ∙ may.no_end in
        let (z, (same, with_it)) = subst (λ o. IsAnswerTo stands terms r.facts y.passed next o k) still answered in
        let same_vars : next.vars ≡ r.vars = ap (λ (q : PurePath S). q.vars) keeps.same_else in
        subst (StaysAt p terms e y) (sym same)
        (stays_on next r.facts z with_it sorts still (keeps.placed p valid may.placed) (keeps.over (there_over over) t_over) (subst (λ vs. AreFactsOver vs r.facts) (sym same_vars) over.facts) (same_vars ∙ vars)
        (ap (λ (q : PurePath S). q.steps) keeps.same_else))

    ends_stays : (here : Place) (t : PureTerm) (path : PurePath S) (k : PureNext S) → EndsEntry p stands terms e here r.facts t path k → StaysAt p terms e y k
    ends_stays here t path k (q, (is, inl cause, exactly)) = cause_stays p terms e y k cause
    ends_stays here t path k (q, (is, inr (done, law), exactly)) = subst (StaysAt p terms e y) (sym done) tt

    pub after_stays : (there_is : Place) (how : Completion) (t : PureTerm) (k : PureNext S) → IsValid p → states.IsOverTable terms r → IsOver r.vars t → GoesOnAfter p stands terms e y there_is how t r k → StaysAt p terms e y k
    after_stays there_is Completion.Returns t k valid over t_over (next, (left, answered)) = keeps_stays t next k valid over t_over left.keeps answered
    after_stays there_is Completion.Throws t k valid over t_over (caught next, (thrown, answered)) = keeps_stays t next k valid over t_over thrown.keeps answered
    after_stays there_is Completion.Throws t k valid over t_over (uncaught next, (thrown, answered)) = ends_stays there_is t next k answered

    -- ---- what is covered

    module _ (v w more : List PureValue) (entry : Entry) (c : Checked) (l : LogicState) (counter : ℕ) (out : Outcome) (longer : w ≡ v ++ more) (stand : StandsForChecked stands e y v entry c) (is : states.Stands stands r w l) (higher : c.machine.counter ≤ counter) (below : AreBelow counter more) where
      abbrev pub d : Checked
      d = with_logic l counter c

      pub stands_there : Stands stands there w d.machine
      stands_there =
          let proper : IsProper (y.path.vars ++ sorts) (v ++ more) = subst (IsProper (y.path.vars ++ sorts)) longer (subst (λ vs. IsProper vs w) vars is.proper) in
          let grown = path_stands memory stands terms meaning y.path v c.machine sorts more counter may.over.path stand.path proper higher below in
          record {
            proper = is.proper;
            meets = is.meets;
            frames = subst (λ u. AreFrames u y.path.stack (frames_of d.machine)) (sym longer) grown.frames;
            memory = is.memory;
            symbols_below = subst (AreBelow counter) (sym longer) grown.symbols_below;
            draws = stand.path.draws;
          }

      keeps_covers : (t : PureTerm) (next : PurePath S) (k : PureNext S) (s : State) → KeepsAllButFrames stands terms there t next → IsAnswered stands terms r.facts y.passed next k → Stands stands next w s → out ≡ goes_on_to (moved d s) → CoversOutcome stands e entry v out k
      keeps_covers t next k s keeps answered is_next leads =
          let still : next.ending ≡ None = ap (λ (q : PurePath S). q.ending) keeps.same_else ∙ may.no_end in
          let (z, (same, with_it)) = subst (λ o. IsAnswerTo stands terms r.facts y.passed next o k) still answered in
          subst (CoversOutcome stands e entry v out) (sym same)
          (goes_covers memory stands terms meaning e y may.over next r.facts y.passed z with_it v w more entry c d s out longer stand is_next is.facts (passed_longer memory stands terms meaning e y may.over v w more entry c longer stand) leads)

      step_covers : (t : PureTerm) (next : PurePath S) (k : PureNext S) (step : Step) → KeepsAllButFrames stands terms there t next → IsAnswered stands terms r.facts y.passed next k → StandsWhereGoesOn stands next w step → out ≡ stepped p memory m entry d step → CoversOutcome stands e entry v out k
      step_covers t next k (goes_on s) keeps answered is_next leads = keeps_covers t next k s keeps answered is_next leads
      step_covers t next k (ends end) keeps answered is_next leads = absurd is_next

      pub entered : IsEntered w e entry
      entered = subst (λ u. IsEntered u e entry) (sym longer) (entered_more y.path.vars v more stand.path.proper.one_each e entry may.over.entry stand.entered)

      pub state_there : (q : PureState S) (path : PurePath S) → path ≡ record there { stack = [] } → IsStateOf stands terms path r.facts q → states.Stands stands q w l
      state_there q path same is_state =
          let at : IsStateOf stands terms (record there { stack = [] }) r.facts q = subst (λ n. IsStateOf stands terms n r.facts q) same is_state in
          subst (λ s. states.Stands stands s w l) (sym at.is) (record { proper = is.proper; meets = is.meets; memory = at.stands_for w l.heap is.memory; facts = is.facts })

      ends_covers : (there_is : Place) (t : PureTerm) (path : PurePath S) (result : PureValue) (here : Place) (k : PureNext S) → path ≡ record there { stack = [] } → value w t ≡ Some result → EndsEntry p stands terms e there_is r.facts t path k → out ≡ stepped p memory m entry d (ends (end_at d.machine (threw result here))) → CoversOutcome stands e entry v out k
      ends_covers there_is t path result here k same has (q, (is_state, inl cause, exactly)) leads = answer_of_cause stands e entry v out k cause
      ends_covers there_is t path result here k same has (q, (is_state, inr (done, law), exactly)) leads =
          let matched : some_matches p entry e.spec.errors (result_store entry result) l ≡ true = law w entry l result entered (state_there q path same is_state) has in
          let there_too : some_matches p entry entry.spec.errors (result_store entry result) l ≡ true = ap (λ s. some_matches p entry s.errors (result_store entry result) l) entered.spec ∙ matched in
          subst (CoversOutcome stands e entry v out) (sym done) (leads ∙ ap (λ b. over_or b post) there_too)

      pub after_covers : (there_is : Place) (how : Completion) (t : PureTerm) (result : PureValue) (here : Place) (k : PureNext S) → value w t ≡ Some result → GoesOnAfter p stands terms e y there_is how t r k → out ≡ stepped p memory m entry d (after how here c.machine.callers result d.machine) → CoversOutcome stands e entry v out k
      after_covers there_is Completion.Returns t result here k has (next, (left, answered)) leads = step_covers t next k (leave c.machine.callers result d.machine) left.keeps answered (left.stands_for w d.machine result stands_there has) leads
      after_covers there_is Completion.Throws t result here k has (caught next, (thrown, answered)) leads =
          step_covers t next k (throw_to (handling c.machine.callers) result here d.machine) thrown.keeps answered (thrown.stands_for w d.machine result here stands_there has) leads
      after_covers there_is Completion.Throws t result here k has (uncaught next, (thrown, answered)) leads =
          ends_covers there_is t next result here k thrown.no_frame has answered (leads ∙ ap (stepped p memory m entry d) (thrown.ends_there w d.machine result here stands_there))

-- ---- where a throw ends the entry

-- the state where it does names only variables of its table
pub ends_over : {S : Type 0} (stands : S → List PureValue → Heap → Type 0) (terms : S → StateTerms) (e : PureEntry) (t : PureTerm) (facts : List PureFact) (path : PurePath S) (q : PureState S) → IsStateOf stands terms path facts q → EndsOver terms e t facts path → states.IsOverTable terms q
ends_over stands terms e t facts path q is over = subst (states.IsOverTable terms) (sym is.is) (record {
  conds = over.conds;
  given = over.given;
  memory = subst (λ ts. AreEachOver path.vars (all_of ts)) (sym is.same_terms) over.memory;
  facts = over.facts_over;
})

pub uncaught_over : {S : Type 0} (terms : S → StateTerms) (e : PureEntry) (t : PureTerm) (y : PureChecking S) (r : PureState S) (path : PurePath S) → MayComplete terms e y.path.given t r → path ≡ record (with_state y.path r) { stack = [] } → EndsOver terms e t r.facts path
uncaught_over terms e t y r path may is = subst (EndsOver terms e t r.facts) (sym is) (record {
  conds = may.over.conds;
  given = may.assumed;
  memory = may.over.memory;
  facts_over = may.over.facts;
  entry = may.entry;
  result = may.result;
})

-- ---- a choice more

pub numbered_may : {S : Type 0} (terms : S → StateTerms) (e : PureEntry) (given : List PureAtom) (t : PureTerm) (r : PureState S) (number : ℕ) → MayComplete terms e given t r → MayComplete terms e given t (with_number r number)
numbered_may terms e given t r number may = record {
  over = record { conds = may.over.conds; given = may.over.given; memory = may.over.memory; facts = may.over.facts };
  entry = may.entry;
  assumed = may.assumed;
  result = may.result;
}
