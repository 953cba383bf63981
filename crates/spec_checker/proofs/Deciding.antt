-- Where no checked run has a fault or is cut, no cause shows one.
use Rattle.std.proofs.Common.{◌≡◌, ℕ, zero, suc, List, true, slice_get, Option, Some, None, sym, subst, ◌∙◌}
use Rattle.gil_syntax.specs.Programs.{find_spec}
use Rattle.gil_syntax.specs.Pure.{PureSpec, PureParts, PureNumberedCommand}
use Rattle.gil_syntax.specs.Valid.{IsValid}
use Rattle.gil_syntax.specs.WellMade.{is_well_made}
use Rattle.gil_machine.specs.Step.{command_at}
use Rattle.mem_model.specs.declared.keys.MemoryName.{MemoryName}
use Rattle.mem_model.specs.Actions.{Actions}
use Rattle.assert_logic.specs.Modes.{HasModes}
use Rattle.checked_runs.specs.Checked.{Checked, Outcome, has_fault, Entry, Leads, LeadsAt, IsStart, IsReachedIn}
use Rattle.checked_paths.specs.Causes.{PureCause, failure, fault, bound, undecided, cause_view}
use Rattle.checked_paths.specs.Choosing.{LeadsAlong, LeadsAlongAt}
use Rattle.checked_paths.specs.Pure.{PureEntry}
use Rattle.checked_paths.specs.Trails.{Runs}
use Rattle.plain_specs.specs.Contained.{IsContained, RunsAlone}
use Rattle.plain_specs.specs.Laws.{HasOnlyGoodRuns, ContainedSpecificationsAreDecided}
use Rattle.spec_answers.specs.declared.answers.SpecAnswer.{SpecAnswer}
use Rattle.spec_answers.specs.declared.answers.Verdict.{Verdict}
use Rattle.spec_causes.specs.Causes.{MeetsAbove, IsCauseOf, entry_for}
use Rattle.spec_causes.specs.declared.meeting.Met.{Met}
use Rattle.spec_checker.specs.Answers.{IsCauseIfUnproved, AreCauses}
use Rattle.checked_paths.specs.Plainly.{IsSureCause}
use Rattle.spec_exploration.specs.Plain.{IsPlainSpec}
use Rattle.spec_checker.specs.Deciding.{IsDoubt, IsOwn, ShowsNoFault, AreDecided, IsSureIfUnproved, IsProved, AreSettled}
use Rattle.spec_checker.proofs.Found.{found_at}

module _ (p : PureParts) (memory : MemoryName) (m : Actions) (entry : Entry) where
  leads_along : (c : Checked) (chosen : Option ℕ) (out : Outcome) → LeadsAlong p memory m entry c chosen out → Leads p memory m entry c out
  leads_along c chosen out = by (command_at p c.machine.current)
    where
      by : (o : Option PureNumberedCommand) → LeadsAlongAt p memory m entry o c chosen out → LeadsAt p memory m entry o c out
      by (Some n) along = along.0
      by None along = along.0

  run_reaches : (start : Checked) → IsStart p memory m entry start → (n : ℕ) (choices : List ℕ) (c : Checked) → Runs p memory m entry start n choices c → IsReachedIn p memory m entry n c
  run_reaches start is zero choices c runs = subst (IsStart p memory m entry) (sym runs.0) is
  run_reaches start is (suc n) choices c (before, (earlier, (chosen, (runs, along, same)))) = (before, (run_reaches start is n earlier before runs, leads_along before chosen _ along))

module _ (p : PureParts) (memory : MemoryName) (m : Actions) (most : ℕ) (s : PureSpec) (good : HasOnlyGoodRuns p memory m s most) where
  -- the same of an entry of the specification
  no_fault_of : (entry : Entry) → entry.spec ≡ s → (n : ℕ) (c : Checked) (out : Outcome) → IsReachedIn p memory m entry n c → Leads p memory m entry c out → ¬ ((f : _) × (out ≡ has_fault f))
  no_fault_of entry same n c out there leads (f, is) =
      let of_spec : entry ≡ record { spec = s; args = entry.args; variables = entry.variables } = λ i. record { spec = same i; args = entry.args; variables = entry.variables } in
      good.no_fault entry.args entry.variables n c f (subst (λ e. IsReachedIn p memory m e n c) of_spec there) (subst (λ o. Leads p memory m (record { spec = s; args = entry.args; variables = entry.variables }) c o) is (subst (λ e. Leads p memory m e c out) of_spec leads))

  not_cut_of : (entry : Entry) → entry.spec ≡ s → (c : Checked) → ¬ IsReachedIn p memory m entry most c
  not_cut_of entry same c there =
      let of_spec : entry ≡ record { spec = s; args = entry.args; variables = entry.variables } = λ i. record { spec = same i; args = entry.args; variables = entry.variables } in
      good.none_is_cut entry.args entry.variables c (subst (λ e. IsReachedIn p memory m e most c) of_spec there)

  only_doubts : (e : PureEntry) (cause : PureCause) → IsCauseOf p memory m s most e cause → IsDoubt cause
  only_doubts e (undecided reason shown) cause = tt
  only_doubts e (failure t shown) cause =
      let (entry, (start, (st, into))) = cause.runs.runs cause.shows.counter cause.shows.valuation cause.shows.meets in
      no_fault_of entry (st.entered.spec ∙ cause.of_spec) cause.runs.steps into.state into.outcome
      (run_reaches p memory m entry start st.is_start cause.runs.steps into.earlier into.state into.runs) (leads_along p memory m entry into.state into.chosen into.outcome into.leads)
      (let (r, (value, fails)) = into.is in (_, fails))
  only_doubts e (fault kind shown) cause =
      let (entry, (start, (st, into))) = cause.runs.runs cause.shows.counter cause.shows.valuation cause.shows.meets in
      no_fault_of entry (st.entered.spec ∙ cause.of_spec) cause.runs.steps into.state into.outcome
      (run_reaches p memory m entry start st.is_start cause.runs.steps into.earlier into.state into.runs) (leads_along p memory m entry into.state into.chosen into.outcome into.leads)
      (_, into.is)
  only_doubts e (bound shown) cause =
      let (entry, (start, (st, (c, (runs, there))))) = cause.runs cause.shows.counter cause.shows.valuation cause.shows.meets in
      not_cut_of entry (st.entered.spec ∙ cause.of_spec) c (run_reaches p memory m entry start st.is_start most shown.choices c runs)

  shows_no_fault : (v : Verdict Met) → IsOwn v → IsCauseIfUnproved p memory m most s v → ShowsNoFault v
  shows_no_fault Verdict.Verified own right = tt
  shows_no_fault (Verdict.Vacuous proof) own right = tt
  shows_no_fault (Verdict.DependsOn g) own right = own
  shows_no_fault (Verdict.Unproved met) own right = only_doubts (entry_for s met.entered) (cause_view met.cause) right

pub answers_decided : ContainedSpecificationsAreDecided → (p : PureParts) (memory : MemoryName) (m : Actions) (most : ℕ) (answers : List (SpecAnswer Met)) → is_well_made p ≡ true → IsValid p → HasModes p memory → AreCauses p memory m most answers
    → ((k : ℕ) (s : PureSpec) (a : SpecAnswer Met) → slice_get p.specs k ≡ Some s → slice_get answers k ≡ Some a → IsContained p s → IsOwn a.verdict) → AreDecided p memory m most answers
answers_decided law p memory m most answers made valid modes causes own = record {
  each_own = own;
  each_decided = λ k s a at_s at_a contained alone.
      shows_no_fault p memory m most s (law p memory m s most made valid modes (found_at p valid k s at_s) contained alone) a.verdict (own k s a at_s at_a contained) (causes.each_right k s a at_s at_a);
}

-- ---- plain specifications

no_doubt : (cause : PureCause) → IsDoubt cause → IsSureCause cause → ⊥
no_doubt (undecided reason shown) doubt sure = sure
no_doubt (failure t shown) doubt sure = doubt
no_doubt (fault kind shown) doubt sure = doubt
no_doubt (bound shown) doubt sure = doubt

proved_by : (v : Verdict Met) → ShowsNoFault v → IsSureIfUnproved v → IsProved v
proved_by Verdict.Verified no_fault sure = tt
proved_by (Verdict.Vacuous proof) no_fault sure = tt
proved_by (Verdict.Unproved met) no_fault sure = no_doubt (cause_view met.cause) no_fault sure
proved_by (Verdict.DependsOn g) no_fault sure = no_fault

pub answers_settled : (p : PureParts) (memory : MemoryName) (m : Actions) (most : ℕ) (answers : List (SpecAnswer Met)) → AreDecided p memory m most answers
    → ((k : ℕ) (s : PureSpec) (a : SpecAnswer Met) → slice_get p.specs k ≡ Some s → slice_get answers k ≡ Some a → IsPlainSpec p s → IsSureIfUnproved a.verdict) → AreSettled p memory m most answers
answers_settled p memory m most answers decided surely = record {
  each_sure = surely;
  each_proved = λ k s a at_s at_a plain alone. proved_by a.verdict (decided.each_decided k s a at_s at_a plain.contained alone) (surely k s a at_s at_a plain);
}
