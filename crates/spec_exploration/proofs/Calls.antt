-- What is used at a path that runs reach is used by a checked run.
use Rattle.std.proofs.Common.{◌≡◌, inl, inr, ℕ, zero, suc, ◌<◌, List, [], Option, Some, None, refl, sym, subst, append-nil}
use Rattle.gil_values.specs.Pure.{PureValue}
use Rattle.gil_syntax.specs.Pure.{PureParts, PureNumberedCommand}
use Rattle.gil_machine.specs.Step.{command_at}
use Rattle.mem_model.specs.declared.keys.MemoryName.{MemoryName}
use Rattle.mem_model.specs.Actions.{Actions}
use Rattle.mem_model.specs.Heaps.{Heap}
use Rattle.checked_runs.specs.Checked.{Checked, Outcome, Entry, LeadsAt, IsStart, IsReachedIn}
use Rattle.pure_terms.specs.Meaning.{Satisfies}
use Rattle.sym_model.specs.Laws.{IsMeaning}
use Rattle.sym_model.specs.Lists.{Each}
use Rattle.sym_model.specs.Terms.{StateTerms}
use Rattle.sym_model.proofs.ListLaws.{each_to}
use Rattle.checked_paths.specs.Choosing.{LeadsAlongAt}
use Rattle.checked_paths.specs.Exactness.{HaveMore}
use Rattle.checked_paths.specs.Meaning.{MayGoOn}
use Rattle.checked_paths.specs.Pure.{PureEntry, PureChecking}
use Rattle.checked_paths.specs.Trails.{Runs, IsTrail, IsFollowedBy}
use Rattle.checked_paths.proofs.TrailSteps.{meets_before, more_again, trail_vars, trail_conds, runs_follow_on, met_along}
use Rattle.call_rows.specs.Uses.{IsUsedThere, AreUsedThere}
use Rattle.spec_causes.specs.Causes.{MayBeMet, StartsUnder, RunsWherever, IsReachable}
use Rattle.spec_causes.specs.Reaching.{IsReached}
use Rattle.spec_causes.proofs.Asked.{plain_trail}
use Rattle.spec_causes.proofs.Existing.{met_canonically}
use Rattle.spec_causes.proofs.Reached.{IsBegun, begun}
use Rattle.spec_exploration.specs.Calls.{CallsAfter, CallsInRun, IsUsedByRuns}

-- ---- runs that make choices are runs

module _ (p : PureParts) (memory : MemoryName) (m : Actions) (entry : Entry) where
  leads_by : (o : Option PureNumberedCommand) (c : Checked) (chosen : Option ℕ) (out : Outcome) → LeadsAlongAt p memory m entry o c chosen out → LeadsAt p memory m entry o c out
  leads_by (Some n) c chosen out along = along.0
  leads_by None c chosen out along = along.0

  run_reaches : (start : Checked) → IsStart p memory m entry start → (n : ℕ) (choices : List ℕ) (c : Checked) → Runs p memory m entry start n choices c → IsReachedIn p memory m entry n c
  run_reaches start is zero choices c runs = subst (IsStart p memory m entry) (sym runs.0) is
  run_reaches start is (suc n) choices c (before, (earlier, (chosen, (runs, along, same)))) =
      (before, (run_reaches start is n earlier before runs, leads_by (command_at p before.machine.current) before chosen _ along))

-- ---- a path that runs reach

nothing_more : {A : Type 0} (xs : List A) → HaveMore xs xs
nothing_more xs = ([], sym (append-nil xs))

module _ {S : Type 0} (p : PureParts) (memory : MemoryName) (m : Actions) (stands : S → List PureValue → Heap → Type 0) (terms : S → StateTerms) (e : PureEntry) (most : ℕ) (meaning : IsMeaning memory stands terms) (x : PureChecking S)
    (reached : IsReached p memory m stands terms e x) (may : MayGoOn p terms e x) (early : x.path.steps < most) where
  abbrev Start : PureChecking S
  Start = reached.start

  trail : IsTrail p memory m stands terms e Start x.path.steps x
  trail = plain_trail memory m stands terms meaning p e Start x.path.steps x reached.trail

  module _ (name : List ℕ) (used : IsUsedThere p m stands e x name) where
    -- the path's conditions, at which the specification is used, can be met where those of its start can
    comes : IsReachable p memory m e x.path.vars used.conds
    comes = record {
      first_vars = Start.path.vars;
      first = Start.path.conds;
      come = reached.come;
      may_be_met = reached.may_be_met;
      table = trail_vars memory m stands terms meaning p e Start x.path.steps x trail;
      longer = more_again Start.path.conds x.path.conds used.conds (trail_conds memory m stands terms meaning p e Start x.path.steps x trail) used.longer;
      can = λ v meets. let (w, met) = met_along memory m stands terms meaning p e Start x.path.steps x trail v meets in used.met w met;
    }

    -- and wherever they are met, a run comes there
    runs : RunsWherever p memory m e x.path.vars used.conds (λ w entry start. CallsAfter p memory m x.path.steps name entry start)
    runs counter w above =
        let b : IsBegun memory m stands terms meaning p e x reached may x.path.vars counter w = begun memory m stands terms meaning p e x reached may x.path.vars used.conds counter w (nothing_more x.path.vars) used.longer above in
        let meets : Satisfies x.path.vars w x.path.conds =
        meets_before x.path.vars x.path.vars w w [] [] x.path.conds used.conds (sym (append-nil x.path.vars)) (sym (append-nil w)) above.meets.proper.one_each used.longer may.over.path.conds above.meets in
        let by : IsFollowedBy p memory m stands terms e Start x.path.steps x w b.entry b.first =
        runs_follow_on memory m stands terms meaning p e b.entry Start b.v0 b.first b.standing x.path.steps x w trail b.continued meets in
        (b.entry, (b.first, (b.under, record { state = by.state; choices = by.choices; runs = by.runs; uses = used.uses w b.entry by.state by.stands_for above.meets })))

    in_run : (counter : ℕ) (w : List PureValue) (entry : Entry) (start : Checked) → StartsUnder p memory m e counter x.path.vars w entry start → CallsAfter p memory m x.path.steps name entry start → CallsInRun p memory m e.spec most name
    in_run counter w entry start under after =
        let of_spec : entry ≡ record { spec = e.spec; args = entry.args; variables = entry.variables } = λ i. record { spec = under.entered.spec i; args = entry.args; variables = entry.variables } in
        record {
          args = entry.args;
          variables = entry.variables;
          steps = x.path.steps;
          within = early;
          state = after.state;
          reached = subst (λ it. IsReachedIn p memory m it x.path.steps after.state) of_spec (run_reaches p memory m entry start under.is_start x.path.steps after.choices after.state after.runs);
          uses = after.uses;
        }

    used_by_runs : MayBeMet Start.path.vars Start.path.conds → IsUsedByRuns p memory m e.spec most name
    unfolding comes
    used_by_runs (inl (v, meets)) =
        let (u, met) = comes.can v meets in
        let (w, (counter, above)) = met_canonically x.path.vars used.conds u met in
        let (entry, (start, (under, after))) = runs counter w above in
        inl (in_run counter w entry start under after)
    used_by_runs (inr outside) = inr (record {
      entry = e;
      of_spec = refl;
      vars = x.path.vars;
      conds = used.conds;
      reachable = comes;
      outside = outside;
      steps = x.path.steps;
      within = early;
      runs = runs;
    })

  pub names_used_by_runs : (names : List (List ℕ)) → AreUsedThere p m stands e x names → Each (IsUsedByRuns p memory m e.spec most) names
  names_used_by_runs names all = each_to (IsUsedThere p m stands e x) (IsUsedByRuns p memory m e.spec most) names (λ name used. used_by_runs name used reached.may_be_met) all
