-- What a source comes to, where its program has its ends.
use Rattle.std.proofs.Common.{◌≡◌, ℕ, List, [], Option, Some, refl, sym, ◌∙◌, ap, subst}
use Rattle.std.specs.FinMap.{empty}
use Rattle.gil_values.specs.declared.places.Place.{Place}
use Rattle.gil_values.specs.Pure.{PureValue}
use Rattle.gil_syntax.specs.Pure.{PureParts}
use Rattle.mem_model.specs.Actions.{Actions}
use Rattle.gil_machine.specs.Held.{HeldEnd, ended, number as held_number, held_run_of}
use Rattle.gil_machine.specs.Run.{run_of, start, test_run}
use Rattle.gil_machine.specs.State.{End, Ending, IsOver, told, returned, threw, failed, vanished, no_input, bad_input, cut}
use Rattle.gil_machine.proofs.HeldRuns.{held_runs_are_runs}
use Rattle.source_language.specs.SameEnds.{AreSameEnds}
use Rattle.gillian_core.specs.Ends.{IsEndOf, end_answer, ending_answer}
use Rattle.gil_report.specs.Pure.{failed as failed_answer}

-- an end is answered as it is told
told_answer : (e : Ending) → ending_answer (told e) ≡ ending_answer e
told_answer (returned v) = refl
told_answer (threw v place) = refl
told_answer (failed v place) = refl
told_answer vanished = refl
told_answer (no_input k) = refl
told_answer (bad_input k) = refl
told_answer cut = refl

module _ (p : PureParts) (m : Actions) (f : List ℕ) (inputs : List PureValue) (source : ℕ → Option End)
    (same : AreSameEnds source (run_of p m f [] empty 0 inputs)) where
  abbrev run_within : ℕ → End
  run_within n = run_of p m f [] empty 0 inputs n

  -- an end of a run that is over is one of the source
  over_ends : (bound : ℕ) (e : End) → IsOver e.ending → run_within bound ≡ e → (n : ℕ) × (source n ≡ Some e)
  over_ends bound e over is =
      let found = same.source_too bound (subst (λ g. IsOver g.ending) (sym is) over) in (found.0, found.1 ∙ ap Some is)

  ends_so : (bound : ℕ) (ending : Ending) (e : End) → IsOver ending → e.ending ≡ ending → run_within bound ≡ e
      → (n : ℕ) × (g : End) × (source n ≡ Some g) × (ending_answer ending ≡ ending_answer g.ending)
  ends_so bound ending e over are is =
      let found = over_ends bound e (subst IsOver (sym are) over) is in (found.0, e, found.1, ap ending_answer (sym are))

  by_ending : (bound : ℕ) (ending : Ending) (e : End) → e.ending ≡ ending → run_within bound ≡ e → IsEndOf source (ending_answer ending)
  by_ending bound (returned v) e are is = ends_so bound (returned v) e tt are is
  by_ending bound (threw v place) e are is = ends_so bound (threw v place) e tt are is
  by_ending bound (failed v place) e are is = ends_so bound (failed v place) e tt are is
  by_ending bound vanished e are is = ends_so bound vanished e tt are is
  by_ending bound (no_input k) e are is = ends_so bound (no_input k) e tt are is
  by_ending bound (bad_input k) e are is = ends_so bound (bad_input k) e tt are is
  by_ending bound cut e are is = tt

  by_held : (bound : ℕ) (h : HeldEnd) → held_run_of p m f [] empty 0 inputs bound ≡ h → IsEndOf source (end_answer h)
  by_held bound (ended e) is = by_ending bound e.ending e refl (held_runs_are_runs p m inputs bound (start p f [] empty 0) e is)
  by_held bound (held_number place heap) is = tt

  -- the answer of a run is an end of the source
  pub run_meant : (bound : ℕ) → IsEndOf source (end_answer (held_run_of p m f [] empty 0 inputs bound))
  run_meant bound = by_held bound _ refl

  -- and so is the failure of a test
  pub failure_meant : (bound : ℕ) (v : PureValue) (place : Place) → (test_run p m f inputs bound).ending ≡ failed v place
      → IsEndOf source (failed_answer v place)
  failure_meant bound v place fails =
      subst (IsEndOf source) (sym (told_answer (run_within bound).ending) ∙ ap ending_answer fails)
      (by_ending bound (run_within bound).ending (run_within bound) refl refl)
