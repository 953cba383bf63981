-- Tests of procedures without parameters.
use Rattle.std.proofs.Common.{◌≡◌, ℕ, ◌≤◌, List, [], ◌∷◌, length, Option, Some, None, refl, subst, sym, ap, ◌∙◌, arith}
use Rattle.std.proofs.lemmas.Option.{same_Some}
use Rattle.std.specs.Option.{option_map}
use Rattle.std.specs.FinMap.{empty}
use Rattle.gil_values.specs.Pure.{PureValue}
use Rattle.gil_syntax.specs.Programs.{find_proc}
use Rattle.gil_syntax.specs.Pure.{PureParts, PureProc}
use Rattle.gil_syntax.proofs.Symbols.{each-nil}
use Rattle.mem_model.specs.declared.keys.MemoryName.{MemoryName}
use Rattle.mem_model.specs.Actions.{Actions}
use Rattle.mem_model.proofs.Parts.{empty_is_heap, empty_is_below}
use Rattle.gil_machine.specs.State.{Ending, returned, threw, failed, vanished, no_input, bad_input, cut, IsFailed, IsOver}
use Rattle.gil_machine.specs.Run.{test_run, start, IsEntry, IsProperStart}
use Rattle.gil_machine.specs.Laws.{TestsStartProper, BugsStay, CleanIsCleanBelow, CleanHasNoBug}
use Rattle.gil_machine.proofs.Runs.{stays_over_as_told}
use Rattle.gil_machine.proofs.Proper.{Below}

pub tests_start_proper : TestsStartProper
tests_start_proper p memory f q found none = record {
  procedure = (q, (found, ap length none));
  heap = empty_is_heap memory;
  arguments_below = each-nil (Below 0);
  heap_below = empty_is_below 0;
}

over_if_failed : (e : Ending) → IsFailed e → IsOver e
over_if_failed (returned v) h = absurd h
over_if_failed (threw v place) h = absurd h
over_if_failed (failed v place) h = tt
over_if_failed vanished h = absurd h
over_if_failed (no_input k) h = absurd h
over_if_failed (bad_input k) h = absurd h
over_if_failed cut h = absurd h

pub test_stays_over : (p : PureParts) (m : Actions) (f : List ℕ) (n k : ℕ) (inputs : List PureValue) → n ≤ k → IsFailed (test_run p m f inputs n).ending → test_run p m f inputs k ≡ test_run p m f inputs n
test_stays_over p m f n k inputs le fails = stays_over_as_told p m inputs n k (start p f [] empty 0) le (over_if_failed (test_run p m f inputs n).ending fails)

pub bugs_stay : BugsStay
bugs_stay p m f n k inputs v place le bug =
    let same = test_stays_over p m f n k inputs le (subst IsFailed (sym bug.fails) tt) in
    record { entry = bug.entry; fails = ap (λ e. e.ending) same ∙ bug.fails; draws_each = ap (λ e. e.draws) same ∙ bug.draws_each }

pub clean_is_clean_below : CleanIsCleanBelow
clean_is_clean_below p m f n k le clean = record {
  entry = clean.entry;
  never_fails = λ inputs fails. clean.never_fails inputs (subst (λ e. IsFailed e.ending) (sym (test_stays_over p m f n k inputs le fails)) fails);
}

pub clean_has_no_bug : CleanHasNoBug
clean_has_no_bug p m f n inputs v place clean bug = clean.never_fails inputs (subst IsFailed (sym bug.fails) tt)

none_long : (xs : List (List ℕ)) → length xs ≡ 0 → xs ≡ []
none_long [] is = refl
none_long (x ∷ xs) is = absurd (omega (arith, is))

entry_by : (p : PureParts) (f : List ℕ) (o : Option PureProc) → find_proc p.procs f ≡ o → option_map (λ q. length q.params) o ≡ Some 0 → IsEntry p f
entry_by p f None found is = absurd (cc)
entry_by p f (Some q) found is = (q, (found, none_long q.params (same_Some _ _ is)))

-- a procedure that takes no argument is one without parameters
pub is_entry : (p : PureParts) (f : List ℕ) → option_map (λ q. length q.params) (find_proc p.procs f) ≡ Some 0 → IsEntry p f
is_entry p f is = entry_by p f (find_proc p.procs f) refl is

pub no_entry : (p : PureParts) (f : List ℕ) → ¬ (option_map (λ q. length q.params) (find_proc p.procs f) ≡ Some 0) → ¬ IsEntry p f
no_entry p f differs entry = differs (ap (option_map (λ q. length q.params)) entry.1.0 ∙ ap (λ xs. Some (length xs)) entry.1.1)

pub entry_starts : (p : PureParts) (memory : MemoryName) (f : List ℕ) → IsEntry p f → IsProperStart p memory f [] empty 0
entry_starts p memory f entry = tests_start_proper p memory f entry.0 entry.1.0 entry.1.1
