-- Runs whose commands are all of narrow form: the specifications that are found cover them, whatever was left undecided of others.
use Rattle.std.specs.Prelude.{◌≡◌, ◌⊎◌, ℕ, ◌+◌, ◌<◌, ◌≤◌, List, [], length, true, false, Option, Some, None, IsTrue, ⊤}
use Rattle.std.specs.FinMap.{entries}
use Rattle.gil_values.specs.Pure.{PureValue}
use Rattle.gil_syntax.specs.Programs.{find_proc}
use Rattle.gil_syntax.specs.Pure.{PureProc, PureParts, PureNumberedCommand}
use Rattle.gil_syntax.specs.Simple.{is_narrow_command}
use Rattle.gil_machine.specs.Run.{reached, run_of, start as start_state, IsProperStart}
use Rattle.gil_machine.specs.State.{State}
use Rattle.gil_machine.specs.Step.{command_at}
use Rattle.mem_model.specs.declared.keys.MemoryName.{MemoryName}
use Rattle.mem_model.specs.Actions.{Actions}
use Rattle.mem_model.specs.Heaps.{Heap, IsPartOf}
use Rattle.inferred_specs.specs.Inferred.{Finishes, IsCutOff, PureFound, SomeIsMet}
use Rattle.pure_terms.specs.declared.variables.Sort.{Sort}
use Rattle.pure_terms.specs.Pure.{PureAtom}
use Rattle.sym_step.specs.Runs.{AccountsFor}
use Rattle.sym_model.specs.Lists.{OneOf}
use Rattle.sym_model.specs.Pure.{PureKey}
use Rattle.sym_model.specs.Terms.{StateTerms}
use Rattle.sym_paths.specs.Pure.{PureEnd, returned, failed, threw, missed, vanished, cut, unknown, PurePath}
use Rattle.bi_beginnings.specs.Beginnings.{PureBeginning, BeginsWith}
use Rattle.bi_beginnings.specs.Missing.{IsMissed}
use Rattle.bi_beginnings.specs.Narrowly.{MissesNarrowly}
use Rattle.biabduce.specs.Covering.{PureRun, IsWanted, IsAwaited, IsCovered}
use Rattle.biabduce.specs.Narrowly.{IsNarrowEntry, numbers_at, IsNarrowLeft}
use Rattle.biabduce.specs.Sound.{PureInference}

module _ (p : PureParts) (memory : MemoryName) (m : Actions) (f : List ℕ) (n : ℕ) where
  -- each command at which the run stands before it has done n steps is of narrow form
  abbrev pub RunsNarrowly : List PureValue → Heap → ℕ → Type 0
  RunsNarrowly args h counter =
      (k : ℕ) (s : State) (c : PureNumberedCommand) → k < n → reached p m [] k (start_state p f args h counter) ≡ Some s
      → command_at p s.current ≡ Some c → IsTrue (is_narrow_command c.command)

  -- Cover: as of all runs, where the run from the part of the heap stands at commands of narrow form alone.
  abbrev pub CoversNarrowly : List PureFound → Type 0
  CoversNarrowly founds =
      (q : PureProc) → find_proc p.procs f ≡ Some q → IsNarrowEntry memory q
      → (args : List PureValue) (h part : Heap) (counter : ℕ)
      → IsProperStart p memory f args h counter → IsPartOf part h → length (entries part) ≤ n → RunsNarrowly args part counter
      → (Finishes (run_of p m f args h counter [] n) → Finishes (run_of p m f args part counter [] n) → SomeIsMet p memory m f founds false args h)
      × (IsCutOff (run_of p m f args h counter [] n) → IsCutOff (run_of p m f args part counter [] n) → SomeIsMet p memory m f founds true args h)

-- ---- inference under way

module _ (p : PureParts) (memory : MemoryName) (m : Actions) (q : PureProc) (n : ℕ) where
  abbrev pub IsNarrowRun : PureRun → Type 0
  IsNarrowRun r = RunsNarrowly p memory m q.name n r.args r.heap r.counter

  -- the beginning awaits the run, and is narrow
  abbrev pub IsAwaitedNarrowly : PureRun → PureBeginning → Type 0
  IsAwaitedNarrowly r b = IsAwaited p memory m q n r b × IsNarrowLeft q n b

  abbrev pub IsProvidedNarrowly : PureInference → PureRun → Type 0
  IsProvidedNarrowly i r = OneOf (IsAwaitedNarrowly r) i.left ⊎ IsCovered p memory m q n i.founds r

  -- what was provided still is
  abbrev pub KeepsNarrowly : PureInference → PureInference → Type 0
  KeepsNarrowly i j = (r : PureRun) → IsProvidedNarrowly i r → IsProvidedNarrowly j r

  -- the runs that miss this narrow name on a path with this table and these conditions
  abbrev pub CoversNarrowMiss : PureBeginning → List Sort → List PureAtom → PureKey → PureInference → Type 0
  CoversNarrowMiss b vars conds key i =
      (r : PureRun) → IsNarrowLeft q n b → MissesNarrowly memory (numbers_at (length b.uses + 1)) b vars conds key
      → IsMissed memory m q.params n b vars conds key r.args r.heap r.counter → IsProvidedNarrowly i r

  -- what is left of a path with this end, of which no specification is told
  abbrev pub CoversNarrowEnd : PureBeginning → List Sort → List PureAtom → Option PureEnd → PureInference → Type 0
  CoversNarrowEnd b vars conds (Some (missed key place)) i = CoversNarrowMiss b vars conds key i
  CoversNarrowEnd b vars conds (Some (unknown place reason)) i = ⊤
  CoversNarrowEnd b vars conds (Some (failed t place)) i = ⊤
  CoversNarrowEnd b vars conds (Some (returned t)) i = ⊤
  CoversNarrowEnd b vars conds (Some (threw t place)) i = ⊤
  CoversNarrowEnd b vars conds (Some vanished) i = ⊤
  CoversNarrowEnd b vars conds (Some cut) i = ⊤
  CoversNarrowEnd b vars conds None i = ⊤

  module _ {S : Type 0} (stands : S → List PureValue → Heap → Type 0) (terms : S → StateTerms) where
    -- the narrow runs that the beginning awaits, which begin on the start, and for which the path accounts
    abbrev pub CoversNarrowPath : PurePath S → PureBeginning → PurePath S → PureInference → Type 0
    CoversNarrowPath start b path i =
        (r : PureRun) → IsWanted p memory m q n r → IsNarrowRun r → (a : IsAwaited p memory m q n r b) → BeginsWith stands b.vars a.values a.own start
        → AccountsFor p m stands [] (start_state p q.name r.args a.own r.counter) start a.values path → IsProvidedNarrowly i r

    -- the runs that the beginning awaits, which begin on the start, and for which the path accounts, if all of it can be said
    abbrev pub CoversSaidPath : PurePath S → PureBeginning → PurePath S → Type 0 → PureInference → Type 0
    CoversSaidPath start b path Said i =
        (r : PureRun) → IsWanted p memory m q n r → (a : IsAwaited p memory m q n r b) → BeginsWith stands b.vars a.values a.own start
        → AccountsFor p m stands [] (start_state p q.name r.args a.own r.counter) start a.values path → Said → IsProvidedNarrowly i r

    -- the narrow runs that the beginning awaits, which begin on the start
    abbrev pub CoversNarrowStart : PureBeginning → PureInference → PurePath S → Type 0
    CoversNarrowStart b i start =
        (r : PureRun) → IsWanted p memory m q n r → IsNarrowRun r → (a : IsAwaited p memory m q n r b) → BeginsWith stands b.vars a.values a.own start
        → IsProvidedNarrowly i r

  abbrev pub CoversNarrowAwaited : PureBeginning → PureInference → Type 0
  CoversNarrowAwaited b i = (r : PureRun) → IsWanted p memory m q n r → IsNarrowRun r → IsAwaited p memory m q n r b → IsProvidedNarrowly i r

  -- all narrow runs whose heaps have n keys at most
  abbrev pub CoversNarrowAll : PureInference → Type 0
  CoversNarrowAll i = (r : PureRun) → IsWanted p memory m q n r → IsNarrowRun r → length (entries r.heap) ≤ n → IsCovered p memory m q n i.founds r
