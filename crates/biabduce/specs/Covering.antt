-- What inference covers as it goes on: each run of the procedure that is to be covered is covered by what is found, or a beginning that is
-- left awaits it, or some list of conditions was left undecided.
use Rattle.std.specs.Prelude.{◌⊎◌, ℕ, ◌≤◌, List, [], length, true, false, Option, Some, None, IsSome, ⊤}
use Rattle.std.specs.FinMap.{entries}
use Rattle.gil_values.specs.Pure.{PureValue}
use Rattle.gil_syntax.specs.Pure.{PureProc, PureParts}
use Rattle.gil_machine.specs.Run.{run_of, start as start_state, IsProperStart}
use Rattle.gil_machine.specs.State.{End}
use Rattle.mem_model.specs.declared.keys.MemoryName.{MemoryName}
use Rattle.mem_model.specs.Actions.{Actions}
use Rattle.mem_model.specs.Heaps.{Heap}
use Rattle.inferred_specs.specs.Inferred.{Finishes, IsCutOff, PureFound, SomeIsMet}
use Rattle.pure_terms.specs.declared.variables.Sort.{Sort}
use Rattle.pure_terms.specs.Pure.{PureAtom}
use Rattle.sym_step.specs.Runs.{AccountsFor}
use Rattle.sym_model.specs.Lists.{OneOf}
use Rattle.sym_model.specs.Pure.{PureKey}
use Rattle.sym_paths.specs.Pure.{PureEnd, returned, failed, threw, missed, vanished, cut, unknown, PurePath}
use Rattle.bi_beginnings.specs.Beginnings.{PureBeginning, BeginsWith, Awaits}
use Rattle.bi_beginnings.specs.Missing.{IsMissed}
use Rattle.bi_specifications.specs.Specified.{IsTold}
use Rattle.biabduce.specs.Sound.{PureInference}

-- a run of the procedure: its arguments, the heap with which it begins, and the counter
pub record PureRun : Type 0 where
  pub args : List PureValue
  pub heap : Heap
  pub counter : ℕ

-- the path has an end of which a specification is told
abbrev pub IsToldEnd : Option PureEnd → Type 0
IsToldEnd (Some how) = IsTold how
IsToldEnd None = ⊥

module _ (p : PureParts) (memory : MemoryName) (m : Actions) (q : PureProc) (n : ℕ) where
  abbrev pub end_of : PureRun → End
  end_of r = run_of p m q.name r.args r.heap r.counter [] n

  -- The run is to be covered: it draws nothing, and within n steps returns or throws, or it is cut there.
  pub record IsWanted (r : PureRun) : Type 0 where
    pub proper : IsProperStart p memory q.name r.args r.heap r.counter
    pub ending : Finishes (end_of r) ⊎ IsCutOff (end_of r)

  abbrev pub IsAwaited : PureRun → PureBeginning → Type 0
  IsAwaited r b = Awaits q.params r.args r.heap r.counter n b

  -- a specification of its kind is met
  pub record IsCovered (founds : List PureFound) (r : PureRun) : Type 0 where
    pub finished : Finishes (end_of r) → SomeIsMet p memory m q.name founds false r.args r.heap
    pub cut_off : IsCutOff (end_of r) → SomeIsMet p memory m q.name founds true r.args r.heap

  abbrev pub IsProvided : PureInference → PureRun → Type 0
  IsProvided i r = IsSome i.undecided ⊎ (OneOf (IsAwaited r) i.left ⊎ IsCovered i.founds r)

  -- what was provided still is
  abbrev pub Keeps : PureInference → PureInference → Type 0
  Keeps i j = (r : PureRun) → IsProvided i r → IsProvided j r

  -- ---- ends of paths

  -- the runs that miss this key on a path with this table and these conditions
  abbrev pub CoversMiss : PureBeginning → List Sort → List PureAtom → PureKey → PureInference → Type 0
  CoversMiss b vars conds key i = (r : PureRun) → IsMissed memory m q.params n b vars conds key r.args r.heap r.counter → IsProvided i r

  -- what is left of a path with this end, of which no specification is told
  abbrev pub CoversEnd : PureBeginning → List Sort → List PureAtom → Option PureEnd → PureInference → Type 0
  CoversEnd b vars conds (Some (missed key place)) i = CoversMiss b vars conds key i
  CoversEnd b vars conds (Some (failed t place)) i = ⊤
  CoversEnd b vars conds (Some (unknown place reason)) i = IsSome i.undecided
  CoversEnd b vars conds (Some (returned t)) i = ⊤
  CoversEnd b vars conds (Some (threw t place)) i = ⊤
  CoversEnd b vars conds (Some vanished) i = ⊤
  CoversEnd b vars conds (Some cut) i = ⊤
  CoversEnd b vars conds None i = ⊤

  -- ---- paths, beginnings, and the procedure

  module _ {S : Type 0} (stands : S → List PureValue → Heap → Type 0) where
    -- the runs that the beginning awaits, which begin on the start, and for which the path accounts
    abbrev pub CoversPath : PurePath S → PureBeginning → PurePath S → PureInference → Type 0
    CoversPath start b path i =
        (r : PureRun) → IsWanted r → (a : IsAwaited r b) → BeginsWith stands b.vars a.values a.own start
        → AccountsFor p m stands [] (start_state p q.name r.args a.own r.counter) start a.values path → IsProvided i r

    -- the runs that the beginning awaits, which begin on the start
    abbrev pub CoversStart : PureBeginning → PureInference → PurePath S → Type 0
    CoversStart b i start =
        (r : PureRun) → IsWanted r → (a : IsAwaited r b) → BeginsWith stands b.vars a.values a.own start → IsProvided i r

  abbrev pub CoversAwaited : PureBeginning → PureInference → Type 0
  CoversAwaited b i = (r : PureRun) → IsWanted r → IsAwaited r b → IsProvided i r

  -- all runs whose heaps have n keys at most
  abbrev pub CoversAll : PureInference → Type 0
  CoversAll i = (r : PureRun) → IsWanted r → length (entries r.heap) ≤ n → IsSome i.undecided ⊎ IsCovered i.founds r
