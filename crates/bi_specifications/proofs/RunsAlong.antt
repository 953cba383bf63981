-- What is known of a run from a start of the specification of a path: it goes along the path, under a valuation.
use Rattle.std.proofs.Common.{◌≡◌, ℕ, zero, suc, List, [], ◌∷◌, ◌++◌, length, drop, Some, IsTrue}
use Rattle.gil_values.specs.Pure.{PureValue, symbol}
use Rattle.gil_syntax.specs.Evaluation.{Store}
use Rattle.gil_syntax.specs.Pure.{PureItem, PureProc, PureParts}
use Rattle.gil_machine.specs.Run.{run_of}
use Rattle.gil_machine.specs.State.{Ending, End}
use Rattle.gil_machine.specs.State as machine
use Rattle.mem_model.specs.declared.keys.MemoryName.{MemoryName}
use Rattle.mem_model.specs.Actions.{Actions}
use Rattle.mem_model.specs.Heaps.{Heap}
use Rattle.assertion_terms.specs.Laws.{NamesValues}
use Rattle.checked_runs.specs.Specifications.{entry_store}
use Rattle.inferred_specs.specs.Inferred.{StartsAlone}
use Rattle.pure_terms.specs.Meaning.{value, all_true, IsProper}
use Rattle.sym_paths.specs.Pure.{PureEnd, returned, failed, threw, missed, vanished, cut, unknown, PurePath}
use Rattle.bi_specifications.specs.Shape.{early_names, spec_of}
use Rattle.bi_specifications.specs.Specified.{PureEntry}

-- the symbols n, n + 1, .., so many
abbrev pub symbols_from : ℕ → ℕ → List PureValue
symbols_from n zero = []
symbols_from n (suc k) = symbol n ∷ symbols_from (suc n) k

-- the run ends as the path does: with the value of its term, or it is cut
abbrev pub IsEndAs : List PureValue → PureEnd → Ending → Type 0
IsEndAs v (returned t) e = (w : PureValue) × ((value v t ≡ Some w) × (e ≡ machine.returned w))
IsEndAs v (threw t place) e = (w : PureValue) × ((value v t ≡ Some w) × (e ≡ machine.threw w place))
IsEndAs v cut e = e ≡ machine.cut
IsEndAs v (failed t place) e = ⊥
IsEndAs v (missed k place) e = ⊥
IsEndAs v vanished e = ⊥
IsEndAs v (unknown place reason) e = ⊥

module _ {S : Type 0} (p : PureParts) (memory : MemoryName) (m : Actions) (stands : S → List PureValue → Heap → Type 0) (q : PureProc)
    (e : PureEntry) (start path : PurePath S) (how : PureEnd) (n : ℕ) (posts errors : List (List PureItem)) where
  pub record EndsAlong (v : List PureValue) (r : End) : Type 0 where
    pub ends : IsEndAs v how r.ending
    pub heap : stands path.memory v r.heap
    pub no_draw : r.draws ≡ 0

  -- Of a start of the specification: the values of the variables of the beginning, which the names have in the entry's store; with the
  -- counter's symbols behind them they are proper for the path's table and meet all its conditions; and each run ends as the path.
  pub record RunsAlong (args : List PureValue) (variables : Store) (own : Heap) (counter : ℕ) : Type 0 where
    pub early : List PureValue
    pub named : NamesValues start.vars (early_names q e path) early (entry_store (spec_of q e path posts errors) args variables)
    pub proper : IsProper path.vars (early ++ symbols_from counter (length (drop e.count path.vars)))
    pub meets : IsTrue (all_true (early ++ symbols_from counter (length (drop e.count path.vars))) path.conds)
    pub own_is : stands start.memory early own
    pub each_run : (inputs : List PureValue)
        → EndsAlong (early ++ symbols_from counter (length (drop e.count path.vars))) (run_of p m q.name args own counter inputs n)

  -- parts A and B: each start has one
  abbrev pub EachRunsAlong : Type 0
  EachRunsAlong =
      (args : List PureValue) (variables : Store) (own : Heap) (counter : ℕ)
      → StartsAlone p memory m (spec_of q e path posts errors) args variables own counter → RunsAlong args variables own counter
