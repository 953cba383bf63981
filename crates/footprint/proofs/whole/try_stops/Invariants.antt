use Rattle.std.proofs.Common.{map, take}
use Rattle.gil_syntax.specs.View.{assertion_view, pred_def_view}
use Rattle.sym_evaluation.specs.View.{store_view}
use Rattle.sym_states.specs.View.{state_view}
use Rattle.footprint.specs.Assertions.{cases_at}
use Rattle.footprint.specs.Coming.{RetryComesFrom}
use Rattle.footprint.specs.Plainly.{IsPlainMemory}
use Rattle.footprint.specs.Spreading.{Gathers}
use Rattle.footprint.specs.View.{stops_view, leaves_view}
use Rattle.footprint.specs.Whole.{TriedAt}
use Rattle.footprint.proofs.whole.try_stops.Given as goal

abbrev pub invariant-loop-stop : goal.invariant-loop-stop
invariant-loop-stop g l = record {
  gathers : Gathers (TriedAt g.M.SymMemory.stands g.M.SymMemory.terms g.M.SymMemory.kept (IsPlainMemory g.M.Local.LocalMemory.memory g.M.SymMemory.keeps_plain g.M.SymMemory.terms) (cases_at (map pred_def_view l.preds) 1) l.scope (assertion_view l.post) (state_view l.state) (store_view l.start))
      (stops_view (take l.stop-index l.stop-items)) (leaves_view l.leaves);
  origin : Gathers (RetryComesFrom g.M.SymMemory.terms (map pred_def_view l.preds) l.scope (assertion_view l.post) (state_view l.state) (store_view l.start))
      (stops_view (take l.stop-index l.stop-items)) (leaves_view l.leaves);
}
