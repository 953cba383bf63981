use Rattle.gil_syntax.specs.View.{exprs_view}
use Rattle.sym_evaluation.specs.View.{store_view}
use Rattle.footprint.specs.Cases.{FinishesMatch}
use Rattle.footprint.specs.Spreading.{Gathers}
use Rattle.footprint.specs.View.{matches_view, leaves_view}
use Rattle.footprint.proofs.ending.finish_matches.Given as goal

abbrev pub invariant-loop-found : goal.invariant-loop-found
invariant-loop-found g l =
    Gathers (FinishesMatch l.number l.scope (exprs_view l.outs) (store_view l.store) l.pred.outs) (matches_view l.yielded) (leaves_view l.leaves)
