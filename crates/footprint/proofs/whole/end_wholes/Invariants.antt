use Rattle.footprint.specs.Spreading.{Gathers}
use Rattle.footprint.specs.View.{matches_view, leaves_view}
use Rattle.footprint.specs.Whole.{EndsWhole}
use Rattle.footprint.proofs.whole.end_wholes.Given as goal

abbrev pub invariant-loop-found : goal.invariant-loop-found
invariant-loop-found g l = Gathers (EndsWhole g.M.SymMemory.stands) (matches_view l.yielded) (leaves_view l.leaves)
