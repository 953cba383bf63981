use Rattle.footprint.specs.Cases.{EndsMatch}
use Rattle.footprint.specs.Spreading.{Gathers}
use Rattle.footprint.specs.View.{matches_view, leaves_view}
use Rattle.footprint.proofs.ending.end_matches.Given as goal

abbrev pub invariant-loop-found : goal.invariant-loop-found
invariant-loop-found g l = Gathers (EndsMatch l.number l.outs) (matches_view l.yielded) (leaves_view l.leaves)
