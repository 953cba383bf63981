use Rattle.std.proofs.Common.{◌≡◌}
use Rattle.footprint.specs.Cases.{renumbered}
use Rattle.footprint.specs.View.{stops_view}
use Rattle.footprint.proofs.ending.renumber.Given as goal

abbrev pub invariant-loop-stop : goal.invariant-loop-stop
invariant-loop-stop l = stops_view l.all ≡ renumbered l.number (stops_view l.yielded)
