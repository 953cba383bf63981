use Rattle.std.proofs.Common.{◌≡◌, take}
use Rattle.pure_terms.specs.View.{atoms_view}
use Rattle.sym_model.specs.Alternatives.{alternatives_view}
use Rattle.footprint.specs.Spreading.{stops_at}
use Rattle.footprint.specs.View.{stops_view}
use Rattle.footprint.proofs.leaves.stops.Given as goal

abbrev pub invariant-loop-more : goal.invariant-loop-more
invariant-loop-more l = stops_view l.stops ≡ stops_at l.item (atoms_view l.fn.conds) (alternatives_view (take l.more-index l.more-items))
