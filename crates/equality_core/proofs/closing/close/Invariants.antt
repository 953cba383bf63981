use Rattle.std.proofs.Common.{◌≡◌}
use Rattle.pure_terms.specs.View.{atoms_view}
use Rattle.equality_core.specs.Classes.{classes_view, given_list, IsTaken, weight_from}
use Rattle.equality_core.proofs.closing.close.Given as goal

abbrev pub invariant-places : goal.invariant-places
invariant-places l = record {
  given : given_list (classes_view l.classes) ≡ atoms_view l.fn.list;
  taken : IsTaken (classes_view l.classes) l.place;
}

abbrev pub decreases-places : goal.decreases-places
decreases-places l = weight_from l.place (classes_view l.classes)
