use Rattle.std.proofs.Common.{drop}
use Rattle.sym_model.specs.View.{uses_view}
use Rattle.invariant_rows.specs.Asked.{AreComparisons}
use Rattle.invariant_rows.specs.Differing.{TellsHeaps}
use Rattle.invariant_rows.specs.View.{difference_view}
use Rattle.invariant_rows.proofs.differing.heaps_differ.Given as goal

abbrev pub invariant-loop-place : goal.invariant-loop-place
invariant-loop-place l = record {
  tells : TellsHeaps (drop l.place (uses_view l.left)) (drop l.place (uses_view l.right)) (difference_view l.found);
  asked : AreComparisons (difference_view l.found).alternatives;
}
