use Rattle.std.proofs.Common.{take}
use Rattle.sym_model.specs.Alternatives.{alternatives_view}
use Rattle.sym_evaluation.specs.View.{bindings_view, store_view}
use Rattle.invariant_rows.specs.Asked.{AreComparisons}
use Rattle.invariant_rows.specs.Differing.{TellsNames}
use Rattle.invariant_rows.proofs.differing.names_differ.Given as goal

abbrev pub invariant-loop-binding : goal.invariant-loop-binding
invariant-loop-binding l = record {
  tells : TellsNames (store_view l.left) (store_view l.right) (bindings_view (take l.binding-index l.names)) (alternatives_view l.found);
  asked : AreComparisons (alternatives_view l.found);
}
