use Rattle.std.proofs.Common.{drop}
use Rattle.sym_model.specs.Alternatives.{alternatives_view}
use Rattle.sym_states.specs.View.{facts_view}
use Rattle.invariant_rows.specs.Asked.{AreComparisons}
use Rattle.invariant_rows.specs.Differing.{TellsFacts}
use Rattle.invariant_rows.proofs.differing.facts_differ.Given as goal

abbrev pub invariant-loop-place : goal.invariant-loop-place
invariant-loop-place l = record {
  tells : TellsFacts (drop l.place (facts_view l.left)) (drop l.place (facts_view l.right)) (alternatives_view l.found);
  asked : AreComparisons (alternatives_view l.found);
}
