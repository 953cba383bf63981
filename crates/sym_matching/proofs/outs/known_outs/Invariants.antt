use Rattle.std.proofs.Common.{take}
use Rattle.gil_syntax.specs.View.{exprs_view}
use Rattle.sym_evaluation.specs.View.{store_view}
use Rattle.sym_matching.specs.View.{known_view}
use Rattle.sym_matching.proofs.KnownLaws.{AreKnown}
use Rattle.sym_matching.proofs.outs.known_outs.Given as goal

abbrev pub invariant-loop-out : goal.invariant-loop-out
invariant-loop-out l = AreKnown (store_view l.store) (take l.out-index (exprs_view l.outs)) (known_view l.split)
