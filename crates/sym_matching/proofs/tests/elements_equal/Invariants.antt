use Rattle.std.proofs.Common.{take}
use Rattle.pure_terms.specs.View.{terms_view}
use Rattle.sym_matching.specs.View.{test_view}
use Rattle.sym_matching.proofs.TestLists.{AreElements}
use Rattle.sym_matching.proofs.tests.elements_equal.Given as goal

abbrev pub invariant-loop-index : goal.invariant-loop-index
invariant-loop-index l = AreElements (take l.index (terms_view l.left)) (take l.index (terms_view l.right)) (test_view l.test)
