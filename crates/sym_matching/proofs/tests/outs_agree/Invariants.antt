use Rattle.std.proofs.Common.{take}
use Rattle.pure_terms.specs.View.{terms_view}
use Rattle.sym_matching.specs.View.{test_view, outs_view}
use Rattle.sym_matching.proofs.TestLists.{DoOutsAgree}
use Rattle.sym_matching.proofs.tests.outs_agree.Given as goal

abbrev pub invariant-loop-index : goal.invariant-loop-index
invariant-loop-index l = DoOutsAgree (take l.index (outs_view l.fn.known)) (take l.index (terms_view l.outs)) (test_view l.test)
