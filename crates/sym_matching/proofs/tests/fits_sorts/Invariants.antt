use Rattle.std.proofs.Common.{take}
use Rattle.assert_logic.specs.Sorts.{fits_sorts}
use Rattle.pure_terms.specs.View.{term_view}
use Rattle.sym_matching.specs.Origins.{TestComesFrom, AsksSorts}
use Rattle.sym_matching.specs.Parts.{IsTestOf}
use Rattle.sym_matching.specs.View.{test_view}
use Rattle.sym_matching.proofs.tests.fits_sorts.Given as goal

abbrev pub invariant-loop-param : goal.invariant-loop-param
invariant-loop-param l =
    IsTestOf (fits_sorts (take l.param-index l.param-items) l.name) (term_view l.term) (test_view l.test)
    × TestComesFrom (AsksSorts (take l.param-index l.param-items) l.name (term_view l.term)) (test_view l.test)
