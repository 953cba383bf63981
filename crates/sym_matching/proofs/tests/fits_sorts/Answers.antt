use Rattle.std.proofs.Common.{take, sym, subst}
use Rattle.assert_logic.specs.Sorts.{fits_sorts}
use Rattle.pure_terms.specs.View.{term_view}
use Rattle.sym_matching.specs.Origins.{TestComesFrom, AsksSorts}
use Rattle.sym_matching.specs.Parts.{IsTestOf}
use Rattle.sym_matching.specs.View.{test_view}
use Rattle.sym_matching.proofs.OriginLaws.{sorts_from}
use Rattle.sym_matching.proofs.Reading.{taken_one}
use Rattle.sym_matching.proofs.TestLists.{sorts_next}
use Rattle.sym_matching.proofs.tests.fits_sorts.Goals as goal

pub loop-param-preserved : goal.loop-param-preserved
loop-param-preserved c =
    let items = c.as_slice-param-items.result.now in
    let x = c.args.name.now in
    let t = term_view c.args.term.now in
    let before = take c.loop-param.param-index items in
    let test = test_view c.loop-param.test in
    let whole = test_view c.in_ok-test.test in
    subst (λ ps. IsTestOf (fits_sorts ps x) t whole × TestComesFrom (AsksSorts ps x t) whole)
    (sym (taken_one items c.loop-param.param-index c.param-item.result c.loop-param-test.true c.param-item.is)) (
      sorts_next x t before c.param-item.result test whole c.loop-param.invariant.0 c.in_ok-test.ensures,
      sorts_from x t before c.param-item.result test whole c.loop-param.invariant.1 c.in_ok-test.ensures,
    )
