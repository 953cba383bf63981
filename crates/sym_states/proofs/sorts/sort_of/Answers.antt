use Rattle.std.proofs.Common.{None, subst}
use Rattle.sym_states.specs.Sorts.{IsSortOf}
use Rattle.sym_states.proofs.SortLaws.{narrowed_more, none_left}
use Rattle.sym_states.proofs.sorts.sort_of.Goals as goal

pub returns-in-None : goal.returns-in-None
returns-in-None c =
    subst (λ ps. IsSortOf ps c.args.name.now None) c.as_slice-param-items.ensures
    (none_left c.as_slice-param-items.result.now c.args.name.now c.loop-param.param-index c.param-item.result c.loop-param-test.true c.param-item.is c.loop-param.sort c.loop-param.invariant c.in-None.ensures)

pub loop-param-preserved : goal.loop-param-preserved
loop-param-preserved c =
    narrowed_more c.as_slice-param-items.result.now c.args.name.now c.loop-param.param-index c.param-item.result c.loop-param-test.true c.param-item.is c.loop-param.sort c.in-Some.left c.loop-param.invariant c.in-Some.ensures
