use Rattle.std.proofs.Common.{arith}
use Rattle.gil_values.proofs.Joined.{element_read}
use Rattle.pure_terms.specs.View.{term_view}
use Rattle.solver_parts.proofs.Sizes.{size-element}
use Rattle.solver_parts.proofs.classes.+join.Goals as goal

pub join_terms-join_term-found-requires : goal.join_terms-join_term-found-requires
join_terms-join_term-found-requires t c =
    let element = element_read term_view _ _ c.loop-term.term-index _ c.as_slice-term-items.ensures c.loop-term-test.true c.term-item.is in
    let smaller = size-element _ c.loop-term.term-index _ element in
    (omega (arith, smaller), tt)
