use Rattle.std.proofs.Common.{arith}
use Rattle.term_table.proofs.CallerLemmas.{parts_long}
use Rattle.term_table.proofs.tests.with_both.Goals as goal

pub rebuilt-requires-clause-one_each : goal.rebuilt-requires-clause-one_each
rebuilt-requires-clause-one_each c =
    let many = parts_long _ _ _ _ c.parts.ensures in
    let two = c.if-parts-ne2.false in
    omega (arith, many, two)
