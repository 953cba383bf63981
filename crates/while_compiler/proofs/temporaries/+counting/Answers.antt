use Rattle.std.proofs.Common.{arith}
use Rattle.while_compiler.proofs.Counts.{count-read, temporaries-next}
use Rattle.while_compiler.proofs.temporaries.+counting.Goals as goal

pub block_temporaries-statement_temporaries-requires : goal.block_temporaries-statement_temporaries-requires
block_temporaries-statement_temporaries-requires t c =
    let smaller = count-read c.as_slice-placed-items.result.now c.loop-placed.placed-index c.placed-item.result c.loop-placed-test.true
    c.placed-item.is _ c.as_slice-placed-items.ensures in
    (omega (arith, smaller), tt)

pub block_temporaries-loop-placed-preserved : goal.block_temporaries-loop-placed-preserved
block_temporaries-loop-placed-preserved t c =
    let next = temporaries-next c.as_slice-placed-items.result.now c.loop-placed.placed-index c.placed-item.result c.loop-placed-test.true
    c.placed-item.is in
    omega (arith, next)
