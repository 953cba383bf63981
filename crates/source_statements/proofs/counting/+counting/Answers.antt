use Rattle.std.proofs.Common.{ap, sym, ◌∙◌, arith, map}
use Rattle.source_statements.specs.Compiled.{block_temporaries}
use Rattle.source_statements.specs.Pure.{from_placed}
use Rattle.source_statements.specs.View.{placed_view}
use Rattle.source_statements.proofs.Counts.{count-read, temporaries-next, statements-seen, take_all}
use Rattle.source_statements.proofs.counting.+counting.Goals as goal

pub block_temporaries-statement_temporaries-requires : goal.block_temporaries-statement_temporaries-requires
block_temporaries-statement_temporaries-requires g t c κs within =
    let smaller = count-read g.L.Language.expression_view g.L.Language.simple_view c.as_slice-placed-items.result.now c.loop-placed.placed-index
    c.placed-item.result c.loop-placed-test.true c.placed-item.is c.args.block.now c.as_slice-placed-items.ensures in
    (omega (arith, smaller), within)

pub block_temporaries-loop-placed-preserved : goal.block_temporaries-loop-placed-preserved
block_temporaries-loop-placed-preserved g t c =
    let next = temporaries-next g.L.Language.expression_view g.L.Language.simple_view c.as_slice-placed-items.result.now c.loop-placed.placed-index
    c.placed-item.result c.loop-placed-test.true c.placed-item.is g.L.Language.codes in
    omega (arith, next)

pub block_temporaries-returns : goal.block_temporaries-returns
block_temporaries-returns g t c =
    let view = placed_view g.L.Language.expression_view g.L.Language.simple_view in
    let seen = ap (map view) c.as_slice-placed-items.ensures
    ∙ sym (statements-seen g.L.Language.expression_view g.L.Language.simple_view c.args.block.now) in
    let whole = take_all c.as_slice-placed-items.result.now c.loop-placed.placed-index c.loop-placed-test.false in
    c.loop-placed.invariant
    ∙ ap (λ xs. block_temporaries g.L.Language.codes (from_placed (map view xs))) whole
    ∙ ap (λ ps. block_temporaries g.L.Language.codes (from_placed ps)) seen
