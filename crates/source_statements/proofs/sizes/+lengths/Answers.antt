use Rattle.std.proofs.Common.{ap, sym, ◌∙◌, arith, map}
use Rattle.source_statements.specs.Lengths.{block_length}
use Rattle.source_statements.specs.Pure.{from_placed}
use Rattle.source_statements.specs.View.{placed_view}
use Rattle.source_statements.proofs.Counts.{count-read, length-next, statements-seen, take_all}
use Rattle.source_statements.proofs.sizes.+lengths.Goals as goal

pub block_len-statement_len-requires : goal.block_len-statement_len-requires
block_len-statement_len-requires g t c κs within =
    let smaller = count-read g.L.Language.expression_view g.L.Language.simple_view c.as_slice-placed-items.result.now c.loop-placed.placed-index
    c.placed-item.result c.loop-placed-test.true c.placed-item.is c.args.block.now c.as_slice-placed-items.ensures in
    (omega (arith, smaller), within)

pub block_len-loop-placed-preserved : goal.block_len-loop-placed-preserved
block_len-loop-placed-preserved g t c =
    let next = length-next g.L.Language.expression_view g.L.Language.simple_view c.as_slice-placed-items.result.now c.loop-placed.placed-index
    c.placed-item.result c.loop-placed-test.true c.placed-item.is g.L.Language.codes in
    omega (arith, next)

pub block_len-returns : goal.block_len-returns
block_len-returns g t c =
    let view = placed_view g.L.Language.expression_view g.L.Language.simple_view in
    let seen = ap (map view) c.as_slice-placed-items.ensures
    ∙ sym (statements-seen g.L.Language.expression_view g.L.Language.simple_view c.args.block.now) in
    let whole = take_all c.as_slice-placed-items.result.now c.loop-placed.placed-index c.loop-placed-test.false in
    c.loop-placed.invariant
    ∙ ap (λ xs. block_length g.L.Language.codes (from_placed (map view xs))) whole
    ∙ ap (λ ps. block_length g.L.Language.codes (from_placed ps)) seen
