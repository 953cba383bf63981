use Rattle.std.proofs.Common.{ap, sym, ◌||◌, ◌∙◌, arith, map}
use Rattle.source_statements.specs.Compiled.{block_tries}
use Rattle.source_statements.specs.Pure.{from_placed}
use Rattle.source_statements.specs.View.{placed_view}
use Rattle.source_statements.proofs.Counts.{count-read, tries-next, statements-seen, take_all}
use Rattle.source_statements.proofs.throwing.+trying.Goals as goal

pub block_tries-statement_tries-requires : goal.block_tries-statement_tries-requires
block_tries-statement_tries-requires g t c κs within =
    let smaller = count-read g.L.Language.expression_view g.L.Language.simple_view c.as_slice-placed-items.result.now c.loop-placed.placed-index
    c.placed-item.result c.loop-placed-test.true c.placed-item.is c.args.block.now c.as_slice-placed-items.ensures in
    (omega (arith, smaller), within)

pub block_tries-loop-placed-preserved : goal.block_tries-loop-placed-preserved
block_tries-loop-placed-preserved g t c =
    let next = tries-next g.L.Language.expression_view g.L.Language.simple_view c.as_slice-placed-items.result.now c.loop-placed.placed-index
    c.placed-item.result c.loop-placed-test.true c.placed-item.is g.L.Language.codes in
    c.either-tries.ensures ∙ (λ k. c.loop-placed.invariant k || c.statement_tries.ensures k) ∙ sym next

pub block_tries-returns : goal.block_tries-returns
block_tries-returns g t c =
    let view = placed_view g.L.Language.expression_view g.L.Language.simple_view in
    let seen = ap (map view) c.as_slice-placed-items.ensures
    ∙ sym (statements-seen g.L.Language.expression_view g.L.Language.simple_view c.args.block.now) in
    let whole = take_all c.as_slice-placed-items.result.now c.loop-placed.placed-index c.loop-placed-test.false in
    c.loop-placed.invariant
    ∙ ap (λ xs. block_tries g.L.Language.codes (from_placed (map view xs))) whole
    ∙ ap (λ ps. block_tries g.L.Language.codes (from_placed ps)) seen
