use Rattle.std.proofs.Common.{ap, sym, ◌||◌, ◌∙◌, arith, map}
use Rattle.source_statements.specs.Compiled.{block_throws}
use Rattle.source_statements.specs.Pure.{from_placed}
use Rattle.source_statements.specs.View.{placed_view}
use Rattle.source_statements.proofs.Counts.{count-read, throws-next, statements-seen, take_all}
use Rattle.source_statements.proofs.throwing.+throwing.Goals as goal

pub block_throws-statement_throws-requires : goal.block_throws-statement_throws-requires
block_throws-statement_throws-requires g t c κs within =
    let smaller = count-read g.L.Language.expression_view g.L.Language.simple_view c.as_slice-placed-items.result.now c.loop-placed.placed-index
    c.placed-item.result c.loop-placed-test.true c.placed-item.is c.args.block.now c.as_slice-placed-items.ensures in
    (omega (arith, smaller), within)

pub block_throws-loop-placed-preserved : goal.block_throws-loop-placed-preserved
block_throws-loop-placed-preserved g t c =
    let next = throws-next g.L.Language.expression_view g.L.Language.simple_view c.as_slice-placed-items.result.now c.loop-placed.placed-index
    c.placed-item.result c.loop-placed-test.true c.placed-item.is g.L.Language.codes c.args.handled in
    c.either-throws.ensures ∙ (λ k. c.loop-placed.invariant k || c.statement_throws.ensures k) ∙ sym next

pub block_throws-returns : goal.block_throws-returns
block_throws-returns g t c =
    let view = placed_view g.L.Language.expression_view g.L.Language.simple_view in
    let seen = ap (map view) c.as_slice-placed-items.ensures
    ∙ sym (statements-seen g.L.Language.expression_view g.L.Language.simple_view c.args.block.now) in
    let whole = take_all c.as_slice-placed-items.result.now c.loop-placed.placed-index c.loop-placed-test.false in
    c.loop-placed.invariant
    ∙ ap (λ xs. block_throws g.L.Language.codes c.args.handled (from_placed (map view xs))) whole
    ∙ ap (λ ps. block_throws g.L.Language.codes c.args.handled (from_placed ps)) seen
