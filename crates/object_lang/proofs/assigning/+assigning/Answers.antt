use Rattle.std.proofs.Common.{ap, sym, ◌||◌, ◌∙◌, arith, map}
use Rattle.source_statements.specs.Pure.{from_placed}
use Rattle.source_statements.proofs.Counts.{count-read, statements-seen, take_all}
use Rattle.object_lang.specs.Resolved.{block_assigns}
use Rattle.object_lang.specs.View.{expression_view, simple_view}
use Rattle.object_lang.proofs.Statements.{placed_view, assigns-next}
use Rattle.object_lang.proofs.assigning.+assigning.Goals as goal

pub block_assigns-statement_assigns-requires : goal.block_assigns-statement_assigns-requires
block_assigns-statement_assigns-requires t c =
    let smaller = count-read expression_view simple_view c.as_slice-placed-items.result.now c.loop-placed.placed-index
    c.placed-item.result c.loop-placed-test.true c.placed-item.is c.args.block.now c.as_slice-placed-items.ensures in
    (omega (arith, smaller), tt)

pub block_assigns-loop-placed-preserved : goal.block_assigns-loop-placed-preserved
block_assigns-loop-placed-preserved t c =
    let next = assigns-next c.as_slice-placed-items.result.now c.loop-placed.placed-index
    c.placed-item.result c.loop-placed-test.true c.placed-item.is c.args.name.now in
    c.either-assigns.ensures ∙ (λ k. c.loop-placed.invariant k || c.statement_assigns.ensures k) ∙ sym next

pub block_assigns-returns : goal.block_assigns-returns
block_assigns-returns t c =
    let seen = ap (map placed_view) c.as_slice-placed-items.ensures
    ∙ sym (statements-seen expression_view simple_view c.args.block.now) in
    let whole = take_all c.as_slice-placed-items.result.now c.loop-placed.placed-index c.loop-placed-test.false in
    c.loop-placed.invariant
    ∙ ap (λ xs. block_assigns c.args.name.now (from_placed (map placed_view xs))) whole
    ∙ ap (λ ps. block_assigns c.args.name.now (from_placed ps)) seen
