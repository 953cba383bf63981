use Rattle.std.proofs.Common.{◌+◌, ◌++◌, length, map, sym, ap, ◌∙◌, arith}
use Rattle.source_language.specs.Code.{code_view}
use Rattle.source_statements.specs.Compiled.{statement_code, block_code}
use Rattle.source_statements.specs.Pure.{from_placed}
use Rattle.source_statements.specs.View.{statement_view, placed_view}
use Rattle.source_statements.proofs.Counts.{count-read, code-next, statements-seen, take_all}
use Rattle.source_statements.proofs.statements.+code.Goals as goal

pub block_code-statement_code-requires : goal.block_code-statement_code-requires
block_code-statement_code-requires g t c κs within =
    let smaller = count-read g.L.Language.expression_view g.L.Language.simple_view c.as_slice-placed-items.result.now c.loop-placed.placed-index
    c.placed-item.result c.loop-placed-test.true c.placed-item.is c.args.block.now c.as_slice-placed-items.ensures in
    (omega (arith, smaller), within)

pub block_code-loop-placed-preserved : goal.block_code-loop-placed-preserved
block_code-loop-placed-preserved g t c =
    let statement = statement_view g.L.Language.expression_view g.L.Language.simple_view c.placed-item.result.statement in
    c.in_ok-append.ensures
    ∙ ap (λ more. code_view c.loop-placed.code ++ more) (c.in_ok-more.ensures
    ∙ ap (λ n. statement_code g.L.Language.codes c.args.handler n c.placed-item.result.at statement)
    (c.in_ok-start.ensures ∙ ap (λ n. c.args.label + n) c.code_len.ensures))
    ∙ (λ k. c.loop-placed.invariant k ++ statement_code g.L.Language.codes c.args.handler (c.args.label + length (c.loop-placed.invariant k)) c.placed-item.result.at statement)
    ∙ sym (code-next g.L.Language.expression_view g.L.Language.simple_view c.as_slice-placed-items.result.now c.loop-placed.placed-index
    c.placed-item.result c.loop-placed-test.true c.placed-item.is g.L.Language.codes c.args.handler c.args.label)

pub block_code-returns : goal.block_code-returns
block_code-returns g t c =
    let view = placed_view g.L.Language.expression_view g.L.Language.simple_view in
    let seen = ap (map view) c.as_slice-placed-items.ensures
    ∙ sym (statements-seen g.L.Language.expression_view g.L.Language.simple_view c.args.block.now) in
    let whole = take_all c.as_slice-placed-items.result.now c.loop-placed.placed-index c.loop-placed-test.false in
    c.loop-placed.invariant
    ∙ ap (λ xs. block_code g.L.Language.codes c.args.handler c.args.label (from_placed (map view xs))) whole
    ∙ ap (λ ps. block_code g.L.Language.codes c.args.handler c.args.label (from_placed ps)) seen
