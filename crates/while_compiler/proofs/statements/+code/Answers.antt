use Rattle.std.proofs.Common.{◌+◌, ◌++◌, length, sym, ap, ◌∙◌, arith}
use Rattle.while_lang.specs.View.{statement_view}
use Rattle.source_language.specs.Code.{code_view}
use Rattle.while_compiler.specs.Compiled.{statement_code}
use Rattle.while_compiler.proofs.Counts.{count-read, code-next}
use Rattle.while_compiler.proofs.statements.+code.Goals as goal

pub block_code-statement_code-requires : goal.block_code-statement_code-requires
block_code-statement_code-requires t c =
    let smaller = count-read c.as_slice-placed-items.result.now c.loop-placed.placed-index c.placed-item.result c.loop-placed-test.true
    c.placed-item.is _ c.as_slice-placed-items.ensures in
    (omega (arith, smaller), tt)

pub block_code-loop-placed-preserved : goal.block_code-loop-placed-preserved
block_code-loop-placed-preserved t c =
    c.in_ok-append.ensures
    ∙ ap (λ more. code_view c.loop-placed.code ++ more) (c.in_ok-more.ensures
    ∙ ap (λ n. statement_code n c.placed-item.result.at (statement_view c.placed-item.result.statement))
    (c.in_ok-start.ensures ∙ ap (λ n. c.args.label + n) c.code_len.ensures))
    ∙ (λ k. c.loop-placed.invariant k ++ statement_code (c.args.label + length (c.loop-placed.invariant k)) c.placed-item.result.at
    (statement_view c.placed-item.result.statement))
    ∙ sym (code-next c.as_slice-placed-items.result.now c.loop-placed.placed-index c.placed-item.result c.loop-placed-test.true
    c.placed-item.is c.args.label)
