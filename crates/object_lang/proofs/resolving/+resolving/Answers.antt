use Rattle.std.proofs.Common.{ap, refl, ◌∙◌, arith, map}
use Rattle.source_statements.proofs.Counts.{count-read, take_all}
use Rattle.object_lang.specs.Resolved.{names_function}
use Rattle.object_lang.specs.View.{expression_view, simple_view, function_view}
use Rattle.object_lang.proofs.Statements.{placed_view, resolved_placed, resolved-next, resolved-whole}
use Rattle.object_lang.proofs.resolving.+resolving.Goals as goal

pub resolved_block-resolved_statement-requires : goal.resolved_block-resolved_statement-requires
resolved_block-resolved_statement-requires t c =
    let smaller = count-read expression_view simple_view c.as_slice-placed-items.result.now c.loop-placed.placed-index
    c.placed-item.result c.loop-placed-test.true c.placed-item.is c.args.block.now c.as_slice-placed-items.ensures in
    (omega (arith, smaller), tt)

pub resolved_block-loop-placed-preserved : goal.resolved_block-loop-placed-preserved
resolved_block-loop-placed-preserved t c =
    resolved-next c.as_slice-placed-items.result.now c.loop-placed.placed-index c.placed-item.result c.loop-placed-test.true c.placed-item.is
    (names_function (map function_view c.args.functions.now) (function_view c.args.function.now)) _ _ _ c.loop-placed.invariant c.in_ok-push.ensures.ok refl
    c.in_ok-statement.ensures

pub resolved_block-returns : goal.resolved_block-returns
resolved_block-returns t c =
    let resolves = names_function (map function_view c.args.functions.now) (function_view c.args.function.now) in
    let whole = take_all c.as_slice-placed-items.result.now c.loop-placed.placed-index c.loop-placed-test.false ∙ c.as_slice-placed-items.ensures in
    resolved-whole resolves c.args.block.now c.loop-placed.list
    (c.loop-placed.invariant ∙ ap (λ xs. map (resolved_placed resolves) (map placed_view xs)) whole)
