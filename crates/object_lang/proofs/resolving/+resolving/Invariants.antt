use Rattle.std.proofs.Common.{◌≡◌, ◌+◌, ◌*◌, take, map}
use Rattle.source_statements.specs.Items.{statements}
use Rattle.source_statements.proofs.Counts.{statement_count, block_count}
use Rattle.object_lang.specs.Resolved.{names_function}
use Rattle.object_lang.specs.View.{statement_view, block_view, function_view}
use Rattle.object_lang.proofs.Statements.{placed_view, resolved_placed}
use Rattle.object_lang.proofs.resolving.+resolving.Given as goal

abbrev pub decreases-resolved_statement : goal.decreases-resolved_statement
decreases-resolved_statement l = 2 * statement_count (statement_view l.statement.now)

abbrev pub decreases-resolved_block : goal.decreases-resolved_block
decreases-resolved_block l = 2 * block_count (block_view l.block.now) + 1

abbrev pub invariant-resolved_block-loop-placed : goal.invariant-resolved_block-loop-placed
invariant-resolved_block-loop-placed l = map placed_view (statements l.list)
    ≡ map (resolved_placed (names_function (map function_view l.functions) (function_view l.function))) (map placed_view (take l.placed-index l.placed-items))
