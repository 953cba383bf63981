use Rattle.std.proofs.Common.{◌≡◌, ◌+◌, ◌*◌, take, map}
use Rattle.source_statements.specs.Pure.{from_placed}
use Rattle.source_statements.proofs.Counts.{statement_count, block_count}
use Rattle.object_lang.specs.Resolved.{block_assigns}
use Rattle.object_lang.specs.View.{statement_view, block_view}
use Rattle.object_lang.proofs.Statements.{placed_view}
use Rattle.object_lang.proofs.assigning.+assigning.Given as goal

abbrev pub decreases-statement_assigns : goal.decreases-statement_assigns
decreases-statement_assigns l = 2 * statement_count (statement_view l.statement.now)

abbrev pub decreases-block_assigns : goal.decreases-block_assigns
decreases-block_assigns l = 2 * block_count (block_view l.block.now) + 1

abbrev pub invariant-block_assigns-loop-placed : goal.invariant-block_assigns-loop-placed
invariant-block_assigns-loop-placed l = l.assigns ≡ block_assigns l.name (from_placed (map placed_view (take l.placed-index l.placed-items)))
