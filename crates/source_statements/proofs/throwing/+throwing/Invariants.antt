use Rattle.std.proofs.Common.{◌≡◌, ◌+◌, ◌*◌, take, map}
use Rattle.source_statements.specs.Compiled.{block_throws}
use Rattle.source_statements.specs.Pure.{from_placed}
use Rattle.source_statements.specs.View.{statement_view, block_view, placed_view}
use Rattle.source_statements.proofs.Counts.{statement_count, block_count}
use Rattle.source_statements.proofs.throwing.+throwing.Given as goal

abbrev pub decreases-statement_throws : goal.decreases-statement_throws
decreases-statement_throws g l = 2 * statement_count (statement_view g.L.Language.expression_view g.L.Language.simple_view l.statement.now)

abbrev pub decreases-block_throws : goal.decreases-block_throws
decreases-block_throws g l = 2 * block_count (block_view g.L.Language.expression_view g.L.Language.simple_view l.block.now) + 1

abbrev pub invariant-block_throws-loop-placed : goal.invariant-block_throws-loop-placed
invariant-block_throws-loop-placed g l = l.throws ≡ block_throws g.L.Language.codes l.handled
    (from_placed (map (placed_view g.L.Language.expression_view g.L.Language.simple_view) (take l.placed-index l.placed-items)))
