use Rattle.std.proofs.Common.{◌≡◌, ◌+◌, ◌*◌, take, map}
use Rattle.source_statements.specs.Lengths.{block_length}
use Rattle.source_statements.specs.Pure.{from_placed}
use Rattle.source_statements.specs.View.{statement_view, block_view, placed_view}
use Rattle.source_statements.proofs.Counts.{statement_count, block_count}
use Rattle.source_statements.proofs.sizes.+lengths.Given as goal

abbrev pub decreases-statement_len : goal.decreases-statement_len
decreases-statement_len g l = 2 * statement_count (statement_view g.L.Language.expression_view g.L.Language.simple_view l.statement.now)

abbrev pub decreases-block_len : goal.decreases-block_len
decreases-block_len g l = 2 * block_count (block_view g.L.Language.expression_view g.L.Language.simple_view l.block.now) + 1

abbrev pub invariant-block_len-loop-placed : goal.invariant-block_len-loop-placed
invariant-block_len-loop-placed g l = l.total ≡ block_length g.L.Language.codes
    (from_placed (map (placed_view g.L.Language.expression_view g.L.Language.simple_view) (take l.placed-index l.placed-items)))
