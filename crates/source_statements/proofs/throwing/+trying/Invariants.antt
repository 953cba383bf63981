use Rattle.std.proofs.Common.{◌≡◌, ◌+◌, ◌*◌, take, map}
use Rattle.source_statements.specs.Compiled.{block_tries}
use Rattle.source_statements.specs.Pure.{from_placed}
use Rattle.source_statements.specs.View.{statement_view, block_view, placed_view}
use Rattle.source_statements.proofs.Counts.{statement_count, block_count}
use Rattle.source_statements.proofs.throwing.+trying.Given as goal

abbrev pub decreases-statement_tries : goal.decreases-statement_tries
decreases-statement_tries g l = 2 * statement_count (statement_view g.L.Language.expression_view g.L.Language.simple_view l.statement.now)

abbrev pub decreases-block_tries : goal.decreases-block_tries
decreases-block_tries g l = 2 * block_count (block_view g.L.Language.expression_view g.L.Language.simple_view l.block.now) + 1

abbrev pub invariant-block_tries-loop-placed : goal.invariant-block_tries-loop-placed
invariant-block_tries-loop-placed g l = l.tries ≡ block_tries g.L.Language.codes
    (from_placed (map (placed_view g.L.Language.expression_view g.L.Language.simple_view) (take l.placed-index l.placed-items)))
