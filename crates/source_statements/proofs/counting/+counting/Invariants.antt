use Rattle.std.proofs.Common.{◌≡◌, ◌+◌, ◌*◌, take, map}
use Rattle.source_statements.specs.Compiled.{block_temporaries}
use Rattle.source_statements.specs.Pure.{from_placed}
use Rattle.source_statements.specs.View.{statement_view, block_view, placed_view}
use Rattle.source_statements.proofs.Counts.{statement_count, block_count}
use Rattle.source_statements.proofs.counting.+counting.Given as goal

abbrev pub decreases-statement_temporaries : goal.decreases-statement_temporaries
decreases-statement_temporaries g l = 2 * statement_count (statement_view g.L.Language.expression_view g.L.Language.simple_view l.statement.now)

abbrev pub decreases-block_temporaries : goal.decreases-block_temporaries
decreases-block_temporaries g l = 2 * block_count (block_view g.L.Language.expression_view g.L.Language.simple_view l.block.now) + 1

abbrev pub invariant-block_temporaries-loop-placed : goal.invariant-block_temporaries-loop-placed
invariant-block_temporaries-loop-placed g l = l.most ≡ block_temporaries g.L.Language.codes
    (from_placed (map (placed_view g.L.Language.expression_view g.L.Language.simple_view) (take l.placed-index l.placed-items)))
