use Rattle.std.proofs.Common.{◌≡◌, ◌+◌, ◌*◌, take, map}
use Rattle.source_language.specs.Code.{code_view}
use Rattle.source_statements.specs.Compiled.{block_code}
use Rattle.source_statements.specs.Pure.{from_placed}
use Rattle.source_statements.specs.View.{statement_view, block_view, placed_view}
use Rattle.source_statements.proofs.Counts.{statement_count, block_count}
use Rattle.source_statements.proofs.statements.+code.Given as goal

abbrev pub decreases-choose_code : goal.decreases-choose_code
decreases-choose_code g l =
    3 * block_count (block_view g.L.Language.expression_view g.L.Language.simple_view l.body.now)
    + 3 * block_count (block_view g.L.Language.expression_view g.L.Language.simple_view l.other.now) + 2

abbrev pub decreases-handled_code : goal.decreases-handled_code
decreases-handled_code g l =
    3 * block_count (block_view g.L.Language.expression_view g.L.Language.simple_view l.body.now)
    + 3 * block_count (block_view g.L.Language.expression_view g.L.Language.simple_view l.catch.now) + 2

abbrev pub decreases-loop_code : goal.decreases-loop_code
decreases-loop_code g l = 3 * block_count (block_view g.L.Language.expression_view g.L.Language.simple_view l.body.now) + 2

abbrev pub decreases-statement_code : goal.decreases-statement_code
decreases-statement_code g l = 3 * statement_count (statement_view g.L.Language.expression_view g.L.Language.simple_view l.statement.now)

abbrev pub decreases-block_code : goal.decreases-block_code
decreases-block_code g l = 3 * block_count (block_view g.L.Language.expression_view g.L.Language.simple_view l.block.now) + 1

abbrev pub invariant-block_code-loop-placed : goal.invariant-block_code-loop-placed
invariant-block_code-loop-placed g l = code_view l.code ≡ block_code g.L.Language.codes l.handler l.label
    (from_placed (map (placed_view g.L.Language.expression_view g.L.Language.simple_view) (take l.placed-index l.placed-items)))
