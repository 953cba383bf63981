use Rattle.std.proofs.Common.{◌≡◌, ◌+◌, ◌*◌, take, map}
use Rattle.source_language.specs.Code.{code_view}
use Rattle.while_lang.specs.Pure.{from_placed}
use Rattle.while_lang.specs.View.{statement_view, block_view, placed_view}
use Rattle.while_compiler.specs.Compiled.{block_code}
use Rattle.while_compiler.proofs.Counts.{statement_count, block_count}
use Rattle.while_compiler.proofs.statements.+code.Given as goal

abbrev pub decreases-statement_code : goal.decreases-statement_code
decreases-statement_code l = 2 * statement_count (statement_view l.statement.now)

abbrev pub decreases-block_code : goal.decreases-block_code
decreases-block_code l = 2 * block_count (block_view l.block.now) + 1

abbrev pub invariant-block_code-loop-placed : goal.invariant-block_code-loop-placed
invariant-block_code-loop-placed l = code_view l.code ≡ block_code l.label
    (from_placed (map placed_view (take l.placed-index l.placed-items)))
