use Rattle.std.proofs.Common.{◌≡◌, ◌+◌, ◌*◌, take, map}
use Rattle.while_lang.specs.Pure.{from_placed}
use Rattle.while_lang.specs.View.{statement_view, block_view, placed_view}
use Rattle.while_compiler.specs.Compiled.{block_temporaries}
use Rattle.while_compiler.proofs.Counts.{statement_count, block_count}
use Rattle.while_compiler.proofs.temporaries.+counting.Given as goal

abbrev pub decreases-statement_temporaries : goal.decreases-statement_temporaries
decreases-statement_temporaries l = 2 * statement_count (statement_view l.statement.now)

abbrev pub decreases-block_temporaries : goal.decreases-block_temporaries
decreases-block_temporaries l = 2 * block_count (block_view l.block.now) + 1

abbrev pub invariant-block_temporaries-loop-placed : goal.invariant-block_temporaries-loop-placed
invariant-block_temporaries-loop-placed l = l.most ≡ block_temporaries (from_placed (map placed_view (take l.placed-index l.placed-items)))
