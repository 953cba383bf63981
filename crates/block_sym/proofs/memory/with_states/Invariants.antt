use Rattle.std.proofs.Common.{◌≡◌}
use Rattle.block_sym.specs.View.{block_branches_view}
use Rattle.sym_chunks.specs.View.{chunk_branches_view}
use Rattle.block_sym.proofs.memory.with_states.Given as goal

abbrev pub invariant-loop-branch : goal.invariant-loop-branch
invariant-loop-branch l = block_branches_view l.wrapped ≡ chunk_branches_view l.yielded
