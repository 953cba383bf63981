use Rattle.std.proofs.Common.{◌≡◌}
use Rattle.object_sym.specs.View.{object_branches_view}
use Rattle.sym_chunks.specs.View.{chunk_branches_view}
use Rattle.object_sym.proofs.memory.with_states.Given as goal

abbrev pub invariant-loop-branch : goal.invariant-loop-branch
invariant-loop-branch l = object_branches_view l.states ≡ chunk_branches_view l.yielded
