use Rattle.std.proofs.Common.{◌≡◌}
use Rattle.record_sym.specs.View.{record_branches_view}
use Rattle.sym_chunks.specs.View.{chunk_branches_view}
use Rattle.record_sym.proofs.memory.with_states.Given as goal

abbrev pub invariant-loop-branch : goal.invariant-loop-branch
invariant-loop-branch l = record_branches_view l.states ≡ chunk_branches_view l.yielded
