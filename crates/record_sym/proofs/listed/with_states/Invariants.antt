use Rattle.std.proofs.Common.{◌≡◌, map}
use Rattle.record_sym.specs.View.{state_view}
use Rattle.sym_chunks.specs.View.{chunk_branches_view}
use Rattle.sym_chunks.specs.Wrapped.{seen}
use Rattle.sym_model.specs.View.{branches_view}
use Rattle.record_sym.proofs.listed.with_states.Given as goal

abbrev pub invariant-loop-branch : goal.invariant-loop-branch
invariant-loop-branch l = map (seen state_view) (branches_view l.wrapped) ≡ chunk_branches_view l.yielded
