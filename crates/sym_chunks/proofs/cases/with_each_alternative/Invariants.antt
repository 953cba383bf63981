use Rattle.std.proofs.Common.{◌≡◌, ◌++◌, take, map}
use Rattle.sym_chunks.specs.Cases.{branch_with}
use Rattle.sym_chunks.specs.View.{chunk_branches_view}
use Rattle.sym_model.specs.Alternatives.{alternatives_view}
use Rattle.sym_model.specs.View.{frag_view, result_view}
use Rattle.sym_chunks.proofs.cases.with_each_alternative.Given as goal

abbrev pub invariant-loop-conditions : goal.invariant-loop-conditions
invariant-loop-conditions l =
    chunk_branches_view l.branches ≡ chunk_branches_view l.fn.branches ++ map (branch_with (frag_view l.chunks) (result_view l.outcome)) (alternatives_view (take l.conditions-index l.conditions-items))
