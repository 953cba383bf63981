use Rattle.std.proofs.Common.{◌≡◌, ◌++◌}
use Rattle.sym_chunks.specs.View.{cases_view, chunk_branches_view}
use Rattle.sym_model.specs.Alternatives.{alternatives_view}
use Rattle.std.specs.List.{flat_map}
use Rattle.sym_chunks.specs.Cases.{case_branches}
use Rattle.sym_chunks.proofs.cases.with_each.Given as goal

abbrev pub invariant-loop-case : goal.invariant-loop-case
invariant-loop-case l =
    chunk_branches_view l.branches ≡ chunk_branches_view l.fn.branches ++ flat_map (case_branches (alternatives_view l.when)) (cases_view l.yielded)
