use Rattle.std.proofs.Common.{◌≡◌, ◌+◌, ◌*◌, [], ◌∷◌, ◌++◌, take}
use Rattle.pure_terms.specs.View.{atom_view, atoms_view}
use Rattle.solver_proof.specs.Closing.{CloseEach}
use Rattle.solver_proof.specs.Pure.{from_list}
use Rattle.solver_proof.specs.View.{proofs_view}
use Rattle.path_solver.specs.Falling.{left_to_say}
use Rattle.path_solver.proofs.searching.+search.Given as goal

abbrev pub decreases-search : goal.decreases-search
decreases-search l = 7 * left_to_say l.vars.now (atoms_view l.list.now) + 6

abbrev pub decreases-search_by_steps : goal.decreases-search_by_steps
decreases-search_by_steps l = 7 * left_to_say l.vars.now (atoms_view l.list.now) + 5

abbrev pub decreases-search_step : goal.decreases-search_step
decreases-search_step l = 7 * left_to_say l.vars.now (atoms_view l.list.now) + 4

abbrev pub decreases-search_split : goal.decreases-search_split
decreases-search_split l = 7 * left_to_say l.vars.now (atoms_view l.list.now) + 3

abbrev pub decreases-search_branches : goal.decreases-search_branches
decreases-search_branches l = 7 * left_to_say l.vars.now (atoms_view l.list.now) + 3

abbrev pub decreases-search_second : goal.decreases-search_second
decreases-search_second l = 7 * left_to_say l.vars.now (atoms_view l.list.now) + 2

abbrev pub decreases-search_each : goal.decreases-search_each
decreases-search_each l = 7 * left_to_say l.vars.now (atoms_view l.list.now) + 2

abbrev pub decreases-search_with : goal.decreases-search_with
decreases-search_with l = 7 * left_to_say l.vars.now (atoms_view l.list.now ++ atom_view l.atom ∷ []) + 7

abbrev pub invariant-search_each-loop-atom : goal.invariant-search_each-loop-atom
invariant-search_each-loop-atom l = record {
  same : l.list ≡ l.fn.list;
  closed : CloseEach l.vars (atoms_view l.fn.list) (take l.atom-index (atoms_view l.more)) (from_list (proofs_view l.proofs));
}
