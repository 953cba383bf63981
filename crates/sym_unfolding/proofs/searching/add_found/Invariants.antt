use Rattle.std.proofs.Common.{◌≡◌, ◌++◌, map, take}
use Rattle.pure_terms.specs.View.{atoms_view}
use Rattle.sym_model.specs.Alternatives.{alternatives_view}
use Rattle.sym_unfolding.specs.Searching.{found_behind}
use Rattle.sym_unfolding.specs.View.{found_view}
use Rattle.sym_unfolding.proofs.searching.add_found.Given as goal

abbrev pub invariant-loop-first : goal.invariant-loop-first
invariant-loop-first l = map found_view l.found ≡ map found_view l.fn.found ++ found_behind (alternatives_view (take l.first-index l.first-items)) (atoms_view l.conds) l.place
