use Rattle.std.proofs.Common.{◌≡◌, ◌++◌, take, map}
use Rattle.sym_chunks.specs.View.{cases_view, way_view}
use Rattle.pure_terms.specs.View.{term_view}
use Rattle.std.specs.List.{flat_map}
use Rattle.sym_chunks.specs.Walking.{all_taken}
use Rattle.sym_chunks.proofs.walking.with_all_taken.Given as goal

abbrev pub invariant-loop-way : goal.invariant-loop-way
invariant-loop-way l = cases_view l.cases ≡ cases_view l.fn.cases ++ flat_map (all_taken (term_view l.l)) (map way_view (take l.way-index l.way-items))
