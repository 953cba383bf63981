use Rattle.std.proofs.Common.{◌≡◌, ◌++◌, take, map}
use Rattle.sym_chunks.specs.View.{cases_view, way_view}
use Rattle.pure_terms.specs.View.{term_view}
use Rattle.sym_model.specs.View.{frag_view, sub_view}
use Rattle.std.specs.List.{flat_map}
use Rattle.sym_chunks.specs.Walking.{missing_key}
use Rattle.sym_chunks.proofs.walking.with_missing.Given as goal

abbrev pub invariant-loop-way : goal.invariant-loop-way
invariant-loop-way l =
    cases_view l.cases ≡ cases_view l.fn.cases ++ flat_map (missing_key (frag_view l.chunks) (term_view l.l) (sub_view l.s)) (map way_view (take l.way-index l.way-items))
