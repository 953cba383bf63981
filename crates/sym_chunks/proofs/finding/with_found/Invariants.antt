use Rattle.std.proofs.Common.{◌≡◌, ◌++◌, drop, map}
use Rattle.sym_chunks.specs.View.{cases_view, access_view}
use Rattle.pure_terms.specs.View.{term_view}
use Rattle.sym_model.specs.View.{frag_view, chunk_view, sub_view}
use Rattle.sym_chunks.specs.Cases.{found_from}
use Rattle.sym_chunks.proofs.finding.with_found.Given as goal

abbrev pub invariant-loop-index : goal.invariant-loop-index
invariant-loop-index l =
    cases_view l.cases ++ found_from (access_view l.access) (term_view l.l) (sub_view l.s) (frag_view l.chunks) l.index (map chunk_view (drop l.index l.chunk-items))
    ≡ cases_view l.fn.cases ++ found_from (access_view l.access) (term_view l.l) (sub_view l.s) (frag_view l.chunks) 0 (frag_view l.chunks)
