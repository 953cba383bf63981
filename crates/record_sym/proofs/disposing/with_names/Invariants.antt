use Rattle.std.proofs.Common.{◌≡◌, ◌++◌, drop, map}
use Rattle.pure_terms.specs.View.{term_view}
use Rattle.record_sym.specs.Table.{disposed_from}
use Rattle.sym_chunks.specs.View.{cases_view}
use Rattle.sym_model.specs.View.{frag_view, chunk_view}
use Rattle.record_sym.proofs.disposing.with_names.Given as goal

abbrev pub invariant-loop-index : goal.invariant-loop-index
invariant-loop-index l =
    cases_view l.cases ++ disposed_from (term_view l.l) (frag_view l.chunks) l.index (map chunk_view (drop l.index l.chunk-items))
    ≡ cases_view l.fn.cases ++ disposed_from (term_view l.l) (frag_view l.chunks) 0 (frag_view l.chunks)
