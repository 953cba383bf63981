use Rattle.std.proofs.Common.{◌≡◌, ◌++◌, drop, map}
use Rattle.object_sym.specs.Table.{added_from}
use Rattle.pure_terms.specs.View.{term_view}
use Rattle.sym_chunks.specs.View.{cases_view}
use Rattle.sym_model.specs.View.{frag_view, chunk_view}
use Rattle.object_sym.proofs.setting.with_added.Given as goal

abbrev pub invariant-loop-index : goal.invariant-loop-index
invariant-loop-index l =
    cases_view l.cases ++ added_from (term_view l.l) (term_view l.p) (term_view l.val) (frag_view l.chunks) l.index (map chunk_view (drop l.index l.chunk-items))
    ≡ cases_view l.fn.cases ++ added_from (term_view l.l) (term_view l.p) (term_view l.val) (frag_view l.chunks) 0 (frag_view l.chunks)
