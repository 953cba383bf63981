use Rattle.std.proofs.Common.{◌≡◌, ◌++◌, drop, map}
use Rattle.object_sym.specs.Table.{taken_from}
use Rattle.pure_terms.specs.View.{term_view}
use Rattle.sym_chunks.specs.View.{cases_view}
use Rattle.sym_model.specs.Alternatives.{alternatives_view}
use Rattle.sym_model.specs.View.{frag_view, sub_view, chunk_view}
use Rattle.object_sym.proofs.deleting.with_taken_somewhere.Given as goal

abbrev pub invariant-loop-index : goal.invariant-loop-index
invariant-loop-index l =
    cases_view l.cases ++ taken_from (alternatives_view l.when) (term_view l.loc) (sub_view l.name) (frag_view l.less) l.index (map chunk_view (drop l.index l.chunk-items))
    ≡ cases_view l.fn.cases ++ taken_from (alternatives_view l.when) (term_view l.loc) (sub_view l.name) (frag_view l.less) 0 (frag_view l.chunks)
