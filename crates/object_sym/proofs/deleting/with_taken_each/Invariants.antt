use Rattle.std.proofs.Common.{◌≡◌, [], ◌++◌, take, drop, map}
use Rattle.object_sym.specs.Table.{taken_each}
use Rattle.pure_terms.specs.View.{term_view}
use Rattle.sym_chunks.specs.View.{cases_view}
use Rattle.sym_model.specs.View.{frag_view}
use Rattle.object_sym.proofs.deleting.with_taken_each.Given as goal

abbrev pub invariant-loop-place : goal.invariant-loop-place
invariant-loop-place l =
    cases_view l.cases ++ taken_each (term_view l.l) (term_view l.p) (frag_view l.chunks) l.index (term_view l.loc) (map term_view (take l.place l.names)) (map term_view (drop l.place l.names))
    ≡ cases_view l.fn.cases ++ taken_each (term_view l.l) (term_view l.p) (frag_view l.chunks) l.index (term_view l.loc) [] (map term_view l.names)
