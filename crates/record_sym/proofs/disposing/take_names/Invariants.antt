use Rattle.std.proofs.Common.{◌≡◌, ◌++◌, drop, map}
use Rattle.pure_terms.specs.View.{term_view}
use Rattle.sym_chunks.specs.View.{cases_view, ways_view}
use Rattle.sym_chunks.specs.Walking.{walk}
use Rattle.sym_model.specs.Pure.{named}
use Rattle.sym_model.specs.View.{frag_view}
use Rattle.record_sym.proofs.disposing.take_names.Given as goal

abbrev pub invariant-loop-name : goal.invariant-loop-name
invariant-loop-name l =
    cases_view l.walk.cases ++ walk (frag_view l.chunks) (term_view l.l) (map named (map term_view (drop l.name-index l.names))) (ways_view l.walk.ways)
    ≡ cases_view l.fn.cases ++ walk (frag_view l.chunks) (term_view l.l) (map named (map term_view l.names)) (ways_view l.fn.first)
