use Rattle.std.proofs.Common.{◌≡◌, drop, map}
use Rattle.sym_model.specs.Alternatives.{alternatives_view}
use Rattle.pure_terms.specs.View.{term_view}
use Rattle.sym_chunks.specs.NameTerms.{distinct_from}
use Rattle.sym_chunks.proofs.names.distinct_names.Given as goal

abbrev pub invariant-loop-index : goal.invariant-loop-index
invariant-loop-index l =
    distinct_from (alternatives_view l.alternatives) (map term_view (drop l.index l.names)) ≡ distinct_from (alternatives_view l.fn.first) (map term_view l.names)
