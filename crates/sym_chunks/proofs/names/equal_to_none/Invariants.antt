use Rattle.std.proofs.Common.{◌≡◌, drop, map}
use Rattle.sym_model.specs.Alternatives.{alternatives_view, all_from, other}
use Rattle.pure_terms.specs.View.{term_view}
use Rattle.sym_chunks.proofs.names.equal_to_none.Given as goal

abbrev pub invariant-loop-term : goal.invariant-loop-term
invariant-loop-term l =
    all_from (alternatives_view l.alternatives) (other (term_view l.p)) (map term_view (drop l.term-index l.terms))
    ≡ all_from (alternatives_view l.fn.first) (other (term_view l.p)) (map term_view l.terms)
