use Rattle.std.proofs.Common.{◌≡◌, take, map}
use Rattle.sym_model.specs.Alternatives.{alternatives_view, any, same}
use Rattle.pure_terms.specs.View.{term_view}
use Rattle.sym_chunks.proofs.names.equal_to_one.Given as goal

abbrev pub invariant-loop-term : goal.invariant-loop-term
invariant-loop-term l = alternatives_view l.alternatives ≡ any (same (term_view l.p)) (map term_view (take l.term-index l.terms))
