use Rattle.std.proofs.Common.{◌≡◌, drop, map}
use Rattle.pure_terms.specs.View.{term_view}
use Rattle.std.specs.List.{list_any}
use Rattle.pure_terms.specs.Equality.{same_term}
use Rattle.sym_chunks.proofs.places.stands_in.Given as goal

abbrev pub invariant-loop-other : goal.invariant-loop-other
invariant-loop-other l =
    list_any (same_term (term_view l.term)) (map term_view (drop l.other-index l.terms)) ≡ list_any (same_term (term_view l.term)) (map term_view l.terms)
