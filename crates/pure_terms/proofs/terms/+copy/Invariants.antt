use Rattle.std.proofs.Common.{◌≡◌, take, map}
use Rattle.pure_terms.specs.View.{term_view}
use Rattle.pure_terms.proofs.terms.+copy.Given as goal

abbrev pub invariant-copy_terms-loop-term : goal.invariant-copy_terms-loop-term
invariant-copy_terms-loop-term l = map term_view l.items.items ≡ map term_view (take l.term-index l.term-items)
