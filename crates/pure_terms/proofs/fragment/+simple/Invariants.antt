use Rattle.std.proofs.Common.{◌≡◌, take, true}
use Rattle.std.specs.List.{list_all}
use Rattle.pure_terms.specs.Fragment.{is_simple}
use Rattle.pure_terms.specs.View.{terms_view}
use Rattle.pure_terms.proofs.fragment.+simple.Given as goal

abbrev pub invariant-are_simple_terms-loop-term : goal.invariant-are_simple_terms-loop-term
invariant-are_simple_terms-loop-term l = list_all is_simple (take l.term-index (terms_view l.terms)) ≡ true
