use Rattle.std.proofs.Common.{◌≡◌, take, true}
use Rattle.std.specs.List.{list_all}
use Rattle.pure_terms.specs.Fragment.{has_literals_between}
use Rattle.pure_terms.specs.View.{terms_view}
use Rattle.pure_terms.proofs.fragment.+literals.Given as goal

abbrev pub invariant-are_all_literals_between-loop-term : goal.invariant-are_all_literals_between-loop-term
invariant-are_all_literals_between-loop-term l = list_all (has_literals_between l.low l.high) (take l.term-index (terms_view l.terms)) ≡ true
