use Rattle.std.proofs.Common.{◌≡◌, take, true}
use Rattle.std.specs.List.{list_all}
use Rattle.pure_terms.specs.Naming.{names_only}
use Rattle.pure_terms.specs.View.{terms_view}
use Rattle.pure_terms.proofs.naming.+over.Given as goal

abbrev pub invariant-terms_are_over-loop-term : goal.invariant-terms_are_over-loop-term
invariant-terms_are_over-loop-term l = list_all (names_only l.vars) (take l.term-index (terms_view l.terms)) ≡ true
