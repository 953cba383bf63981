use Rattle.std.proofs.Common.{◌≡◌, take, true}
use Rattle.std.specs.List.{list_all}
use Rattle.pure_terms.specs.Naming.{names_only_below}
use Rattle.pure_terms.specs.View.{terms_view}
use Rattle.pure_terms.proofs.naming.+below.Given as goal

abbrev pub invariant-terms_name_only_below-loop-term : goal.invariant-terms_name_only_below-loop-term
invariant-terms_name_only_below-loop-term l = list_all (names_only_below l.number) (take l.term-index (terms_view l.terms)) ≡ true
