use Rattle.std.proofs.Common.{◌≡◌, take, false}
use Rattle.std.specs.List.{list_any}
use Rattle.pure_terms.specs.Naming.{names_number}
use Rattle.pure_terms.specs.View.{terms_view}
use Rattle.pure_terms.proofs.naming.+names.Given as goal

abbrev pub invariant-terms_name-loop-term : goal.invariant-terms_name-loop-term
invariant-terms_name-loop-term l = list_any (names_number l.number) (take l.term-index (terms_view l.terms)) ≡ false
