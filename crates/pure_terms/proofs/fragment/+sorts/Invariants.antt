use Rattle.std.proofs.Common.{◌≡◌, take, false}
use Rattle.std.specs.List.{list_any}
use Rattle.pure_terms.specs.Fragment.{names_sort}
use Rattle.pure_terms.specs.View.{terms_view}
use Rattle.pure_terms.proofs.fragment.+sorts.Given as goal

abbrev pub invariant-terms_name_sort-loop-term : goal.invariant-terms_name_sort-loop-term
invariant-terms_name_sort-loop-term l = list_any (names_sort l.sort) (take l.term-index (terms_view l.terms)) ≡ false
