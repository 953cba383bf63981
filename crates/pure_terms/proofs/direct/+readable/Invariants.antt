use Rattle.std.proofs.Common.{◌≡◌, take, true, false}
use Rattle.std.specs.List.{list_all}
use Rattle.gil_values.specs.View.{values_view}
use Rattle.pure_terms.specs.Direct.{is_readable}
use Rattle.pure_terms.specs.Pure.{from_list}
use Rattle.pure_terms.specs.Truth.{have_wide_parts}
use Rattle.pure_terms.specs.View.{terms_view}
use Rattle.pure_terms.proofs.direct.+readable.Given as goal

abbrev pub invariant-are_readable_terms-loop-term : goal.invariant-are_readable_terms-loop-term
invariant-are_readable_terms-loop-term l =
    (list_all (is_readable (values_view l.valuation)) (take l.term-index (terms_view l.terms)) ≡ true)
    × (have_wide_parts (values_view l.valuation) (from_list (take l.term-index (terms_view l.terms))) ≡ false)
