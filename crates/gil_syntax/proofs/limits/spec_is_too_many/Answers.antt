use Rattle.std.proofs.Common.{◌≡◌, ◌||◌, leb, sym, ap, ◌∙◌, arith}
use Rattle.std.proofs.lemmas.Bool.Decides.{nat_tests}
use Rattle.gil_syntax.specs.Valid.{most_items, is_large, has_wide_literal, a_spec}
use Rattle.gil_syntax.specs.View.{spec_view}
use Rattle.gil_syntax.proofs.LimitLemmas.{spec_too_many}
use Rattle.gil_syntax.proofs.limits.spec_is_too_many.Goals as goal
use Rattle.gil_syntax.proofs.limits.spec_is_too_many.Goals.{then-place-ge-MOST_ITEMS, else-place-ge-MOST_ITEMS}

pub returns-then-is_large_spec : goal.returns-then-is_large_spec
returns-then-is_large_spec c p below =
    let item = a_spec (spec_view c.args.spec.now) in
    let value : c.if-place-ge-MOST_ITEMS.value ≡ (leb most_items c.args.place || is_large item) = elim c.if-place-ge-MOST_ITEMS.branch [
      | then-place-ge-MOST_ITEMS w ↦ grind (arith, nat_tests)
      | else-place-ge-MOST_ITEMS w ↦ grind (arith, nat_tests)
    ] in
    c.if-is_large_spec.true ∙ ap (λ b. b || has_wide_literal p item) (sym c.if-is_large_spec.true ∙ value) ∙ spec_too_many p c.args.place (spec_view c.args.spec.now) below

pub returns-else-is_large_spec : goal.returns-else-is_large_spec
returns-else-is_large_spec c p below =
    let item = a_spec (spec_view c.args.spec.now) in
    let value : c.if-place-ge-MOST_ITEMS.value ≡ (leb most_items c.args.place || is_large item) = elim c.if-place-ge-MOST_ITEMS.branch [
      | then-place-ge-MOST_ITEMS w ↦ grind (arith, nat_tests)
      | else-place-ge-MOST_ITEMS w ↦ grind (arith, nat_tests)
    ] in
    c.spec_has_wide_literal.ensures p ∙ ap (λ b. b || has_wide_literal p item) (sym c.if-is_large_spec.false ∙ value) ∙ spec_too_many p c.args.place (spec_view c.args.spec.now) below
