use Rattle.std.proofs.Common.{◌≡◌, ◌||◌, leb, sym, ap, ◌∙◌, arith}
use Rattle.std.proofs.lemmas.Bool.Decides.{nat_tests}
use Rattle.gil_syntax.specs.Valid.{most_items, is_large, has_wide_literal, a_pred}
use Rattle.gil_syntax.specs.View.{pred_def_view}
use Rattle.gil_syntax.proofs.LimitLemmas.{pred_too_many}
use Rattle.gil_syntax.proofs.limits.pred_is_too_many.Goals as goal
use Rattle.gil_syntax.proofs.limits.pred_is_too_many.Goals.{then-place-ge-MOST_ITEMS, else-place-ge-MOST_ITEMS}

pub returns-then-is_large_pred : goal.returns-then-is_large_pred
returns-then-is_large_pred c p below =
    let item = a_pred (pred_def_view c.args.pred.now) in
    let value : c.if-place-ge-MOST_ITEMS.value ≡ (leb most_items c.args.place || is_large item) = elim c.if-place-ge-MOST_ITEMS.branch [
      | then-place-ge-MOST_ITEMS w ↦ grind (arith, nat_tests)
      | else-place-ge-MOST_ITEMS w ↦ grind (arith, nat_tests)
    ] in
    c.if-is_large_pred.true ∙ ap (λ b. b || has_wide_literal p item) (sym c.if-is_large_pred.true ∙ value) ∙ pred_too_many p c.args.place (pred_def_view c.args.pred.now) below

pub returns-else-is_large_pred : goal.returns-else-is_large_pred
returns-else-is_large_pred c p below =
    let item = a_pred (pred_def_view c.args.pred.now) in
    let value : c.if-place-ge-MOST_ITEMS.value ≡ (leb most_items c.args.place || is_large item) = elim c.if-place-ge-MOST_ITEMS.branch [
      | then-place-ge-MOST_ITEMS w ↦ grind (arith, nat_tests)
      | else-place-ge-MOST_ITEMS w ↦ grind (arith, nat_tests)
    ] in
    c.pred_has_wide_literal.ensures p ∙ ap (λ b. b || has_wide_literal p item) (sym c.if-is_large_pred.false ∙ value) ∙ pred_too_many p c.args.place (pred_def_view c.args.pred.now) below
