use Rattle.std.proofs.Common.{◌≡◌, ◌+◌, ◌≤◌, Some, map, take, slice_get, sym, subst, arith}
use Rattle.gil_values.proofs.Lists.{slice_get-read}
use Rattle.gil_syntax.specs.Pure.{from_list}
use Rattle.gil_syntax.specs.View.{expr_view, exprs_view}
use Rattle.gil_machine.specs.ResolvedView.{resolved_view}
use Rattle.gil_machine.proofs.Resolutions.{seen_more}
use Rattle.gil_machine.proofs.Sizes.{expr_size, exprs_size, size-element}
use Rattle.gil_machine.proofs.SlotLemmas.{grows-then}
use Rattle.gil_machine.proofs.resolving.+resolving.Goals as goal

pub resolve_all-resolve-requires : goal.resolve_all-resolve-requires
resolve_all-resolve-requires t c =
    let here : slice_get (exprs_view c.args.expressions.now) c.loop-expression.expression-index ≡ Some (expr_view c.expression-item.result)
    = subst (λ es. slice_get es c.loop-expression.expression-index ≡ Some (expr_view c.expression-item.result)) c.as_slice-expression-items.ensures (slice_get-read expr_view c.as_slice-expression-items.result.now c.loop-expression.expression-index c.expression-item.result (omega arith) c.expression-item.is) in
    let small : expr_size (expr_view c.expression-item.result) ≤ exprs_size (from_list (exprs_view c.args.expressions.now)) = size-element _ _ _ here in
    (omega (arith, small, c.decreases), c.loop-expression.invariant.names)

pub resolve_all-loop-expression-preserved : goal.resolve_all-loop-expression-preserved
resolve_all-loop-expression-preserved t c =
    let here : slice_get (exprs_view c.args.expressions.now) c.loop-expression.expression-index ≡ Some (expr_view c.expression-item.result)
    = subst (λ es. slice_get es c.loop-expression.expression-index ≡ Some (expr_view c.expression-item.result)) c.as_slice-expression-items.ensures (slice_get-read expr_view c.as_slice-expression-items.result.now c.loop-expression.expression-index c.expression-item.result (omega arith) c.expression-item.is) in
    record {
      names = c.in_ok-resolve.ensures.names;
      grows = grows-then _ _ _ c.loop-expression.invariant.grows c.in_ok-resolve.ensures.grows;
      resolved = λ ns more.
          subst (λ rs. map (resolved_view ns) rs ≡ take (c.loop-expression.expression-index + 1) (exprs_view c.args.expressions.now)) (sym c.in_ok-push.ensures.items)
          (seen_more (resolved_view ns) c.loop-expression.items.items c.in_ok-resolve.field-0 (exprs_view c.args.expressions.now) c.loop-expression.expression-index (expr_view c.expression-item.result)
          (c.loop-expression.invariant.resolved ns (grows-then _ _ _ c.in_ok-resolve.ensures.grows more)) here (c.in_ok-resolve.ensures.resolved ns more));
    }
