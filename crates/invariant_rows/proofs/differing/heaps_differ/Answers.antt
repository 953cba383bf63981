use Rattle.std.proofs.Common.{◌≡◌, ◌+◌, ◌-◌, ◌<◌, ◌≤◌, Some, None, slice_get, length, drop, sym, subst, arith}
use Rattle.gil_values.proofs.Lists.{slice_get-read}
use Rattle.sym_model.specs.View.{use_view, uses_view}
use Rattle.invariant_rows.specs.Asked.{AreComparisons}
use Rattle.invariant_rows.specs.Differing.{TellsHeaps}
use Rattle.invariant_rows.specs.View.{difference_view}
use Rattle.invariant_rows.proofs.DifferenceLaws.{no_uses_left, uses_from, more_uses, other_lengths}
use Rattle.invariant_rows.proofs.differing.heaps_differ.Goals as goal

pub returns-then-left-right-clause-tells : goal.returns-then-left-right-clause-tells
returns-then-left-right-clause-tells c =
    let left = uses_view c.args.left.now in
    let right = uses_view c.args.right.now in
    subst (λ x. TellsHeaps left right (record { alternatives = x; unclear = None })) (sym c.in_ok-always.ensures) (more_uses left right (other_lengths use_view c.args.left.now c.args.right.now c.if-left-right.true))

pub loop-place-init : goal.loop-place-init
loop-place-init c =
    let left = c.args.left.now in
    let right = c.args.right.now in
    let same : length left ≡ length right = c.if-left-right.false in
    let past : length left ≤ length left = omega arith in
    let past_too : length right ≤ length left = omega (arith, same) in
    record {
      tells = subst (λ x. TellsHeaps (drop (length left) (uses_view left)) (drop (length left) (uses_view right)) (record { alternatives = x; unclear = None })) (sym c.never.ensures) (no_uses_left left right (length left) past past_too);
      asked = subst AreComparisons (sym c.never.ensures) tt;
    }

pub loop-place-preserved : goal.loop-place-preserved
loop-place-preserved c =
    let left = c.args.left.now in
    let right = c.args.right.now in
    let i = c.loop-place.place - 1 in
    let same : length left ≡ length right = c.if-left-right.false in
    let next : c.loop-place.place ≡ i + 1 = omega (arith, c.loop-place-test.true) in
    let below : i < length left = omega arith in
    let below_too : i < length right = omega (arith, below, same) in
    let one = c.index-left-place.result in
    let two = c.index-right-place.result in
    let at : slice_get (uses_view left) i ≡ Some (use_view one) = slice_get-read use_view left i one below c.index-left-place.is in
    let at_too : slice_get (uses_view right) i ≡ Some (use_view two) = slice_get-read use_view right i two below_too c.index-right-place.is in
    record {
      tells = uses_from (uses_view left) (uses_view right) i (use_view one) (use_view two) (difference_view c.loop-place.found) (difference_view c.in_ok-found.found) at at_too
          (subst (λ k. TellsHeaps (drop k (uses_view left)) (drop k (uses_view right)) (difference_view c.loop-place.found)) next c.loop-place.invariant.tells) c.in_ok-found.ensures.tells;
      asked = c.in_ok-found.ensures.asked c.loop-place.invariant.asked;
    }

pub returns-clause-tells : goal.returns-clause-tells
returns-clause-tells c =
    let none : c.loop-place.place ≡ 0 = omega (arith, c.loop-place-test.false) in
    subst (λ k. TellsHeaps (drop k (uses_view c.args.left.now)) (drop k (uses_view c.args.right.now)) (difference_view c.loop-place.found)) none c.loop-place.invariant.tells

pub returns-then-left-right-clause-asked : goal.returns-then-left-right-clause-asked
returns-then-left-right-clause-asked c = subst AreComparisons (sym c.in_ok-always.ensures) (tt, tt)

pub returns-clause-asked : goal.returns-clause-asked
returns-clause-asked c = c.loop-place.invariant.asked
