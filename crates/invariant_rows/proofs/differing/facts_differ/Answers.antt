use Rattle.std.proofs.Common.{◌≡◌, ◌+◌, ◌-◌, ◌<◌, ◌≤◌, [], ◌∷◌, Some, slice_get, length, drop, sym, subst, arith}
use Rattle.gil_values.proofs.Lists.{slice_get-read}
use Rattle.sym_model.specs.Alternatives.{alternatives_view}
use Rattle.sym_states.proofs.Values.{ok_to}
use Rattle.sym_states.specs.View.{fact_view, facts_view}
use Rattle.invariant_rows.specs.Asked.{AreComparisons}
use Rattle.invariant_rows.specs.Differing.{TellsFacts}
use Rattle.invariant_rows.proofs.AskedLaws.{joined_comparisons}
use Rattle.invariant_rows.proofs.DifferenceLaws.{no_facts_left, facts_from, more_facts, other_lengths}
use Rattle.invariant_rows.proofs.differing.facts_differ.Goals as goal

pub returns-then-left-right-clause-tells : goal.returns-then-left-right-clause-tells
returns-then-left-right-clause-tells c =
    let left = facts_view c.args.left.now in
    let right = facts_view c.args.right.now in
    ok_to c.always.result (λ x. alternatives_view x ≡ [] ∷ []) (λ x. TellsFacts left right (alternatives_view x))
    (λ x is. subst (TellsFacts left right) (sym is) (more_facts left right (other_lengths fact_view c.args.left.now c.args.right.now c.if-left-right.true))) c.always.ensures

pub loop-place-init : goal.loop-place-init
loop-place-init c =
    let left = c.args.left.now in
    let right = c.args.right.now in
    let same : length left ≡ length right = c.if-left-right.false in
    let past : length left ≤ length left = omega arith in
    let past_too : length right ≤ length left = omega (arith, same) in
    record {
      tells = subst (TellsFacts (drop (length left) (facts_view left)) (drop (length left) (facts_view right))) (sym c.never-found.ensures) (no_facts_left left right (length left) past past_too);
      asked = subst AreComparisons (sym c.never-found.ensures) tt;
    }

pub loop-place-preserved : goal.loop-place-preserved
loop-place-preserved c =
    let left = c.args.left.now in
    let right = c.args.right.now in
    let i = c.loop-place.place - 1 in
    let same : length left ≡ length right = c.if-left-right.false in
    let next : c.loop-place.place ≡ i + 1 = omega (arith, c.loop-place-test.true) in
    let below : i < length left = omega arith in
    let below_too : i < length right = omega (arith, below, same) in
    let one = c.index-left-place.result in
    let two = c.index-right-place.result in
    let at : slice_get (facts_view left) i ≡ Some (fact_view one) = slice_get-read fact_view left i one below c.index-left-place.is in
    let at_too : slice_get (facts_view right) i ≡ Some (fact_view two) = slice_get-read fact_view right i two below_too c.index-right-place.is in
    record {
      tells = subst (TellsFacts (drop i (facts_view left)) (drop i (facts_view right))) (sym c.in_ok-found.ensures)
          (facts_from (facts_view left) (facts_view right) i (fact_view one) (fact_view two) (alternatives_view c.loop-place.found) (alternatives_view c.in_ok-here.here) at at_too
          (subst (λ k. TellsFacts (drop k (facts_view left)) (drop k (facts_view right)) (alternatives_view c.loop-place.found)) next c.loop-place.invariant.tells) c.in_ok-here.ensures.tells);
      asked = subst AreComparisons (sym c.in_ok-found.ensures)
          (joined_comparisons (alternatives_view c.loop-place.found) (alternatives_view c.in_ok-here.here) c.loop-place.invariant.asked c.in_ok-here.ensures.asked);
    }

pub returns-clause-tells : goal.returns-clause-tells
returns-clause-tells c =
    let none : c.loop-place.place ≡ 0 = omega (arith, c.loop-place-test.false) in
    subst (λ k. TellsFacts (drop k (facts_view c.args.left.now)) (drop k (facts_view c.args.right.now)) (alternatives_view c.loop-place.found)) none c.loop-place.invariant.tells

pub returns-then-left-right-clause-asked : goal.returns-then-left-right-clause-asked
returns-then-left-right-clause-asked c = ok_to c.always.result (λ x. alternatives_view x ≡ [] ∷ []) (λ x. AreComparisons (alternatives_view x)) (λ x is. subst AreComparisons (sym is) (tt, tt)) c.always.ensures

pub returns-clause-asked : goal.returns-clause-asked
returns-clause-asked c = c.loop-place.invariant.asked
