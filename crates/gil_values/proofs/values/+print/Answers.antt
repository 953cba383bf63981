use Rattle.std.proofs.Common.{◌≡◌, ◌++◌, List, ℕ, arith, append_assoc}
use Rattle.std.specs.Prelude.{codes}
use Rattle.gil_values.specs.Pure.{PureValue}
use Rattle.gil_values.proofs.Views.{value_size-element, values_view-element}
use Rattle.gil_values.proofs.Joined.{joined, joined-take, take-values, printed_list-joined}
use Rattle.gil_values.specs.Pieces.{printed_list}
use Rattle.gil_values.proofs.values.+print.Goals as goal

pub push_values-push_value-requires : goal.push_values-push_value-requires
push_values-push_value-requires t c =
    let element = values_view-element _ _ c.loop-index.index _ c.as_slice-value-items.ensures c.loop-index-test.true c.value-item.is in
    let smaller = value_size-element _ c.loop-index.index _ element in
    (omega (arith, smaller), tt)

grown : (start before mid all so_far more separator printed : List ℕ) → before ≡ start ++ (codes "[" ++ so_far) → mid ≡ before ++ separator → all ≡ mid ++ printed
    → more ≡ so_far ++ (separator ++ printed) → all ≡ start ++ (codes "[" ++ more)
grown start before mid all so_far more separator printed e f g h = rw (g, f, e, h) (simp append_assoc)

pub push_values-loop-index-preserved : goal.push_values-loop-index-preserved
push_values-loop-index-preserved t c =
    let element = values_view-element _ _ c.loop-index.index _ c.as_slice-value-items.ensures c.loop-index-test.true c.value-item.is in
    grown _ _ _ _ _ _ _ _ c.loop-index.invariant c.in_ok-push_separator.ensures c.in_ok-push_value.ensures (joined-take _ c.loop-index.index _ element)

closed : (start before all : List ℕ) (vs so_far : List PureValue) → before ≡ start ++ (codes "[" ++ joined so_far) → all ≡ before ++ codes "]" → so_far ≡ vs → all ≡ start ++ printed_list vs
closed start before all vs so_far e f g = rw (f, e, g, printed_list-joined) (simp append_assoc)

pub push_values-returns : goal.push_values-returns
push_values-returns t c =
    let all = take-values _ _ c.loop-index.index c.as_slice-value-items.ensures c.loop-index-test.false in
    closed _ _ _ _ _ c.loop-index.invariant c.in_ok-push_str-2.ensures.bytes all
