use Rattle.std.proofs.Common.{◌≡◌, ◌<◌, ℕ, List, length, get_or, Some, slice_get, sym, ap, subst, arith}
use Rattle.std.proofs.lemmas.Option.{slice_get-get_or, slice_get_within}
use Rattle.gil_values.specs.Pure.{PureValue}
use Rattle.gil_values.specs.View.{value_view, values_view}
use Rattle.pure_terms.specs.declared.variables.Sort.{Sort}
use Rattle.pure_terms.specs.declared.variables.Var.{Var}
use Rattle.equality_core.specs.Classes.{classes_view, given_list}
use Rattle.equality_core.specs.Values.{IsInTable, IsValueOf}
use Rattle.equality_core.proofs.Classing.{one_more, longer_size, in_table}
use Rattle.equality_core.proofs.values.values_of.Goals as goal

pub loop-number-preserved : goal.loop-number-preserved
loop-number-preserved c =
    let last : Var = record { number = c.loop-number.number; sort = get_or c.as_slice-sorts.result.now c.loop-number.number Sort.Int } in
    let there : IsInTable c.args.vars.now last =
    subst (λ (ss : List Sort). slice_get ss c.loop-number.number ≡ Some (get_or c.as_slice-sorts.result.now c.loop-number.number Sort.Int)) c.as_slice-sorts.ensures (slice_get-get_or c.as_slice-sorts.result.now c.loop-number.number Sort.Int c.loop-number-test.true) in
    let Has : Var → PureValue → Type 0 = λ x w. IsValueOf c.args.vars.now (given_list (classes_view c.args.classes.now)) (values_view c.args.numbers.now) c.args.kinds.now c.args.long x w in
    record {
      size = longer_size c.args.vars.now (values_view c.push.new.self) (values_view c.loop-number.values) (value_view c.in_ok-value.value) c.loop-number.number Has c.in_ok-push.ensures.ok c.loop-number.invariant.size;
      each = one_more c.args.vars.now (values_view c.push.new.self) (values_view c.loop-number.values) (value_view c.in_ok-value.value) c.loop-number.number Has c.in_ok-push.ensures.ok c.loop-number.invariant.size
          c.loop-number.invariant.each (λ x e also. subst (λ (y : Var). IsValueOf c.args.vars.now (given_list (classes_view c.args.classes.now)) (values_view c.args.numbers.now) c.args.kinds.now c.args.long y (value_view c.in_ok-value.value)) (sym (in_table c.args.vars.now x last also there e)) c.in_ok-value.ensures);
    }

pub returns : goal.returns
returns c = record {
  one_each = whole;
  each = λ x w there at. c.loop-number.invariant.each x w (within x.number (slice_get_within c.args.vars.now x.number x.sort there)) there at;
} where
  sorts : length c.as_slice-sorts.result.now ≡ length c.args.vars.now
  sorts = ap length c.as_slice-sorts.ensures

  whole : length (values_view c.loop-number.values) ≡ length c.args.vars.now
  whole = omega (arith, c.loop-number.invariant.size, c.loop-number-test.false, c.loop-number.auto.number-end, sorts)

  within : (n : ℕ) → n < length c.args.vars.now → n < c.loop-number.number
  within n h = omega (arith, h, c.loop-number-test.false, sorts)
