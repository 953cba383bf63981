use Rattle.std.proofs.Common.{◌≡◌, ◌<◌, ℕ, List, length, get_or, Some, slice_get, sym, ap, ◌∙◌, subst, arith}
use Rattle.std.specs.Option.{option_map}
use Rattle.std.proofs.lemmas.Option.{slice_get-get_or, slice_get_within}
use Rattle.gil_values.specs.View.{value_view, values_view}
use Rattle.pure_terms.specs.declared.variables.Sort.{Sort}
use Rattle.solver_guess.proofs.Taming.{tame_more}
use Rattle.solver_guess.proofs.proper.are_tame.Goals as goal

pub loop-variable-preserved : goal.loop-variable-preserved
loop-variable-preserved c =
    let sort : Sort = get_or c.as_slice-sort-items.result.now c.loop-variable.variable Sort.Int in
    let of : slice_get c.args.vars.now c.loop-variable.variable ≡ Some sort =
    subst (λ (ss : List Sort). slice_get ss c.loop-variable.variable ≡ Some sort) c.as_slice-sort-items.ensures (slice_get-get_or c.as_slice-sort-items.result.now c.loop-variable.variable Sort.Int c.loop-variable-test.true) in
    let at : slice_get (values_view c.args.values.now) c.loop-variable.variable ≡ Some (value_view c.in-Some.value.now) = sym c.get.ensures ∙ ap (option_map (λ v. value_view v.now)) c.in-Some.is in
    tame_more c.args.vars.now (values_view c.args.values.now) c.loop-variable.variable sort (value_view c.in-Some.value.now) of at (sym c.is_tame_for.ensures ∙ c.if-not-is_tame_for.false) c.loop-variable.invariant

pub returns : goal.returns
returns c _ = record {
  one_each = omega (arith, c.len.ensures, c.len-2.ensures, c.if-len.false);
  each = λ x s w of at. c.loop-variable.invariant x s w (within x (slice_get_within c.args.vars.now x s of)) of at;
} where
  sorts : length c.as_slice-sort-items.result.now ≡ length c.args.vars.now
  sorts = ap length c.as_slice-sort-items.ensures

  within : (n : ℕ) → n < length c.args.vars.now → n < c.loop-variable.variable
  within n h = omega (arith, h, c.loop-variable-test.false, sorts)
