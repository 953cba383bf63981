use Rattle.std.proofs.Common.{◌≡◌, true, sym, ap, ◌∙◌, subst, true≢false}
use Rattle.std.proofs.lemmas.Bool.{eqb-true, eq-eqb}
use Rattle.solver_proof.specs.declared.sums.Part.{Part}
use Rattle.solver_proof.specs.Lists.{list_view}
use Rattle.solver_proof.specs.Rows.{part_of, sum_of_rows, is_positive, cancel_rows}
use Rattle.solver_proof.specs.Sums.{are_factors, SumCloses}
use Rattle.solver_proof.proofs.SumLaws.{no_divisor-one, one-no_divisor, cancel_to, cancel_from, positive_from, positive_to}
use Rattle.solver_proof.proofs.sums.sum_closes.Goals as goal

pub returns-then-not-is_positive : goal.returns-then-not-is_positive
returns-then-not-is_positive c = (
  λ never. absurd (true≢false (sym never)),
  λ closes.
      let whole : SumCloses (list_view c.args.list.now) c.as_slice-factors.result.now = subst (SumCloses (list_view c.args.list.now)) (sym c.as_slice-factors.ensures) closes in
      sym c.if-not-is_positive.true ∙ c.is_positive.ensures ∙ ap is_positive c.total.ensures ∙ positive_to (list_view c.args.list.now) c.as_slice-factors.result.now whole.factors whole.held_constant whole.constant,
)

pub returns-then-not-cancel : goal.returns-then-not-cancel
returns-then-not-cancel c = (
  λ never. absurd (true≢false (sym never)),
  λ closes.
      let whole : SumCloses (list_view c.args.list.now) c.as_slice-factors.result.now = subst (SumCloses (list_view c.args.list.now)) (sym c.as_slice-factors.ensures) closes in
      sym c.if-not-cancel.true ∙ c.cancel.ensures ∙ cancel_to (list_view c.args.list.now) c.as_slice-factors.result.now c.as_slice-factors.result.now whole.factors (λ x. (whole.held_variables x, whole.variables x)),
)

pub returns : goal.returns
returns c =
    let factors : are_factors (list_view c.args.list.now) c.as_slice-factors.result.now ≡ true = sym c.are_factors.ensures ∙ c.if-not-are_factors.false in
    let tested : cancel_rows (list_view c.args.list.now) c.as_slice-factors.result.now c.as_slice-factors.result.now ≡ true = sym c.cancel.ensures ∙ c.if-not-cancel.false in
    let above : is_positive (sum_of_rows (list_view c.args.list.now) (part_of Part.Constant) c.as_slice-factors.result.now) ≡ true = sym (c.is_positive.ensures ∙ ap is_positive c.total.ensures) ∙ c.if-not-is_positive.false in
    let constant = positive_from (list_view c.args.list.now) c.as_slice-factors.result.now factors above in (
      λ one. subst (SumCloses (list_view c.args.list.now)) c.as_slice-factors.ensures (record {
        apart = sym c.are_apart.ensures ∙ c.if-not-are_apart.false;
        factors = factors;
        constant = constant.1;
        variables = λ x. (cancel_from (list_view c.args.list.now) c.as_slice-factors.result.now x factors tested).1;
        no_divisor = no_divisor-one c.as_slice-factors.result.now c.common_divisor.result c.common_divisor.ensures (eqb-true c.common_divisor.result 1 one);
        held_constant = constant.0;
        held_variables = λ x. (cancel_from (list_view c.args.list.now) c.as_slice-factors.result.now x factors tested).0;
      }),
      λ closes.
          let whole : SumCloses (list_view c.args.list.now) c.as_slice-factors.result.now = subst (SumCloses (list_view c.args.list.now)) (sym c.as_slice-factors.ensures) closes in
          eq-eqb c.common_divisor.result 1 (one-no_divisor c.as_slice-factors.result.now c.common_divisor.result c.common_divisor.ensures whole.no_divisor),
    )
