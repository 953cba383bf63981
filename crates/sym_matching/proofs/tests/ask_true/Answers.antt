use Rattle.std.proofs.Common.{◌++◌, true, sym, ap, subst, ◌∙◌}
use Rattle.gil_values.specs.Equality.{same_value}
use Rattle.gil_values.specs.Pure.{boolean}
use Rattle.pure_terms.specs.View.{term_view}
use Rattle.sym_model.specs.Alternatives.{Alternatives}
use Rattle.sym_evaluation.specs.Questions.{IsGuardCondition}
use Rattle.sym_evaluation.specs.View.{sides_view}
use Rattle.sym_matching.specs.Origins.{TestComesFrom}
use Rattle.sym_matching.specs.Parts.{IsTestOf}
use Rattle.sym_matching.specs.Splitting.{side_alternatives}
use Rattle.sym_matching.proofs.OriginLaws.{guard_from}
use Rattle.sym_matching.proofs.TestLaws.{guard_is_test}
use Rattle.sym_matching.proofs.tests.ask_true.Goals as goal

pub returns : goal.returns
returns c =
    let sides = sides_view c.in_ok-when_true.field-0 in
    let t = term_view c.args.term.now in
    subst (λ (x : Alternatives). IsTestOf (λ w. same_value w (boolean true)) t (record { when = sides.when_true; otherwise = x }) × TestComesFrom (IsGuardCondition t) (record { when = sides.when_true; otherwise = x }))
    (sym (c.in_ok-otherwise-2.ensures ∙ ap (λ (x : Alternatives). x ++ side_alternatives sides.when_no_boolean) (c.in_ok-otherwise.ensures ∙ ap (λ (x : Alternatives). x ++ side_alternatives sides.when_false) c.never.ensures)))
    (guard_is_test t sides c.in_ok-when_true.ensures.sides c.in_ok-when_true.ensures.origin c.in_ok-when_true.ensures.decided, guard_from t sides c.in_ok-when_true.ensures.origin)
