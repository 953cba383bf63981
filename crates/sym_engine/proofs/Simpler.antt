-- Cases of a guard whose result is simplified are still those of the guard.
use Rattle.std.proofs.Common.{◌≡◌, List, Option, Some, None, Ok, Err, sym, subst}
use Rattle.std.specs.Option.{option_map}
use Rattle.gil_values.specs.Operators.{Outcome}
use Rattle.gil_values.specs.Pure.{PureValue}
use Rattle.gil_syntax.specs.Evaluation.{evaluate}
use Rattle.gil_syntax.specs.Pure.{PureExpr}
use Rattle.pure_terms.specs.declared.terms.Term.{Term}
use Rattle.pure_terms.specs.declared.variables.Sort.{Sort}
use Rattle.pure_terms.specs.Meaning.{IsProper, IsOver}
use Rattle.pure_terms.specs.Pure.{PureTerm}
use Rattle.pure_terms.specs.Rewriting.{Replaces}
use Rattle.pure_terms.specs.View.{term_view, atoms_view}
use Rattle.sym_evaluation.specs.declared.cases.GoodCase.{GoodCase}
use Rattle.sym_evaluation.specs.Meaning.{HasValue, SayOutcome}
use Rattle.sym_evaluation.specs.Pure.{PureStore, PureFaultCase, PureGoodCase, PureCases}
use Rattle.sym_evaluation.specs.Questions.{MayStandForGuard, IsGuardTerm, OnResult}
use Rattle.sym_evaluation.specs.View.{good_view}
use Rattle.sym_evaluation.proofs.GuardTerms.{guard_replaces}
use Rattle.sym_paths.specs.Valued.{IsEvaluated}
use Rattle.sym_paths.specs.Guards.{IsGuardEvaluated}

module _ (faults : List PureFaultCase) (g : PureGoodCase PureTerm) (t : PureTerm) (stands : MayStandForGuard g.result t) where
  abbrev before : PureCases PureTerm
  before = record { faults = faults; good = Some g }

  abbrev after : PureCases PureTerm
  after = record { faults = faults; good = Some (record g { result = t }) }

  replaced : Replaces g.result t
  replaced = guard_replaces g.result t stands

  still_says : (vars : List Sort) (v : List PureValue) (o : Outcome) → IsProper vars v → IsOver vars g.result → SayOutcome v (HasValue v) o before → SayOutcome v (HasValue v) o after
  still_says vars v (Ok w) proper over says = ((says.0.0, replaced.value_kept vars v w proper over says.0.1), says.1)
  still_says vars v (Err f) proper over says = says

  pub evaluated_simpler : (bs : PureStore) (e : PureExpr) → IsEvaluated bs e before → IsGuardEvaluated bs e after
  evaluated_simpler bs e evaluated = record {
    are_cases = λ vars v s serves. still_says vars v (evaluate e s) serves.proper (evaluated.names vars serves.over).1 (evaluated.are_cases vars v s serves);
    origin = (evaluated.origin.0, (g.result, (evaluated.origin.1, stands)));
    names = λ vars over. ((evaluated.names vars over).0, λ x has. (evaluated.names vars over).1 x (replaced.no_more_names x has));
  }

pub guard_evaluated : (bs : PureStore) (e : PureExpr) (o : Option (GoodCase Term)) (good : GoodCase Term) (faults : List PureFaultCase) (t : PureTerm) → o ≡ Some good → IsEvaluated bs e (record { faults = faults; good = option_map (good_view term_view) o }) → MayStandForGuard (term_view good.result) t
    → IsGuardEvaluated bs e (record { faults = faults; good = Some (record { conds = atoms_view good.conds; result = t }) })
guard_evaluated bs e o good faults t is evaluated stands =
    evaluated_simpler faults (good_view term_view good) t stands bs e (subst (λ q. IsEvaluated bs e (record { faults = faults; good = option_map (good_view term_view) q })) is evaluated)

-- where there is no result, nothing is said of it
pub guard_fails : (bs : PureStore) (e : PureExpr) (cases : PureCases PureTerm) → cases.good ≡ None → IsEvaluated bs e cases → IsGuardEvaluated bs e cases
guard_fails bs e cases none evaluated = record {
  are_cases = evaluated.are_cases;
  origin = (evaluated.origin.0, subst (OnResult (IsGuardTerm bs e)) (sym none) tt);
  names = evaluated.names;
}
