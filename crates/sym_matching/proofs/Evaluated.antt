-- What the cases of an expression say, as a split.
use Rattle.std.proofs.Common.{◌≡◌, inl, inr, ℕ, ◌+◌, pos, neg_ℤ, List, [], ◌∷◌, map, false, Option, Some, None, Result, Ok, Err, IsTrue, refl, sym, ◌∙◌, true≢false}
use Rattle.std.specs.List.{list_all}
use Rattle.std.specs.Result.{result_ok}
use Rattle.gil_values.specs.Operators.{Fault}
use Rattle.gil_values.specs.Pure.{PureValue}
use Rattle.gil_syntax.specs.Evaluation.{evaluate}
use Rattle.gil_syntax.specs.Pure.{PureExpr}
use Rattle.gil_syntax.specs.Subexpressions.{literals_of}
use Rattle.gil_syntax.specs.WellMade.{is_spellable}
use Rattle.pure_terms.specs.declared.variables.Sort.{Sort}
use Rattle.pure_terms.specs.Meaning.{all_true, IsOver}
use Rattle.pure_terms.specs.Pure.{PureTerm, PureAtom, term_of}
use Rattle.sym_model.specs.Alternatives.{Hold}
use Rattle.sym_evaluation.specs.Meaning.{IsTaken, IsClosed, IsGood, SayOutcome, HasValue, AreCasesOf}
use Rattle.sym_evaluation.specs.Plainly.{IsPlain, IsPlainGuard, text_bound}
use Rattle.sym_evaluation.specs.Pure.{PureStore, PureFaultCase, PureGoodCase, PureCases}
use Rattle.sym_evaluation.specs.Questions.{IsAsked, OnConditions, OnResult, ComesFrom, NameNoOthers}
use Rattle.sym_evaluation.proofs.AskedAtoms.{asked_closed}
use Rattle.sym_model.specs.Laws.{IsDecidedWithin}
use Rattle.sym_model.specs.Lists.{Each}
use Rattle.sym_model.specs.Meaning.{is_open}
use Rattle.sym_model.proofs.ListLaws.{each_to, one_map, one_mapped, one_with}
use Rattle.sym_paths.specs.PlainLaws.{PlainExpressionsAskNothing}
use Rattle.sym_paths.specs.Plain.{AsksNothing}
use Rattle.sym_matching.specs.Meaning.{IsReached, Gives, SaysSplit, AreConditions, IsFoundOver}
use Rattle.sym_matching.specs.Parts.{AreValues}
use Rattle.sym_matching.specs.Plainly.{AreDecided, IsFoundDecided, IsSplitDecided}
use Rattle.sym_matching.specs.Pure.{PureSplit}
use Rattle.sym_matching.proofs.OriginLaws.{evaluated_from}

abbrev pub conds_of : PureFaultCase → List PureAtom
conds_of c = c.conds

abbrev pub without_faults : PureCases PureTerm → PureSplit PureTerm
without_faults cases = record { found = cases.good; none = map conds_of cases.faults }

module _ {X A : Type 0} (v : List PureValue) (Is : X → A → Type 0) where
  good_reached : (o : Option (PureGoodCase X)) (a : A) → IsGood v (λ x. Is x a) o → IsReached v o
  good_reached None a good = absurd good
  good_reached (Some g) a good = good.0

  good_gives : (o : Option (PureGoodCase X)) (a : A) → IsGood v (λ x. Is x a) o → Gives Is o (Some a)
  good_gives None a good = absurd good
  good_gives (Some g) a good = (a, (refl, good.1))

  closed_unreached : (o : Option (PureGoodCase X)) → IsClosed v o → ¬ IsReached v o
  closed_unreached None closed reached = reached
  closed_unreached (Some g) closed reached = let shut : all_true v g.conds ≡ false = closed in true≢false (sym reached ∙ shut)

  none_taken : (faults : List PureFaultCase) → Each (λ c. all_true v c.conds ≡ false) faults → ¬ Hold v (map conds_of faults)
  none_taken faults closed holds =
      one_with (λ c. all_true v c.conds ≡ false) (IsTaken v) faults closed (one_mapped (λ conds. IsTrue (all_true v conds)) conds_of faults holds) (λ c shut taken. true≢false (sym taken ∙ shut))

  outcome_says : (r : Result A Fault) (good : Option (PureGoodCase X)) (faults : List PureFaultCase) → SayOutcome v Is r (record { faults = faults; good = good })
      → SaysSplit v Is (record { found = good; none = map conds_of faults }) (result_ok r)
  outcome_says (Ok a) good faults (is, closed) = record {
    cover = inl (good_reached good a is);
    found = λ reached. good_gives good a is;
    none = λ holds. absurd (none_taken faults closed holds);
  }
  outcome_says (Err f) good faults (closed, taken, same) = record {
    cover = inr (one_map (λ conds. IsTrue (all_true v conds)) conds_of faults taken);
    found = λ reached. absurd (closed_unreached good closed reached);
    none = λ holds. refl;
  }

each_both : {A : Type 0} (P Q : A → Type 0) (xs : List A) → Each P xs → Each Q xs → Each (λ x. P x × Q x) xs
each_both P Q [] first second = tt
each_both P Q (x ∷ xs) first second = ((first.0, second.0), each_both P Q xs first.1 second.1)

module _ (bs : PureStore) (e : PureExpr) (vars : List Sort) where
  conditions : (conds : List PureAtom) → Each (λ a. IsOver vars (term_of a)) conds → Each (IsAsked bs e) conds → AreConditions vars conds
  conditions conds over asked =
      each_both (λ a. IsOver vars (term_of a)) (λ a. is_open a ≡ false) conds over (each_to (IsAsked bs e) (λ a. is_open a ≡ false) conds (asked_closed bs e) asked)

  faults_over : (faults : List PureFaultCase) → Each (λ c. Each (λ a. IsOver vars (term_of a)) c.conds) faults → Each (λ c. Each (IsAsked bs e) c.conds) faults
      → Each (AreConditions vars) (map conds_of faults)
  faults_over [] over asked = tt
  faults_over (c ∷ faults) over asked = (conditions c.conds over.0 asked.0, faults_over faults over.1 asked.1)

  good_over : (good : Option (PureGoodCase PureTerm)) → OnConditions (λ a. IsOver vars (term_of a)) good → OnConditions (IsAsked bs e) good → OnResult (IsOver vars) good
      → IsFoundOver (IsOver vars) vars good
  good_over None over asked result = tt
  good_over (Some g) over asked result = (conditions g.conds over asked, result)

-- ---- what asks nothing

module _ (P : PureTerm → Type 0) (b : ℕ) where
  none_decided : (conds : List PureAtom) → Each (λ a. ⊥) conds → AreDecided b conds
  none_decided conds none = each_to (λ a. ⊥) (IsDecidedWithin (neg_ℤ (pos b)) (pos b)) conds (λ a never. absurd never) none

  faults_decided : (faults : List PureFaultCase) → Each (λ c. Each (λ a. ⊥) c.conds) faults → Each (AreDecided b) (map conds_of faults)
  faults_decided [] none = tt
  faults_decided (c ∷ faults) none = (none_decided c.conds none.0, faults_decided faults none.1)

  good_decided : (o : Option (PureGoodCase PureTerm)) → OnConditions (λ a. ⊥) o → OnResult P o → IsFoundDecided P b o
  good_decided None none holds = tt
  good_decided (Some g) none holds = (none_decided g.conds none, holds)

  pub values_decided : (cases : PureCases PureTerm) → AsksNothing P cases → IsSplitDecided P b (without_faults cases)
  values_decided cases (none, holds) = record {
    found = good_decided cases.good none.1 holds;
    none = faults_decided cases.faults none.0;
  }

-- ---- all of it

pub values_from : PlainExpressionsAskNothing → (bs : PureStore) (e : PureExpr) (cases : PureCases PureTerm) → IsTrue (list_all is_spellable (literals_of e)) → AreCasesOf bs e cases → ComesFrom bs e cases → NameNoOthers IsOver bs cases
    → AreValues bs e (without_faults cases)
values_from laws bs e cases spelled says from names = record {
  argument = λ vars b over plain numbers. values_decided (IsPlain (b + text_bound)) (b + text_bound) cases (laws.argument bs e cases vars b says from over plain numbers spelled);
  form = λ vars b over plain numbers. values_decided (IsPlainGuard (b + text_bound)) (b + text_bound) cases (laws.form bs e cases vars b says from over plain numbers spelled);
  says = λ vars v s serves. outcome_says v (HasValue v) (evaluate e s) cases.good cases.faults (says vars v s serves);
  over = λ vars over. let named = names vars over in record {
    found = good_over bs e vars cases.good named.0.1 from.0.1 named.1;
    none = faults_over bs e vars cases.faults named.0.0 from.0.0;
  };
  from = evaluated_from bs e cases from;
}
