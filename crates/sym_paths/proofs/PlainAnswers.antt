-- The cases of plain expressions over a plain store.
use Rattle.std.proofs.Common.{◌≡◌, ◌⊎◌, ⊎_elim, inl, inr, ℕ, ◌+◌, List, [], ◌∷◌, Bool, true, false, ◌&&◌, Option, Some, None, Result, Ok, Err, refl, sym, ap, subst, ◌∙◌, true≢false}
use Rattle.std.specs.List.{list_all}
use Rattle.std.proofs.lemmas.Bool.{and_parts}
use Rattle.gil_values.specs.declared.operators.UnOp.{UnOp}
use Rattle.gil_values.specs.declared.operators.BinOp.{BinOp}
use Rattle.gil_values.specs.Operators.{Fault}
use Rattle.gil_values.specs.Pure.{PureValue, boolean}
use Rattle.gil_syntax.specs.Evaluation.{evaluate, evaluate_all}
use Rattle.gil_syntax.specs.Pure.{PureExpr, literal, name, logical, list_of, unary_of, binary_of, from_list}
use Rattle.gil_syntax.specs.Simple.{is_plain_value, is_simple_value, is_simple_guard, is_bare_guard, compares}
use Rattle.gil_syntax.specs.Subexpressions.{literals_of}
use Rattle.gil_syntax.specs.WellMade.{is_spellable}
use Rattle.pure_terms.specs.declared.variables.Sort.{Sort}
use Rattle.pure_terms.specs.Meaning.{all_true}
use Rattle.pure_terms.specs.Pure.{PureTerm, PureAtom}
use Rattle.pure_terms.specs.Laws.{FoldingReplaces}
use Rattle.sym_evaluation.specs.Evaluating.{cases_after, all_cases_after}
use Rattle.sym_evaluation.specs.Meaning.{IsClosed, IsGood, SayOutcome, HasValue, HaveValues, AreCasesOf, AreCasesOfAll}
use Rattle.sym_evaluation.specs.Plainly.{IsPlain, IsPlainGuard, text_bound, is_text_number, has_text_numbers, IsSureFault, IsSureResult}
use Rattle.sym_evaluation.specs.Pure.{PureStore, PureCases, PureGoodCase}
use Rattle.sym_evaluation.specs.Questions.{IsTermOf, AreTermsOf, IsAsked, EachCondition, OnConditions, OnResult, ComesFrom, AllComeFrom}
use Rattle.sym_evaluation.proofs.EvaluationLaws.{cases_are_right, all_cases_are_right}
use Rattle.sym_evaluation.proofs.FromLaws.{comes_from, all_come_from}
use Rattle.sym_evaluation.proofs.GuardLaws.{guards_plainly}
use Rattle.sym_evaluation.proofs.PlainLaws.{answers_plainly, all_answer_plainly}
use Rattle.sym_model.specs.Lists.{Each, OneOf}
use Rattle.sym_model.proofs.ListLaws.{same_some, each_to}
use Rattle.sym_paths.specs.PlainLaws.{IsPlainOver, PlainExpressionsAskNothing}
use Rattle.sym_paths.specs.Plain.{as_program, is_plain_argument, is_plain_form, is_bare_form, is_program_form, AsksNothing}
use Rattle.sym_paths.proofs.PlainAsking.{value_asks, form_asks}
use Rattle.sym_paths.proofs.PlainReading.{literals_stay, cases_stay, all_stay, listed, listed_stay, each_read}
use Rattle.sym_paths.proofs.PlainValues.{some_values}

-- ---- conditions that nothing asks

no_conditions : (v : List PureValue) (conds : List PureAtom) → Each (λ a. ⊥) conds → all_true v conds ≡ true
no_conditions v [] each = refl
no_conditions v (a ∷ conds) each = absurd each.0

module _ {X : Type 0} where
  on_good : (P Q : PureAtom → Type 0) → ((a : PureAtom) → P a → Q a) → (o : Option (PureGoodCase X)) → OnConditions P o → OnConditions Q o
  on_good P Q to None all = tt
  on_good P Q to (Some g) all = each_to P Q g.conds to all

  each_condition : (P Q : PureAtom → Type 0) → ((a : PureAtom) → P a → Q a) → (cases : PureCases X) → EachCondition P cases → EachCondition Q cases
  each_condition P Q to cases all = (each_to (λ c. Each P c.conds) (λ c. Each Q c.conds) cases.faults (λ c each. each_to P Q c.conds to each) all.0, on_good P Q to cases.good all.1)

  -- A fault that is sure by right cases is no result of other right ones, where these have no conditions.
  no_result : {A : Type 0} (v : List PureValue) (Is : X → A → Type 0) (r : Result A Fault) (right cases : PureCases X) → SayOutcome v Is r right → SayOutcome v Is r cases → right.good ≡ None → EachCondition (λ a. ⊥) cases → cases.good ≡ None
  no_result v Is (Ok a) right cases says other none asks = absurd (subst (λ o. IsGood v (λ x. Is x a) o) none says.0)
  no_result v Is (Err f) right cases says other none asks = by cases.good other.0 asks.1
    where
      by : (o : Option (PureGoodCase X)) → IsClosed v o → OnConditions (λ a. ⊥) o → o ≡ None
      by None closed each = refl
      by (Some g) closed each = absurd (true≢false (sym (no_conditions v g.conds each) ∙ closed))

  -- of one term
  by_term : (Is : X → Type 0) (P : X → Type 0) (x : X) → ((y : X) → Is y → y ≡ x) → P x → (o : Option (PureGoodCase X)) → OnResult Is o → OnResult P o
  by_term Is P x same holds None on = tt
  by_term Is P x same holds (Some g) on = subst P (sym (same g.result on)) holds

  on_none : (P : X → Type 0) (o : Option (PureGoodCase X)) → o ≡ None → OnResult P o
  on_none P None none = tt
  on_none P (Some g) none = absurd (cc)

-- ---- forms

simple_value : (e : PureExpr) → is_plain_value e ≡ true → is_simple_value e ≡ true
simple_value (binary_of BinOp.Nth d e) is = absurd (no_nth d e is)
  where
    no_nth : (c d : PureExpr) → ¬ (is_plain_value (binary_of BinOp.Nth c d) ≡ true)
    no_nth (name x) (literal v) none = true≢false (sym none)
    no_nth (name x) (name y) none = true≢false (sym none)
    no_nth (name x) (logical y) none = true≢false (sym none)
    no_nth (name x) (list_of es) none = true≢false (sym none)
    no_nth (name x) (unary_of o u) none = true≢false (sym none)
    no_nth (name x) (binary_of o t u) none = true≢false (sym none)
    no_nth (literal v) d none = true≢false (sym none)
    no_nth (logical x) d none = true≢false (sym none)
    no_nth (list_of es) d none = true≢false (sym none)
    no_nth (unary_of o u) d none = true≢false (sym none)
    no_nth (binary_of o t u) d none = true≢false (sym none)
simple_value e is = is

bare_guard : (e : PureExpr) → is_bare_form e ≡ true → is_bare_guard e ≡ true
bare_guard (literal (boolean true)) is = refl
bare_guard (name x) is = refl
bare_guard (binary_of op d e) is = by (compares op) (is_plain_value d) (is_plain_value e) refl refl is
  where
    by : (p q r : Bool) → is_plain_value d ≡ q → is_plain_value e ≡ r → (p && q && r) ≡ true → (p && is_simple_value d && is_simple_value e) ≡ true
    by true true true left right all = λ i. simple_value d left i && simple_value e right i
    by true true false left right all = absurd (true≢false (sym all))
    by true false r left right all = absurd (true≢false (sym all))
    by false q r left right all = absurd (true≢false (sym all))
bare_guard _ is = absurd (true≢false (sym is))

simple_guard : (e : PureExpr) → is_program_form e ≡ true → is_simple_guard e ≡ true
simple_guard (unary_of UnOp.Not e) is = bare_guard e is
simple_guard (unary_of UnOp.Neg e) is = absurd (true≢false (sym is))
simple_guard (unary_of UnOp.Len e) is = absurd (true≢false (sym is))
simple_guard (unary_of UnOp.Kind e) is = absurd (true≢false (sym is))
simple_guard (literal v) is = bare_guard (literal v) is
simple_guard (name x) is = bare_guard (name x) is
simple_guard (logical x) is = bare_guard (logical x) is
simple_guard (list_of es) is = bare_guard (list_of es) is
simple_guard (binary_of op d e) is = bare_guard (binary_of op d e) is

-- ---- one expression

module _ (folding : FoldingReplaces) (bs : PureStore) (e : PureExpr) (cases : PureCases PureTerm) (vars : List Sort) (b : ℕ) (are : AreCasesOf bs e cases) (from : ComesFrom bs e cases) (over : IsPlainOver vars b bs)
    (spelled : list_all is_spellable (literals_of e) ≡ true) where
  abbrev own : PureCases PureTerm
  own = cases_after bs [] [] e

  answered : (P : PureTerm → Type 0) → ((a : PureAtom) → ¬ IsAsked bs e a) → IsSureFault own ⊎ IsSureResult P own → AsksNothing P cases
  answered P none (inl (f, is)) =
      let asks = each_condition (IsAsked bs e) (λ a. ⊥) none cases from.0 in
      let (v, (s, serves)) = some_values vars b bs over in (
        asks,
        on_none P cases.good (no_result v (HasValue v) (evaluate e s) own cases (cases_are_right folding bs e spelled vars v s serves) (are vars v s serves) (ap (λ c. c.good) is) asks),
      )
  answered P none (inr (x, (is, holds))) = (
    each_condition (IsAsked bs e) (λ a. ⊥) none cases from.0,
    by_term (IsTermOf bs e) P x (λ y at. same_some (sym at ∙ subst (λ o. OnResult (IsTermOf bs e) o) (ap (λ c. c.good) is) (comes_from bs e).1)) holds cases.good from.1,
  )

  as_spelled : list_all is_spellable (literals_of (as_program e)) ≡ true
  as_spelled = ap (list_all is_spellable) (literals_stay e) ∙ spelled

  as_numbers : has_text_numbers e ≡ true → has_text_numbers (as_program e) ≡ true
  as_numbers numbers = ap (list_all is_text_number) (literals_stay e) ∙ numbers

  pub argument_asks : is_plain_argument e ≡ true → has_text_numbers e ≡ true → AsksNothing (IsPlain (b + text_bound)) cases
  argument_asks plain numbers =
      answered (IsPlain (b + text_bound)) (value_asks b bs over.plain e plain)
      (subst (λ c. IsSureFault c ⊎ IsSureResult (IsPlain (b + text_bound)) c) (cases_stay bs [] [] e)
      (answers_plainly bs (as_program e) as_spelled b over.small over.plain (simple_value (as_program e) plain) (as_numbers numbers)))

  pub form_asks_nothing : is_plain_form e ≡ true → has_text_numbers e ≡ true → AsksNothing (IsPlainGuard (b + text_bound)) cases
  form_asks_nothing plain numbers =
      answered (IsPlainGuard (b + text_bound)) (form_asks b bs over.plain e plain)
      (subst (λ c. IsSureFault c ⊎ IsSureResult (IsPlainGuard (b + text_bound)) c) (cases_stay bs [] [] e)
      (guards_plainly bs (as_program e) as_spelled b over.small over.plain (simple_guard (as_program e) plain) (as_numbers numbers)))

-- ---- several

module _ (folding : FoldingReplaces) (bs : PureStore) (es : List PureExpr) (cases : PureCases (List PureTerm)) (vars : List Sort) (b : ℕ) (are : AreCasesOfAll bs es cases) (from : AllComeFrom bs es cases) (over : IsPlainOver vars b bs)
    (spelled : list_all (λ e. list_all is_spellable (literals_of e)) es ≡ true) where
  abbrev all_own : PureCases (List PureTerm)
  all_own = all_cases_after bs [] [] (from_list es)

  none_asked : (ds : List PureExpr) → list_all is_plain_argument ds ≡ true → (a : PureAtom) → ¬ OneOf (λ e. IsAsked bs e a) ds
  none_asked [] plain a asked = asked
  none_asked (d ∷ ds) plain a asked =
      let (here, there) = and_parts (is_plain_argument d) (list_all is_plain_argument ds) plain in
      ⊎_elim (value_asks b bs over.plain d here a) (none_asked ds there a) asked

  pub arguments_ask : list_all is_plain_argument es ≡ true → list_all has_text_numbers es ≡ true → AsksNothing (Each (IsPlain (b + text_bound))) cases
  arguments_ask plain numbers = by
      (subst (λ c. IsSureFault c ⊎ IsSureResult (Each (IsPlain (b + text_bound))) c) (ap (all_cases_after bs [] []) (listed_stay es) ∙ all_stay bs [] [] (from_list es))
      (all_answer_plainly bs (listed es) (each_read _ _ (λ e. ap (list_all is_spellable) (literals_stay e)) es ∙ spelled) b over.small over.plain
      (all_simple es plain) (each_read _ _ (λ e. ap (list_all is_text_number) (literals_stay e)) es ∙ numbers)))
    where
      all_simple : (ds : List PureExpr) → list_all is_plain_argument ds ≡ true → list_all is_simple_value (listed ds) ≡ true
      all_simple [] all = refl
      all_simple (d ∷ ds) all =
          let (here, there) = and_parts (is_plain_argument d) (list_all is_plain_argument ds) all in
          (λ i. simple_value (as_program d) here i && list_all is_simple_value (listed ds)) ∙ all_simple ds there

      asks : EachCondition (λ a. ⊥) cases
      asks = each_condition (λ a. OneOf (λ e. IsAsked bs e a) es) (λ a. ⊥) (none_asked es plain) cases from.0

      by : IsSureFault all_own ⊎ IsSureResult (Each (IsPlain (b + text_bound))) all_own → AsksNothing (Each (IsPlain (b + text_bound))) cases
      by (inl (f, is)) =
          let (v, (s, serves)) = some_values vars b bs over in (
            asks,
            on_none (Each (IsPlain (b + text_bound))) cases.good (no_result v (HaveValues v) (evaluate_all es s) all_own cases (all_cases_are_right folding bs es spelled vars v s serves) (are vars v s serves) (ap (λ c. c.good) is) asks),
          )
      by (inr (ts, (is, holds))) = (
        asks,
        by_term (AreTermsOf bs es) (Each (IsPlain (b + text_bound))) ts (λ us at. same_some (sym at ∙ subst (λ o. OnResult (AreTermsOf bs es) o) (ap (λ c. c.good) is) (all_come_from bs es).1)) holds cases.good from.1,
      )

pub plain_expressions_ask_nothing : FoldingReplaces → PlainExpressionsAskNothing
plain_expressions_ask_nothing folding = record {
  argument = λ bs e cases vars b are from over plain numbers spelled. argument_asks folding bs e cases vars b are from over spelled plain numbers;
  arguments = λ bs es cases vars b are from over plain numbers spelled. arguments_ask folding bs es cases vars b are from over spelled plain numbers;
  form = λ bs e cases vars b are from over plain numbers spelled. form_asks_nothing folding bs e cases vars b are from over spelled plain numbers;
}
