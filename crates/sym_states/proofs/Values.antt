-- The values of terms and facts one after another, and what cases say where their conditions are true.
use Rattle.std.proofs.Common.{◌≡◌, inl, inr, List, [], ◌∷◌, ◌++◌, false, Option, Some, None, Result, Ok, Err, IfOk, IsTrue, refl, sym, ap, subst, ◌∙◌, true≢false}
use Rattle.gil_values.specs.Operators.{Fault}
use Rattle.gil_values.specs.Pure.{PureValue}
use Rattle.assert_logic.specs.LogicStates.{Fact}
use Rattle.pure_terms.specs.Meaning.{both, value, values, all_true}
use Rattle.pure_terms.specs.Pure.{PureTerm, from_list}
use Rattle.sym_evaluation.specs.Meaning.{IsClosed, IsGood, SayOutcome}
use Rattle.sym_evaluation.specs.Pure.{PureGoodCase, PureCases}
use Rattle.sym_model.specs.Lists.{OneOf}
use Rattle.sym_model.proofs.Asking.{both_parts}
use Rattle.sym_model.proofs.ListLaws.{same_some}
use Rattle.sym_states.specs.Meaning.{IsFact, AreFacts}
use Rattle.sym_states.specs.Pure.{PureFact}

pub values_append : (v : List PureValue) (xs ys : List PureTerm) (us ws : List PureValue) → values v (from_list xs) ≡ Some us → values v (from_list ys) ≡ Some ws → values v (from_list (xs ++ ys)) ≡ Some (us ++ ws)
values_append v [] ys us ws first second = subst (λ zs. values v (from_list ys) ≡ Some (zs ++ ws)) (same_some first) second
values_append v (x ∷ xs) ys us ws first second =
    let (w, (more, (is_x, rest, whole))) = both_parts (value v x) (values v (from_list xs)) us first in
    let joined = values_append v xs ys more ws rest second in
    (λ i. both (is_x i) (joined i)) ∙ ap (λ zs. Some (zs ++ ws)) (sym whole)

pub facts_more : (v : List PureValue) (cs : List PureFact) (fs : List Fact) (c : PureFact) (f : Fact) → AreFacts v cs fs → IsFact v c f → AreFacts v (cs ++ c ∷ []) (fs ++ f ∷ [])
facts_more v [] [] c f are is = (is, tt)
facts_more v (d ∷ cs) (g ∷ fs) c f are is = (are.0, facts_more v cs fs c f are.1 is)
facts_more v [] (g ∷ fs) c f are is = absurd are
facts_more v (d ∷ cs) [] c f are is = absurd are

-- the one of a list of one
pub only : {A : Type 0} (P : A → Type 0) (x : A) → OneOf P (x ∷ []) → P x
only P x (inl is) = is
only P x (inr none) = absurd none

-- ---- cases

module _ {X A : Type 0} (v : List PureValue) (Is : X → A → Type 0) where
  -- where there is a value, the conditions are true and the result has it
  pub good_if_ok : (r : Result A Fault) (cases : PureCases X) (g : PureGoodCase X) (a : A) → cases.good ≡ Some g → r ≡ Ok a → SayOutcome v Is r cases → IsTrue (all_true v g.conds) × Is g.result a
  good_if_ok r cases g a good ok says =
      let said : SayOutcome v Is (Ok a) cases = subst (λ (o : Result A Fault). SayOutcome v Is o cases) ok says in
      subst (λ (o : Option (PureGoodCase X)). IsGood v (λ x. Is x a) o) good said.0

  -- and where the conditions are true, there is a value
  pub ok_if_good : (r : Result A Fault) (cases : PureCases X) (g : PureGoodCase X) → cases.good ≡ Some g → SayOutcome v Is r cases → IsTrue (all_true v g.conds) → (a : A) × ((r ≡ Ok a) × Is g.result a)
  ok_if_good (Ok a) cases g good says met = (a, (refl, (good_if_ok (Ok a) cases g a good refl says).1))
  ok_if_good (Err f) cases g good says met =
      let closed : all_true v g.conds ≡ false = subst (λ (o : Option (PureGoodCase X)). IsClosed v o) good says.0 in absurd (true≢false (sym met ∙ closed))

  pub no_value : (r : Result A Fault) (cases : PureCases X) (a : A) → cases.good ≡ None → r ≡ Ok a → ¬ SayOutcome v Is r cases
  no_value r cases a none ok says =
      let said : SayOutcome v Is (Ok a) cases = subst (λ (o : Result A Fault). SayOutcome v Is o cases) ok says in
      subst (λ (o : Option (PureGoodCase X)). IsGood v (λ x. Is x a) o) none said.0

-- ---- results

pub ok_to : {A E : Type 0} (r : Result A E) (P Q : A → Type 0) → ((a : A) → P a → Q a) → IfOk r P → IfOk r Q
ok_to (Ok a) P Q f is = f a is
ok_to (Err e) P Q f is = tt
