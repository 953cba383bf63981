-- Reading expressions: what their cases say where no fault may come.
use Rattle.std.proofs.Common.{◌≡◌, inl, inr, List, [], ◌∷◌, ◌++◌, Option, Some, None, Result, Ok, Err, false, IsTrue, refl, sym, subst, ◌∙◌, true≢false}
use Rattle.gil_values.specs.Operators.{Fault}
use Rattle.gil_values.specs.Pure.{PureValue}
use Rattle.gil_syntax.specs.Evaluation.{Store, evaluate_all}
use Rattle.gil_syntax.specs.Pure.{PureExpr}
use Rattle.mem_model.specs.Heaps.{Heap}
use Rattle.assert_logic.specs.LogicStates.{LogicState}
use Rattle.pure_terms.specs.declared.variables.Sort.{Sort}
use Rattle.pure_terms.specs.Meaning.{all_true, IsOver, Satisfies, IsUnsatisfiable}
use Rattle.pure_terms.specs.Pure.{PureTerm, PureAtom, term_of}
use Rattle.sym_evaluation.specs.Meaning.{HaveValues, AreCasesOfAll, IsStoreOver, IsTaken, SayOutcome}
use Rattle.sym_evaluation.specs.Pure.{PureStore, PureFaultCase, PureGoodCase, PureCases}
use Rattle.sym_evaluation.specs.Questions.{NameNoOthers, AreEachOver, OnConditions, OnResult}
use Rattle.sym_model.proofs.ListLaws.{each_append, one_with}
use Rattle.sym_model.specs.Lists.{Each, OneOf}
use Rattle.sym_model.specs.Terms.{StateTerms}
use Rattle.sym_paths.specs.Asking.{IsOutside}
use Rattle.sym_states.proofs.Conditions.{met_both, met_parts}
use Rattle.sym_states.proofs.Values.{good_if_ok, no_value}
use Rattle.sym_states.specs.Meaning.{Serves, IsOverTable}
use Rattle.sym_states.specs.Pure.{PureState}
use Rattle.footprint.specs.Leaves.{IsLonger}
use Rattle.checked_rows.specs.Doubts.{PureDoubt, always, under, beyond, IsDoubtIn}
use Rattle.checked_rows.specs.Reading.{DoubtsFault, NeverTaken, AreRead, AreUnread, Reads, taken}

module _ {S : Type 0} (stands : S → List PureValue → Heap → Type 0) (terms : S → StateTerms) (s : PureState S) (bs : PureStore) (es : List PureExpr) (cases : PureCases (List PureTerm))
    (says : AreCasesOfAll bs es cases) (never : NeverTaken s.vars s.conds cases.faults) where
  -- what the cases say where the state serves
  said : (v : List PureValue) (t : Store) (l : LogicState) → Serves stands terms s bs v t l → SayOutcome v (HaveValues v) (evaluate_all es t) cases
  said v t l serves = says s.vars v t (record { proper = serves.state.proper; over = serves.store_over; stands = serves.store })

  -- no fault comes
  comes_out : (v : List PureValue) (t : Store) (l : LogicState) → Serves stands terms s bs v t l → (r : Result (List PureValue) Fault) → evaluate_all es t ≡ r → SayOutcome v (HaveValues v) r cases
      → (ws : List PureValue) × (evaluate_all es t ≡ Ok ws)
  comes_out v t l serves (Ok ws) is outcome = (ws, is)
  comes_out v t l serves (Err f) is outcome =
      absurd (one_with (λ c. IsUnsatisfiable s.vars (s.conds ++ c.conds)) (IsTaken v) cases.faults never outcome.1
      (λ c isnt taken. isnt v (record { proper = serves.state.proper; true_there = met_both v s.conds c.conds serves.state.meets taken })))

  never_there : cases.good ≡ None → (v : List PureValue) (t : Store) (l : LogicState) → ¬ Serves stands terms s bs v t l
  never_there none v t l serves =
      let (ws, ok) = comes_out v t l serves (evaluate_all es t) refl (said v t l serves) in
      no_value v (HaveValues v) (evaluate_all es t) cases ws none ok (said v t l serves)

  module _ (names : NameNoOthers AreEachOver bs cases) (over : IsOverTable terms s) (store_over : IsStoreOver s.vars bs) where
    are_read : (g : PureGoodCase (List PureTerm)) → cases.good ≡ Some g → AreRead stands terms s bs es (record s { conds = s.conds ++ g.conds }) g.result
    are_read g good = record {
      same_else = refl;
      longer = (g.conds, refl);
      over = record {
        conds = each_append (λ a. IsOver s.vars (term_of a)) s.conds g.conds over.conds (subst (λ (o : Option (PureGoodCase (List PureTerm))). OnConditions (λ c. IsOver s.vars (term_of c)) o) good (names s.vars store_over).0.1);
        given = over.given;
        memory = over.memory;
        facts = over.facts;
      };
      terms_over = subst (λ (o : Option (PureGoodCase (List PureTerm))). OnResult (AreEachOver s.vars) o) good (names s.vars store_over).1;
      have = λ v t l serves.
          let (ws, ok) = comes_out v t l serves (evaluate_all es t) refl (said v t l serves) in
          let (met, have) = good_if_ok v (HaveValues v) (evaluate_all es t) cases g ws good ok (said v t l serves) in (
            ws,
            (
              ok,
              have,
              record {
                proper = serves.state.proper;
                meets = met_both v s.conds g.conds serves.state.meets met;
                memory = serves.state.memory;
                facts = serves.state.facts;
              },
            ),
          );
    }

    by_good : (o : Option (PureGoodCase (List PureTerm))) → cases.good ≡ o → Reads stands terms s bs es (taken s o)
    by_good (Some g) good = are_read g good
    by_good None none = never_there none

    pub reads_taken : Reads stands terms s bs es (taken s cases.good)
    reads_taken = by_good cases.good refl

-- ---- a fault that may come

module _ (conds atoms : List PureAtom) (X : Type 0) where
  told_longer : (faults : List PureFaultCase) → OneOf (λ f. (atoms ≡ conds ++ f.conds) × X) faults → IsLonger conds atoms × X
  told_longer [] one = absurd one
  told_longer (f ∷ faults) (inl (is, told)) = ((f.conds, is), told)
  told_longer (f ∷ faults) (inr later) = told_longer faults later

  told_taken : (v : List PureValue) (faults : List PureFaultCase) → OneOf (λ f. (atoms ≡ conds ++ f.conds) × X) faults → IsTrue (all_true v atoms) → OneOf (IsTaken v) faults
  told_taken v [] one met = absurd one
  told_taken v (f ∷ faults) (inl (is, told)) met = inl (met_parts v conds f.conds (subst (λ cs. IsTrue (all_true v cs)) is met)).1
  told_taken v (f ∷ faults) (inr later) met = inr (told_taken v faults later met)

module _ {S : Type 0} (stands : S → List PureValue → Heap → Type 0) (terms : S → StateTerms) (s : PureState S) (bs : PureStore) (es : List PureExpr) (cases : PureCases (List PureTerm))
    (says : AreCasesOfAll bs es cases) where
  unread : (v : List PureValue) → OneOf (IsTaken v) cases.faults → AreUnread stands terms s bs es v
  unread v one t l serves = by (evaluate_all es t) refl (says s.vars v t (record { proper = serves.state.proper; over = serves.store_over; stands = serves.store }))
    where
      by : (r : Result (List PureValue) Fault) → evaluate_all es t ≡ r → SayOutcome v (HaveValues v) r cases → (f : Fault) × (evaluate_all es t ≡ Err f)
      by (Ok ws) is outcome = absurd (one_with (λ c. all_true v c.conds ≡ false) (IsTaken v) cases.faults outcome.1 one (λ c closed taken. true≢false (sym taken ∙ closed)))
      by (Err f) is outcome = (f, is)

  no_one : (faults : List PureFaultCase) → ¬ OneOf (λ f. ⊥) faults
  no_one [] one = one
  no_one (f ∷ faults) (inl none) = none
  no_one (f ∷ faults) (inr later) = no_one faults later

  pub doubt_in : (doubt : PureDoubt) → DoubtsFault s.vars s.conds cases.faults doubt → IsDoubtIn s (AreUnread stands terms s bs es) doubt
  doubt_in always one = absurd (no_one cases.faults one)
  doubt_in (under atoms u) one =
      let (longer, meets) = told_longer s.conds atoms (Satisfies s.vars u atoms) cases.faults one in
      (longer, meets, λ v met. unread v (told_taken s.conds atoms (Satisfies s.vars u atoms) v cases.faults one met))
  doubt_in (beyond atoms reason) one = told_longer s.conds atoms (IsOutside atoms reason) cases.faults one

-- the conditions of faults name only variables of the table
pub faults_over : (vars : List Sort) (bs : PureStore) (cases : PureCases (List PureTerm)) → NameNoOthers AreEachOver bs cases → IsStoreOver vars bs → Each (λ f. Each (λ a. IsOver vars (term_of a)) f.conds) cases.faults
faults_over vars bs cases names over = (names vars over).0.0
