-- The cases that evaluation finds say what an expression comes to.
use Rattle.std.proofs.Common.{◌≡◌, ⊎_elim, List, [], ◌∷◌, ◌++◌, true, Option, Some, None, Result, Ok, Err, IsTrue, refl, sym, ap, subst, ◌∙◌, true≢false}
use Rattle.std.specs.List.{list_all, flat_map}
use Rattle.std.specs.Option.{option_and_then, option_map}
use Rattle.std.specs.Result.{result_ok}
use Rattle.std.proofs.lemmas.Bool.{and_parts}
use Rattle.std.proofs.lemmas.List.Elements.{Contains-append_cases}
use Rattle.gil_values.specs.declared.operators.UnOp.{UnOp}
use Rattle.gil_values.specs.declared.operators.BinOp.{BinOp}
use Rattle.gil_values.specs.Operators.{Fault, unset_variable, Outcome, unary, binary}
use Rattle.gil_values.specs.Pure.{PureValue, integer, boolean, text, symbol, kind, procedure, list, from_list as list_elements}
use Rattle.gil_values.proofs.OperatorSymbols.{none_contained}
use Rattle.gil_syntax.specs.Evaluation.{Store, value_of, set_or_fault, after_value, Outcomes, both, as_list, evaluate, evaluate_elements}
use Rattle.gil_syntax.specs.Pure.{PureExpr, literal as value_literal, name, logical, list_of as list_expr, unary_of as unary_expr, binary_of as binary_expr, PureExprs, no_exprs, expr_and, from_list as exprs_from}
use Rattle.gil_syntax.specs.Subexpressions.{own_literals, literals_of, subexpressions, subexpressions_of_all}
use Rattle.gil_syntax.specs.WellMade.{is_spellable}
use Rattle.pure_terms.specs.declared.literals.Literal.{Literal}
use Rattle.pure_terms.specs.declared.variables.Sort.{Sort}
use Rattle.pure_terms.specs.declared.variables.Var.{Var}
use Rattle.pure_terms.specs.Folding.{folded_unary, folded_binary}
use Rattle.pure_terms.specs.Laws.{FoldingReplaces}
use Rattle.pure_terms.specs.Meaning.{value, both as values_both, IsProper, IsOver, AreVariablesOf}
use Rattle.pure_terms.specs.Pure.{PureTerm, list_of, from_list, PureAtom, variables, variables_of_all}
use Rattle.sym_evaluation.specs.Checks.{fails, unary_required, binary_required}
use Rattle.sym_evaluation.specs.Evaluating.{spelled, literal_term, given_or, finished, finished_by, followed, followed_by, at_stage, cases_after, all_cases_after}
use Rattle.sym_evaluation.specs.Meaning.{AreSame, StandsFor, IsStoreOver, SayOutcome, HasValue, HaveValues, AreCasesOf, AreCasesOfAll}
use Rattle.sym_evaluation.specs.Pure.{PureStore, term_at, PureFaultCase, PureGoodCase, PureCases}
use Rattle.sym_evaluation.proofs.Sizes.{spellable_parts, split_spellable, each_spellable}
use Rattle.sym_evaluation.proofs.Stages.{Says, fail_says, shut_stays}
use Rattle.sym_evaluation.proofs.OperatorLaws.{fault_of, unary_shut, binary_shut, unary_says, binary_says}

-- what goes on after a result
abbrev after : {A B : Type 0} → Result A Fault → (A → Result B Fault) → Result B Fault
after (Ok a) go_on = go_on a
after (Err f) go_on = Err f

as_after_value : (r : Outcome) (go_on : PureValue → Outcome) → after r go_on ≡ after_value r go_on
as_after_value (Ok w) go_on = refl
as_after_value (Err f) go_on = refl

after_list : (r : Outcomes) → after r (λ ws. Ok (list (list_elements ws))) ≡ as_list r
after_list (Ok ws) = refl
after_list (Err f) = refl

after_rest : (w : PureValue) (rest : Outcomes) → after rest (λ ws. Ok (w ∷ ws)) ≡ both (Ok w) rest
after_rest w (Ok ws) = refl
after_rest w (Err f) = refl

after_both : (r : Outcome) (rest : Outcomes) → after r (λ w. after rest (λ ws. Ok (w ∷ ws))) ≡ both r rest
after_both (Ok w) rest = after_rest w rest
after_both (Err f) rest = refl

abbrev OnGood : {X : Type 0} → (X → Type 0) → Option (PureGoodCase X) → Type 0
OnGood P None = Unit {0}
OnGood P (Some g) = P g.result

-- ---- results name only variables of the table

then_on_by : {X Y : Type 0} (P : X → Type 0) (Q : Y → Type 0) (faults : List PureFaultCase) (good : Option (PureGoodCase X)) (k : List PureFaultCase → List PureAtom → X → PureCases Y) → OnGood P good → ((fs : List PureFaultCase) (cs : List PureAtom) (x : X) → P x → OnGood Q (k fs cs x).good) → OnGood Q (followed_by faults good k).good
then_on_by P Q faults None k on f = tt
then_on_by P Q faults (Some g) k on f = f faults g.conds g.result on

then_on : {X Y : Type 0} (P : X → Type 0) (Q : Y → Type 0) (cases : PureCases X) (k : List PureFaultCase → List PureAtom → X → PureCases Y) → OnGood P cases.good → ((fs : List PureFaultCase) (cs : List PureAtom) (x : X) → P x → OnGood Q (k fs cs x).good) → OnGood Q (followed cases k).good
then_on P Q cases k on f = then_on_by P Q cases.faults cases.good k on f

finished_on_by : {X : Type 0} (P : X → Type 0) (faults : List PureFaultCase) (conds : Option (List PureAtom)) (x : X) → P x → OnGood P (finished_by faults conds x).good
finished_on_by P faults (Some conds) x is = is
finished_on_by P faults None x is = tt

-- what folding gives may stand in the place of the operator's term
module _ (folding : FoldingReplaces) where
  module _ (vars : List Sort) where
    literal_over : (o : Option Literal) (fs : List PureFaultCase) (cs : List PureAtom) → OnGood (IsOver vars) (given_or unset_variable fs cs (literal_term o)).good
    literal_over (Some l) fs cs = λ x has. absurd (none_contained x has)
    literal_over None fs cs = tt

    found_over : (o : Option PureTerm) (fs : List PureFaultCase) (cs : List PureAtom) → ((t : PureTerm) → o ≡ Some t → IsOver vars t) → OnGood (IsOver vars) (given_or unset_variable fs cs o).good
    found_over (Some t) fs cs over = over t refl
    found_over None fs cs over = tt

    joined_over : (xs ys : List Var) → AreVariablesOf vars xs → AreVariablesOf vars ys → AreVariablesOf vars (xs ++ ys)
    joined_over xs ys first second x has = ⊎_elim (first x) (second x) (Contains-append_cases xs ys x has)

    unary_over : (op : UnOp) (t : PureTerm) → IsOver vars t → IsOver vars (folded_unary op t)
    unary_over op t over x has = over x ((folding.of_one op t).no_more_names x has)

    binary_over : (op : BinOp) (s t : PureTerm) → IsOver vars s → IsOver vars t → IsOver vars (folded_binary op s t)
    binary_over op s t first second x has = joined_over (variables s) (variables t) first second x ((folding.of_two op s t).no_more_names x has)

    abbrev AllOver : List PureTerm → Type 0
    AllOver ts = IsOver vars (list_of (from_list ts))

    mutual
      pub over_after : (bs : PureStore) (over : IsStoreOver vars bs) (fs : List PureFaultCase) (cs : List PureAtom) (e : PureExpr) → OnGood (IsOver vars) (cases_after bs fs cs e).good
      over_after bs over fs cs (value_literal w) = literal_over (spelled w) fs cs
      over_after bs over fs cs (name x) = found_over (term_at bs x) fs cs (over x)
      over_after bs over fs cs (logical x) = found_over (term_at bs x) fs cs (over x)
      over_after bs over fs cs (list_expr es) = then_on AllOver (IsOver vars) (all_cases_after bs fs cs es) _ (all_over_after bs over fs cs es) (λ gs ds ts is. is)
      over_after bs over fs cs (unary_expr op e) =
          then_on (IsOver vars) (IsOver vars) (cases_after bs fs cs e) _ (over_after bs over fs cs e)
          (λ gs ds t is. let st = unary_required op t (at_stage gs ds) in finished_on_by (IsOver vars) st.faults st.conds (folded_unary op t) (unary_over op t is))
      over_after bs over fs cs (binary_expr op d e) =
          then_on (IsOver vars) (IsOver vars) (cases_after bs fs cs d) _ (over_after bs over fs cs d)
          (λ gs ds s is. then_on (IsOver vars) (IsOver vars) (cases_after bs gs ds e) _ (over_after bs over gs ds e)
          (λ hs es t also. let st = binary_required op s t (at_stage hs es) in finished_on_by (IsOver vars) st.faults st.conds (folded_binary op s t) (binary_over op s t is also)))

      pub all_over_after : (bs : PureStore) (over : IsStoreOver vars bs) (fs : List PureFaultCase) (cs : List PureAtom) (es : PureExprs) → OnGood AllOver (all_cases_after bs fs cs es).good
      all_over_after bs over fs cs no_exprs = λ x has. absurd (none_contained x has)
      all_over_after bs over fs cs (expr_and e es) =
          then_on (IsOver vars) AllOver (cases_after bs fs cs e) _ (over_after bs over fs cs e)
          (λ gs ds t is. then_on AllOver AllOver (all_cases_after bs gs ds es) _ (all_over_after bs over gs ds es)
          (λ hs cs' ts also. joined_over (variables t) (variables_of_all (from_list ts)) is also))

  -- ---- what the cases say

  module _ (v : List PureValue) where
    finished_by_says : (r : Outcome) (faults : List PureFaultCase) (conds : Option (List PureAtom)) (t : PureTerm) → Says v (fault_of r) faults conds → ((w : PureValue) → r ≡ Ok w → value v t ≡ Some w) → SayOutcome v (HasValue v) r (finished_by faults conds t)
    finished_by_says (Ok w) faults (Some conds) t says is = ((says.0, is w refl), says.1)
    finished_by_says (Ok w) faults None t says is = absurd says.0
    finished_by_says (Err f) faults (Some conds) t says is = says
    finished_by_says (Err f) faults None t says is = says

    finished_shut : (g : Fault) (faults : List PureFaultCase) (conds : Option (List PureAtom)) (t : PureTerm) → Says v (Some g) faults conds → SayOutcome v (HasValue v) (Err g) (finished_by faults conds t)
    finished_shut g faults (Some conds) t says = says
    finished_shut g faults None t says = says

    module _ {A B X Y : Type 0} (Is : X → A → Type 0) (Is' : Y → B → Type 0) where
      shut_by : (g : Fault) (faults : List PureFaultCase) (good : Option (PureGoodCase X)) (k : List PureFaultCase → List PureAtom → X → PureCases Y) → SayOutcome v Is (Err g) (record { faults = faults; good = good }) → ((fs : List PureFaultCase) (cs : List PureAtom) (x : X) → Says v (Some g) fs (Some cs) → SayOutcome v Is' (Err g) (k fs cs x)) → SayOutcome v Is' (Err g) (followed_by faults good k)
      shut_by g faults None k says f = says
      shut_by g faults (Some c) k says f = f faults c.conds c.result says

      then_shut : (g : Fault) (cases : PureCases X) (k : List PureFaultCase → List PureAtom → X → PureCases Y) → SayOutcome v Is (Err g) cases → ((fs : List PureFaultCase) (cs : List PureAtom) (x : X) → Says v (Some g) fs (Some cs) → SayOutcome v Is' (Err g) (k fs cs x)) → SayOutcome v Is' (Err g) (followed cases k)
      then_shut g cases k says f = shut_by g cases.faults cases.good k says f

      open_by : (P : X → Type 0) (a : A) (r' : A → Result B Fault) (faults : List PureFaultCase) (good : Option (PureGoodCase X)) (k : List PureFaultCase → List PureAtom → X → PureCases Y) → SayOutcome v Is (Ok a) (record { faults = faults; good = good }) → OnGood P good
          → ((a : A) (fs : List PureFaultCase) (cs : List PureAtom) (x : X) → P x → Is x a → Says v None fs (Some cs) → SayOutcome v Is' (r' a) (k fs cs x)) → SayOutcome v Is' (r' a) (followed_by faults good k)
      open_by P a r' faults None k says on f = absurd says.0
      open_by P a r' faults (Some c) k says on f = f a faults c.conds c.result on says.0.1 (says.0.0, says.1)

      then_says : (P : X → Type 0) (r : Result A Fault) (r' : A → Result B Fault) (cases : PureCases X) (k : List PureFaultCase → List PureAtom → X → PureCases Y) → SayOutcome v Is r cases → OnGood P cases.good
          → ((a : A) (fs : List PureFaultCase) (cs : List PureAtom) (x : X) → P x → Is x a → Says v None fs (Some cs) → SayOutcome v Is' (r' a) (k fs cs x))
          → ((g : Fault) (fs : List PureFaultCase) (cs : List PureAtom) (x : X) → Says v (Some g) fs (Some cs) → SayOutcome v Is' (Err g) (k fs cs x)) → SayOutcome v Is' (after r r') (followed cases k)
      then_says P (Ok a) r' cases k says on f shut = open_by P a r' cases.faults cases.good k says on f
      then_says P (Err g) r' cases k says on f shut = then_shut g cases k says (shut g)

    -- ---- literals and names

    spelled_says : (w : PureValue) (fs : List PureFaultCase) (cs : List PureAtom) → is_spellable w ≡ true → Says v None fs (Some cs) → SayOutcome v (HasValue v) (Ok w) (given_or unset_variable fs cs (literal_term (spelled w)))
    spelled_says (integer n) fs cs is says = ((says.0, refl), says.1)
    spelled_says (boolean b) fs cs is says = ((says.0, refl), says.1)
    spelled_says (text t) fs cs is says = ((says.0, refl), says.1)
    spelled_says (kind k) fs cs is says = ((says.0, refl), says.1)
    spelled_says (procedure p) fs cs is says = ((says.0, refl), says.1)
    spelled_says (symbol n) fs cs is says = absurd (true≢false (sym is))
    spelled_says (list ws) fs cs is says = absurd (true≢false (sym is))

    found_says : (o : Option PureTerm) (p : Option PureValue) (fs : List PureFaultCase) (cs : List PureAtom) → AreSame v o p → Says v None fs (Some cs) → SayOutcome v (HasValue v) (set_or_fault p) (given_or unset_variable fs cs o)
    found_says (Some t) (Some w) fs cs same says = ((says.0, same), says.1)
    found_says None None fs cs same says = fail_says v unset_variable fs cs says
    found_says (Some t) None fs cs same says = absurd same
    found_says None (Some w) fs cs same says = absurd same

    given_shut : (g : Fault) (o : Option PureTerm) (fs : List PureFaultCase) (cs : List PureAtom) → Says v (Some g) fs (Some cs) → SayOutcome v (HasValue v) (Err g) (given_or unset_variable fs cs o)
    given_shut g (Some t) fs cs says = says
    given_shut g None fs cs says = shut_stays v g unset_variable fails (at_stage fs cs) says

    -- ---- after a fault

    mutual
      pub shut_after : (bs : PureStore) (g : Fault) (fs : List PureFaultCase) (cs : List PureAtom) (e : PureExpr) → Says v (Some g) fs (Some cs) → SayOutcome v (HasValue v) (Err g) (cases_after bs fs cs e)
      shut_after bs g fs cs (value_literal w) says = given_shut g (literal_term (spelled w)) fs cs says
      shut_after bs g fs cs (name x) says = given_shut g (term_at bs x) fs cs says
      shut_after bs g fs cs (logical x) says = given_shut g (term_at bs x) fs cs says
      shut_after bs g fs cs (list_expr es) says = then_shut (HaveValues v) (HasValue v) g (all_cases_after bs fs cs es) _ (all_shut_after bs g fs cs es says) (λ gs ds ts also. also)
      shut_after bs g fs cs (unary_expr op e) says =
          then_shut (HasValue v) (HasValue v) g (cases_after bs fs cs e) _ (shut_after bs g fs cs e says)
          (λ gs ds t also. let st = unary_required op t (at_stage gs ds) in finished_shut g st.faults st.conds (folded_unary op t) (unary_shut v g op t (at_stage gs ds) also))
      shut_after bs g fs cs (binary_expr op d e) says =
          then_shut (HasValue v) (HasValue v) g (cases_after bs fs cs d) _ (shut_after bs g fs cs d says)
          (λ gs ds s also. then_shut (HasValue v) (HasValue v) g (cases_after bs gs ds e) _ (shut_after bs g gs ds e also)
          (λ hs es t more. let st = binary_required op s t (at_stage hs es) in finished_shut g st.faults st.conds (folded_binary op s t) (binary_shut v g op s t (at_stage hs es) more)))

      pub all_shut_after : (bs : PureStore) (g : Fault) (fs : List PureFaultCase) (cs : List PureAtom) (es : PureExprs) → Says v (Some g) fs (Some cs) → SayOutcome v (HaveValues v) (Err g) (all_cases_after bs fs cs es)
      all_shut_after bs g fs cs no_exprs says = says
      all_shut_after bs g fs cs (expr_and e es) says =
          then_shut (HasValue v) (HaveValues v) g (cases_after bs fs cs e) _ (shut_after bs g fs cs e says)
          (λ gs ds t also. then_shut (HaveValues v) (HaveValues v) g (all_cases_after bs gs ds es) _ (all_shut_after bs g gs ds es also) (λ hs cs' ts more. more))

    -- ---- where no fault came before

    module _ (vars : List Sort) (proper : IsProper vars v) (bs : PureStore) (over : IsStoreOver vars bs) (s : Store) (stands : StandsFor v bs s) where
      abbrev AreSpellable : PureExpr → Type 0
      AreSpellable e = IsTrue (list_all is_spellable (literals_of e))

      abbrev AllSpellable : PureExprs → Type 0
      AllSpellable es = IsTrue (list_all is_spellable (flat_map own_literals (subexpressions_of_all es)))

      unary_value : (op : UnOp) (t : PureTerm) (a w : PureValue) → IsOver vars t → value v t ≡ Some a → unary op a ≡ Ok w → value v (folded_unary op t) ≡ Some w
      unary_value op t a w over_t is result = (folding.of_one op t).value_kept vars v w proper over_t (ap (option_and_then (λ u. result_ok (unary op u))) is ∙ ap result_ok result)

      binary_value : (op : BinOp) (p q : PureTerm) (a b w : PureValue) → IsOver vars p → IsOver vars q → value v p ≡ Some a → value v q ≡ Some b → binary op a b ≡ Ok w → value v (folded_binary op p q) ≡ Some w
      binary_value op p q a b w over_p over_q first second result =
          (folding.of_two op p q).value_kept vars v w proper (joined_over vars (variables p) (variables q) over_p over_q)
          ((λ i. option_and_then (λ u. option_and_then (λ z. result_ok (binary op u z)) (second i)) (first i)) ∙ ap result_ok result)

      two_operands : (op : BinOp) (p : PureTerm) (a : PureValue) → IsOver vars p → value v p ≡ Some a → (b : PureValue) (hs : List PureFaultCase) (es : List PureAtom) (q : PureTerm) → IsOver vars q → value v q ≡ Some b → Says v None hs (Some es)
          → SayOutcome v (HasValue v) (binary op a b) (finished (binary_required op p q (at_stage hs es)) (folded_binary op p q))
      two_operands op p a over_p is_p b hs es q over_q is_q says =
          let st = binary_required op p q (at_stage hs es) in
          finished_by_says (binary op a b) st.faults st.conds (folded_binary op p q) (binary_says v vars proper p q over_p over_q op a b (at_stage hs es) (is_p, is_q) says)
          (λ w result. binary_value op p q a b w over_p over_q is_p is_q result)

      mutual
        pub says_after : (e : PureExpr) (fs : List PureFaultCase) (cs : List PureAtom) → AreSpellable e → Says v None fs (Some cs) → SayOutcome v (HasValue v) (evaluate e s) (cases_after bs fs cs e)
        says_after (value_literal w) fs cs spellable says = spelled_says w fs cs (and_parts (is_spellable w) true spellable).0 says
        says_after (name x) fs cs spellable says = found_says (term_at bs x) (value_of s x) fs cs (stands x) says
        says_after (logical x) fs cs spellable says = found_says (term_at bs x) (value_of s x) fs cs (stands x) says
        says_after (list_expr es) fs cs spellable says =
            subst (λ r. SayOutcome v (HasValue v) r (cases_after bs fs cs (list_expr es))) (after_list (evaluate_elements es s))
            (then_says (HaveValues v) (HasValue v) (AllOver vars) (evaluate_elements es s) (λ ws. Ok (list (list_elements ws))) (all_cases_after bs fs cs es) _
            (all_says_after es fs cs spellable says) (all_over_after vars bs over fs cs es)
            (λ ws gs ds ts over_ts is also. ((also.0, ap (option_map (λ us. list (list_elements us))) is), also.1))
            (λ g gs ds ts also. also))
        says_after (unary_expr op e) fs cs spellable says =
            subst (λ r. SayOutcome v (HasValue v) r (cases_after bs fs cs (unary_expr op e))) (as_after_value (evaluate e s) (unary op))
            (then_says (HasValue v) (HasValue v) (IsOver vars) (evaluate e s) (unary op) (cases_after bs fs cs e) _
            (says_after e fs cs spellable says) (over_after vars bs over fs cs e)
            (λ a gs ds t over_t is also. let st = unary_required op t (at_stage gs ds) in
            finished_by_says (unary op a) st.faults st.conds (folded_unary op t) (unary_says v vars proper op t a (at_stage gs ds) over_t is also) (λ w result. unary_value op t a w over_t is result))
            (λ g gs ds t also. let st = unary_required op t (at_stage gs ds) in finished_shut g st.faults st.conds (folded_unary op t) (unary_shut v g op t (at_stage gs ds) also)))
        says_after (binary_expr op d e) fs cs spellable says =
            let parts = split_spellable d e spellable in
            subst (λ r. SayOutcome v (HasValue v) r (cases_after bs fs cs (binary_expr op d e))) (as_after_value (evaluate d s) (λ a. after_value (evaluate e s) (binary op a)))
            (then_says (HasValue v) (HasValue v) (IsOver vars) (evaluate d s) (λ a. after_value (evaluate e s) (binary op a)) (cases_after bs fs cs d) _
            (says_after d fs cs parts.0 says) (over_after vars bs over fs cs d)
            (λ a gs ds p over_p is_p also. subst (λ r. SayOutcome v (HasValue v) r (followed (cases_after bs gs ds e) (λ hs es q. finished (binary_required op p q (at_stage hs es)) (folded_binary op p q)))) (as_after_value (evaluate e s) (binary op a))
            (then_says (HasValue v) (HasValue v) (IsOver vars) (evaluate e s) (binary op a) (cases_after bs gs ds e) _
            (says_after e gs ds parts.1 also) (over_after vars bs over gs ds e)
            (λ b hs es q over_q is_q more. two_operands op p a over_p is_p b hs es q over_q is_q more)
            (λ g hs es q more. let st = binary_required op p q (at_stage hs es) in finished_shut g st.faults st.conds (folded_binary op p q) (binary_shut v g op p q (at_stage hs es) more))))
            (λ g gs ds p also. then_shut (HasValue v) (HasValue v) g (cases_after bs gs ds e) _ (shut_after bs g gs ds e also)
            (λ hs es q more. let st = binary_required op p q (at_stage hs es) in finished_shut g st.faults st.conds (folded_binary op p q) (binary_shut v g op p q (at_stage hs es) more))))

        pub all_says_after : (es : PureExprs) (fs : List PureFaultCase) (cs : List PureAtom) → AllSpellable es → Says v None fs (Some cs) → SayOutcome v (HaveValues v) (evaluate_elements es s) (all_cases_after bs fs cs es)
        all_says_after no_exprs fs cs spellable says = ((says.0, refl), says.1)
        all_says_after (expr_and e es) fs cs spellable says =
            let parts = spellable_parts (subexpressions e) (subexpressions_of_all es) spellable in
            subst (λ r. SayOutcome v (HaveValues v) r (all_cases_after bs fs cs (expr_and e es))) (after_both (evaluate e s) (evaluate_elements es s))
            (then_says (HasValue v) (HaveValues v) (IsOver vars) (evaluate e s) (λ w. after (evaluate_elements es s) (λ ws. Ok (w ∷ ws))) (cases_after bs fs cs e) _
            (says_after e fs cs parts.0 says) (over_after vars bs over fs cs e)
            (λ w gs ds t over_t is_t also.
            then_says (HaveValues v) (HaveValues v) (AllOver vars) (evaluate_elements es s) (λ ws. Ok (w ∷ ws)) (all_cases_after bs gs ds es) _
            (all_says_after es gs ds parts.1 also) (all_over_after vars bs over gs ds es)
            (λ ws hs cs' ts over_ts is_ts more. ((more.0, (λ i. values_both (is_t i) (is_ts i))), more.1))
            (λ g hs cs' ts more. more))
            (λ g gs ds t also. then_shut (HaveValues v) (HaveValues v) g (all_cases_after bs gs ds es) _ (all_shut_after bs g gs ds es also) (λ hs cs' ts more. more)))

  -- from nothing the cases are those of the expression
  pub cases_are_right : (bs : PureStore) (e : PureExpr) → list_all is_spellable (literals_of e) ≡ true → AreCasesOf bs e (cases_after bs [] [] e)
  cases_are_right bs e spellable vars v s serves = says_after v vars serves.proper bs serves.over s serves.stands e [] [] spellable (refl, tt)

  pub all_cases_are_right : (bs : PureStore) (es : List PureExpr) → list_all (λ e. list_all is_spellable (literals_of e)) es ≡ true → AreCasesOfAll bs es (all_cases_after bs [] [] (exprs_from es))
  all_cases_are_right bs es spellable vars v s serves = all_says_after v vars serves.proper bs serves.over s serves.stands (exprs_from es) [] [] (each_spellable es spellable) (refl, tt)
