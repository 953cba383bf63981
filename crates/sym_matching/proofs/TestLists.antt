-- Tests one after another: the sorts of a name, the elements of two lists, and the outs that are known.
use Rattle.std.proofs.Common.{◌≡◌, ℕ, List, [], ◌∷◌, ◌++◌, ◌≤◌, length, take, Bool, true, false, not, ◌&&◌, ◌||◌, if◌then◌else◌, Option, Some, refl, sym, ap, subst, ◌∙◌}
use Rattle.std.specs.Str.{bytes_eq}
use Rattle.std.proofs.lemmas.List.{take_all}
use Rattle.std.proofs.lemmas.List.Folds.{list_all-append}
use Rattle.gil_values.specs.Equality.{same_value, same_elements}
use Rattle.gil_values.specs.Pure.{PureValue}
use Rattle.gil_syntax.specs.declared.assertions.Param.{Param}
use Rattle.assert_logic.specs.Matching.{agrees_with, all_agree}
use Rattle.assert_logic.specs.Sorts.{has_sort, fits_sorts}
use Rattle.pure_terms.specs.declared.variables.Sort.{Sort}
use Rattle.pure_terms.specs.Meaning.{IsOver}
use Rattle.pure_terms.specs.Pure.{PureTerm}
use Rattle.sym_evaluation.specs.Meaning.{HaveValues}
use Rattle.sym_model.proofs.ListLaws.{same_some}
use Rattle.sym_matching.specs.Matching.{TestsElements, TestsOuts, ElementsStayOver, AgreementStaysOver}
use Rattle.sym_matching.specs.Meaning.{SaysTest, IsTestOver, AreOuts, IsOutOver}
use Rattle.sym_matching.specs.Origins.{TestComesFrom, AsksElements, AsksOuts}
use Rattle.sym_matching.specs.Parts.{IsTestOf}
use Rattle.sym_matching.specs.Plainly.{IsTestDecided}
use Rattle.sym_matching.specs.Pure.{PureTest, PureOuts}
use Rattle.sym_matching.specs.Splitting.{passed, failed, also, equal_test, sort_test, with_sort, out_test}
use Rattle.sym_matching.proofs.Binding.{out_says, out_over}
use Rattle.sym_matching.proofs.Conditions.{also_says, also_over, passed_says, passed_over, failed_says, failed_over}
use Rattle.sym_matching.proofs.Deciding.{also_decided, passed_decided, sort_decided}
use Rattle.sym_matching.proofs.Lists.{each_last, values_last, values_count, outs_last, outs_count, elements_more, elements_differ, agreement_more, agreement_differs}
use Rattle.sym_matching.proofs.OriginLaws.{passed_from, failed_from, elements_from, outs_from}
use Rattle.sym_matching.proofs.TestLaws.{equal_says, equal_over, sort_says, sort_over}

-- ---- the sorts of a name

module _ (x : List ℕ) (t : PureTerm) where
  pub sorts_begin : IsTestOf (fits_sorts [] x) t passed
  sorts_begin = record { says = λ vars v w proper over is. passed_says v; over = λ vars over. passed_over vars; decided = λ b guard. passed_decided b }

  and_over : (b c : Bool) → (b && (c && true)) ≡ (b && c)
  and_over true true = refl
  and_over true false = refl
  and_over false c = refl

  sorts_more : (ps : List Param) (q : Param) (w : PureValue) → fits_sorts (ps ++ q ∷ []) x w ≡ (fits_sorts ps x w && (not (bytes_eq q.name x) || has_sort q.sort w))
  sorts_more ps q w =
      list_all-append (λ (r : Param). not (bytes_eq r.name x) || has_sort r.sort w) ps (q ∷ []) ∙ and_over (fits_sorts ps x w) (not (bytes_eq q.name x) || has_sort q.sort w)

  sorts_step : (ps : List Param) (q : Param) (test whole : PureTest) → bytes_eq q.name x ≡ true → IsTestOf (fits_sorts ps x) t test → whole ≡ also test (sort_test q.sort t)
      → IsTestOf (fits_sorts (ps ++ q ∷ []) x) t whole
  sorts_step ps q test whole named tests is = record {
    says = λ vars v w proper over has.
        subst (λ b. SaysTest v whole b) (sym (sorts_more ps q w ∙ ap (λ b. fits_sorts ps x w && (not b || has_sort q.sort w)) named))
        (subst (λ c. SaysTest v c (fits_sorts ps x w && has_sort q.sort w)) (sym is)
        (also_says v test (sort_test q.sort t) (fits_sorts ps x w) (has_sort q.sort w) (tests.says vars v w proper over has) (sort_says vars v t w proper over has q.sort)));
    over = λ vars over. subst (IsTestOver vars) (sym is) (also_over vars test (sort_test q.sort t) (tests.over vars over) (sort_over vars q.sort t over));
    decided = λ b guard. subst (IsTestDecided b) (sym is) (also_decided b test (sort_test q.sort t) (tests.decided b guard) (sort_decided q.sort t b guard));
  }

  and_true : (b : Bool) → (b && true) ≡ b
  and_true true = refl
  and_true false = refl

  sorts_skip : (ps : List Param) (q : Param) (test : PureTest) → bytes_eq q.name x ≡ false → IsTestOf (fits_sorts ps x) t test → IsTestOf (fits_sorts (ps ++ q ∷ []) x) t test
  sorts_skip ps q test other tests = record {
    says = λ vars v w proper over has.
        subst (λ b. SaysTest v test b) (sym (sorts_more ps q w ∙ ap (λ b. fits_sorts ps x w && (not b || has_sort q.sort w)) other ∙ and_true (fits_sorts ps x w)))
        (tests.says vars v w proper over has);
    over = tests.over;
    decided = tests.decided;
  }

  pub sorts_next : (ps : List Param) (q : Param) (test whole : PureTest) → IsTestOf (fits_sorts ps x) t test → whole ≡ with_sort test q x t → IsTestOf (fits_sorts (ps ++ q ∷ []) x) t whole
  sorts_next ps q test whole tests is = by (bytes_eq q.name x) refl is
    where
      by : (b : Bool) → bytes_eq q.name x ≡ b → whole ≡ (if b then also test (sort_test q.sort t) else test) → IsTestOf (fits_sorts (ps ++ q ∷ []) x) t whole
      by true named made = sorts_step ps q test whole named tests made
      by false other made = subst (IsTestOf (fits_sorts (ps ++ q ∷ []) x) t) (sym made) (sorts_skip ps q test other tests)

-- ---- elements

pub record AreElements (ss ts : List PureTerm) (test : PureTest) : Type 0 where
  pub says : TestsElements ss ts test
  pub over : ElementsStayOver ss ts test
  pub from : TestComesFrom (AsksElements ss ts) test

pub elements_begin : AreElements [] [] passed
elements_begin = record {
  says = λ vars v us ws proper first second has_us has_ws.
      subst (λ xs. SaysTest v passed (same_elements xs ws)) (same_some has_us) (subst (λ xs. SaysTest v passed (same_elements [] xs)) (same_some has_ws) (passed_says v));
  over = λ vars first second. passed_over vars;
  from = passed_from (AsksElements [] []);
}

pub elements_step : (ss ts : List PureTerm) (s t : PureTerm) (test whole : PureTest) → length ss ≡ length ts → AreElements ss ts test → whole ≡ also test (equal_test s t) → AreElements (ss ++ s ∷ []) (ts ++ t ∷ []) whole
elements_step ss ts s t test whole same tests is = record {
  says = λ vars v us ws proper first second has_us has_ws.
      let over_ss = each_last (IsOver vars) ss s first in
      let over_ts = each_last (IsOver vars) ts t second in
      let (xs, (a, (before_us, has_a, joined_us))) = values_last v ss s us has_us in
      let (ys, (b, (before_ws, has_b, joined_ws))) = values_last v ts t ws has_ws in
      subst (λ c. SaysTest v whole c)
      (sym ((λ i. same_elements (joined_us i) (joined_ws i)) ∙ elements_more xs ys a b (values_count v ss xs before_us ∙ same ∙ sym (values_count v ts ys before_ws))))
      (subst (λ c. SaysTest v c (same_elements xs ys && same_value a b)) (sym is)
      (also_says v test (equal_test s t) (same_elements xs ys) (same_value a b) (tests.says vars v xs ys proper over_ss.0 over_ts.0 before_us before_ws)
      (equal_says vars v s t a b (record { proper = proper; first_over = over_ss.1; second_over = over_ts.1; first = has_a; second = has_b }))));
  over = λ vars first second.
      let over_ss = each_last (IsOver vars) ss s first in
      let over_ts = each_last (IsOver vars) ts t second in
      subst (IsTestOver vars) (sym is) (also_over vars test (equal_test s t) (tests.over vars over_ss.0 over_ts.0) (equal_over vars s t over_ss.1 over_ts.1));
  from = elements_from ss ts s t test whole same tests.from is;
}

pub elements_unlike : (ss ts : List PureTerm) → ¬ (length ss ≡ length ts) → AreElements ss ts failed
elements_unlike ss ts differ = record {
  says = λ vars v us ws proper first second has_us has_ws.
      subst (λ c. SaysTest v failed c) (sym (elements_differ us ws (λ same. differ (sym (values_count v ss us has_us) ∙ same ∙ values_count v ts ws has_ws)))) (failed_says v);
  over = λ vars first second. failed_over vars;
  from = failed_from (AsksElements ss ts);
}

-- ---- outs

pub record DoOutsAgree (ks : PureOuts) (ts : List PureTerm) (test : PureTest) : Type 0 where
  pub says : TestsOuts ks ts test
  pub over : AgreementStaysOver ks ts test
  pub from : TestComesFrom (AsksOuts ks ts) test

agree_nothing : (v : List PureValue) (os : List (Option PureValue)) (ws : List PureValue) → AreOuts v [] os → HaveValues v [] ws → SaysTest v passed (all_agree os ws)
agree_nothing v [] ws are has = subst (λ xs. SaysTest v passed (all_agree [] xs)) (same_some has) (passed_says v)
agree_nothing v (o ∷ os) ws are has = absurd are

pub agreement_begin : DoOutsAgree [] [] passed
agreement_begin = record {
  says = λ vars v os ws proper first second are has. agree_nothing v os ws are has;
  over = λ vars first second. passed_over vars;
  from = passed_from (AsksOuts [] []);
}

known_term : (vars : List Sort) (k : Option PureTerm) → IsOutOver vars k → (r : PureTerm) → k ≡ Some r → IsOver vars r
known_term vars k over r is = subst (λ (o : Option PureTerm). IsOutOver vars o) is over

pub agreement_step : (ks : PureOuts) (ts : List PureTerm) (k : Option PureTerm) (t : PureTerm) (test whole : PureTest) → length ks ≡ length ts → DoOutsAgree ks ts test → whole ≡ also test (out_test k t)
    → DoOutsAgree (ks ++ k ∷ []) (ts ++ t ∷ []) whole
agreement_step ks ts k t test whole same tests is = record {
  says = λ vars v os ws proper first second are has.
      let over_ks = each_last (IsOutOver vars) ks k first in
      let over_ts = each_last (IsOver vars) ts t second in
      let (ps, (o, (before_os, is_o, joined_os))) = outs_last v ks k os are in
      let (us, (w, (before_ws, has_w, joined_ws))) = values_last v ts t ws has in
      subst (λ c. SaysTest v whole c)
      (sym ((λ i. all_agree (joined_os i) (joined_ws i)) ∙ agreement_more ps us o w (outs_count v ks ps before_os ∙ same ∙ sym (values_count v ts us before_ws))))
      (subst (λ c. SaysTest v c (all_agree ps us && agrees_with o w)) (sym is)
      (also_says v test (out_test k t) (all_agree ps us) (agrees_with o w) (tests.says vars v ps us proper over_ks.0 over_ts.0 before_os before_ws)
      (out_says vars v k o t w proper (known_term vars k over_ks.1) over_ts.1 is_o has_w)));
  over = λ vars first second.
      let over_ks = each_last (IsOutOver vars) ks k first in
      let over_ts = each_last (IsOver vars) ts t second in
      subst (IsTestOver vars) (sym is) (also_over vars test (out_test k t) (tests.over vars over_ks.0 over_ts.0) (out_over vars k t (known_term vars k over_ks.1) over_ts.1));
  from = outs_from ks ts k t test whole same tests.from is;
}

pub agreement_unlike : (ks : PureOuts) (ts : List PureTerm) → ¬ (length ks ≡ length ts) → DoOutsAgree ks ts failed
agreement_unlike ks ts differ = record {
  says = λ vars v os ws proper first second are has.
      subst (λ c. SaysTest v failed c) (sym (agreement_differs os ws (λ same. differ (sym (outs_count v ks os are) ∙ same ∙ values_count v ts ws has)))) (failed_says v);
  over = λ vars first second. failed_over vars;
  from = failed_from (AsksOuts ks ts);
}

-- ---- all elements

pub elements_whole : (ss ts : List PureTerm) (i : ℕ) (test : PureTest) → length ss ≤ i → length ts ≤ i → AreElements (take i ss) (take i ts) test → AreElements ss ts test
elements_whole ss ts i test first second tests = subst (λ xs. AreElements xs ts test) (take_all i ss first) (subst (λ ys. AreElements (take i ss) ys test) (take_all i ts second) tests)

pub agreement_whole : (ks : PureOuts) (ts : List PureTerm) (i : ℕ) (test : PureTest) → length ks ≤ i → length ts ≤ i → DoOutsAgree (take i ks) (take i ts) test → DoOutsAgree ks ts test
agreement_whole ks ts i test first second tests = subst (λ xs. DoOutsAgree xs ts test) (take_all i ks first) (subst (λ ys. DoOutsAgree (take i ks) ys test) (take_all i ts second) tests)
