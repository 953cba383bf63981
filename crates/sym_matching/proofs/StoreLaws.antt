-- Stores one after another: expressions with terms, and parameters with terms.
use Rattle.std.proofs.Common.{◌≡◌, ◌+◌, List, [], ◌∷◌, ◌++◌, length, Bool, true, ◌&&◌, Option, Some, None, sym, ap, subst, ◌∙◌}
use Rattle.std.specs.List.{list_all}
use Rattle.std.specs.Option.{option_and_then}
use Rattle.std.proofs.lemmas.Bool.{and_parts}
use Rattle.std.proofs.lemmas.List.Folds.{list_all-append}
use Rattle.gil_values.specs.Pure.{PureValue}
use Rattle.gil_syntax.specs.declared.assertions.Param.{Param}
use Rattle.gil_syntax.specs.Evaluation.{Store}
use Rattle.gil_syntax.specs.Pure.{PureExpr}
use Rattle.assert_logic.specs.Matching.{match_value, match_values, bound_to}
use Rattle.pure_terms.specs.declared.variables.Sort.{Sort}
use Rattle.pure_terms.specs.Meaning.{IsOver}
use Rattle.pure_terms.specs.Pure.{PureTerm}
use Rattle.sym_model.specs.Alternatives.{Alternatives, always}
use Rattle.sym_evaluation.specs.Meaning.{AreSame, HasValue, HaveValues, StandsFor, Serves, IsStoreOver}
use Rattle.sym_evaluation.specs.Plainly.{IsPlain, IsPlainStore, text_bound, has_text_numbers}
use Rattle.sym_evaluation.specs.Pure.{PureStore, PureGoodCase}
use Rattle.sym_evaluation.specs.Questions.{AreEachOver}
use Rattle.sym_model.proofs.ListLaws.{same_some}
use Rattle.sym_matching.specs.Meaning.{SaysSplit, IsFoundOver, AreOuts, IsOutOver, AreOutsOver}
use Rattle.sym_paths.specs.Plain.{is_plain_argument}
use Rattle.sym_matching.specs.Origins.{AddsOnlyTo, IsGivenAmong, AsksValues, ValuesComeFrom, IsParamGiven}
use Rattle.sym_matching.specs.Parts.{AreStores, ByTerm, MatchesTerm, AsksBound, BindsParam, BindsParams, Continues}
use Rattle.sym_matching.specs.Plainly.{TermsStayPlain}
use Rattle.sym_matching.specs.Pure.{PureSplit, PureOuts}
use Rattle.sym_matching.specs.Splitting.{sure, nothing}
use Rattle.sym_matching.proofs.Deciding.{continues_decided, never_decided, sure_decided}
use Rattle.sym_matching.proofs.Lists.{each_last, values_last, values_count, values_more, values_differ, outs_last, outs_count, bound_more, bound_differs}
use Rattle.sym_matching.proofs.OriginLaws.{never_from, sure_from, adds_nothing, values_from_next, params_from_next}
use Rattle.sym_matching.proofs.SplitLaws.{continues_says, continues_over, never_says, never_over, sure_says, sure_over}

-- what c has of both parts, and what it gives then
pub record Chained {A B C : Type 0} (Has : List PureValue → A → Type 0) (Later : List PureValue → B → Type 0) (f : A → Store → Option Store) (g : B → Store → Option Store) (h : C → Store → Option Store)
    (v : List PureValue) (c : C) : Type 0 where
  pub first : A
  pub second : B
  pub has : Has v first
  pub later : Later v second
  pub gives : (s : Store) → h c s ≡ option_and_then (g second) (f first s)

module _ {A B C : Type 0} (Over : List Sort → Type 0) (Has : List PureValue → A → Type 0) (f : A → Store → Option Store) (LaterOver : List Sort → Type 0) (Later : List PureValue → B → Type 0) (g : B → Store → Option Store)
    (WholeOver : List Sort → Type 0) (Whole : List PureValue → C → Type 0) (h : C → Store → Option Store) (bs : PureStore) (split whole : PureSplit PureStore) where
  pub stores_chained : AreStores Over Has f bs split → Continues (AreStores LaterOver Later g) split.found split.none whole → ((vars : List Sort) → WholeOver vars → Over vars × LaterOver vars)
      → ((v : List PureValue) (c : C) → Whole v c → Chained Has Later f g h v c) → AreStores WholeOver Whole h bs whole
  stores_chained are is overs has = record {
    says = λ vars v s c serves over has_c.
        let parts = overs vars over in
        let chain = has v c has_c in
        let first_over = are.over vars serves.over parts.0 in
        subst (SaysSplit v (StandsFor v) whole) (sym (chain.gives s))
        (continues_says v (StandsFor v) (StandsFor v) (AreStores LaterOver Later g) (f chain.first s) (g chain.second) split whole (are.says vars v s chain.first serves parts.0 chain.has) is
        (λ k next a there cont stands. cont.says vars v a chain.second
        (record { proper = serves.proper; over = (subst (λ (o : Option (PureGoodCase PureStore)). IsFoundOver (IsStoreOver vars) vars o) there first_over.found).1; stands = stands }) parts.1 chain.later));
    over = λ vars store over.
        let parts = overs vars over in
        continues_over vars (IsStoreOver vars) (IsStoreOver vars) (AreStores LaterOver Later g) split whole (are.over vars store parts.0) is (λ k next there cont over_k. cont.over vars over_k parts.1);
  }

-- ---- expressions and terms

pub record MatchesTerms (scope : List Param) (es : List PureExpr) (ts : List PureTerm) (bs : PureStore) (split : PureSplit PureStore) : Type 0 where
  pub stores : AreStores (λ vars. AreEachOver vars ts) (λ v ws. HaveValues v ts ws) (match_values scope es) bs split
  pub plain : TermsStayPlain es ts bs split
  pub from : ValuesComeFrom scope es ts bs split

pub continues_to : {X Y : Type 0} (P Q : X → PureSplit Y → Type 0) → ((x : X) (y : PureSplit Y) → P x y → Q x y) → (o : Option (PureGoodCase X)) (none : Alternatives) (whole : PureSplit Y) → Continues P o none whole
    → Continues Q o none whole
continues_to P Q to None none whole is = is
continues_to P Q to (Some g) none whole (next, (cont, is)) = (next, (to g.result next cont, is))

module _ (scope : List Param) (bs : PureStore) where
  pub terms_begin : MatchesTerms scope [] [] bs (sure bs)
  terms_begin = record {
    stores = record {
      says = λ vars v s ws serves over has. subst (λ us. SaysSplit v (StandsFor v) (sure bs) (match_values scope [] us s)) (same_some has) (sure_says v (StandsFor v) bs s serves.stands);
      over = λ vars store over. sure_over vars (IsStoreOver vars) bs store;
    };
    plain = λ vars b from over plain arguments numbers. sure_decided (IsPlainStore b) (b + text_bound) bs from.plain;
    from = sure_from (AsksValues scope [] [] bs) (AddsOnlyTo (IsGivenAmong [] []) bs) bs (adds_nothing (IsGivenAmong [] []) bs);
  }

  module _ (es : List PureExpr) (ts : List PureTerm) (e : PureExpr) (t : PureTerm) (split whole : PureSplit PureStore) (are : MatchesTerms scope es ts bs split) (is : Continues (MatchesTerm scope e t) split.found split.none whole) where
    last_of_all : (f : PureExpr → Bool) → list_all f (es ++ e ∷ []) ≡ true → (list_all f es ≡ true) × (f e ≡ true)
    last_of_all f all = let parts = and_parts (list_all f es) (f e && true) (sym (list_all-append f es (e ∷ [])) ∙ all) in (parts.0, (and_parts (f e) true parts.1).0)

    terms_plain : TermsStayPlain (es ++ e ∷ []) (ts ++ t ∷ []) bs whole
    terms_plain vars b from over plain arguments numbers =
        let (overs, over_t) = each_last (IsOver vars) ts t over in
        let (plains, plain_t) = each_last (IsPlain b) ts t plain in
        let (argument, argument_e) = last_of_all is_plain_argument arguments in
        let (number, number_e) = last_of_all has_text_numbers numbers in
        let first_over = are.stores.over vars from.over overs in
        continues_decided (IsPlainStore b) (IsPlainStore b) (b + text_bound) (MatchesTerm scope e t) split whole (are.plain vars b from overs plains argument number) is
        (λ g next there cont store. cont.1 vars b
        (record { over = (subst (λ (o : Option (PureGoodCase PureStore)). IsFoundOver (IsStoreOver vars) vars o) there first_over.found).1; plain = store; small = from.small }) plain_t argument_e number_e)

  pub terms_step : (es : List PureExpr) (ts : List PureTerm) (e : PureExpr) (t : PureTerm) (split whole : PureSplit PureStore) → length es ≡ length ts → MatchesTerms scope es ts bs split
      → Continues (MatchesTerm scope e t) split.found split.none whole → MatchesTerms scope (es ++ e ∷ []) (ts ++ t ∷ []) bs whole
  terms_step es ts e t split whole same are is = record {
    plain = terms_plain es ts e t split whole are is;
    from = values_from_next scope bs es ts e t same (MatchesTerm scope e t) (λ mid next cont. cont.2) split whole are.from is;
    stores = stores_chained (λ vars. AreEachOver vars ts) (λ v ws. HaveValues v ts ws) (match_values scope es) (λ vars. IsOver vars t) (λ v w. HasValue v t w) (match_value scope e)
        (λ vars. AreEachOver vars (ts ++ t ∷ [])) (λ v ws. HaveValues v (ts ++ t ∷ []) ws) (match_values scope (es ++ e ∷ [])) bs split whole are.stores
        (continues_to (MatchesTerm scope e t) (ByTerm t (match_value scope e)) (λ x y cont. cont.0) split.found split.none whole is)
        (λ vars over. each_last (IsOver vars) ts t over)
        (λ v ws has. let (us, (w, (before, last, joined))) = values_last v ts t ws has in record {
          first = us;
          second = w;
          has = before;
          later = last;
          gives = λ s. ap (λ zs. match_values scope (es ++ e ∷ []) zs s) joined ∙ values_more scope es us e w s (same ∙ sym (values_count v ts us before));
        });
  }

  pub terms_differ : (es : List PureExpr) (ts : List PureTerm) → ¬ (length es ≡ length ts) → MatchesTerms scope es ts bs (nothing always)
  terms_differ es ts differ = record {
    stores = record {
      says = λ vars v s ws serves over has. subst (λ (o : Option Store). SaysSplit v (StandsFor v) (nothing always) o) (sym (values_differ scope es ws s (λ same. differ (same ∙ values_count v ts ws has)))) (never_says v (StandsFor v));
      over = λ vars store over. never_over vars (IsStoreOver vars);
    };
    plain = λ vars b from over plain arguments numbers. never_decided (IsPlainStore b) (b + text_bound);
    from = never_from (AsksValues scope es ts bs) (AddsOnlyTo (IsGivenAmong es ts) bs);
  }

  -- ---- parameters

  pub params_begin : BindsParams scope [] [] bs (sure bs)
  params_begin = (
    record { says = λ vars v s os serves over are. by vars v s serves os are; over = λ vars store over. sure_over vars (IsStoreOver vars) bs store },
    sure_from (AsksBound scope (IsParamGiven [] []) bs) (AddsOnlyTo (IsParamGiven [] []) bs) bs (adds_nothing (IsParamGiven [] []) bs),
  )
    where
      by : (vars : List Sort) (v : List PureValue) (s : Store) → Serves vars v bs s → (os : List (Option PureValue)) → AreOuts v [] os → SaysSplit v (StandsFor v) (sure bs) (bound_to scope [] os s)
      by vars v s serves [] are = sure_says v (StandsFor v) bs s serves.stands
      by vars v s serves (o ∷ os) are = absurd are

  pub params_step : (qs : List Param) (ks : PureOuts) (q : Param) (k : Option PureTerm) (split whole : PureSplit PureStore) → length qs ≡ length ks → BindsParams scope qs ks bs split
      → Continues (BindsParam scope q k) split.found split.none whole → BindsParams scope (qs ++ q ∷ []) (ks ++ k ∷ []) bs whole
  params_step qs ks q k split whole same are is = (
    stores_chained
        (λ vars. AreOutsOver vars ks) (λ v os. AreOuts v ks os) (bound_to scope qs) (λ vars. IsOutOver vars k) (λ v o. AreSame v k o) (λ o s. bound_to scope (q ∷ []) (o ∷ []) s)
        (λ vars. AreOutsOver vars (ks ++ k ∷ [])) (λ v os. AreOuts v (ks ++ k ∷ []) os) (bound_to scope (qs ++ q ∷ [])) bs split whole are.0
        (continues_to (BindsParam scope q k) (AreStores (λ vars. IsOutOver vars k) (λ v o. AreSame v k o) (λ o s. bound_to scope (q ∷ []) (o ∷ []) s)) (λ x y cont. cont.0) split.found split.none whole is)
        (λ vars over. each_last (IsOutOver vars) ks k over)
        (λ v os has. let (ps, (o, (before, last, joined))) = outs_last v ks k os has in record {
          first = ps;
          second = o;
          has = before;
          later = last;
          gives = λ s. ap (λ zs. bound_to scope (qs ++ q ∷ []) zs s) joined ∙ bound_more scope qs ps q o s (same ∙ sym (outs_count v ks ps before));
        }),
    params_from_next scope bs qs ks q k same (BindsParam scope q k) (λ mid next cont. cont.1) split whole are.1 is,
  )

  pub params_differ : (qs : List Param) (ks : PureOuts) → ¬ (length qs ≡ length ks) → BindsParams scope qs ks bs (nothing always)
  params_differ qs ks differ = (
    record {
      says = λ vars v s os serves over are. subst (λ (o : Option Store). SaysSplit v (StandsFor v) (nothing always) o) (sym (bound_differs scope qs os s (λ same. differ (same ∙ outs_count v ks os are)))) (never_says v (StandsFor v));
      over = λ vars store over. never_over vars (IsStoreOver vars);
    },
    never_from (AsksBound scope (IsParamGiven qs ks) bs) (AddsOnlyTo (IsParamGiven qs ks) bs),
  )
