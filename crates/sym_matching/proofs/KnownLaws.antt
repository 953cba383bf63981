-- The outs that are known, one after another, and the terms of names.
use Rattle.std.proofs.Common.{◌≡◌, ⊎_elim, inl, inr, ℕ, ◌+◌, List, [], ◌∷◌, ◌++◌, Bool, true, false, ◌&&◌, if◌then◌else◌, Option, Some, None, is_some, refl, sym, ap, subst, ◌∙◌}
use Rattle.std.specs.Prelude.{⊤}
use Rattle.std.specs.List.{list_all}
use Rattle.std.specs.Option.{option_map, option_and_then}
use Rattle.std.specs.Result.{result_ok}
use Rattle.std.proofs.lemmas.Bool.{and_parts}
use Rattle.std.proofs.lemmas.List.Folds.{list_all-append}
use Rattle.gil_values.specs.Pure.{PureValue}
use Rattle.gil_syntax.specs.Evaluation.{Store, value_of, evaluate}
use Rattle.gil_syntax.specs.Pure.{PureExpr}
use Rattle.gil_syntax.specs.Subexpressions.{names_of}
use Rattle.assert_logic.specs.Matching.{is_known, known_outs, values_of}
use Rattle.assert_logic.specs.Names.{knows_all}
use Rattle.pure_terms.specs.declared.variables.Sort.{Sort}
use Rattle.pure_terms.specs.Meaning.{both, values, IsOver}
use Rattle.pure_terms.specs.Pure.{PureTerm}
use Rattle.sym_evaluation.specs.Meaning.{AreSame, HasValue, StandsFor, Serves, IsStoreOver}
use Rattle.sym_evaluation.specs.Plainly.{IsPlain, text_bound, has_text_numbers}
use Rattle.sym_evaluation.specs.Pure.{PureStore, term_at, PureGoodCase}
use Rattle.sym_model.proofs.ListLaws.{each_append}
use Rattle.sym_states.proofs.Values.{values_append}
use Rattle.sym_matching.specs.Meaning.{IsReached, Gives, SaysSplit, IsFoundOver, IsSplitOver, AreOuts, IsOutOver, AreOutsOver, AreTermsOfAll, AreEachOverIfAny}
use Rattle.sym_paths.specs.Plain.{is_plain_argument}
use Rattle.sym_matching.specs.Origins.{AreKnownOuts, OutsComeFrom, terms_at}
use Rattle.sym_matching.specs.Parts.{AreValues, one_out, AddsOut, Continues}
use Rattle.sym_matching.specs.Plainly.{IsFoundDecided, OutsStayDecided}
use Rattle.sym_matching.specs.Pure.{PureSplit, PureOuts}
use Rattle.sym_matching.specs.Splitting.{sure, has_term, known_with, with_known, terms_with}
use Rattle.sym_matching.proofs.Deciding.{continues_decided, sure_decided}
use Rattle.sym_matching.proofs.Lists.{outs_more, known_more, names_more}
use Rattle.sym_matching.proofs.OriginLaws.{sure_from, known_out_from, unknown_out_from, known_outs_from, terms_at_more}
use Rattle.sym_matching.proofs.SplitLaws.{continues_says, continues_over, sure_says, sure_over}
use Rattle.sym_matching.proofs.ValueLaws.{known_same}

-- ---- whether names are known

all_alike : {X : Type 0} (f g : X → Bool) (xs : List X) → ((x : X) → f x ≡ g x) → list_all f xs ≡ list_all g xs
all_alike f g [] alike = refl
all_alike f g (x ∷ xs) alike = (λ i. alike x i && all_alike f g xs alike i)

known_alike : (v : List PureValue) (bs : PureStore) (s : Store) → StandsFor v bs s → (e : PureExpr) → knows_all (has_term bs) e ≡ is_known s e
known_alike v bs s stands e = all_alike (has_term bs) (λ x. is_some (value_of s x)) (names_of e) (known_same v bs s stands)

-- ---- one more out

module _ (v : List PureValue) (outs : PureOuts) (os : List (Option PureValue)) (are : AreOuts v outs os) where
  known_reached : (o : Option (PureGoodCase PureTerm)) → IsReached v o → IsReached v (option_map (known_with outs) o)
  known_reached None reached = absurd reached
  known_reached (Some g) reached = reached

  reached_known : (o : Option (PureGoodCase PureTerm)) → IsReached v (option_map (known_with outs) o) → IsReached v o
  reached_known None reached = absurd reached
  reached_known (Some g) reached = reached

  known_gives : (o : Option (PureGoodCase PureTerm)) (p : Option PureValue) → Gives (HasValue v) o p → Gives (AreOuts v) (option_map (known_with outs) o) (option_map (λ q. os ++ q ∷ []) (option_map Some p))
  known_gives None p gives = absurd gives
  known_gives (Some g) p (w, (is, has)) = (os ++ Some w ∷ [], (ap (λ q. option_map (λ r. os ++ r ∷ []) (option_map Some q)) is, outs_more v outs (Some g.result) os (Some w) are has))

  known_says : (values : PureSplit PureTerm) (p : Option PureValue) → SaysSplit v (HasValue v) values p → SaysSplit v (AreOuts v) (with_known outs values) (option_map (λ q. os ++ q ∷ []) (option_map Some p))
  known_says values p says = record {
    cover = ⊎_elim (λ reached. inl (known_reached values.found reached)) (λ holds. inr holds) says.cover;
    found = λ reached. known_gives values.found p (says.found (reached_known values.found reached));
    none = λ holds. ap (λ q. option_map (λ r. os ++ r ∷ []) (option_map Some q)) (says.none holds);
  }

module _ (vars : List Sort) (outs : PureOuts) (over : AreOutsOver vars outs) where
  known_over_by : (o : Option (PureGoodCase PureTerm)) → IsFoundOver (IsOver vars) vars o → IsFoundOver (AreOutsOver vars) vars (option_map (known_with outs) o)
  known_over_by None is = tt
  known_over_by (Some g) is = (is.0, each_append (IsOutOver vars) outs (Some g.result ∷ []) over (is.1, tt))

known_decided_by : (b : ℕ) (outs : PureOuts) (o : Option (PureGoodCase PureTerm)) → IsFoundDecided (IsPlain b) b o → IsFoundDecided {X = PureOuts} (λ more. ⊤) b (option_map (known_with outs) o)
known_decided_by b outs None is = tt
known_decided_by b outs (Some g) is = (is.0, tt)

module _ (bs : PureStore) (e : PureExpr) (outs : PureOuts) where
  pub adds_known : knows_all (has_term bs) e ≡ true → (values : PureSplit PureTerm) → AreValues bs e values → AddsOut bs e outs (with_known outs values)
  adds_known knows values are = record {
    says = λ vars v s os serves same.
        subst (λ b. SaysSplit v (AreOuts v) (with_known outs values) (option_map (λ o. os ++ o ∷ []) (if b then option_map Some (result_ok (evaluate e s)) else Some None)))
        (sym knows ∙ known_alike v bs s serves.stands e) (known_says v outs os same values (result_ok (evaluate e s)) (are.says vars v s serves));
    over = λ vars store over. record { found = known_over_by vars outs over values.found (are.over vars store).found; none = (are.over vars store).none };
    decided = λ vars b from plain numbers. let is = are.argument vars b from plain numbers in record { found = known_decided_by (b + text_bound) outs values.found is.found; none = is.none };
    from = known_out_from bs e outs values are.from;
  }

  pub adds_unknown : knows_all (has_term bs) e ≡ false → AddsOut bs e outs (sure (outs ++ None ∷ []))
  adds_unknown unknown = record {
    says = λ vars v s os serves same.
        subst (λ b. SaysSplit v (AreOuts v) (sure (outs ++ None ∷ [])) (option_map (λ o. os ++ o ∷ []) (if b then option_map Some (result_ok (evaluate e s)) else Some None)))
        (sym unknown ∙ known_alike v bs s serves.stands e) (sure_says v (AreOuts v) (outs ++ None ∷ []) (os ++ None ∷ []) (outs_more v outs None os None same tt));
    over = λ vars store over. sure_over vars (AreOutsOver vars) (outs ++ None ∷ []) (each_append (IsOutOver vars) outs (None ∷ []) over (tt, tt));
    decided = λ vars b from plain numbers. sure_decided (λ more. ⊤) (b + text_bound) (outs ++ None ∷ []) tt;
    from = unknown_out_from bs e outs;
  }

-- the outs that are known, as a split
pub record AreKnown (bs : PureStore) (es : List PureExpr) (split : PureSplit PureOuts) : Type 0 where
  pub says : (vars : List Sort) (v : List PureValue) (s : Store) → Serves vars v bs s → SaysSplit v (AreOuts v) split (result_ok (known_outs s es))
  pub over : (vars : List Sort) → IsStoreOver vars bs → IsSplitOver (AreOutsOver vars) vars split
  pub plain : OutsStayDecided bs es split
  pub from : OutsComeFrom bs es split

module _ (bs : PureStore) where
  pub known_begin : AreKnown bs [] (sure [])
  known_begin = record {
    says = λ vars v s serves. sure_says v (AreOuts v) [] [] tt;
    over = λ vars store. sure_over vars (AreOutsOver vars) [] tt;
    plain = λ vars b from arguments numbers. sure_decided (λ more. ⊤) (b + text_bound) [] tt;
    from = sure_from (λ a. ⊥) (AreKnownOuts bs []) [] tt;
  }

  last_of_all : (f : PureExpr → Bool) (es : List PureExpr) (e : PureExpr) → list_all f (es ++ e ∷ []) ≡ true → (list_all f es ≡ true) × (f e ≡ true)
  last_of_all f es e all = let parts = and_parts (list_all f es) (f e && true) (sym (list_all-append f es (e ∷ [])) ∙ all) in (parts.0, (and_parts (f e) true parts.1).0)

  pub known_step : (es : List PureExpr) (e : PureExpr) (split whole : PureSplit PureOuts) → AreKnown bs es split → Continues (AddsOut bs e) split.found split.none whole → AreKnown bs (es ++ e ∷ []) whole
  known_step es e split whole are is = record {
    says = λ vars v s serves.
        subst (SaysSplit v (AreOuts v) whole) (sym (known_more s es e))
        (continues_says v (AreOuts v) (AreOuts v) (AddsOut bs e) (result_ok (known_outs s es)) (λ os. option_map (λ o. os ++ o ∷ []) (one_out s e)) split whole (are.says vars v s serves) is
        (λ g next os there cont same. cont.says vars v s os serves same));
    over = λ vars store. continues_over vars (AreOutsOver vars) (AreOutsOver vars) (AddsOut bs e) split whole (are.over vars store) is (λ g next there cont over. cont.over vars store over);
    plain = λ vars b from arguments numbers.
        let (argument, argument_e) = last_of_all is_plain_argument es e arguments in
        let (number, number_e) = last_of_all has_text_numbers es e numbers in
        continues_decided (λ outs. ⊤) (λ outs. ⊤) (b + text_bound) (AddsOut bs e) split whole (are.plain vars b from argument number) is
        (λ g next there cont holds. cont.decided vars b from argument_e number_e);
    from = known_outs_from bs e es (AddsOut bs e) (λ outs next cont. cont.from) split whole are.from is;
  }

-- ---- the terms of names

pub record AreTerms (bs : PureStore) (xs : List (List ℕ)) (o : Option (List PureTerm)) : Type 0 where
  pub says : (v : List PureValue) (s : Store) → StandsFor v bs s → AreTermsOfAll v o (values_of s xs)
  pub over : (vars : List Sort) → IsStoreOver vars bs → AreEachOverIfAny vars o
  pub exact : o ≡ terms_at bs xs

module _ (v : List PureValue) where
  terms_more : (o : Option (List PureTerm)) (p : Option (List PureValue)) (t : Option PureTerm) (w : Option PureValue) → AreTermsOfAll v o p → AreSame v t w
      → AreTermsOfAll v (terms_with o t) (option_and_then (λ ws. option_map (λ u. ws ++ u ∷ []) w) p)
  terms_more None None t w are same = tt
  terms_more None (Some ws) t w are same = absurd are
  terms_more (Some ts) None t w are same = absurd are
  terms_more (Some ts) (Some ws) None None are same = tt
  terms_more (Some ts) (Some ws) None (Some w) are same = absurd same
  terms_more (Some ts) (Some ws) (Some t) None are same = absurd same
  terms_more (Some ts) (Some ws) (Some t) (Some w) are same = values_append v ts (t ∷ []) ws (w ∷ []) are (ap (λ o. both o (Some [])) same)

terms_over : (vars : List Sort) (o : Option (List PureTerm)) (t : Option PureTerm) → AreEachOverIfAny vars o → ((u : PureTerm) → t ≡ Some u → IsOver vars u) → AreEachOverIfAny vars (terms_with o t)
terms_over vars None t over known = tt
terms_over vars (Some ts) None over known = tt
terms_over vars (Some ts) (Some t) over known = each_append (IsOver vars) ts (t ∷ []) over (known t refl, tt)

module _ (bs : PureStore) where
  pub terms_begin : AreTerms bs [] (Some [])
  terms_begin = record { says = λ v s stands. refl; over = λ vars store. tt; exact = refl }

  pub terms_step : (xs : List (List ℕ)) (x : List ℕ) (o : Option (List PureTerm)) → AreTerms bs xs o → AreTerms bs (xs ++ x ∷ []) (terms_with o (term_at bs x))
  terms_step xs x o are = record {
    says = λ v s stands. subst (AreTermsOfAll v (terms_with o (term_at bs x))) (sym (names_more s xs x)) (terms_more v o (values_of s xs) (term_at bs x) (value_of s x) (are.says v s stands) (stands x));
    over = λ vars store. terms_over vars o (term_at bs x) (are.over vars store) (store x);
    exact = ap (λ p. terms_with p (term_at bs x)) are.exact ∙ terms_at_more bs xs x;
  }
