-- Evaluating a list of expressions from the first to the last.
use Rattle.std.proofs.Common.{◌≡◌, List, [], ◌∷◌, ◌++◌, Option, Some, None, refl, sym, ap, ◌∙◌, append_assoc}
use Rattle.std.proofs.lemmas.List.{append-nil}
use Rattle.gil_syntax.specs.Pure.{PureExpr, from_list as exprs_from}
use Rattle.pure_terms.specs.Pure.{PureTerm, PureAtom}
use Rattle.sym_evaluation.specs.Evaluating.{result_given, followed, followed_by, cases_after, all_cases_after}
use Rattle.sym_evaluation.specs.Pure.{PureStore, PureFaultCase, PureGoodCase, PureCases}

-- the cases of what is left, behind the terms so far
abbrev pub rest_after : PureStore → List PureFaultCase → List PureAtom → List PureTerm → List PureExpr → PureCases (List PureTerm)
rest_after bs fs cs ts es = followed (all_cases_after bs fs cs (exprs_from es)) (λ gs ds us. result_given gs ds (ts ++ us))

module _ (bs : PureStore) where
  whole_by : (faults : List PureFaultCase) (good : Option (PureGoodCase (List PureTerm))) → followed_by faults good (λ gs ds us. result_given gs ds us) ≡ record { faults = faults; good = good }
  whole_by faults (Some g) = refl
  whole_by faults None = refl

  pub at_first : (fs : List PureFaultCase) (cs : List PureAtom) (es : List PureExpr) → rest_after bs fs cs [] es ≡ all_cases_after bs fs cs (exprs_from es)
  at_first fs cs es = let cases = all_cases_after bs fs cs (exprs_from es) in whole_by cases.faults cases.good

  pub at_last : (fs : List PureFaultCase) (cs : List PureAtom) (ts : List PureTerm) (whole : PureCases (List PureTerm)) → rest_after bs fs cs ts [] ≡ whole → result_given fs cs ts ≡ whole
  at_last fs cs ts whole so_far = ap (result_given fs cs) (sym (append-nil ts)) ∙ so_far

  -- a sure fault ends it
  pub at_fault : (fs gs : List PureFaultCase) (cs : List PureAtom) (ts : List PureTerm) (e : PureExpr) (es : List PureExpr) (whole : PureCases (List PureTerm)) → cases_after bs fs cs e ≡ record { faults = gs; good = None } → rest_after bs fs cs ts (e ∷ es) ≡ whole → record { faults = gs; good = None } ≡ whole
  at_fault fs gs cs ts e es whole is so_far =
      sym (ap (λ c. followed (followed c (λ gs ds t. followed (all_cases_after bs gs ds (exprs_from es)) (λ hs cs' us. result_given hs cs' (t ∷ us)))) (λ hs ds us. result_given hs ds (ts ++ us))) is) ∙ so_far

  moved_by : (t : PureTerm) (ts : List PureTerm) (faults : List PureFaultCase) (good : Option (PureGoodCase (List PureTerm))) → followed (followed_by faults good (λ hs cs us. result_given hs cs (t ∷ us))) (λ hs ds us. result_given hs ds (ts ++ us)) ≡ followed_by faults good (λ hs ds us. result_given hs ds ((ts ++ t ∷ []) ++ us))
  moved_by t ts faults (Some g) = ap (result_given faults g.conds) (sym (append_assoc ts (t ∷ []) g.result))
  moved_by t ts faults None = refl

  -- a term goes to those so far
  pub at_term : (fs gs : List PureFaultCase) (cs ds : List PureAtom) (ts : List PureTerm) (e : PureExpr) (es : List PureExpr) (t : PureTerm) (whole : PureCases (List PureTerm)) → cases_after bs fs cs e ≡ result_given gs ds t → rest_after bs fs cs ts (e ∷ es) ≡ whole → rest_after bs gs ds (ts ++ t ∷ []) es ≡ whole
  at_term fs gs cs ds ts e es t whole is so_far =
      let rest = all_cases_after bs gs ds (exprs_from es) in
      sym (moved_by t ts rest.faults rest.good)
      ∙ sym (ap (λ c. followed (followed c (λ gs ds t. followed (all_cases_after bs gs ds (exprs_from es)) (λ hs cs' us. result_given hs cs' (t ∷ us)))) (λ hs ds us. result_given hs ds (ts ++ us))) is)
      ∙ so_far
