-- The store at the beginning of a case.
use Rattle.std.proofs.Common.{◌≡◌, List, [], ◌∷◌, map, Option, Some, None, refl, sym, subst}
use Rattle.std.specs.Option.{option_and_then}
use Rattle.gil_values.specs.Pure.{PureValue}
use Rattle.gil_syntax.specs.declared.assertions.Param.{Param}
use Rattle.gil_syntax.specs.Evaluation.{Store}
use Rattle.gil_syntax.specs.Pure.{PurePredDef}
use Rattle.assert_logic.specs.Matching.{bound_to, scope_of}
use Rattle.pure_terms.specs.declared.variables.Sort.{Sort}
use Rattle.pure_terms.specs.Meaning.{value, values, IsOver}
use Rattle.pure_terms.specs.Pure.{PureTerm, from_list}
use Rattle.sym_evaluation.specs.Meaning.{AreSame, StandsFor, Serves, IsStoreOver}
use Rattle.sym_evaluation.specs.Pure.{PureStore}
use Rattle.sym_evaluation.specs.Questions.{AreEachOver}
use Rattle.sym_model.proofs.Asking.{both_parts}
use Rattle.sym_model.proofs.ListLaws.{same_some, not_none, each_map}
use Rattle.sym_matching.specs.Matching.{SplitsCase, CaseStaysOver}
use Rattle.sym_matching.specs.Meaning.{SaysSplit, AreOuts, IsOutOver, AreOutsOver}
use Rattle.sym_matching.specs.Origins.{CaseComesFrom}
use Rattle.sym_matching.specs.Parts.{AreStores, BindsTerm, BindsParam, BindsParams, Continues}
use Rattle.sym_matching.specs.Pure.{PureSplit, PureOuts}
use Rattle.sym_matching.proofs.OriginLaws.{bound_param_from, case_from_parts}
use Rattle.sym_matching.proofs.StoreLaws.{continues_to, stores_chained}

-- a parameter that has a term
pub binds_param : (sorts : List Param) (q : Param) (t : PureTerm) (bs : PureStore) (split : PureSplit PureStore) → BindsTerm sorts q.name t bs split → BindsParam sorts q (Some t) bs split
binds_param sorts q t bs split binds = (
  record { says = λ vars v s o serves over same. by vars v s serves over o same; over = λ vars store over. binds.0.over vars store over },
  bound_param_from sorts q t bs split binds.1,
)
  where
    by : (vars : List Sort) (v : List PureValue) (s : Store) → Serves vars v bs s → IsOver vars t → (o : Option PureValue) → AreSame v (Some t) o → SaysSplit v (StandsFor v) split (bound_to sorts (q ∷ []) (o ∷ []) s)
    by vars v s serves over None same = absurd same
    by vars v s serves over (Some w) same = binds.0.says vars v s w serves over same

-- all terms are known
outs_known : (v : List PureValue) (ts : List PureTerm) (ws : List PureValue) → values v (from_list ts) ≡ Some ws → AreOuts v (map Some ts) (map Some ws)
outs_known v [] ws is = subst (λ us. AreOuts v [] (map Some us)) (same_some is) tt
outs_known v (t ∷ ts) ws is =
    let (w, (us, (first, rest, whole))) = both_parts (value v t) (values v (from_list ts)) ws is in
    subst (λ xs. AreOuts v (map Some (t ∷ ts)) (map Some xs)) (sym whole) (first, outs_known v ts us rest)

outs_over : (vars : List Sort) (ts : List PureTerm) → AreEachOver vars ts → AreOutsOver vars (map Some ts)
outs_over vars ts over = each_map (IsOutOver vars) Some ts over

pub record CaseParts (v : List PureValue) (ins outs : PureOuts) (c : List (Option PureValue) × List (Option PureValue)) : Type 0 where
  pub ins_are : AreOuts v ins c.0
  pub outs_are : AreOuts v outs c.1

-- ins and then outs
abbrev Both : PurePredDef → List (Option PureValue) × List (Option PureValue) → Store → Option Store
Both d c s = option_and_then (bound_to (scope_of d) d.outs c.1) (bound_to (scope_of d) d.ins c.0 s)

module _ (d : PurePredDef) (ts : List PureTerm) (ks : PureOuts) (first whole : PureSplit PureStore) (binds : BindsParams (scope_of d) d.ins (map Some ts) [] first)
    (is : Continues (BindsParams (scope_of d) d.outs ks) first.found first.none whole) where
  both_bound : AreStores (λ vars. AreOutsOver vars (map Some ts) × AreOutsOver vars ks) (λ v c. CaseParts v (map Some ts) ks c) (Both d) [] whole
  both_bound =
      stores_chained (λ vars. AreOutsOver vars (map Some ts)) (λ v os. AreOuts v (map Some ts) os) (bound_to (scope_of d) d.ins) (λ vars. AreOutsOver vars ks) (λ v os. AreOuts v ks os) (bound_to (scope_of d) d.outs)
      (λ vars. AreOutsOver vars (map Some ts) × AreOutsOver vars ks) (λ v c. CaseParts v (map Some ts) ks c) (Both d) [] first whole binds.0
      (continues_to (BindsParams (scope_of d) d.outs ks) (AreStores (λ vars. AreOutsOver vars ks) (λ v os. AreOuts v ks os) (bound_to (scope_of d) d.outs)) (λ x y cont. cont.0) first.found first.none whole is) (λ vars over. over)
      (λ v c has. record { first = c.0; second = c.1; has = has.ins_are; later = has.outs_are; gives = λ s. refl })

  no_names : (vars : List Sort) → IsStoreOver vars []
  no_names vars x t at = not_none at

  pub case_says : SplitsCase d ts ks whole
  case_says vars v ws os proper over_ins over_outs has are =
      both_bound.says vars v [] (map Some ws, os) (record { proper = proper; over = no_names vars; stands = λ x. tt }) (outs_over vars ts over_ins, over_outs)
      (record { ins_are = outs_known v ts ws has; outs_are = are })

  pub case_over : CaseStaysOver ts ks whole
  case_over vars over_ins over_outs = both_bound.over vars (no_names vars) (outs_over vars ts over_ins, over_outs)

  pub case_from : CaseComesFrom d ts ks whole
  case_from = case_from_parts d ts ks (BindsParams (scope_of d) d.outs ks) (λ mid next cont. cont.1) first whole binds.1 is
