-- A case that `fold` matched gives the outs that it was asked for; and what is matched with nothing left is met by the whole heap.
use Rattle.std.proofs.Common.{◌≡◌, ℕ, zero, suc, ◌+◌, List, [], ◌∷◌, map, length, Option, Some, None, refl, sym, ap, subst, ◌∙◌, arith}
use Rattle.std.specs.Option.{option_and_then}
use Rattle.std.specs.FinMap.{empty}
use Rattle.gil_values.specs.Pure.{PureValue}
use Rattle.gil_syntax.specs.declared.assertions.Param.{Param}
use Rattle.gil_syntax.specs.Pure.{PureItem, PurePredDef}
use Rattle.gil_syntax.specs.Programs.{find_pred}
use Rattle.gil_syntax.specs.Valid.{param_names}
use Rattle.gil_syntax.specs.Evaluation.{Store, Agrees}
use Rattle.mem_model.specs.Heaps.{Heap}
use Rattle.assert_logic.specs.LogicStates.{LogicState, FactsHold, Realizes}
use Rattle.assert_logic.specs.Meets.{Meets, HoldsSomewhere}
use Rattle.assert_logic.specs.Matching.{Match, Matching, matched, stops, CaseMatch, bound_to, values_of, scope_of, case_store, case_from, case_of, first_of, match_from, try_cases, try_pred, once, match_assertion, match_fold}
use Rattle.assert_logic.proofs.AddingLaws.{same_some, no_value}
use Rattle.assert_logic.proofs.CaseLaws.{map_get, values_agree, params_bound, once_sound, assertion_splits}
use Rattle.assert_logic.proofs.LoopLemmas.{map_length}
use Rattle.assert_logic.proofs.SplitLaws.{items_split}
use Rattle.assert_logic.proofs.UnionLaws.{union_commutes, only_second}

-- lists with which one store agrees are equal
agreed_lists : (t : Store) (xs : List (List ℕ)) (vs ws : List PureValue) → length xs ≡ length vs → length xs ≡ length ws → Agrees t xs vs → Agrees t xs ws → vs ≡ ws
agreed_lists t [] [] [] a b h k = refl
agreed_lists t [] [] (w ∷ ws) a b h k = absurd (cc)
agreed_lists t [] (v ∷ vs) ws a b h k = absurd (cc)
agreed_lists t (x ∷ xs) [] ws a b h k = absurd (cc)
agreed_lists t (x ∷ xs) (v ∷ vs) [] a b h k = absurd (cc)
agreed_lists t (x ∷ xs) (v ∷ vs) (w ∷ ws) a b h k =
    let first : v ≡ w = same_some (sym (h zero x v refl refl) ∙ k zero x w refl refl) in
    let later : vs ≡ ws = agreed_lists t xs vs ws (omega (arith, a)) (omega (arith, b)) (λ i. h (suc i)) (λ i. k (suc i)) in
    λ i. first i ∷ later i

module _ (preds : List PurePredDef) (d : PurePredDef) (outs : List PureValue) (s : LogicState) (h : Heap) (r : Realizes preds s h) where
  -- the out parameters have these values
  record HasOuts (t : Store) : Type 0 where
    agrees : Agrees t (param_names d.outs) outs
    as_many : length (param_names d.outs) ≡ length outs

  case_outs : (n : ℕ) (later : List (List PureItem)) (t : Store) (found : CaseMatch) → HasOuts t → try_cases (once preds) d n later t s ≡ Some found → found.outs ≡ outs
  case_outs n [] t found begins is = no_value found is
  case_outs n (items ∷ later) t found begins is = by_matching (λ tries. case_outs (n + 1) later t found begins tries) (match_from (once preds) (scope_of d) 0 items t s) refl is
    where
      by_values : (try_cases (once preds) d (n + 1) later t s ≡ Some found → found.outs ≡ outs) → (m : Match) → match_from (once preds) (scope_of d) 0 items t s ≡ matched m → (o : Option (List PureValue)) → values_of m.store (param_names d.outs) ≡ o
          → first_of (case_from n m o) (try_cases (once preds) d (n + 1) later t s) ≡ Some found → found.outs ≡ outs
      by_values each m matches None values tries = each tries
      by_values each m matches (Some vs) values tries =
          let all = items_split preds (once preds) (once_sound preds) (scope_of d) 0 items t s m h matches r in
          let (agrees, as_many) = values_agree m.store (param_names d.outs) vs values in
          ap (λ y. y.outs) (sym (same_some tries))
          ∙ agreed_lists m.store (param_names d.outs) vs outs as_many begins.as_many agrees (λ i x v name value. all.goes.extends x v (begins.agrees i x v name value))

      by_matching : (try_cases (once preds) d (n + 1) later t s ≡ Some found → found.outs ≡ outs) → (o : Matching) → match_from (once preds) (scope_of d) 0 items t s ≡ o → first_of (case_of d n o) (try_cases (once preds) d (n + 1) later t s) ≡ Some found → found.outs ≡ outs
      by_matching each (stops k) matches tries = each tries
      by_matching each (matched m) matches tries = by_values each m matches (values_of m.store (param_names d.outs)) refl tries

  begun : (ins : List PureValue) (t : Store) → case_store d ins (map Some outs) ≡ Some t → HasOuts t
  begun ins t = by (bound_to (scope_of d) d.ins (map Some ins) [])
    where
      by : (o : Option Store) → option_and_then (bound_to (scope_of d) d.outs (map Some outs)) o ≡ Some t → HasOuts t
      by None is = no_value t is
      by (Some u) is =
          let bound = params_bound (scope_of d) d.outs (map Some outs) u t is in
          record {
            agrees = λ i x v name value. bound.values i x v name (map_get outs i v value);
            as_many = map_length (λ q. q.name) d.outs ∙ bound.as_many ∙ map_length Some outs;
          }

  pred_outs : (ins : List PureValue) (found : CaseMatch) (o : Option Store) → case_store d ins (map Some outs) ≡ o → option_and_then (λ t. try_cases (once preds) d 0 d.cases t s) o ≡ Some found → found.outs ≡ outs
  pred_outs ins found None begins is = no_value found is
  pred_outs ins found (Some t) begins is = case_outs 0 d.cases t found (begun ins t begins) is

pub fold_outs : (preds : List PurePredDef) (name : List ℕ) (ins outs : List PureValue) (s : LogicState) (found : CaseMatch) (h : Heap) → match_fold preds name ins outs s ≡ Some found → Realizes preds s h → found.outs ≡ outs
fold_outs preds name ins outs s found h is r = by (find_pred preds name) is
  where
    by : (o : Option PurePredDef) → try_pred (once preds) o ins (map Some outs) s ≡ Some found → found.outs ≡ outs
    by None tries = no_value found tries
    by (Some d) tries = pred_outs preds d outs s h r ins found (case_store d ins (map Some outs)) refl tries

-- ---- nothing left

-- a heap that realizes a state without keys and facts is empty
pub nothing_left : (preds : List PurePredDef) (s : LogicState) (h : Heap) → s.heap ≡ empty → s.facts ≡ [] → Realizes preds s h → h ≡ empty
nothing_left preds s h no_keys no_facts r =
    let none : r.own ≡ empty = subst (λ fs. FactsHold (HoldsSomewhere preds) fs r.own) no_facts r.facts in
    only_second h s.heap r.own r.union no_keys ∙ none

pub whole_meets : (preds : List PurePredDef) (scope : List Param) (items : List PureItem) (t : Store) (s : LogicState) (m : Match) (h : Heap) → match_assertion preds scope items t s ≡ matched m → m.state.heap ≡ empty → m.state.facts ≡ [] → Realizes preds s h
    → Meets (HoldsSomewhere preds) m.store items h
whole_meets preds scope items t s m h is no_keys no_facts r =
    let all = assertion_splits preds scope items t s m h is r in
    let none = nothing_left preds m.state all.split.rest no_keys no_facts all.split.realized in
    let same : h ≡ all.split.part = only_second h all.split.rest all.split.part (union_commutes h all.split.part all.split.rest all.split.union) none in
    subst (Meets (HoldsSomewhere preds) m.store items) (sym same) all.split.taken
