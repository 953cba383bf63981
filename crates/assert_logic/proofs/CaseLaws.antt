-- A case that is matched is met, so its predicate holds.
use Rattle.std.proofs.Common.{◌≡◌, ℕ, zero, suc, ◌+◌, List, [], ◌∷◌, map, length, Bool, true, false, ◌&&◌, cond, Option, Some, None, slice_get, refl, sym, ap, subst, ◌∙◌, arith}
use Rattle.std.specs.Option.{option_and_then, option_map}
use Rattle.std.specs.Str.{bytes_eq}
use Rattle.std.proofs.lemmas.Bool.{and_parts}
use Rattle.std.proofs.lemmas.Slice.Eq.{bytes_eq-Decides}
use Rattle.gil_values.specs.Pure.{PureValue}
use Rattle.gil_values.specs.EqualityLaws.{same_value-same}
use Rattle.gil_syntax.specs.declared.assertions.Param.{Param}
use Rattle.gil_syntax.specs.Pure.{PureItem, pure, uses, PurePredDef}
use Rattle.gil_syntax.specs.Programs.{find_pred}
use Rattle.gil_syntax.specs.Valid.{param_names}
use Rattle.gil_syntax.specs.Evaluation.{Store, bind, value_of, Agrees}
use Rattle.mem_model.specs.declared.cores.Core.{Core}
use Rattle.mem_model.specs.CoreNames.{core_of}
use Rattle.mem_model.specs.Heaps.{Heap}
use Rattle.assert_logic.specs.Meets.{UseHolds, ItemMeets, Meets, HoldsAt, HoldsSomewhere}
use Rattle.assert_logic.specs.LogicStates.{LogicState, Realizes}
use Rattle.assert_logic.specs.Sorts.{fits_sorts, HasSorts, Extends}
use Rattle.assert_logic.specs.Matching.{Match, Matching, matched, stops, agrees_with, CaseMatch, Cases, no_cases, bound_to, values_of, scope_of, case_store, case_from, case_of, first_of, match_from, try_cases, try_pred, once, match_assertion, match_fold}
use Rattle.assert_logic.proofs.AddingLaws.{same_some, no_value}
use Rattle.assert_logic.proofs.Givings.{Goes, goes_nowhere, goes_further, bound_sorts, bound_value}
use Rattle.assert_logic.proofs.LoopLemmas.{map_length}
use Rattle.assert_logic.proofs.MeetLaws.{item_wider, meets_wider, larger_ranks_keep}
use Rattle.assert_logic.proofs.SplitLaws.{IsSplit, AreSound, ItemsSplit, items_split}

-- ---- one rank for all items

module _ (preds : List PurePredDef) (store : Store) where
  use_rank : (core : Option Core) (name : List ℕ) (ins outs : List PureValue) (h : Heap) → UseHolds (HoldsSomewhere preds) core name ins outs h → (k : ℕ) × UseHolds (HoldsAt preds k) core name ins outs h
  use_rank (Some core) name ins outs h is = (0, is)
  use_rank None name ins outs h is = is

  item_rank : (item : PureItem) (h : Heap) → ItemMeets (HoldsSomewhere preds) store item h → (k : ℕ) × ItemMeets (HoldsAt preds k) store item h
  item_rank (pure e) h is = (0, is)
  item_rank (uses u) h is =
      let (k, holds) = use_rank (core_of u.pred) u.pred is.ins is.outs h is.holds_there in
      (k, record { ins = is.ins; outs = is.outs; ins_are = is.ins_are; outs_are = is.outs_are; holds_there = holds })

  pub one_rank : (items : List PureItem) (h : Heap) → Meets (HoldsSomewhere preds) store items h → (k : ℕ) × Meets (HoldsAt preds k) store items h
  one_rank [] h is = (0, is)
  one_rank (item ∷ items) h (part, (rest, (union, (here, there)))) =
      let (j, first) = item_rank item part here in
      let (k, later) = one_rank items rest there in (
        j + k,
        (
          part,
          (
            rest,
            (
              union,
              (
                item_wider (HoldsAt preds j) (HoldsAt preds (j + k)) (larger_ranks_keep preds j (j + k) (omega arith)) store item part first,
                meets_wider (HoldsAt preds k) (HoldsAt preds (j + k)) (larger_ranks_keep preds k (j + k) (omega arith)) store items rest later,
              ),
            ),
          ),
        ),
      )

-- ---- the store of a case

module _ (scope : List Param) where
  agreed_extends : (x : List ℕ) (v : PureValue) (s : Store) → agrees_with (value_of s x) v ≡ true → Extends s (bind x v s)
  agreed_extends x v s agrees y w is = by (bytes_eq x y) refl
    where
      by : (b : Bool) → bytes_eq x y ≡ b → cond b (Some v) (value_of s y) ≡ Some w
      by true same =
          let at : value_of s x ≡ Some w = ap (value_of s) ((bytes_eq-Decides x y).0 same) ∙ is in
          ap Some (sym (same_value-same w v (ap (λ o. agrees_with o v) (sym at) ∙ agrees)))
      by false other = is

  pub record IsBound (qs : List Param) (ks : List (Option PureValue)) (s t : Store) : Type 0 where
    pub goes : Goes scope s t
    pub as_many : length qs ≡ length ks
    pub values : (i : ℕ) (x : List ℕ) (v : PureValue) → slice_get (param_names qs) i ≡ Some x → slice_get ks i ≡ Some (Some v) → value_of t x ≡ Some v

  no_nothing : {P : Type 0} (v : PureValue) → ◌≡◌ {A = Option (Option PureValue)} (Some None) (Some (Some v)) → P
  no_nothing v is = no_value v (same_some is)

  pub params_bound : (qs : List Param) (ks : List (Option PureValue)) (s t : Store) → bound_to scope qs ks s ≡ Some t → IsBound qs ks s t
  params_bound [] [] s t is = record { goes = goes_nowhere scope s t (same_some is); as_many = refl; values = λ i x v at. no_value x at }
  params_bound [] (k ∷ ks) s t is = no_value t is
  params_bound (q ∷ qs) [] s t is = no_value t is
  params_bound (q ∷ qs) (None ∷ ks) s t is =
      let later = params_bound qs ks s t is in
      record { goes = later.goes; as_many = ap suc later.as_many; values = at later }
    where
      at : IsBound qs ks s t → (i : ℕ) (x : List ℕ) (v : PureValue) → slice_get (param_names (q ∷ qs)) i ≡ Some x → slice_get (None ∷ ks) i ≡ Some (Some v) → value_of t x ≡ Some v
      at later zero x v name value = no_nothing v value
      at later (suc i) x v name value = later.values i x v name value
  params_bound (q ∷ qs) (Some w ∷ ks) s t is = by (params_bound qs ks (bind q.name w s) t) (fits_sorts scope q.name w && agrees_with (value_of s q.name) w) refl is
    where
      by : (bound_to scope qs ks (bind q.name w s) ≡ Some t → IsBound qs ks (bind q.name w s) t) → (b : Bool) → (fits_sorts scope q.name w && agrees_with (value_of s q.name) w) ≡ b → cond b (bound_to scope qs ks (bind q.name w s)) None ≡ Some t → IsBound (q ∷ qs) (Some w ∷ ks) s t
      by each false test found = no_value t found
      by each true test found =
          let (fits, agrees) = and_parts (fits_sorts scope q.name w) (agrees_with (value_of s q.name) w) test in
          let later = each found in
          let first : Goes scope s (bind q.name w s) = record { extends = agreed_extends q.name w s agrees; sorts = bound_sorts scope q.name w s fits } in
          record { goes = goes_further scope s (bind q.name w s) t first later.goes; as_many = ap suc later.as_many; values = at later }
        where
          at : IsBound qs ks (bind q.name w s) t → (i : ℕ) (x : List ℕ) (v : PureValue) → slice_get (param_names (q ∷ qs)) i ≡ Some x → slice_get (Some w ∷ ks) i ≡ Some (Some v) → value_of t x ≡ Some v
          at later zero x v name value =
              let same : w ≡ v = same_some (same_some value) in
              ap (value_of t) (sym (same_some name)) ∙ later.goes.extends q.name w (bound_value scope q.name w s) ∙ ap Some same
          at later (suc i) x v name value = later.values i x v name value

pub map_get : {X : Type 0} (xs : List X) (i : ℕ) (x : X) → slice_get xs i ≡ Some x → slice_get (map Some xs) i ≡ Some (Some x)
map_get [] i x is = no_value x is
map_get (y ∷ ys) zero x is = ap Some is
map_get (y ∷ ys) (suc i) x is = map_get ys i x is

pub values_agree : (t : Store) (xs : List (List ℕ)) (vs : List PureValue) → values_of t xs ≡ Some vs → Agrees t xs vs × (length xs ≡ length vs)
values_agree t [] vs is = (λ i x v at. no_value x at, ap length (same_some is))
values_agree t (x ∷ xs) vs is = by (values_agree t xs) (value_of t x) (values_of t xs) refl refl is
  where
    by : ((ws : List PureValue) → values_of t xs ≡ Some ws → Agrees t xs ws × (length xs ≡ length ws)) → (o : Option PureValue) (p : Option (List PureValue)) → value_of t x ≡ o → values_of t xs ≡ p → option_and_then (λ v. option_map (λ ws. v ∷ ws) p) o ≡ Some vs → Agrees t (x ∷ xs) vs × (length (x ∷ xs) ≡ length vs)
    by each None p first rest found = no_value vs found
    by each (Some v) None first rest found = no_value vs found
    by each (Some v) (Some ws) first rest found =
        let (agrees, as_many) = each ws rest in
        subst (λ us. Agrees t (x ∷ xs) us × (length (x ∷ xs) ≡ length us)) (same_some found) (at agrees, ap suc as_many)
      where
        at : Agrees t xs ws → Agrees t (x ∷ xs) (v ∷ ws)
        at agrees zero y w name value = ap (value_of t) (sym (same_some name)) ∙ first ∙ value
        at agrees (suc i) y w name value = agrees i y w name value

-- ---- cases

module _ (preds : List PurePredDef) where
  nothing_sorted : (scope : List Param) → HasSorts scope []
  nothing_sorted scope x v is = no_value v is

  -- what is known of the store at the beginning of a case
  record IsCaseStore (d : PurePredDef) (ins : List PureValue) (t : Store) : Type 0 where
    sorts : HasSorts (scope_of d) t
    ins_agree : Agrees t (param_names d.ins) ins
    as_many_ins : length d.ins ≡ length ins

  case_store_is : (d : PurePredDef) (ins : List PureValue) (outs : List (Option PureValue)) (t : Store) → case_store d ins outs ≡ Some t → IsCaseStore d ins t
  case_store_is d ins outs t = by (bound_to (scope_of d) d.ins (map Some ins) []) refl
    where
      by : (o : Option Store) → bound_to (scope_of d) d.ins (map Some ins) [] ≡ o → option_and_then (bound_to (scope_of d) d.outs outs) o ≡ Some t → IsCaseStore d ins t
      by None first is = no_value t is
      by (Some u) first is =
          let bound = params_bound (scope_of d) d.ins (map Some ins) [] u first in
          let later = params_bound (scope_of d) d.outs outs u t is in
          record {
            sorts = later.goes.sorts (bound.goes.sorts (nothing_sorted (scope_of d)));
            ins_agree = λ i x v name value. later.goes.extends x v (bound.values i x v name (map_get ins i v value));
            as_many_ins = bound.as_many ∙ map_length Some ins;
          }

  module _ (cases : Cases) (sound : AreSound preds cases) (x : List ℕ) (d : PurePredDef) (found_pred : find_pred preds x ≡ Some d) (ins : List PureValue) where
    case_holds : (number : ℕ) (items : List PureItem) (t : Store) (s : LogicState) (m : Match) (outs : List PureValue) (h : Heap) → slice_get d.cases number ≡ Some items → IsCaseStore d ins t
        → match_from cases (scope_of d) 0 items t s ≡ matched m → values_of m.store (param_names d.outs) ≡ Some outs → Realizes preds s h → IsSplit preds (HoldsSomewhere preds x ins outs) m.state h
    case_holds number items t s m outs h is_case begins matches values r =
        let all = items_split preds cases sound (scope_of d) 0 items t s m h matches r in
        let (k, meets) = one_rank preds m.store items all.split.part all.split.taken in
        let (agrees, as_many) = values_agree m.store (param_names d.outs) outs values in
        record {
          part = all.split.part;
          rest = all.split.rest;
          union = all.split.union;
          taken = (
            suc k,
            record {
              pred = d;
              found = found_pred;
              number = number;
              items = items;
              case = is_case;
              store = m.store;
              ins_agree = λ i y v name value. all.goes.extends y v (begins.ins_agree i y v name value);
              outs_agree = agrees;
              as_many_ins = begins.as_many_ins;
              as_many_outs = sym (map_length (λ q. q.name) d.outs) ∙ as_many;
              sorts = all.goes.sorts begins.sorts;
              meets = meets;
            },
          );
          realized = all.split.realized;
        }

    some_case_holds : (n : ℕ) (later : List (List PureItem)) (t : Store) (s : LogicState) (found : CaseMatch) (h : Heap) → ((i : ℕ) (items : List PureItem) → slice_get later i ≡ Some items → (number : ℕ) × (slice_get d.cases number ≡ Some items))
        → IsCaseStore d ins t → try_cases cases d n later t s ≡ Some found → Realizes preds s h → IsSplit preds (HoldsSomewhere preds x ins found.outs) found.state h
    some_case_holds n [] t s found h among begins is r = no_value found is
    some_case_holds n (items ∷ later) t s found h among begins is r =
        by_matching (λ tries. some_case_holds (n + 1) later t s found h (λ i others. among (suc i) others) begins tries r) (match_from cases (scope_of d) 0 items t s) refl is
      where
        by_values : (try_cases cases d (n + 1) later t s ≡ Some found → IsSplit preds (HoldsSomewhere preds x ins found.outs) found.state h) → (m : Match) → match_from cases (scope_of d) 0 items t s ≡ matched m → (o : Option (List PureValue)) → values_of m.store (param_names d.outs) ≡ o
            → first_of (case_from n m o) (try_cases cases d (n + 1) later t s) ≡ Some found → IsSplit preds (HoldsSomewhere preds x ins found.outs) found.state h
        by_values each m matches None values tries = each tries
        by_values each m matches (Some outs) values tries =
            let (number, is_case) = among zero items refl in
            subst (λ y. IsSplit preds (HoldsSomewhere preds x ins y.outs) y.state h) (same_some tries) (case_holds number items t s m outs h is_case begins matches values r)

        by_matching : (try_cases cases d (n + 1) later t s ≡ Some found → IsSplit preds (HoldsSomewhere preds x ins found.outs) found.state h) → (o : Matching) → match_from cases (scope_of d) 0 items t s ≡ o → first_of (case_of d n o) (try_cases cases d (n + 1) later t s) ≡ Some found → IsSplit preds (HoldsSomewhere preds x ins found.outs) found.state h
        by_matching each (stops k) matches tries = each tries
        by_matching each (matched m) matches tries = by_values each m matches (values_of m.store (param_names d.outs)) refl tries

  pub pred_sound : (cases : Cases) → AreSound preds cases → (x : List ℕ) (ins : List PureValue) (outs : List (Option PureValue)) (s : LogicState) (found : CaseMatch) (h : Heap)
      → try_pred cases (find_pred preds x) ins outs s ≡ Some found → Realizes preds s h → IsSplit preds (HoldsSomewhere preds x ins found.outs) found.state h
  pred_sound cases sound x ins outs s found h is r = by (find_pred preds x) refl is
    where
      by_store : (d : PurePredDef) → find_pred preds x ≡ Some d → (o : Option Store) → case_store d ins outs ≡ o → option_and_then (λ t. try_cases cases d 0 d.cases t s) o ≡ Some found → IsSplit preds (HoldsSomewhere preds x ins found.outs) found.state h
      by_store d finds None begins tries = no_value found tries
      by_store d finds (Some t) begins tries = some_case_holds cases sound x d finds ins 0 d.cases t s found h (λ i items at. (i, at)) (case_store_is d ins outs t begins) tries r

      by : (o : Option PurePredDef) → find_pred preds x ≡ o → try_pred cases o ins outs s ≡ Some found → IsSplit preds (HoldsSomewhere preds x ins found.outs) found.state h
      by None finds tries = no_value found tries
      by (Some d) finds tries = by_store d finds (case_store d ins outs) refl tries

  none_sound : AreSound preds no_cases
  none_sound x ins outs s found h is r = no_value found is

  pub once_sound : AreSound preds (once preds)
  once_sound x ins outs s found h is r = pred_sound no_cases none_sound x ins outs s found h is r

  pub assertion_splits : (scope : List Param) (items : List PureItem) (t : Store) (s : LogicState) (m : Match) (h : Heap) → match_assertion preds scope items t s ≡ matched m → Realizes preds s h → ItemsSplit preds scope items t m h
  assertion_splits scope items t s m h is r = items_split preds (once preds) once_sound scope 0 items t s m h is r

  pub fold_splits : (x : List ℕ) (ins outs : List PureValue) (s : LogicState) (found : CaseMatch) (h : Heap) → match_fold preds x ins outs s ≡ Some found → Realizes preds s h → IsSplit preds (HoldsSomewhere preds x ins found.outs) found.state h
  fold_splits x ins outs s found h is r = pred_sound (once preds) once_sound x ins (map Some outs) s found h is r
