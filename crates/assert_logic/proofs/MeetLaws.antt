-- Ranks of predicates, and heaps that meet several items.
use Rattle.std.proofs.Common.{ℕ, zero, suc, ◌≤◌, List, [], ◌∷◌, ◌++◌, Option, Some, None, refl, sym, subst, arith}
use Rattle.std.specs.FinMap.{empty}
use Rattle.gil_values.specs.Pure.{PureValue}
use Rattle.gil_syntax.specs.Evaluation.{Store}
use Rattle.gil_syntax.specs.Pure.{PureItem, pure, uses, PurePredDef}
use Rattle.mem_model.specs.declared.cores.Core.{Core}
use Rattle.mem_model.specs.CoreNames.{core_of}
use Rattle.mem_model.specs.Heaps.{Heap}
use Rattle.assert_logic.specs.Unions.{IsUnion}
use Rattle.assert_logic.specs.Meets.{Predicates, UseHolds, ItemMeets, Meets, CaseHolds, HoldsAt}
use Rattle.assert_logic.specs.LogicStates.{Fact, FactsHold}
use Rattle.assert_logic.proofs.UnionLaws.{union_commutes, union_with_none, union_after_none, only_second, regrouped, ungrouped}

-- ---- ranks

abbrev pub AreWider : Predicates → Predicates → Type 0
AreWider holds wider = (name : List ℕ) (ins outs : List PureValue) (h : Heap) → holds name ins outs h → wider name ins outs h

module _ (holds wider : Predicates) (each : AreWider holds wider) where
  pub use_wider : (core : Option Core) (name : List ℕ) (ins outs : List PureValue) (h : Heap) → UseHolds holds core name ins outs h → UseHolds wider core name ins outs h
  use_wider (Some core) name ins outs h is = is
  use_wider None name ins outs h is = each name ins outs h is

  pub item_wider : (store : Store) (item : PureItem) (h : Heap) → ItemMeets holds store item h → ItemMeets wider store item h
  item_wider store (pure e) h is = is
  item_wider store (uses u) h is = record {
    ins = is.ins;
    outs = is.outs;
    ins_are = is.ins_are;
    outs_are = is.outs_are;
    holds_there = use_wider (core_of u.pred) u.pred is.ins is.outs h is.holds_there;
  }

  pub meets_wider : (store : Store) (items : List PureItem) (h : Heap) → Meets holds store items h → Meets wider store items h
  meets_wider store [] h is = is
  meets_wider store (item ∷ items) h (part, (rest, (union, (here, there)))) =
      (part, (rest, (union, (item_wider store item part here, meets_wider store items rest there))))

  case_wider : (preds : List PurePredDef) (name : List ℕ) (ins outs : List PureValue) (h : Heap) → CaseHolds preds holds name ins outs h → CaseHolds preds wider name ins outs h
  case_wider preds name ins outs h c = record {
    pred = c.pred;
    found = c.found;
    number = c.number;
    items = c.items;
    case = c.case;
    store = c.store;
    ins_agree = c.ins_agree;
    outs_agree = c.outs_agree;
    as_many_ins = c.as_many_ins;
    as_many_outs = c.as_many_outs;
    sorts = c.sorts;
    meets = meets_wider c.store c.items h c.meets;
  }

pub larger_ranks_keep : (preds : List PurePredDef) (j k : ℕ) → j ≤ k → AreWider (HoldsAt preds j) (HoldsAt preds k)
larger_ranks_keep preds zero k le name ins outs h is = absurd is
larger_ranks_keep preds (suc j) zero le name ins outs h is = absurd (omega (arith, le))
larger_ranks_keep preds (suc j) (suc k) le name ins outs h is =
    case_wider (HoldsAt preds j) (HoldsAt preds k) (larger_ranks_keep preds j k (omega (arith, le))) preds name ins outs h is

-- ---- several items

module _ (holds : Predicates) (store : Store) where
  -- a heap that meets several items is split among them
  pub meets_split : (xs ys : List PureItem) (h : Heap) → Meets holds store (xs ++ ys) h
      → (a : Heap) × ((b : Heap) × (IsUnion h a b × (Meets holds store xs a × Meets holds store ys b)))
  meets_split [] ys h is = (empty, (h, (union_after_none h, (refl, is))))
  meets_split (x ∷ xs) ys h (part, (rest, (union, (here, there)))) =
      let (a, (b, (split, (first, second)))) = meets_split xs ys rest there in
      let (e, (with_part, whole)) = regrouped h part rest a b union split in
      (e, (b, (whole, ((part, (a, (with_part, (here, first)))), second))))

  -- and disjoint heaps that meet them meet all together
  pub meets_joined : (xs ys : List PureItem) (h a b : Heap) → IsUnion h a b → Meets holds store xs a → Meets holds store ys b → Meets holds store (xs ++ ys) h
  meets_joined [] ys h a b union none second = subst (Meets holds store ys) (sym (only_second h a b union none)) second
  meets_joined (x ∷ xs) ys h a b union (part, (rest, (split, (here, there)))) second =
      let (e, (later, whole)) = ungrouped h a b part rest union split in
      (part, (e, (whole, (here, meets_joined xs ys e rest b later there second))))

  pub meets_swapped : (xs ys : List PureItem) (h : Heap) → Meets holds store (xs ++ ys) h → Meets holds store (ys ++ xs) h
  meets_swapped xs ys h is =
      let (a, (b, (union, (first, second)))) = meets_split xs ys h is in
      meets_joined ys xs h b a (union_commutes h a b union) second first

  pub meets_any_order : (ws xs ys : List PureItem) (h : Heap) → Meets holds store (ws ++ (xs ++ ys)) h → Meets holds store (ws ++ (ys ++ xs)) h
  meets_any_order ws xs ys h is =
      let (a, (b, (union, (first, second)))) = meets_split ws (xs ++ ys) h is in
      meets_joined ws (ys ++ xs) h a b union first (meets_swapped xs ys b second)

-- ---- several facts

module _ (holds : Predicates) where
  pub facts_split : (fs gs : List Fact) (h : Heap) → FactsHold holds (fs ++ gs) h
      → (a : Heap) × ((b : Heap) × (IsUnion h a b × (FactsHold holds fs a × FactsHold holds gs b)))
  facts_split [] gs h is = (empty, (h, (union_after_none h, (refl, is))))
  facts_split (f ∷ fs) gs h (part, (rest, (union, (here, there)))) =
      let (a, (b, (split, (first, second)))) = facts_split fs gs rest there in
      let (e, (with_part, whole)) = regrouped h part rest a b union split in
      (e, (b, (whole, ((part, (a, (with_part, (here, first)))), second))))

  pub facts_joined : (fs gs : List Fact) (h a b : Heap) → IsUnion h a b → FactsHold holds fs a → FactsHold holds gs b → FactsHold holds (fs ++ gs) h
  facts_joined [] gs h a b union none second = subst (FactsHold holds gs) (sym (only_second h a b union none)) second
  facts_joined (f ∷ fs) gs h a b union (part, (rest, (split, (here, there)))) second =
      let (e, (later, whole)) = ungrouped h a b part rest union split in
      (part, (e, (whole, (here, facts_joined fs gs e rest b later there second))))

  pub one_fact : (f : Fact) (h : Heap) → holds f.pred f.ins f.outs h → FactsHold holds (f ∷ []) h
  one_fact f h is = (h, (empty, (union_with_none h, (is, refl))))
