-- What meets items beside a state can be added to it.
use Rattle.std.proofs.Common.{◌≡◌, ℕ, List, [], ◌∷◌, ◌++◌, Bool, true, false, cond, Option, Some, None, refl, sym, ap, subst, ◌∙◌}
use Rattle.std.specs.Option.{option_map, option_and_then}
use Rattle.std.specs.FinMap.{empty, insert, contains_key}
use Rattle.gil_values.specs.Pure.{PureValue}
use Rattle.gil_syntax.specs.Evaluation.{Store}
use Rattle.gil_syntax.specs.Pure.{PureItem, pure, uses, PurePredDef}
use Rattle.mem_model.specs.declared.cores.Core.{Core}
use Rattle.mem_model.specs.declared.keys.Key.{Key}
use Rattle.mem_model.specs.declared.keys.MemoryName.TheVariants.{Record}
use Rattle.mem_model.specs.CoreNames.{core_of}
use Rattle.mem_model.specs.Cores.{entry_of, entry_named, one_key}
use Rattle.mem_model.specs.Heaps.{Heap, HasKey, joined}
use Rattle.mem_model.proofs.CoreLaws.{one_key_more_is_union}
use Rattle.mem_model.proofs.Holding.{inserted_holds}
use Rattle.mem_model.proofs.Joins.{has_key}
use Rattle.assert_logic.specs.Unions.{IsUnion}
use Rattle.assert_logic.specs.Meets.{UseHolds, ItemMeets, Meets, HoldsSomewhere}
use Rattle.assert_logic.specs.LogicStates.{Fact, LogicState, Realizes}
use Rattle.assert_logic.specs.Adding.{where_true, with_key, with_use, with_values, with_item, added}
use Rattle.assert_logic.proofs.UnionLaws.{union_commutes, only_second, regrouped, ungrouped, exchanged, union_at}
use Rattle.assert_logic.proofs.MeetLaws.{facts_joined, one_fact}

pub same_some : {X : Type 0} {x y : X} → Some x ≡ Some y → x ≡ y
same_some is = cc

pub no_value : {X : Type 0} {P : Type 0} (x : X) → None ≡ Some x → P
no_value x is = absurd (cc)

-- a key that a heap lacks
pub lacking : (h : Heap) (k : Key) → ¬ HasKey h k → contains_key h k ≡ false
lacking h k lacks = by (contains_key h k) refl
  where
    by : (b : Bool) → contains_key h k ≡ b → b ≡ false
    by false is = refl
    by true is = absurd (lacks is)

module _ (preds : List PurePredDef) where
  -- the state with one key more
  pub realizes_with_key : (s : LogicState) (h part whole : Heap) (k : Key) (w : PureValue) → Realizes preds s h → IsUnion whole h part → part ≡ one_key k w
      → ¬ HasKey s.heap k × Realizes preds (record s { heap = insert s.heap k w }) whole
  realizes_with_key s h part whole k w r union is =
      let (x, (with_part, all)) = exchanged whole h part s.heap r.own union r.union in
      let lacks : ¬ HasKey s.heap k = λ has. with_part.disjoint k has (subst (λ p. HasKey p k) (sym is) (has_key (one_key k w) k w (inserted_holds empty k w))) in
      let same : x ≡ insert s.heap k w = with_part.union ∙ ap (joined s.heap) is ∙ sym ((one_key_more_is_union Record s.heap k w).union lacks) in
      (lacks, record { own = r.own; union = union_at whole x r.own (insert s.heap k w) r.own all same refl; facts = r.facts })

  -- the state with one fact more
  pub realizes_with_fact : (s : LogicState) (h part whole : Heap) (f : Fact) → Realizes preds s h → IsUnion whole h part → HoldsSomewhere preds f.pred f.ins f.outs part
      → Realizes preds (record s { facts = s.facts ++ f ∷ [] }) whole
  realizes_with_fact s h part whole f r union is =
      let (e, (with_part, all)) = ungrouped whole h part s.heap r.own union r.union in
      record { own = e; union = all; facts = facts_joined (HoldsSomewhere preds) s.facts (f ∷ []) e r.own part with_part r.facts (one_fact (HoldsSomewhere preds) f part is) }

  module _ (store : Store) where
    entry_added : (s : LogicState) (h part whole : Heap) (entry : Option (Key × PureValue)) → Realizes preds s h → IsUnion whole h part
        → option_map (λ e. one_key e.0 e.1) entry ≡ Some part → (t : LogicState) × ((with_key entry s ≡ Some t) × Realizes preds t whole)
    entry_added s h part whole None r union is = no_value part is
    entry_added s h part whole (Some e) r union is =
        let (lacks, realized) = realizes_with_key s h part whole e.0 e.1 r union (sym (same_some is)) in
        (record s { heap = insert s.heap e.0 e.1 }, (ap (λ b. cond b None (Some (record s { heap = insert s.heap e.0 e.1 }))) (lacking s.heap e.0 lacks), realized))

    use_added : (s : LogicState) (h part whole : Heap) (name : List ℕ) (ins outs : List PureValue) (core : Option Core) → core_of name ≡ core → Realizes preds s h → IsUnion whole h part
        → UseHolds (HoldsSomewhere preds) core name ins outs part → (t : LogicState) × ((with_use core name ins outs s ≡ Some t) × Realizes preds t whole)
    use_added s h part whole name ins outs None named r union is =
        (record s { facts = s.facts ++ record { pred = name; ins = ins; outs = outs } ∷ [] }, (refl, realizes_with_fact s h part whole (record { pred = name; ins = ins; outs = outs }) r union is))
    use_added s h part whole name ins outs (Some core) named r union is =
        entry_added s h part whole (entry_of core (ins ++ outs)) r union (ap (λ o. option_map (λ e. one_key e.0 e.1) (entry_named o (ins ++ outs))) (sym named) ∙ is)

    item_added : (item : PureItem) (s : LogicState) (h part whole : Heap) → Realizes preds s h → IsUnion whole h part → ItemMeets (HoldsSomewhere preds) store item part
        → (t : LogicState) × ((with_item store item s ≡ Some t) × Realizes preds t whole)
    item_added (pure e) s h part whole r union is =
        (s, (ap (λ o. where_true o s) is.0, subst (Realizes preds s) (sym (only_second whole part h (union_commutes whole h part union) is.1)) r))
    item_added (uses u) s h part whole r union is =
        let (t, (here, realized)) = use_added s h part whole u.pred is.ins is.outs (core_of u.pred) refl r union is.holds_there in
        (t, ((λ i. with_values u.pred (is.ins_are i) (is.outs_are i) s) ∙ here, realized))

    pub adding_is_complete : (items : List PureItem) (s : LogicState) (h part whole : Heap) → Realizes preds s h → IsUnion whole h part → Meets (HoldsSomewhere preds) store items part
        → (t : LogicState) × ((added store items s ≡ Some t) × Realizes preds t whole)
    adding_is_complete [] s h part whole r union is =
        (s, (refl, subst (Realizes preds s) (sym (only_second whole part h (union_commutes whole h part union) is)) r))
    adding_is_complete (item ∷ items) s h part whole r union (first, (rest, (split, (here, there)))) =
        let (e, (with_first, all)) = regrouped whole h part first rest union split in
        let (t, (one, realized)) = item_added item s h first e r with_first here in
        let (u, (later, at_last)) = adding_is_complete items t e rest whole realized all there in
        (u, (ap (option_and_then (added store items)) one ∙ later, at_last))
