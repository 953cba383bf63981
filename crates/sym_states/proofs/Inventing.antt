-- Adding invents no symbol: each item is read by what is known before it and what it adds.
use Rattle.std.proofs.Common.{◌≡◌, ⊎_elim, ℕ, ◌<◌, List, [], ◌∷◌, ◌++◌, Bool, true, false, ◌&&◌, cond, Option, Some, None, is_some, Ok, Err, refl, sym, ap, subst, ◌∙◌, true≢false, append_assoc}
use Rattle.std.specs.List.{list_all}
use Rattle.std.specs.Option.{option_map}
use Rattle.std.specs.FinMap.{empty, insert, contains_key, get-empty}
use Rattle.std.proofs.lemmas.Bool.{and_parts}
use Rattle.std.proofs.lemmas.List.{append-nil}
use Rattle.gil_values.specs.Pure.{PureValue}
use Rattle.gil_values.specs.Symbols.{IsBelow, AreBelow}
use Rattle.gil_syntax.specs.Evaluation.{Store, evaluate, evaluate_all}
use Rattle.gil_syntax.specs.Pure.{PurePredUse, PureItem, pure, uses}
use Rattle.gil_syntax.specs.Subexpressions.{exprs_of_item}
use Rattle.gil_syntax.specs.WellMade.{is_well_made_expr, is_well_made_assertion}
use Rattle.gil_syntax.proofs.Symbols.{HoldsOfAll, all_of_each}
use Rattle.mem_model.specs.declared.cores.Core.{Core}
use Rattle.mem_model.specs.declared.keys.Key.{Key}
use Rattle.mem_model.specs.declared.keys.MemoryName.{MemoryName}
use Rattle.mem_model.specs.CoreNames.{core_of}
use Rattle.mem_model.specs.Cores.{entry_of, entry_named, one_key}
use Rattle.mem_model.specs.Heaps.{Heap, Holds as HoldsAtKey, IsHeapBelow}
use Rattle.mem_model.specs.Keys.{key_cmp}
use Rattle.mem_model.specs.KeyOrder.{key_eq}
use Rattle.mem_model.proofs.Holding.{held_inserted, inserted_holds, inserted_keeps, same_key}
use Rattle.assert_logic.specs.declared.checking.ModeKind.{ModeKind}
use Rattle.assert_logic.specs.Adding.{with_key, with_use, with_values, with_item, added}
use Rattle.assert_logic.specs.LogicStates.{Fact, LogicState}
use Rattle.assert_logic.specs.Meets.{Predicates, UseHolds, ItemMeets, Meets}
use Rattle.assert_logic.specs.Modes.{Scope, either, known_at_first, known_after, item_fault, items_fault}
use Rattle.assert_logic.specs.Names.{named_by_items}
use Rattle.assert_logic.proofs.InventionLaws.{KnownHold, OutsHold, items_hold}
use Rattle.assert_logic.proofs.UnionLaws.{union_with_none}
use Rattle.sym_model.specs.Lists.{Each}
use Rattle.sym_model.proofs.ListLaws.{each_left, each_right}
use Rattle.sym_states.specs.NamingLaws.{IsLogicBelow, AddingInventsNothing}
use Rattle.sym_states.proofs.AddedNames.{true_there, step_there}
use Rattle.sym_states.proofs.Names.{or_left}

no_value : {X P : Type 0} (x : X) → None ≡ Some x → P
no_value x is = absurd (cc)

same_some : {X : Type 0} {x y : X} → Some x ≡ Some y → x ≡ y
same_some is = cc

either_parts : (o later : Option ModeKind) → either o later ≡ None → (o ≡ None) × (later ≡ None)
either_parts (Some why) later is = no_value why (sym is)
either_parts None later is = (refl, is)

-- a key that is there, and one that isn't
lacks_key : (h : Heap) (k q : Key) (v : PureValue) → contains_key h k ≡ false → HoldsAtKey h q v → key_eq q k ≡ false
lacks_key h k q v lacks at = by (key_eq q k) refl
  where
    by : (b : Bool) → key_eq q k ≡ b → b ≡ false
    by true same = absurd (true≢false (sym (there (subst (λ z. HoldsAtKey h z v) (same_key q k same) at)) ∙ lacks))
      where
        there : HoldsAtKey h k v → contains_key h k ≡ true
        there held = ap is_some held
    by false other = refl

module _ (counter : ℕ) (store : Store) where
  abbrev Below : ℕ → Type 0
  Below n = n < counter

  -- what uses of other predicates tell: the symbols of their outs are below the counter
  abbrev outs_below : Predicates
  outs_below name ins outs h = HoldsOfAll Below outs

  sound : OutsHold Below outs_below
  sound x ins outs h is of_ins heap = is

  -- ---- what was added, and what was there before

  -- the key and its value, or the fact, that a use adds
  key_added : (o : Option (Key × PureValue)) (l m : LogicState) → with_key o l ≡ Some m → (e : Key × PureValue) × ((o ≡ Some e) × ((contains_key l.heap e.0 ≡ false) × (m ≡ record l { heap = insert l.heap e.0 e.1 })))
  key_added None l m is = no_value m is
  key_added (Some e) l m is = by (contains_key l.heap e.0) refl is
    where
      by : (b : Bool) → contains_key l.heap e.0 ≡ b → cond b None (Some (record l { heap = insert l.heap e.0 e.1 })) ≡ Some m → (f : Key × PureValue) × ((Some e ≡ Some f) × ((contains_key l.heap f.0 ≡ false) × (m ≡ record l { heap = insert l.heap f.0 f.1 })))
      by true there found = no_value m found
      by false lacks found = (e, (refl, (lacks, sym (same_some found))))

  heap_before : (l m : LogicState) (k : Key) (w : PureValue) → contains_key l.heap k ≡ false → m ≡ record l { heap = insert l.heap k w } → IsHeapBelow counter m.heap → IsHeapBelow counter l.heap
  heap_before l m k w lacks is below q v at =
      below q v (subst (λ (x : LogicState). HoldsAtKey x.heap q v) (sym is) (inserted_keeps l.heap k q w v (lacks_key l.heap k q v lacks at) at))

  below_key : (l m : LogicState) (k : Key) (w : PureValue) → contains_key l.heap k ≡ false → m ≡ record l { heap = insert l.heap k w } → IsLogicBelow counter m → IsLogicBelow counter l
  below_key l m k w lacks is below = record { heap = heap_before l m k w lacks is below.heap; facts = subst (λ (x : LogicState). Each (λ f. AreBelow counter f.ins × AreBelow counter f.outs) x.facts) is below.facts }

  below_fact : (l m : LogicState) (f : Fact) → m ≡ record l { facts = l.facts ++ f ∷ [] } → IsLogicBelow counter m → IsLogicBelow counter l × HoldsOfAll Below f.outs
  below_fact l m f is below =
      let all = subst (λ (x : LogicState). Each (λ g. AreBelow counter g.ins × AreBelow counter g.outs) x.facts) is below.facts in (
        record { heap = subst (λ (x : LogicState). IsHeapBelow counter x.heap) is below.heap; facts = each_left (λ g. AreBelow counter g.ins × AreBelow counter g.outs) l.facts (f ∷ []) all },
        all_of_each Below f.outs (each_right (λ g. AreBelow counter g.ins × AreBelow counter g.outs) l.facts (f ∷ []) all).0.1,
      )

  one_below : (m : LogicState) (l : LogicState) (k : Key) (w : PureValue) → m ≡ record l { heap = insert l.heap k w } → IsLogicBelow counter m → IsHeapBelow counter (one_key k w)
  one_below m l k w is below q v at =
      let there : HoldsAtKey m.heap k w = subst (λ (x : LogicState). HoldsAtKey x.heap k w) (sym is) (inserted_holds l.heap k w) in
      ⊎_elim
      (λ (same : (q ≡ k) × (v ≡ w)). subst (λ z. (z.loc < counter) × IsBelow counter v) (sym same.0) (subst (λ u. (k.loc < counter) × IsBelow counter u) (sym same.1) (below.heap k w there)))
      (λ other. no_value v (sym (get-empty key_cmp q) ∙ other.1))
      (held_inserted empty k q w v at)

  -- ---- one item

  -- the state before an item, and a heap of the item's own that meets it
  record IsRead (item : PureItem) (l : LogicState) : Type 0 where
    before : IsLogicBelow counter l
    part : Heap
    meets : ItemMeets outs_below store item part
    part_below : IsHeapBelow counter part

  nothing_below : IsHeapBelow counter empty
  nothing_below k v at = no_value v (sym (get-empty key_cmp k) ∙ at)

  use_read : (u : PurePredUse) (l m : LogicState) (ins outs : List PureValue) → evaluate_all u.ins store ≡ Ok ins → evaluate_all u.outs store ≡ Ok outs → (o : Option Core) → core_of u.pred ≡ o
      → with_use o u.pred ins outs l ≡ Some m → IsLogicBelow counter m → IsRead (uses u) l
  use_read u l m ins outs ins_are outs_are (Some core) named is below =
      let (e, (entry, (lacks, next))) = key_added (entry_of core (ins ++ outs)) l m is in
      record {
        before = below_key l m e.0 e.1 lacks next below;
        part = one_key e.0 e.1;
        meets = record {
          ins = ins;
          outs = outs;
          ins_are = ins_are;
          outs_are = outs_are;
          holds_there = subst (λ o. UseHolds outs_below o u.pred ins outs (one_key e.0 e.1)) (sym named)
              (ap (λ o. option_map (λ x. one_key x.0 x.1) (entry_named o (ins ++ outs))) named ∙ ap (option_map (λ x. one_key x.0 x.1)) entry);
        };
        part_below = one_below m l e.0 e.1 next below;
      }
  use_read u l m ins outs ins_are outs_are None named is below =
      let (before, outs_hold) = below_fact l m (record { pred = u.pred; ins = ins; outs = outs }) (sym (same_some is)) below in
      record {
        before = before;
        part = empty;
        meets = record {
          ins = ins;
          outs = outs;
          ins_are = ins_are;
          outs_are = outs_are;
          holds_there = subst (λ o. UseHolds outs_below o u.pred ins outs empty) (sym named) outs_hold;
        };
        part_below = nothing_below;
      }

  item_read : (item : PureItem) (l m : LogicState) → with_item store item l ≡ Some m → IsLogicBelow counter m → IsRead item l
  item_read (pure e) l m is below =
      let (holds, same) = true_there store (evaluate e store) l m is in
      record { before = subst (IsLogicBelow counter) (sym same) below; part = empty; meets = (holds, refl); part_below = nothing_below }
  item_read (uses u) l m is below = by (evaluate_all u.ins store) (evaluate_all u.outs store) refl refl is
    where
      by : (ins outs : _) → evaluate_all u.ins store ≡ ins → evaluate_all u.outs store ≡ outs → with_values u.pred ins outs l ≡ Some m → IsRead (uses u) l
      by (Ok ins) (Ok outs) ins_are outs_are found = use_read u l m ins outs ins_are outs_are (core_of u.pred) refl found below
      by (Ok ins) (Err f) ins_are outs_are found = no_value m found
      by (Err f) outs ins_are outs_are found = no_value m found

  -- ---- all items

  module _ (memory : MemoryName) (scope : Scope) where
    abbrev IsKnownAfter : List PureItem → Type 0
    IsKnownAfter items = KnownHold Below (known_after (known_at_first scope) items) store

    all_read : (before items : List PureItem) (l m : LogicState) → is_well_made_assertion items ≡ true → items_fault memory scope before items ≡ None → added store items l ≡ Some m → IsLogicBelow counter m
        → IsLogicBelow counter l × (IsKnownAfter before → IsKnownAfter (before ++ items))
    all_read before [] l m made none is below = (subst (IsLogicBelow counter) (sym (same_some is)) below, λ known. subst IsKnownAfter (sym (append-nil before)) known)
    all_read before (item ∷ items) l m made none is below =
        let (k, (here, there)) = step_there store item items l m is in
        let (fault_here, fault_there) = either_parts (item_fault memory scope (known_after (known_at_first scope) before) item) (items_fault memory scope (before ++ item ∷ []) items) none in
        let (made_here, made_there) = and_parts (list_all is_well_made_expr (exprs_of_item item)) (is_well_made_assertion items) made in
        let (below_k, later) = all_read (before ++ item ∷ []) items k m made_there fault_there there below in
        let read = item_read item l k here below_k in
        let meets : Meets outs_below store (item ∷ []) read.part = (read.part, (empty, (union_with_none read.part, (read.meets, refl)))) in
        let fault : items_fault memory scope before (item ∷ []) ≡ None = ap (λ o. either o None) fault_here in
        let made_one : is_well_made_assertion (item ∷ []) ≡ true = ap (λ b. b && true) made_here in (
          read.before,
          λ known.
              subst IsKnownAfter (append_assoc before (item ∷ []) items)
              (later (items_hold Below scope store memory outs_below sound before (item ∷ []) read.part made_one fault known meets read.part_below)),
        )

pub adding_invents_nothing : AddingInventsNothing
adding_invents_nothing memory scope items t l m counter made none is below first x w named at =
    (all_read counter t memory scope [] items l m made none is below).1 (λ y u known value. first y u known value) x w (or_left (named_by_items items x) (known_at_first scope x) named) at
