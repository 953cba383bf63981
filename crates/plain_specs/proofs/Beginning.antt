-- The start of a contained specification's checked run is that of a run from a heap that meets the precondition.
use Rattle.std.proofs.Common.{◌≡◌, ⊎_elim, ℕ, suc, List, [], ◌∷◌, ◌++◌, length, Bool, true, false, cond, Option, Some, None, Ok, Err, slice_get, refl, sym, ap, subst, ◌∙◌, true≢false, arith}
use Rattle.std.specs.List.{list_all}
use Rattle.std.specs.Option.{option_map, option_and_then}
use Rattle.std.specs.FinMap.{empty, insert, contains_key}
use Rattle.std.proofs.lemmas.Bool.{and_parts}
use Rattle.gil_values.specs.Pure.{PureValue, boolean}
use Rattle.gil_values.specs.Operators.{Outcome}
use Rattle.gil_values.specs.Symbols.{IsBelow}
use Rattle.gil_syntax.specs.Evaluation.{Store, Outcomes, value_of, evaluate, evaluate_all}
use Rattle.gil_syntax.specs.Programs.{find_proc, find_spec}
use Rattle.gil_syntax.specs.Pure.{PureItem, pure, uses, PurePredUse, PurePredDef, PureSpec, PureParts}
use Rattle.gil_syntax.specs.Valid.{param_names, IsValid}
use Rattle.gil_syntax.specs.WellMade.{is_well_made}
use Rattle.gil_syntax.proofs.Symbols.{HoldsOfAll, each_of_all}
use Rattle.gil_machine.proofs.Proper.{Below}
use Rattle.gil_machine.specs.Proper.{IsStoreBelow}
use Rattle.gil_machine.specs.Run.{params_of, start, IsProperStart}
use Rattle.gil_machine.specs.Step.{bind_all}
use Rattle.mem_model.specs.declared.cores.Core.{Core}
use Rattle.mem_model.specs.declared.keys.Key.{Key}
use Rattle.mem_model.specs.declared.keys.MemoryName.{MemoryName}
use Rattle.mem_model.specs.declared.keys.MemoryName.TheVariants.{Record}
use Rattle.mem_model.specs.Actions.{Actions}
use Rattle.mem_model.specs.CoreNames.{core_of}
use Rattle.mem_model.specs.Cores.{entry_of, entry_named, one_key}
use Rattle.mem_model.specs.Heaps.{Heap, HasKey}
use Rattle.mem_model.proofs.CoreLaws.{one_key_more_is_union}
use Rattle.mem_model.proofs.Holding.{held_inserted}
use Rattle.mem_model.proofs.Joins.{value_at, has_key}
use Rattle.mem_model.proofs.Parts.{no_key}
use Rattle.addable_programs.proofs.AddableLaws.{programs_are_addable}
use Rattle.assert_logic.specs.Adding.{where_true, with_key, with_use, with_values, with_item, added}
use Rattle.assert_logic.specs.Laws.{is_core_use, is_core_item}
use Rattle.assert_logic.specs.LogicStates.{LogicState, nothing}
use Rattle.assert_logic.specs.Meets.{UseHolds, ItemMeets, Meets, HoldsSomewhere}
use Rattle.assert_logic.specs.Modes.{HasModes}
use Rattle.assert_logic.specs.Unions.{IsUnion}
use Rattle.assert_logic.proofs.UnionLaws.{union_with_none, only_second, ungrouped}
use Rattle.checked_runs.specs.Checked.{Checked, IsStart, IsAbove}
use Rattle.checked_runs.specs.Specifications.{IsEntry, entry_store}
use Rattle.checked_runs.proofs.Stores.{fit_length, args_agree, good_spec}
use Rattle.plain_specs.specs.Contained.{IsContained}
use Rattle.plain_specs.proofs.Frames.{same_some, no_value}

-- ---- what is added meets

-- what was added to a state: a part beside it that meets the items
pub record IsMet (preds : List PurePredDef) (store : Store) (items : List PureItem) (l m : LogicState) : Type 0 where
  pub same_facts : m.facts ≡ l.facts
  pub part : Heap
  pub union : IsUnion m.heap l.heap part
  pub meets : Meets (HoldsSomewhere preds) store items part

with_key_is_union : (h : Heap) (k : Key) (w : PureValue) → contains_key h k ≡ false → IsUnion (insert h k w) h (one_key k w)
with_key_is_union h k w lacks = record {
  disjoint = λ q here there.
      let (v, at) = value_at (one_key k w) q there in
      ⊎_elim (λ (same : (q ≡ k) × (v ≡ w)). true≢false (sym (subst (HasKey h) same.0 here) ∙ lacks)) (λ other. no_key q (has_key empty q v other.1)) (held_inserted empty k q w v at);
  union = (one_key_more_is_union Record h k w).union (λ has. true≢false (sym has ∙ lacks));
}

module _ (preds : List PurePredDef) (store : Store) where
  true_there : (o : Outcome) (l m : LogicState) → where_true o l ≡ Some m → (o ≡ Ok (boolean true)) × (l ≡ m)
  true_there (Ok (boolean true)) l m is = (refl, cc)
  true_there _ l m is = absurd (cc)

  nothing_more : (l m : LogicState) → l ≡ m → IsMet preds store [] l m
  nothing_more l m same = record { same_facts = ap (λ (x : LogicState). x.facts) (sym same); part = empty; union = subst (λ (x : LogicState). IsUnion x.heap l.heap empty) same (union_with_none l.heap); meets = refl }

  record IsMetBy (item : PureItem) (l m : LogicState) : Type 0 where
    same_facts : m.facts ≡ l.facts
    part : Heap
    union : IsUnion m.heap l.heap part
    meets : ItemMeets (HoldsSomewhere preds) store item part

  key_met : (u : PurePredUse) (ins outs : List PureValue) (core : Core) → core_of u.pred ≡ Some core → evaluate_all u.ins store ≡ Ok ins → evaluate_all u.outs store ≡ Ok outs
      → (l m : LogicState) (o : Option (Key × PureValue)) → entry_of core (ins ++ outs) ≡ o → with_key o l ≡ Some m → IsMetBy (uses u) l m
  key_met u ins outs core named ins_are outs_are l m None entry is = no_value m is
  key_met u ins outs core named ins_are outs_are l m (Some e) entry is = by (contains_key l.heap e.0) refl is
    where
      by : (b : Bool) → contains_key l.heap e.0 ≡ b → cond b None (Some (record l { heap = insert l.heap e.0 e.1 })) ≡ Some m → IsMetBy (uses u) l m
      by true there found = no_value m found
      by false lacks found = record {
        same_facts = ap (λ (x : LogicState). x.facts) (sym (same_some found));
        part = one_key e.0 e.1;
        union = subst (λ (x : LogicState). IsUnion x.heap l.heap (one_key e.0 e.1)) (same_some found) (with_key_is_union l.heap e.0 e.1 lacks);
        meets = record {
          ins = ins;
          outs = outs;
          ins_are = ins_are;
          outs_are = outs_are;
          holds_there = subst (λ o. UseHolds (HoldsSomewhere preds) o u.pred ins outs (one_key e.0 e.1)) (sym named)
              (ap (λ o. option_map (λ x. one_key x.0 x.1) (entry_named o (ins ++ outs))) named ∙ ap (option_map (λ x. one_key x.0 x.1)) entry);
        };
      }

  use_met : (u : PurePredUse) (ins outs : List PureValue) (o : Option Core) → core_of u.pred ≡ o → is_core_use o u ≡ true → evaluate_all u.ins store ≡ Ok ins → evaluate_all u.outs store ≡ Ok outs
      → (l m : LogicState) → with_use o u.pred ins outs l ≡ Some m → IsMetBy (uses u) l m
  use_met u ins outs None named core ins_are outs_are l m is = absurd (true≢false (sym core))
  use_met u ins outs (Some core) named is_core ins_are outs_are l m is = key_met u ins outs core named ins_are outs_are l m (entry_of core (ins ++ outs)) refl is

  item_met : (item : PureItem) → is_core_item item ≡ true → (l m : LogicState) → with_item store item l ≡ Some m → IsMetBy item l m
  item_met (pure e) core l m is =
      let (holds, same) = true_there (evaluate e store) l m is in
      record { same_facts = ap (λ (x : LogicState). x.facts) (sym same); part = empty; union = subst (λ (x : LogicState). IsUnion x.heap l.heap empty) same (union_with_none l.heap); meets = (holds, refl) }
  item_met (uses u) core l m is = by (evaluate_all u.ins store) (evaluate_all u.outs store) refl refl is
    where
      by : (ins outs : Outcomes) → evaluate_all u.ins store ≡ ins → evaluate_all u.outs store ≡ outs → with_values u.pred ins outs l ≡ Some m → IsMetBy (uses u) l m
      by (Ok ins) (Ok outs) ins_are outs_are found = use_met u ins outs (core_of u.pred) refl core ins_are outs_are l m found
      by (Ok ins) (Err f) ins_are outs_are found = no_value m found
      by (Err f) outs ins_are outs_are found = no_value m found

  first_then : (item : PureItem) (items : List PureItem) (l m : LogicState) → added store (item ∷ items) l ≡ Some m → (k : LogicState) × ((with_item store item l ≡ Some k) × (added store items k ≡ Some m))
  first_then item items l m is = by (with_item store item l) refl is
    where
      by : (o : Option LogicState) → with_item store item l ≡ o → option_and_then (added store items) o ≡ Some m → (k : LogicState) × ((with_item store item l ≡ Some k) × (added store items k ≡ Some m))
      by (Some k) here there = (k, (here, there))
      by None here there = no_value m there

  pub items_met : (items : List PureItem) → list_all is_core_item items ≡ true → (l m : LogicState) → added store items l ≡ Some m → IsMet preds store items l m
  items_met [] core l m is = nothing_more l m (same_some is)
  items_met (item ∷ items) core l m is =
      let (here, there) = and_parts (is_core_item item) (list_all is_core_item items) core in
      let (k, (one, rest)) = first_then item items l m is in
      let first = item_met item here l k one in
      let later = items_met items there k m rest in
      let (e, (parts, whole)) = ungrouped m.heap k.heap later.part l.heap first.part later.union first.union in
      record {
        same_facts = later.same_facts ∙ first.same_facts;
        part = e;
        union = whole;
        meets = (first.part, (later.part, (parts, (first.meets, later.meets))));
      }

-- ---- the start

-- each argument is below what the store that binds it is below
args_below : (c : ℕ) (xs : List (List ℕ)) (vs : List PureValue) → length xs ≡ length vs → ((i : ℕ) (x : List ℕ) (v : PureValue) → slice_get xs i ≡ Some x → slice_get vs i ≡ Some v → IsBelow c v) → HoldsOfAll (Below c) vs
args_below c xs [] as_many each = tt
args_below c [] (v ∷ vs) as_many each = absurd (omega (arith, as_many))
args_below c (x ∷ xs) (v ∷ vs) as_many each = (each 0 x v refl refl, args_below c xs vs (omega (arith, as_many)) (λ i y w name value. each (suc i) y w name value))

-- The run begins from a heap that meets the precondition, without facts.
pub record BeginsAlone (p : PureParts) (memory : MemoryName) (s : PureSpec) (args : List PureValue) (variables : Store) (c : Checked) : Type 0 where
  pub entered : IsEntry s args variables
  pub heap : Heap
  pub counter : ℕ
  pub machine : c.machine ≡ start p s.name args heap counter
  pub no_facts : c.facts ≡ []
  pub meets : Meets (HoldsSomewhere p.preds) (entry_store s args variables) s.pre heap
  pub proper : IsProperStart p memory s.name args heap counter
  pub variables_below : IsStoreBelow counter variables

module _ (p : PureParts) (memory : MemoryName) (m : Actions) (made : is_well_made p ≡ true) (valid : IsValid p) (modes : HasModes p memory)
    (s : PureSpec) (found : find_spec p.specs s.name ≡ Some s) (contained : IsContained p s) (args : List PureValue) (variables : Store) where
  pub begins_alone : (c : Checked) → IsStart p memory m (record { spec = s; args = args; variables = variables }) c → BeginsAlone p memory s args variables c
  begins_alone c st =
      let good = good_spec p memory s.name s made valid modes found in
      let added_so = items_met p.preds (entry_store s args variables) s.pre contained.core_precondition nothing st.state st.adding.added_is in
      let same_heap : st.state.heap ≡ added_so.part = only_second st.state.heap empty added_so.part added_so.union refl in
      let above = subst IsAbove st.is_start st.above in
      let (q, (is_proc, params)) = (programs_are_addable p memory made valid modes).procs s s.name found in
      let as_many = fit_length s.params args st.entered.arguments_fit in
      let bound : params_of (find_proc p.procs s.name) ≡ param_names s.params = ap params_of is_proc ∙ params in
      let below : HoldsOfAll (Below st.counter) args = args_below st.counter (param_names s.params) args as_many (λ i x v name value.
      above.current_below x v (ap (λ xs. value_of (bind_all xs args) x) bound ∙ args_agree (param_names s.params) args good.distinct i x v name value)) in
      record {
        entered = st.entered;
        heap = st.state.heap;
        counter = st.counter;
        machine = ap (λ (x : Checked). x.machine) st.is_start;
        no_facts = ap (λ (x : Checked). x.facts) st.is_start ∙ added_so.same_facts;
        meets = subst (Meets (HoldsSomewhere p.preds) (entry_store s args variables) s.pre) (sym same_heap) added_so.meets;
        proper = record {
          procedure = (q, (is_proc, ap length params ∙ as_many));
          heap = st.adding.well_formed;
          arguments_below = each_of_all (Below st.counter) args below;
          heap_below = above.heap_below;
        };
        variables_below = st.variables_below;
      }
