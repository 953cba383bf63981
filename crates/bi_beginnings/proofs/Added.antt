-- What the items of uses of core predicates are added to has a key more for each of them.
use Rattle.std.proofs.Common.{◌≡◌, ℕ, List, [], ◌∷◌, ◌++◌, map, Option, Some, None, Ok, IsSome, refl, sym, ap, subst, ◌∙◌, true≢false, append_assoc, append-nil}
use Rattle.std.specs.FinMap.{insert}
use Rattle.std.specs.Option.{option_and_then}
use Rattle.gil_values.specs.Pure.{PureValue}
use Rattle.gil_syntax.specs.Evaluation.{Store, evaluate_all}
use Rattle.gil_syntax.specs.Pure.{PurePredUse}
use Rattle.mem_model.specs.declared.cores.Core.{Core}
use Rattle.mem_model.specs.declared.keys.Key.{Key}
use Rattle.mem_model.specs.CoreNames.{core_of}
use Rattle.mem_model.specs.Cores.{core_entry, entry_named}
use Rattle.mem_model.specs.Heaps.{HasKey}
use Rattle.assert_logic.specs.Adding.{with_key, with_use, with_item, added}
use Rattle.assert_logic.specs.LogicStates.{LogicState}
use Rattle.assertion_terms.specs.Laws.{NamesValues, AreUsesOver}
use Rattle.assertion_terms.specs.Named.{expr_of, use_item, assertion_of}
use Rattle.assertion_terms.proofs.Evaluated.{all_same, ok_to_some}
use Rattle.pure_terms.specs.declared.variables.Sort.{Sort}
use Rattle.pure_terms.specs.Meaning.{values, IsOver}
use Rattle.pure_terms.specs.Pure.{PureTerm, from_list}
use Rattle.sym_model.specs.Listing.{IsUse, AreUnion}
use Rattle.sym_model.specs.Pure.{PureUse}
use Rattle.sym_model.specs.Terms.{AreEachOver}
use Rattle.sym_model.proofs.ListLaws.{same_some, not_none, each_left, each_right}
use Rattle.sym_states.proofs.Additions.{use_parts, IsKeyAdded, key_parts}
use Rattle.sym_states.proofs.Values.{values_append}
use Rattle.bi_beginnings.proofs.Unions.{union_with}

-- what is there after two steps is there after the first one
between : {A : Type 0} (f : A → Option A) (o : Option A) (m : A) → option_and_then f o ≡ Some m → (n : A) × ((o ≡ Some n) × (f n ≡ Some m))
between f (Some n) m is = (n, (refl, is))
between f None m is = not_none is

-- a use of a core predicate adds a key
core_key : (o : Option Core) (name : List ℕ) (ws us : List PureValue) (l m : LogicState) → IsSome o → with_use o name ws us l ≡ Some m → with_key (entry_named o (ws ++ us)) l ≡ Some m
core_key (Some core) name ws us l m there is = is
core_key None name ws us l m there is = absurd (true≢false (sym there))

module _ (vars : List Sort) (names : List (List ℕ)) (v : List PureValue) (store : Store) (have : NamesValues vars names v store) where
  read : (ts : List PureTerm) (ws : List PureValue) → AreEachOver vars ts → evaluate_all (map (expr_of names) ts) store ≡ Ok ws → values v (from_list ts) ≡ Some ws
  read ts ws over are = sym (all_same vars names v store have ts over) ∙ ok_to_some (evaluate_all (map (expr_of names) ts) store) ws are

  -- the second state has one key more than the first, which lacks it: that of the use
  record IsUseAdded (u : PureUse) (l m : LogicState) : Type 0 where
    k : Key
    w : PureValue
    used : IsUse v u k w
    lacks : ¬ HasKey l.heap k
    heap : m.heap ≡ insert l.heap k w

  use_added : (u : PureUse) (l m : LogicState) → IsSome (core_of u.core) → AreEachOver vars (u.ins ++ u.outs) → with_item store (use_item names u) l ≡ Some m → IsUseAdded u l m
  use_added u l m core over is =
      let item : PurePredUse = record { pred = u.core; ins = map (expr_of names) u.ins; outs = map (expr_of names) u.outs } in
      let (ws, (us, (ins_are, outs_are, here))) = use_parts item l m (evaluate_all (map (expr_of names) u.ins) store) (evaluate_all (map (expr_of names) u.outs) store) is in
      let ins = read u.ins ws (each_left (IsOver vars) u.ins u.outs over) ins_are in
      let outs = read u.outs us (each_right (IsOver vars) u.ins u.outs over) outs_are in
      let a : IsKeyAdded l m (core_entry u.core (ws ++ us)) = key_parts l m (core_entry u.core (ws ++ us)) (core_key (core_of u.core) u.core ws us l m core here) in
      record {
        k = a.k;
        w = a.w;
        used = record { ws = ws ++ us; have = values_append v u.ins u.outs ws us ins outs; entry = a.entry };
        lacks = a.lacks;
        heap = ap (λ (x : LogicState). x.heap) a.is;
      }

  -- what the items of uses come to has the heap that the uses say, beside those that were added before
  pub uses_added : (before us : List PureUse) (l m : LogicState) → AreUsesOver vars us → AreUnion v before l.heap → added store (assertion_of names us []) l ≡ Some m → AreUnion v (before ++ us) m.heap
  uses_added before [] l m over union is =
      subst (λ (x : LogicState). AreUnion v (before ++ []) x.heap) (same_some is) (subst (λ (us : List PureUse). AreUnion v us l.heap) (sym (append-nil before)) union)
  uses_added before (u ∷ us) l m over union is =
      let (n, (here, later)) = between (added store (assertion_of names us [])) (with_item store (use_item names u) l) m is in
      let one : IsUseAdded u l n = use_added u l n over.0.0 over.0.1 here in
      let now : AreUnion v (before ++ u ∷ []) n.heap = subst (AreUnion v (before ++ u ∷ [])) (sym one.heap) (union_with v before u l.heap one.k one.w union one.lacks one.used) in
      subst (λ (all : List PureUse). AreUnion v all m.heap) (append_assoc before (u ∷ []) us) (uses_added (before ++ u ∷ []) us n m over.1 now later)
