-- Adding items on plain values, taken apart and put together.
use Rattle.std.proofs.Common.{◌≡◌, ℕ, List, [], ◌∷◌, ◌++◌, Bool, true, false, cond, Option, Some, None, Ok, Err, refl, sym, ap, subst, ◌∙◌, true≢false}
use Rattle.std.specs.Option.{option_and_then}
use Rattle.std.specs.FinMap.{insert, contains_key}
use Rattle.gil_values.specs.Pure.{PureValue, boolean}
use Rattle.gil_values.specs.Operators.{Outcome}
use Rattle.gil_syntax.specs.Evaluation.{Store, Outcomes, evaluate, evaluate_all}
use Rattle.gil_syntax.specs.Pure.{PurePredUse, PureItem, pure, uses}
use Rattle.mem_model.specs.declared.cores.Core.{Core}
use Rattle.mem_model.specs.declared.keys.Key.{Key}
use Rattle.mem_model.specs.declared.keys.MemoryName.{MemoryName}
use Rattle.mem_model.specs.CoreNames.{core_of}
use Rattle.mem_model.specs.Cores.{entry_of}
use Rattle.mem_model.specs.Heaps.{HasKey, IsHeapOf}
use Rattle.mem_model.proofs.CoreLaws.{one_key_more_is_heap}
use Rattle.assert_logic.specs.Adding.{where_true, with_key, with_use, with_values, with_item, added}
use Rattle.assert_logic.specs.LogicStates.{LogicState}
use Rattle.assert_logic.proofs.AddingLaws.{lacking}
use Rattle.sym_model.proofs.ListLaws.{same_some, not_none}

-- ---- pure items

pub true_parts : (l m : LogicState) (o : Outcome) → where_true o l ≡ Some m → (o ≡ Ok (boolean true)) × (l ≡ m)
true_parts l m (Ok (boolean true)) is = (refl, same_some is)
true_parts l m _ is = not_none is

-- ---- uses

pub use_parts : (u : PurePredUse) (l m : LogicState) (first second : Outcomes) → with_values u.pred first second l ≡ Some m
    → (ws : List PureValue) × ((us : List PureValue) × ((first ≡ Ok ws) × (second ≡ Ok us) × (with_use (core_of u.pred) u.pred ws us l ≡ Some m)))
use_parts u l m (Ok ws) (Ok us) is = (ws, (us, (refl, refl, is)))
use_parts u l m (Ok ws) (Err f) is = not_none is
use_parts u l m (Err f) second is = not_none is

pub use_is : (t : Store) (u : PurePredUse) (l : LogicState) (ws us : List PureValue) → evaluate_all u.ins t ≡ Ok ws → evaluate_all u.outs t ≡ Ok us
    → with_item t (uses u) l ≡ with_use (core_of u.pred) u.pred ws us l
use_is t u l ws us ins outs = λ i. with_values u.pred (ins i) (outs i) l

-- the second state has one key more than the first, which lacks it
pub record IsKeyAdded (l m : LogicState) (e : Option (Key × PureValue)) : Type 0 where
  pub k : Key
  pub w : PureValue
  pub entry : e ≡ Some (k, w)
  pub lacks : ¬ HasKey l.heap k
  pub is : m ≡ record l { heap = insert l.heap k w }

pub key_parts : (l m : LogicState) (e : Option (Key × PureValue)) → with_key e l ≡ Some m → IsKeyAdded l m e
key_parts l m None is = not_none is
key_parts l m (Some e) is = by (contains_key l.heap e.0) refl is
  where
    by : (b : Bool) → contains_key l.heap e.0 ≡ b → cond b None (Some (record l { heap = insert l.heap e.0 e.1 })) ≡ Some m → IsKeyAdded l m (Some e)
    by true there found = not_none found
    by false there found = record { k = e.0; w = e.1; entry = refl; lacks = λ has. true≢false (sym has ∙ there); is = sym (same_some found) }

pub key_is : (l : LogicState) (e : Option (Key × PureValue)) (k : Key) (w : PureValue) → e ≡ Some (k, w) → ¬ HasKey l.heap k
    → with_key e l ≡ Some (record l { heap = insert l.heap k w })
key_is l e k w is lacks = ap (λ o. with_key o l) is ∙ ap (λ b. cond b None (Some (record l { heap = insert l.heap k w }))) (lacking l.heap k lacks)

-- ---- what an item is added to is a heap, where what then is there is one

module _ (memory : MemoryName) where
  key_heap : (l m : LogicState) (e : Option (Key × PureValue)) → with_key e l ≡ Some m → IsHeapOf memory m.heap → IsHeapOf memory l.heap
  key_heap l m e is heap =
      let a : IsKeyAdded l m e = key_parts l m e is in
      ((one_key_more_is_heap memory l.heap a.k a.w a.lacks).0 (subst (λ (x : LogicState). IsHeapOf memory x.heap) a.is heap)).0

  use_heap : (o : Option Core) (name : List ℕ) (ws us : List PureValue) (l m : LogicState) → with_use o name ws us l ≡ Some m → IsHeapOf memory m.heap → IsHeapOf memory l.heap
  use_heap (Some core) name ws us l m is heap = key_heap l m (entry_of core (ws ++ us)) is heap
  use_heap None name ws us l m is heap = subst (λ (x : LogicState). IsHeapOf memory x.heap) (sym (same_some is)) heap

  pub item_heap : (t : Store) (item : PureItem) (l m : LogicState) → with_item t item l ≡ Some m → IsHeapOf memory m.heap → IsHeapOf memory l.heap
  item_heap t (pure e) l m is heap = subst (λ (x : LogicState). IsHeapOf memory x.heap) (sym (true_parts l m (evaluate e t) is).1) heap
  item_heap t (uses u) l m is heap =
      let (ws, (us, (ins, outs, here))) = use_parts u l m (evaluate_all u.ins t) (evaluate_all u.outs t) is in
      use_heap (core_of u.pred) u.pred ws us l m here heap

-- ---- one item more

pub added_more : (t : Store) (items : List PureItem) (item : PureItem) (l : LogicState) → added t (items ++ item ∷ []) l ≡ option_and_then (with_item t item) (added t items l)
added_more t [] item l = by (with_item t item l)
  where
    by : (o : Option LogicState) → option_and_then (added t []) o ≡ o
    by None = refl
    by (Some m) = refl
added_more t (first ∷ items) item l = by (λ m. added_more t items item m) (with_item t first l)
  where
    by : ((m : LogicState) → added t (items ++ item ∷ []) m ≡ option_and_then (with_item t item) (added t items m)) → (o : Option LogicState)
        → option_and_then (added t (items ++ item ∷ [])) o ≡ option_and_then (with_item t item) (option_and_then (added t items) o)
    by later None = refl
    by later (Some m) = later m

pub item_after : (t : Store) (item : PureItem) (m : LogicState) (o : Option LogicState) → option_and_then (with_item t item) o ≡ Some m → (k : LogicState) × ((o ≡ Some k) × (with_item t item k ≡ Some m))
item_after t item m None is = not_none is
item_after t item m (Some k) is = (k, (refl, is))
