-- The core predicate of a key that is missed fixes it, where the larger heap has the key.
use Rattle.std.proofs.Common.{◌≡◌, inl, ℕ, List, [], ◌∷◌, ◌++◌, length, Bool, true, false, not, if◌then◌else◌, Option, Some, None, Result, Ok, Err, IsTrue, refl, sym, ap, subst, ◌∙◌}
use Rattle.std.specs.FinMap.{contains_key}
use Rattle.gil_values.specs.Pure.{PureValue, symbol, text, integer, boolean}
use Rattle.core_changes.proofs.EntryLaws.{entry_at}
use Rattle.core_uses.specs.Uses.{outs_at, fix_of}
use Rattle.core_uses.proofs.ListingLaws.{by_name, key_parts, numbers}
use Rattle.mem_model.specs.declared.keys.Key.{Key}
use Rattle.mem_model.specs.declared.keys.MemoryName.{MemoryName}
use Rattle.mem_model.specs.declared.keys.Sub.TheVariants.{Gone}
use Rattle.mem_model.specs.CoreNames.{outs_of}
use Rattle.mem_model.specs.declared.failures.Failure.{Failure}
use Rattle.mem_model.specs.Actions.{Actions, ActionResult, IsDone, MissesWhatLacks}
use Rattle.mem_model.specs.Pure.{miss}
use Rattle.mem_model.specs.Tables.{does, read_or_fail, first_missing, missed_or, disposed, dispose_whole}
use Rattle.mem_model.specs.Heaps.{Heap, Holds, HasKey, IsHeapOf}
use Rattle.mem_model.specs.Keys.{key}
use Rattle.mem_model.proofs.CoreLaws.{cores_stand_for_keys}
use Rattle.mem_model.proofs.Joins.{value_at}
use Rattle.pure_terms.specs.declared.variables.Sort.{Sort}
use Rattle.pure_terms.specs.Meaning.{value, values, both}
use Rattle.pure_terms.specs.Pure.{PureTerm, from_list}
use Rattle.sym_chunks.proofs.Facts.{keys_equal, name_from, cell_from}
use Rattle.sym_model.specs.Cores.{core_of_sub, IsSubOf}
use Rattle.sym_model.specs.Fixing.{HaveSorts, IsFixFor, MissesAndIsDone, IsFixOf, FixLaw, FixesNarrowly}
use Rattle.sym_model.specs.Lists.{Each, IsAmong}
use Rattle.sym_model.specs.Meaning.{sub_value, key_value}
use Rattle.sym_model.specs.Pure.{PureSub, named, cell, shape, bound, dom, proto, gone, sub_terms, PureKey}
use Rattle.sym_model.proofs.ListLaws.{same_some, not_none, each_is_among}

module _ (v : List PureValue) where
  one_have : (l : PureTerm) (a : PureValue) → value v l ≡ Some a → values v (from_list (l ∷ [])) ≡ Some (a ∷ [])
  one_have l a is = ap (λ o. both o (Some [])) is

  two_have : (l p : PureTerm) (a b : PureValue) → value v l ≡ Some a → value v p ≡ Some b → values v (from_list (l ∷ p ∷ [])) ≡ Some (a ∷ b ∷ [])
  two_have l p a b first second = (λ i. both (first i) (one_have p b second i))

  -- the terms of a key that stands for one have values
  pub ins_have : (l : PureTerm) (s : PureSub) (k : Key) → key_value v l s ≡ Some k → (ws : List PureValue) × (values v (from_list (l ∷ sub_terms s)) ≡ Some ws)
  ins_have l (named p) k is =
      let parts = key_parts v l (named p) k is in
      let (n, (has, e)) = name_from v (value v p) k.sub parts.sub in
      (symbol k.loc ∷ text n ∷ [], two_have l p (symbol k.loc) (text n) parts.at has)
  ins_have l (cell p) k is =
      let parts = key_parts v l (cell p) k is in
      let (n, (has, e)) = cell_from v (value v p) k.sub parts.sub in
      (symbol k.loc ∷ integer n ∷ [], two_have l p (symbol k.loc) (integer n) parts.at has)
  ins_have l shape k is = (symbol k.loc ∷ [], one_have l (symbol k.loc) (key_parts v l shape k is).at)
  ins_have l bound k is = (symbol k.loc ∷ [], one_have l (symbol k.loc) (key_parts v l bound k is).at)
  ins_have l dom k is = (symbol k.loc ∷ [], one_have l (symbol k.loc) (key_parts v l dom k is).at)
  ins_have l proto k is = (symbol k.loc ∷ [], one_have l (symbol k.loc) (key_parts v l proto k is).at)
  ins_have l gone k is = (symbol k.loc ∷ [], one_have l (symbol k.loc) (key_parts v l gone k is).at)

  any_sorts : (s : PureSub) (w : PureValue) → HaveSorts (outs_at s Sort.Any) (outs_at s w)
  any_sorts (named p) w = (refl, tt)
  any_sorts (cell p) w = (refl, tt)
  any_sorts shape w = (refl, tt)
  any_sorts bound w = (refl, tt)
  any_sorts dom w = (refl, tt)
  any_sorts proto w = (refl, tt)
  any_sorts gone w = tt

  module _ (memory : MemoryName) (at : PureKey) (k : Key) (h larger : Heap) (is : key_value v at.loc at.sub ≡ Some k) (is_heap : IsHeapOf memory larger) where
    gone_true : (w : PureValue) → Holds larger k w → at.sub ≡ gone → w ≡ boolean true
    gone_true w held e =
        let sub_is : k.sub ≡ Gone = same_some (sym (key_parts v at.loc at.sub k is).sub ∙ ap (sub_value v) e) in
        is_heap.well_formed.gone_is_true k.loc w (subst (λ r. Holds larger r w) (keys_equal k k.loc Gone refl sub_is) held)

    pub key_fixed : ¬ HasKey h k → HasKey larger k → IsFixFor v h larger (fix_of at)
    key_fixed lacks has =
        let (w, held) = value_at larger k has in
        let (ws, have) = ins_have at.loc at.sub k is in
        record {
          ws = ws;
          have = have;
          us = outs_at at.sub w;
          of_sorts = any_sorts at.sub w;
          k = k;
          w = w;
          entry = by_name (core_of_sub at.sub) (ws ++ outs_at at.sub w) ∙ entry_at v at.loc at.sub k w ws have is (gone_true w held);
          holds = held;
          lacks = lacks;
        }

sorts_number : (s : PureSub) → length (outs_at s Sort.Any) ≡ outs_of (core_of_sub s)
sorts_number (named p) = refl
sorts_number (cell p) = refl
sorts_number shape = refl
sorts_number bound = refl
sorts_number dom = refl
sorts_number proto = refl
sorts_number gone = refl

-- the fix is one of the memory's core predicates
pub fix_uses : (memory : MemoryName) (at : PureKey) → IsSubOf memory at.sub → IsFixOf memory at (fix_of at)
fix_uses memory at has = record {
  core = core_of_sub at.sub;
  of_memory = record { named = (cores_stand_for_keys (core_of_sub at.sub)).named; has = has };
  ins = (numbers at.sub at.loc at.loc).0;
  outs = sorts_number at.sub;
  among = each_is_among (at.loc ∷ sub_terms at.sub);
  later_ins = sub_terms at.sub;
  loc_first = refl;
}

-- ---- what is missed

pub same_missed : {q k : Key} → miss q ≡ miss k → q ≡ k
same_missed e = cc

missed_first : (h larger : Heap) (k q : Key) (ks : List Key) (b c : Bool) → contains_key larger q ≡ c → (first_missing h ks ≡ Some k → first_missing larger ks ≡ None → HasKey larger k)
    → (if not b then Some q else first_missing h ks) ≡ Some k → (if not c then Some q else first_missing larger ks) ≡ None → HasKey larger k
missed_first h larger k q ks b false has later missed none = not_none (sym none)
missed_first h larger k q ks true true has later missed none = later missed none
missed_first h larger k q ks false true has later missed none = subst (HasKey larger) (same_some missed) has

-- of keys that a larger heap has all, it has the one that is missed
pub missed_found : (h larger : Heap) (k : Key) (ks : List Key) → first_missing h ks ≡ Some k → first_missing larger ks ≡ None → HasKey larger k
missed_found h larger k [] missed none = not_none missed
missed_found h larger k (q ∷ ks) missed none = missed_first h larger k q ks (contains_key h q) (contains_key larger q) refl (missed_found h larger k ks) missed none

-- the arguments are read in the same way on both heaps
pub read_both : {X R : Type 0} (h larger : Heap) (k : Key) (x : Result X Failure) (f g : X → ActionResult) → ((v : X) → (f v).outcome ≡ miss k → IsDone (g v).outcome → R)
    → (read_or_fail x f h).outcome ≡ miss k → IsDone (read_or_fail x g larger).outcome → R
read_both h larger k (Ok v) f g is missed is_done = is v missed is_done
read_both h larger k (Err e) f g is missed is_done = absurd is_done

-- what disposing of all keys of a location comes to
pub whole_done : (l : ℕ) (ks : List Key) (h : Heap) → IsDone (dispose_whole l ks h).outcome → first_missing h ks ≡ None
whole_done l ks h is_done = by (first_missing h ks) is_done
  where
    by : (o : Option Key) → IsDone (missed_or o h (does (boolean true) (disposed l h))).outcome → o ≡ None
    by (Some k) is = absurd is
    by None is = refl

pub whole_misses : (l : ℕ) (ks : List Key) (h : Heap) (k : Key) → (dispose_whole l ks h).outcome ≡ miss k → first_missing h ks ≡ Some k
whole_misses l ks h k missed = by (first_missing h ks) missed
  where
    by : (o : Option Key) → (missed_or o h (does (boolean true) (disposed l h))).outcome ≡ miss k → o ≡ Some k
    by (Some q) is = ap Some (same_missed is)
    by None is = absurd (cc)

-- a key that is missed is lacking
pub lacks_missed : (memory : MemoryName) (m : Actions) (h larger : Heap) (k : Key) → MissesWhatLacks memory m → MissesAndIsDone memory m h larger k → ¬ HasKey h k
lacks_missed memory m h larger k lacks is =
    (lacks is.action is.fresh is.args h k is.is_heap
    (record {
      symbol_where_taken = is.may.symbol_where_taken;
      new_in_heap = λ n e (q, (w, (held, occurs))). is.may.new_in_heap n e (q, (w, (is.part q w held, occurs)));
      new_in_arguments = is.may.new_in_arguments;
    }) is.misses).0

-- where the larger heap has each key that is missed
abbrev pub FindsMissed : MemoryName → Actions → Type 0
FindsMissed memory m = (h larger : Heap) (k : Key) → MissesAndIsDone memory m h larger k → HasKey larger k

-- its core predicate is a fix
pub fix_law : (memory : MemoryName) (m : Actions) → MissesWhatLacks memory m → FindsMissed memory m → (at : PureKey) → FixLaw memory m at (fix_of at ∷ [])
fix_law memory m lacks finds at = record {
  cover = λ v k h larger is missed. inl (key_fixed v memory at k h larger is missed.larger_is_heap (lacks_missed memory m h larger k lacks missed) (finds h larger k missed));
  uses = λ has. (fix_uses memory at has, tt);
}

narrow_by : (loc : PureTerm) (s : PureSub) → FixesNarrowly (record { loc = loc; sub = s }) (fix_of (record { loc = loc; sub = s }) ∷ [])
narrow_by loc (named p) low high narrow = ((refl, (narrow.0, (narrow.1, tt)), refl), tt)
narrow_by loc (cell p) low high narrow = absurd narrow
narrow_by loc shape low high narrow = absurd narrow
narrow_by loc bound low high narrow = absurd narrow
narrow_by loc dom low high narrow = absurd narrow
narrow_by loc proto low high narrow = absurd narrow
narrow_by loc gone low high narrow = absurd narrow

pub fix_narrow : (at : PureKey) → FixesNarrowly at (fix_of at ∷ [])
fix_narrow at = narrow_by at.loc at.sub
