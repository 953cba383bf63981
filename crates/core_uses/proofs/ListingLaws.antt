-- Chunks and the uses that list them stand for the same heaps.
use Rattle.std.proofs.Common.{◌≡◌, ◌⊎◌, ◌↔◌, ⊎_elim, inl, inr, ℕ, ◌+◌, ℤ, List, [], ◌∷◌, ◌++◌, map, length, true, Option, Some, None, IsTrue, Result, Ok, Err, IfOk, refl, sym, ap, subst, ◌∙◌}
use Rattle.std.specs.FinMap.{remove, empty}
use Rattle.gil_values.specs.Pure.{PureValue, symbol, text, integer, boolean}
use Rattle.mem_model.specs.declared.cores.Core.{Core}
use Rattle.mem_model.specs.declared.keys.Key.{Key}
use Rattle.mem_model.specs.declared.keys.MemoryName.{MemoryName}
use Rattle.mem_model.specs.declared.keys.Sub.{Sub}
use Rattle.mem_model.specs.declared.keys.Sub.TheVariants.{Name, At, Shape, Bound, Dom, Proto, Gone}
use Rattle.mem_model.specs.CoreNames.{core_of, core_name, ins_of, outs_of, has_core}
use Rattle.mem_model.specs.Cores.{entry_of, entry_named, core_entry}
use Rattle.mem_model.specs.Heaps.{Heap, Holds, IsHeapOf}
use Rattle.mem_model.specs.Keys.{key}
use Rattle.mem_model.proofs.CoreLaws.{cores_stand_for_keys}
use Rattle.mem_model.proofs.Holding.{held_removed}
use Rattle.pure_terms.specs.declared.literals.Literal.{Literal}
use Rattle.pure_terms.specs.Meaning.{value, values, both}
use Rattle.pure_terms.specs.Pure.{PureTerm, literal, from_list}
use Rattle.sym_model.specs.Chunks.{IsEntry, IsUnion, StandFor, placed_in, value_where_described, value_where_held, terms_of}
use Rattle.sym_model.specs.Cores.{core_of_sub, IsSubOf, IsCoreOf, TakesBoth}
use Rattle.sym_model.specs.Listing.{IsUse, AreUnion, IsListing}
use Rattle.sym_model.specs.Lists.{Each, OneOf, IsAmong}
use Rattle.sym_model.specs.Meaning.{location_of, name_of, cell_of, sub_value, key_of, key_value}
use Rattle.sym_model.specs.Pure.{PureSub, named, cell, shape, bound, dom, proto, gone, sub_terms, PureChunk, PureUse}
use Rattle.sym_model.specs.Terms.{all_of}
use Rattle.sym_model.proofs.Asking.{both_parts}
use Rattle.sym_model.proofs.ChunkMeaning.{ChunkTerms, chunk_val, chunk_by_chunk}
use Rattle.sym_model.proofs.ListLaws.{same_some, not_none, each_is_among, each_append, each_map, each_to}
use Rattle.core_uses.specs.Kept.{IsKept, AreKept, ListChunks}
use Rattle.core_uses.specs.Uses.{outs_at, use_of, listed_uses}

-- ---- values of a few terms

one_value : (v : List PureValue) (s : PureTerm) (a : PureValue) → value v s ≡ Some a → values v (from_list (s ∷ [])) ≡ Some (a ∷ [])
one_value v s a is = ap (λ o. both o (Some [])) is

two_values : (v : List PureValue) (s t : PureTerm) (a b : PureValue) → value v s ≡ Some a → value v t ≡ Some b → values v (from_list (s ∷ t ∷ [])) ≡ Some (a ∷ b ∷ [])
two_values v s t a b first second = (λ i. both (first i) (one_value v t b second i))

three_values : (v : List PureValue) (s t u : PureTerm) (a b c : PureValue) → value v s ≡ Some a → value v t ≡ Some b → value v u ≡ Some c → values v (from_list (s ∷ t ∷ u ∷ [])) ≡ Some (a ∷ b ∷ c ∷ [])
three_values v s t u a b c first second third = (λ i. both (first i) (two_values v t u b c second third i))

pub record One (v : List PureValue) (s : PureTerm) (ws : List PureValue) : Type 0 where
  pub a : PureValue
  pub is : value v s ≡ Some a
  pub whole : ws ≡ a ∷ []

pub record Two (v : List PureValue) (s t : PureTerm) (ws : List PureValue) : Type 0 where
  pub a : PureValue
  pub b : PureValue
  pub is_a : value v s ≡ Some a
  pub is_b : value v t ≡ Some b
  pub whole : ws ≡ a ∷ b ∷ []

pub record Three (v : List PureValue) (s t u : PureTerm) (ws : List PureValue) : Type 0 where
  pub a : PureValue
  pub b : PureValue
  pub c : PureValue
  pub is_a : value v s ≡ Some a
  pub is_b : value v t ≡ Some b
  pub is_c : value v u ≡ Some c
  pub whole : ws ≡ a ∷ b ∷ c ∷ []

pub one_of : (v : List PureValue) (s : PureTerm) (ws : List PureValue) → values v (from_list (s ∷ [])) ≡ Some ws → One v s ws
one_of v s ws have =
    let (a, (us, (first, rest, whole))) = both_parts (value v s) (Some []) ws have in
    record { a = a; is = first; whole = whole ∙ ap (λ x. a ∷ x) (sym (same_some rest)) }

pub two_of : (v : List PureValue) (s t : PureTerm) (ws : List PureValue) → values v (from_list (s ∷ t ∷ [])) ≡ Some ws → Two v s t ws
two_of v s t ws have =
    let (a, (us, (first, rest, whole))) = both_parts (value v s) (values v (from_list (t ∷ []))) ws have in
    let second = one_of v t us rest in
    record { a = a; b = second.a; is_a = first; is_b = second.is; whole = whole ∙ ap (λ x. a ∷ x) second.whole }

pub three_of : (v : List PureValue) (s t u : PureTerm) (ws : List PureValue) → values v (from_list (s ∷ t ∷ u ∷ [])) ≡ Some ws → Three v s t u ws
three_of v s t u ws have =
    let (a, (us, (first, rest, whole))) = both_parts (value v s) (values v (from_list (t ∷ u ∷ []))) ws have in
    let more = two_of v t u us rest in
    record { a = a; b = more.a; c = more.b; is_a = first; is_b = more.is_a; is_c = more.is_b; whole = whole ∙ ap (λ x. a ∷ x) more.whole }

-- ---- a chunk and its use

-- by the name of a core predicate
pub by_name : (core : Core) (ws : List PureValue) → core_entry (core_name core) ws ≡ entry_of core ws
by_name core ws = ap (λ o. entry_named o ws) (cores_stand_for_keys core).named

module _ (v : List PureValue) where
  pub record KeyParts (o : Option PureValue) (s : Option Sub) (k : Key) : Type 0 where
    pub at : o ≡ Some (symbol k.loc)
    pub sub : s ≡ Some k.sub

  parts_by : (o : Option PureValue) (s : Option Sub) (k : Key) → key_of (location_of o) s ≡ Some k → KeyParts o s k
  parts_by (Some (symbol l)) (Some t) k is = record { at = ap (λ (q : Key). Some (symbol q.loc)) (same_some is); sub = ap (λ (q : Key). Some q.sub) (same_some is) }
  parts_by (Some (symbol l)) None k is = not_none is
  parts_by (Some w) s k is = not_none is
  parts_by None s k is = not_none is

  pub key_parts : (loc : PureTerm) (s : PureSub) (k : Key) → key_value v loc s ≡ Some k → KeyParts (value v loc) (sub_value v s) k
  key_parts loc s k is = parts_by (value v loc) (sub_value v s) k is

  name_is : (o : Option PureValue) (s : Sub) → name_of o ≡ Some s → (n : List ℕ) × ((o ≡ Some (text n)) × (Name n ≡ s))
  name_is (Some (text n)) s is = (n, (refl, same_some is))
  name_is (Some w) s is = not_none is
  name_is None s is = not_none is

  cell_is : (o : Option PureValue) (s : Sub) → cell_of o ≡ Some s → (n : ℤ) × ((o ≡ Some (integer n)) × (At n ≡ s))
  cell_is (Some (integer n)) s is = (n, (refl, same_some is))
  cell_is (Some w) s is = not_none is
  cell_is None s is = not_none is

  pair : {k q : Key} {w : PureValue} → k ≡ q → ◌≡◌ {A = Option (Key × PureValue)} (Some (k, w)) (Some (q, w))
  pair {w = w} e = ap (λ r. Some (r, w)) e

  abbrev pub UseAt : PureTerm → PureSub → PureTerm → Key → PureValue → Type 0
  UseAt loc s val k w = IsUse v (use_of (record { loc = loc; sub = s; val = val })) k w

  pub entry_use : (loc : PureTerm) (s : PureSub) (val : PureTerm) (k : Key) (w : PureValue) → KeyParts (value v loc) (sub_value v s) k → value v val ≡ Some w → (s ≡ gone → w ≡ boolean true) → UseAt loc s val k w
  entry_use loc (named p) val k w parts holds true_there =
      let (n, (is, sub)) = name_is (value v p) k.sub parts.sub in
      record { ws = symbol k.loc ∷ text n ∷ w ∷ []; have = three_values v loc p val (symbol k.loc) (text n) w parts.at is holds; entry = by_name Core.Prop (symbol k.loc ∷ text n ∷ w ∷ []) ∙ pair (ap (key k.loc) sub) }
  entry_use loc (cell i) val k w parts holds true_there =
      let (n, (is, sub)) = cell_is (value v i) k.sub parts.sub in
      record { ws = symbol k.loc ∷ integer n ∷ w ∷ []; have = three_values v loc i val (symbol k.loc) (integer n) w parts.at is holds; entry = by_name Core.Cell (symbol k.loc ∷ integer n ∷ w ∷ []) ∙ pair (ap (key k.loc) sub) }
  entry_use loc shape val k w parts holds true_there = record { ws = symbol k.loc ∷ w ∷ []; have = two_values v loc val (symbol k.loc) w parts.at holds; entry = by_name Core.Shape (symbol k.loc ∷ w ∷ []) ∙ pair (ap (key k.loc) (same_some parts.sub)) }
  entry_use loc bound val k w parts holds true_there = record { ws = symbol k.loc ∷ w ∷ []; have = two_values v loc val (symbol k.loc) w parts.at holds; entry = by_name Core.Bound (symbol k.loc ∷ w ∷ []) ∙ pair (ap (key k.loc) (same_some parts.sub)) }
  entry_use loc dom val k w parts holds true_there = record { ws = symbol k.loc ∷ w ∷ []; have = two_values v loc val (symbol k.loc) w parts.at holds; entry = by_name Core.Dom (symbol k.loc ∷ w ∷ []) ∙ pair (ap (key k.loc) (same_some parts.sub)) }
  entry_use loc proto val k w parts holds true_there = record { ws = symbol k.loc ∷ w ∷ []; have = two_values v loc val (symbol k.loc) w parts.at holds; entry = by_name Core.Proto (symbol k.loc ∷ w ∷ []) ∙ pair (ap (key k.loc) (same_some parts.sub)) }
  entry_use loc gone val k w parts holds true_there = record {
    ws = symbol k.loc ∷ [];
    have = one_value v loc (symbol k.loc) parts.at;
    entry = by_name Core.Gone (symbol k.loc ∷ []) ∙ (λ i. Some (key k.loc (same_some parts.sub i), sym (true_there refl) i));
  }

  -- ---- from the use to the chunk

  no_pair : {P : Type 0} {k : Key} {w : PureValue} → ◌≡◌ {A = Option (Key × PureValue)} None (Some (k, w)) → P
  no_pair is = not_none is

  first_of : {k q : Key} {w u : PureValue} → ◌≡◌ {A = Option (Key × PureValue)} (Some (k, w)) (Some (q, u)) → k ≡ q
  first_of is = ap (λ (e : Key × PureValue). e.0) (same_some is)

  second_of : {k q : Key} {w u : PureValue} → ◌≡◌ {A = Option (Key × PureValue)} (Some (k, w)) (Some (q, u)) → w ≡ u
  second_of is = ap (λ (e : Key × PureValue). e.1) (same_some is)

  abbrev Found : Option PureValue → Option Sub → PureValue → Key → PureValue → Type 0
  Found o s held k w = (key_of (location_of o) s ≡ Some k) × (held ≡ w)

  prop_by : (a b c : PureValue) (k : Key) (w : PureValue) → entry_of Core.Prop (a ∷ b ∷ c ∷ []) ≡ Some (k, w) → Found (Some a) (name_of (Some b)) c k w
  prop_by (symbol l) (text n) c k w is = (ap Some (first_of is), second_of is)
  prop_by (symbol l) b c k w is = no_pair is
  prop_by a b c k w is = no_pair is

  cell_by : (a b c : PureValue) (k : Key) (w : PureValue) → entry_of Core.Cell (a ∷ b ∷ c ∷ []) ≡ Some (k, w) → Found (Some a) (cell_of (Some b)) c k w
  cell_by (symbol l) (integer n) c k w is = (ap Some (first_of is), second_of is)
  cell_by (symbol l) b c k w is = no_pair is
  cell_by a b c k w is = no_pair is

  shape_by : (a c : PureValue) (k : Key) (w : PureValue) → entry_of Core.Shape (a ∷ c ∷ []) ≡ Some (k, w) → Found (Some a) (Some Shape) c k w
  shape_by (symbol l) c k w is = (ap Some (first_of is), second_of is)
  shape_by a c k w is = no_pair is

  bound_by : (a c : PureValue) (k : Key) (w : PureValue) → entry_of Core.Bound (a ∷ c ∷ []) ≡ Some (k, w) → Found (Some a) (Some Bound) c k w
  bound_by (symbol l) c k w is = (ap Some (first_of is), second_of is)
  bound_by a c k w is = no_pair is

  dom_by : (a c : PureValue) (k : Key) (w : PureValue) → entry_of Core.Dom (a ∷ c ∷ []) ≡ Some (k, w) → Found (Some a) (Some Dom) c k w
  dom_by (symbol l) c k w is = (ap Some (first_of is), second_of is)
  dom_by a c k w is = no_pair is

  proto_by : (a c : PureValue) (k : Key) (w : PureValue) → entry_of Core.Proto (a ∷ c ∷ []) ≡ Some (k, w) → Found (Some a) (Some Proto) c k w
  proto_by (symbol l) c k w is = (ap Some (first_of is), second_of is)
  proto_by a c k w is = no_pair is

  gone_by : (a : PureValue) (k : Key) (w : PureValue) → entry_of Core.Gone (a ∷ []) ≡ Some (k, w) → Found (Some a) (Some Gone) (boolean true) k w
  gone_by (symbol l) k w is = (ap Some (first_of is), second_of is)
  gone_by a k w is = no_pair is

  abbrev pub EntryAt : PureTerm → PureSub → PureTerm → Key → PureValue → Type 0
  EntryAt loc s val k w = IsEntry v (record { loc = loc; sub = s; val = val }) k w

  described : (core : Core) (s : PureSub) (t : Sub) (loc val : PureTerm) (k : Key) (w : PureValue) → sub_value v s ≡ Some t → ((a c : PureValue) → entry_of core (a ∷ c ∷ []) ≡ Some (k, w) → Found (Some a) (Some t) c k w)
      → (ws : List PureValue) → values v (from_list (loc ∷ val ∷ [])) ≡ Some ws → entry_of core ws ≡ Some (k, w) → EntryAt loc s val k w
  described core s t loc val k w sub_is by ws have entry =
      let p = two_of v loc val ws have in
      let r = by p.a p.b (sym (ap (entry_of core) p.whole) ∙ entry) in
      record { at = (λ i. key_of (location_of (p.is_a i)) (sub_is i)) ∙ r.0; holds = p.is_b ∙ ap Some r.1 }

  pub use_entry : (loc : PureTerm) (s : PureSub) (val : PureTerm) (k : Key) (w : PureValue) → (s ≡ gone → val ≡ literal (Literal.Bool true)) → UseAt loc s val k w → EntryAt loc s val k w
  use_entry loc (named n) val k w true_there u =
      let p = three_of v loc n val u.ws u.have in
      let r = prop_by p.a p.b p.c k w (sym (ap (entry_of Core.Prop) p.whole) ∙ sym (by_name Core.Prop u.ws) ∙ u.entry) in
      record { at = (λ i. key_of (location_of (p.is_a i)) (name_of (p.is_b i))) ∙ r.0; holds = p.is_c ∙ ap Some r.1 }
  use_entry loc (cell n) val k w true_there u =
      let p = three_of v loc n val u.ws u.have in
      let r = cell_by p.a p.b p.c k w (sym (ap (entry_of Core.Cell) p.whole) ∙ sym (by_name Core.Cell u.ws) ∙ u.entry) in
      record { at = (λ i. key_of (location_of (p.is_a i)) (cell_of (p.is_b i))) ∙ r.0; holds = p.is_c ∙ ap Some r.1 }
  use_entry loc shape val k w true_there u = described Core.Shape shape Shape loc val k w refl (λ a c. shape_by a c k w) u.ws u.have (sym (by_name Core.Shape u.ws) ∙ u.entry)
  use_entry loc bound val k w true_there u = described Core.Bound bound Bound loc val k w refl (λ a c. bound_by a c k w) u.ws u.have (sym (by_name Core.Bound u.ws) ∙ u.entry)
  use_entry loc dom val k w true_there u = described Core.Dom dom Dom loc val k w refl (λ a c. dom_by a c k w) u.ws u.have (sym (by_name Core.Dom u.ws) ∙ u.entry)
  use_entry loc proto val k w true_there u = described Core.Proto proto Proto loc val k w refl (λ a c. proto_by a c k w) u.ws u.have (sym (by_name Core.Proto u.ws) ∙ u.entry)
  use_entry loc gone val k w true_there u =
      let p = one_of v loc u.ws u.have in
      let r = gone_by p.a k w (sym (ap (entry_of Core.Gone) p.whole) ∙ sym (by_name Core.Gone u.ws) ∙ u.entry) in
      record { at = (λ i. key_of (location_of (p.is i)) (Some Gone)) ∙ r.0; holds = ap (value v) (true_there refl) ∙ ap Some r.1 }

  -- ---- all chunks

  abbrev GoneIsTrue : Heap → Type 0
  GoneIsTrue h = (l : ℕ) (w : PureValue) → Holds h (key l Gone) w → w ≡ boolean true

  gone_there : (c : PureChunk) (k : Key) (w : PureValue) (h : Heap) → IsEntry v c k w → Holds h k w → GoneIsTrue h → c.sub ≡ gone → w ≡ boolean true
  gone_there c k w h entry holds fine is =
      let parts = key_parts c.loc c.sub k entry.at in
      fine k.loc w (subst (λ s. Holds h (key k.loc s) w) (sym (same_some (sym (ap (sub_value v) is) ∙ parts.sub))) holds)

  pub union_listed : (cs : List PureChunk) (h : Heap) → GoneIsTrue h → IsUnion v cs h → AreUnion v (listed_uses cs) h
  union_listed [] h fine is = is
  union_listed (c ∷ cs) h fine (k, (w, (entry, held, rest))) =
      (k, (w, (entry_use c.loc c.sub c.val k w (key_parts c.loc c.sub k entry.at) entry.holds (gone_there c k w h entry held fine), held, union_listed cs (remove h k) (λ l u has. fine l u (held_removed h k (key l Gone) u has).1) rest)))

  pub listed_union : (memory : MemoryName) (cs : List PureChunk) (h : Heap) → AreKept memory cs → AreUnion v (listed_uses cs) h → IsUnion v cs h
  listed_union memory [] h kept is = is
  listed_union memory (c ∷ cs) h kept (k, (w, (is_use, held, rest))) =
      (k, (w, (use_entry c.loc c.sub c.val k w kept.0.gone_is_true is_use, held, listed_union memory cs (remove h k) kept.1 rest)))

-- ---- numbers and terms

pub numbers : (s : PureSub) (loc val : PureTerm) → (length (loc ∷ sub_terms s) ≡ ins_of (core_of_sub s)) × (length (outs_at s val) ≡ outs_of (core_of_sub s))
numbers (named p) loc val = (refl, refl)
numbers (cell i) loc val = (refl, refl)
numbers shape loc val = (refl, refl)
numbers bound loc val = (refl, refl)
numbers dom loc val = (refl, refl)
numbers proto loc val = (refl, refl)
numbers gone loc val = (refl, refl)

takes_both : (memory : MemoryName) (c : PureChunk) → IsKept memory c → TakesBoth memory (use_of c).core (use_of c).ins (use_of c).outs
takes_both memory c kept = record {
  core = core_of_sub c.sub;
  of_memory = record { named = (cores_stand_for_keys (core_of_sub c.sub)).named; has = kept.of_memory };
  ins_number = (numbers c.sub c.loc c.val).0;
  outs_number = (numbers c.sub c.loc c.val).1;
}

module _ (P : PureTerm → Type 0) where
  outs_hold : (s : PureSub) (t : PureTerm) → P t → Each P (outs_at s t)
  outs_hold (named p) t is = (is, tt)
  outs_hold (cell i) t is = (is, tt)
  outs_hold shape t is = (is, tt)
  outs_hold bound t is = (is, tt)
  outs_hold dom t is = (is, tt)
  outs_hold proto t is = (is, tt)
  outs_hold gone t is = tt

  use_terms : (c : PureChunk) → ChunkTerms P c → Each P ((use_of c).ins ++ (use_of c).outs)
  use_terms c terms = each_append P (c.loc ∷ sub_terms c.sub) (outs_at c.sub c.val) terms.places (outs_hold c.sub c.val (chunk_val P c terms))

no_cons : {A B : Type 0} {x : A} {xs : List A} → x ∷ xs ≡ [] → B
no_cons is = absurd (cc)

nothing_listed : (cs : List PureChunk) → (listed_uses cs ≡ []) ↔ (all_of (terms_of cs) ≡ [])
nothing_listed [] = (λ is. refl, λ is. refl)
nothing_listed (c ∷ cs) = (λ is. no_cons is, λ is. no_cons is)

pub chunks_listed : (cs : List PureChunk) → ListChunks cs (listed_uses cs)
chunks_listed cs memory = record {
  lists = λ v h stands. union_listed v cs h stands.is_heap.well_formed.gone_is_true stands.union;
  back = λ kept v h union is_heap. record { union = listed_union v memory cs h kept union; is_heap = is_heap };
  none = nothing_listed cs;
  uses = λ kept. each_map (λ u. TakesBoth memory u.core u.ins u.outs) use_of cs (each_to (IsKept memory) (λ c. TakesBoth memory (use_of c).core (use_of c).ins (use_of c).outs) cs (takes_both memory) kept);
  among =
      each_map (λ u. Each (λ t. IsAmong t (all_of (terms_of cs))) (u.ins ++ u.outs)) use_of cs
      (each_to (ChunkTerms (λ t. IsAmong t (all_of (terms_of cs)))) (λ c. Each (λ t. IsAmong t (all_of (terms_of cs))) ((use_of c).ins ++ (use_of c).outs)) cs
      (use_terms (λ t. IsAmong t (all_of (terms_of cs))))
      (chunk_by_chunk (λ t. IsAmong t (all_of (terms_of cs))) cs (each_is_among (all_of (terms_of cs)))));
}

-- what holds of each answer that is no want of memory
pub ok_to : {X E : Type 0} (r : Result X E) (P Q : X → Type 0) → ((x : X) → P x → Q x) → IfOk r P → IfOk r Q
ok_to (Ok x) P Q f is = f x is
ok_to (Err e) P Q f is = tt
