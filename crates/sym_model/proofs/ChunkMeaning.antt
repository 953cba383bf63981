-- Lists of chunks have a meaning.
use Rattle.std.proofs.Common.{◌≡◌, ◌⊎◌, ⊎_elim, inl, inr, ℕ, List, [], ◌∷◌, ◌++◌, Option, Some, None, slice_get, refl, sym, ap, ◌∙◌}
use Rattle.std.specs.FinMap.{remove}
use Rattle.gil_values.specs.Pure.{PureValue, symbol}
use Rattle.gil_values.specs.Symbols.{OccursIn}
use Rattle.std.proofs.lemmas.List.Elements.{Contains-push}
use Rattle.mem_model.specs.declared.keys.Key.{Key}
use Rattle.mem_model.specs.declared.keys.Sub.{Sub}
use Rattle.mem_model.specs.declared.keys.MemoryName.{MemoryName}
use Rattle.mem_model.specs.Keys.{key}
use Rattle.mem_model.specs.Heaps.{Heap, OccursInHeap}
use Rattle.pure_terms.specs.Laws.{AgreeOn}
use Rattle.pure_terms.specs.Meaning.{value}
use Rattle.pure_terms.specs.Pure.{PureTerm, variables}
use Rattle.pure_terms.proofs.VariableLaws.{depend_on_variables}
use Rattle.pure_terms.proofs.SymbolLaws.{invents_no_symbol}
use Rattle.sym_model.specs.Chunks.{IsEntry, IsUnion, StandFor, placed_in, value_where_described, value_where_held, offset_of, terms_of}
use Rattle.sym_model.specs.Laws.{IsMeaning, ComesFrom}
use Rattle.sym_model.specs.Lists.{Each, OneOf, IsAmong}
use Rattle.sym_model.specs.Meaning.{location_of, name_of, cell_of, sub_value, key_of, key_value}
use Rattle.sym_model.specs.Pure.{PureSub, named, cell, shape, bound, dom, proto, gone, PureChunk, sub_terms}
use Rattle.sym_model.specs.Terms.{all_of}
use Rattle.sym_model.proofs.ListLaws.{same_some, not_none, each_left, each_right, each_append, each_flattened, each_flat, each_to, one_left, one_right, one_flat, one_at}
use Rattle.sym_model.proofs.Unions.{found_chunk, one_union}

-- ---- the terms of a list of chunks, chunk by chunk

-- P of each term of the chunk
pub record ChunkTerms (P : PureTerm → Type 0) (c : PureChunk) : Type 0 where
  pub places : Each P (placed_in c)
  pub described : Each P (value_where_described c.sub c.val)
  pub held : Each P (value_where_held c.sub c.val)

module _ (P : PureTerm → Type 0) where
  val_of : (s : PureSub) (t : PureTerm) → Each P (value_where_described s t) → Each P (value_where_held s t) → P t
  val_of (named u) t described held = held.0
  val_of (cell u) t described held = held.0
  val_of shape t described held = described.0
  val_of bound t described held = described.0
  val_of dom t described held = described.0
  val_of proto t described held = held.0
  val_of gone t described held = held.0

  pub chunk_val : (c : PureChunk) → ChunkTerms P c → P c.val
  chunk_val c terms = val_of c.sub c.val terms.described terms.held

  zipped : (cs : List PureChunk) → Each (λ c. Each P (placed_in c)) cs → Each (λ c. Each P (value_where_described c.sub c.val)) cs → Each (λ c. Each P (value_where_held c.sub c.val)) cs → Each (ChunkTerms P) cs
  zipped [] places described held = tt
  zipped (c ∷ cs) places described held = (record { places = places.0; described = described.0; held = held.0 }, zipped cs places.1 described.1 held.1)

  pub chunk_by_chunk : (cs : List PureChunk) → Each P (all_of (terms_of cs)) → Each (ChunkTerms P) cs
  chunk_by_chunk cs all =
      let places = each_left P (terms_of cs).placed ((terms_of cs).described ++ (terms_of cs).held) all in
      let others = each_right P (terms_of cs).placed ((terms_of cs).described ++ (terms_of cs).held) all in
      zipped cs (each_flattened P placed_in cs places)
      (each_flattened P (λ (c : PureChunk). value_where_described c.sub c.val) cs (each_left P (terms_of cs).described (terms_of cs).held others))
      (each_flattened P (λ (c : PureChunk). value_where_held c.sub c.val) cs (each_right P (terms_of cs).described (terms_of cs).held others))

  pub from_chunks : (cs : List PureChunk) → Each (ChunkTerms P) cs → Each P (all_of (terms_of cs))
  from_chunks cs all =
      each_append P (terms_of cs).placed ((terms_of cs).described ++ (terms_of cs).held)
      (each_flat P placed_in cs (each_to (ChunkTerms P) (λ c. Each P (placed_in c)) cs (λ c terms. terms.places) all))
      (each_append P (terms_of cs).described (terms_of cs).held
      (each_flat P (λ (c : PureChunk). value_where_described c.sub c.val) cs (each_to (ChunkTerms P) (λ c. Each P (value_where_described c.sub c.val)) cs (λ c terms. terms.described) all))
      (each_flat P (λ (c : PureChunk). value_where_held c.sub c.val) cs (each_to (ChunkTerms P) (λ c. Each P (value_where_held c.sub c.val)) cs (λ c terms. terms.held) all)))

  -- one of the terms of the chunk at a place is one of all
  one_placed : (cs : List PureChunk) (i : ℕ) (c : PureChunk) → slice_get cs i ≡ Some c → OneOf P (placed_in c) → OneOf P (all_of (terms_of cs))
  one_placed cs i c at one = one_left P (terms_of cs).placed ((terms_of cs).described ++ (terms_of cs).held) (one_flat P placed_in cs (one_at (λ d. OneOf P (placed_in d)) cs i c at one))

  one_described : (cs : List PureChunk) (i : ℕ) (c : PureChunk) → slice_get cs i ≡ Some c → OneOf P (value_where_described c.sub c.val) → OneOf P (all_of (terms_of cs))
  one_described cs i c at one =
      one_right P (terms_of cs).placed ((terms_of cs).described ++ (terms_of cs).held)
      (one_left P (terms_of cs).described (terms_of cs).held (one_flat P (λ (d : PureChunk). value_where_described d.sub d.val) cs (one_at (λ (d : PureChunk). OneOf P (value_where_described d.sub d.val)) cs i c at one)))

  one_held : (cs : List PureChunk) (i : ℕ) (c : PureChunk) → slice_get cs i ≡ Some c → OneOf P (value_where_held c.sub c.val) → OneOf P (all_of (terms_of cs))
  one_held cs i c at one =
      one_right P (terms_of cs).placed ((terms_of cs).described ++ (terms_of cs).held)
      (one_right P (terms_of cs).described (terms_of cs).held (one_flat P (λ (d : PureChunk). value_where_held d.sub d.val) cs (one_at (λ (d : PureChunk). OneOf P (value_where_held d.sub d.val)) cs i c at one)))

  val_one : (s : PureSub) (t : PureTerm) → P t → OneOf P (value_where_described s t) ⊎ OneOf P (value_where_held s t)
  val_one (named u) t is = inr (inl is)
  val_one (cell u) t is = inr (inl is)
  val_one shape t is = inl (inl is)
  val_one bound t is = inl (inl is)
  val_one dom t is = inl (inl is)
  val_one proto t is = inr (inl is)
  val_one gone t is = inr (inl is)

  pub one_loc : (cs : List PureChunk) (i : ℕ) (c : PureChunk) → slice_get cs i ≡ Some c → P c.loc → OneOf P (all_of (terms_of cs))
  one_loc cs i c at is = one_placed cs i c at (inl is)

  pub one_val : (cs : List PureChunk) (i : ℕ) (c : PureChunk) → slice_get cs i ≡ Some c → P c.val → OneOf P (all_of (terms_of cs))
  one_val cs i c at is = ⊎_elim (one_described cs i c at) (one_held cs i c at) (val_one c.sub c.val is)

-- ---- locality

module _ (v w : List PureValue) where
  abbrev SameValue : PureTerm → Type 0
  SameValue t = value v t ≡ value w t

  same_sub : (s : PureSub) → Each SameValue (sub_terms s) → sub_value v s ≡ sub_value w s
  same_sub (named t) same = ap name_of same.0
  same_sub (cell t) same = ap cell_of same.0
  same_sub shape same = refl
  same_sub bound same = refl
  same_sub dom same = refl
  same_sub proto same = refl
  same_sub gone same = refl

  same_key_value : (c : PureChunk) → ChunkTerms SameValue c → key_value v c.loc c.sub ≡ key_value w c.loc c.sub
  same_key_value c terms =
      let places = ap location_of terms.places.0 in
      let subs = same_sub c.sub terms.places.1 in
      λ i. key_of (places i) (subs i)

  entry_there : (c : PureChunk) (k : Key) (u : PureValue) → ChunkTerms SameValue c → IsEntry v c k u → IsEntry w c k u
  entry_there c k u terms entry = record { at = sym (same_key_value c terms) ∙ entry.at; holds = sym (chunk_val SameValue c terms) ∙ entry.holds }

  union_there : (cs : List PureChunk) (h : Heap) → Each (ChunkTerms SameValue) cs → IsUnion v cs h → IsUnion w cs h
  union_there [] h all union = union
  union_there (c ∷ cs) h all (k, (u, (entry, holds, rest))) = (k, (u, (entry_there c k u all.0 entry, holds, union_there cs (remove h k) all.1 rest)))

  pub local_union : (cs : List PureChunk) (h : Heap) → Each (λ t. AgreeOn (variables t) v w) (all_of (terms_of cs)) → IsUnion v cs h → IsUnion w cs h
  local_union cs h agree union =
      union_there cs h (chunk_by_chunk SameValue cs (each_to (λ t. AgreeOn (variables t) v w) SameValue (all_of (terms_of cs)) (λ t same. depend_on_variables.values t v w same) agree)) union

-- ---- symbols

module _ (v : List PureValue) where
  comes_from_value : (t : PureTerm) (w : PureValue) (n : ℕ) → value v t ≡ Some w → OccursIn n w → ComesFrom v n t
  comes_from_value t w n is occurs = invents_no_symbol t v w n is occurs

  location_is : (o : Option PureValue) (l : ℕ) → location_of o ≡ Some l → o ≡ Some (symbol l)
  location_is (Some (symbol n)) l is = ap (λ m. Some (symbol m)) (same_some is)
  location_is (Some u) l is = not_none is
  location_is None l is = not_none is

  loc_of_key : (a : Option ℕ) (b : Option Sub) (k : Key) → key_of a b ≡ Some k → a ≡ Some k.loc
  loc_of_key (Some l) (Some s) k is = let same : key l s ≡ k = same_some is in ap Some (ap (λ (q : Key). q.loc) same)
  loc_of_key (Some l) None k is = not_none is
  loc_of_key None b k is = not_none is

  pub loc_value : (t : PureTerm) (s : PureSub) (k : Key) → key_value v t s ≡ Some k → value v t ≡ Some (symbol k.loc)
  loc_value t s k is = location_is (value v t) k.loc (loc_of_key (location_of (value v t)) (sub_value v s) k is)

  pub symbols_in_terms : (cs : List PureChunk) (h : Heap) (n : ℕ) → IsUnion v cs h → OccursInHeap n h → OneOf (ComesFrom v n) (all_of (terms_of cs))
  symbols_in_terms cs h n union (k, (w, (holds, occurs))) =
      let (i, (c, (at, entry))) = found_chunk v cs h k w union holds in
      ⊎_elim
      (λ here. one_loc (ComesFrom v n) cs i c at (comes_from_value c.loc (symbol n) n (loc_value c.loc c.sub k entry.at ∙ ap (λ m. Some (symbol m)) here) (Contains-push [] n)))
      (λ within. one_val (ComesFrom v n) cs i c at (comes_from_value c.val w n entry.holds within))
      occurs

-- ---- offsets

offsets_in : (s : PureSub) (P : PureTerm → Type 0) → Each P (sub_terms s) → Each P (offset_of s)
offsets_in (named t) P all = tt
offsets_in (cell t) P all = all
offsets_in shape P all = tt
offsets_in bound P all = tt
offsets_in dom P all = tt
offsets_in proto P all = tt
offsets_in gone P all = tt

each_itself : (xs : List PureTerm) → Each (λ t. IsAmong t xs) xs
each_itself [] = tt
each_itself (x ∷ xs) = (inl refl, each_to (λ t. IsAmong t xs) (λ t. IsAmong t (x ∷ xs)) xs (λ t later. inr later) (each_itself xs))

pub offsets_are_placed : (cs : List PureChunk) → Each (λ t. IsAmong t (terms_of cs).placed) (terms_of cs).offsets
offsets_are_placed cs =
    let P : PureTerm → Type 0 = λ t. IsAmong t (terms_of cs).placed in
    each_flat P (λ (c : PureChunk). offset_of c.sub) cs
    (each_to (λ c. Each P (placed_in c)) (λ c. Each P (offset_of c.sub)) cs (λ c all. offsets_in c.sub P all.1)
    (each_flattened P placed_in cs (each_itself (terms_of cs).placed)))

pub chunks_have_meaning : (memory : MemoryName) → IsMeaning memory (StandFor memory) terms_of
chunks_have_meaning memory = record {
  local = λ cs v w h agree is. record { union = local_union v w cs h agree is.union; is_heap = is.is_heap };
  one_heap = λ cs v g h first second. one_union v cs g h first.union second.union;
  of_memory = λ cs v h is. is.is_heap;
  symbols = λ cs v h n is occurs. symbols_in_terms v cs h n is.union occurs;
  offsets_placed = offsets_are_placed;
}
