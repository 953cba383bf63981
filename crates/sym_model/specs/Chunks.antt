-- Lists of chunks: the heap that they stand for, and their terms.
use Rattle.std.specs.Prelude.{◌≡◌, ℕ, zero, suc, List, [], ◌∷◌, ◌++◌, map, Some}
use Rattle.std.specs.List.{flat_map}
use Rattle.std.specs.FinMap.{empty, remove}
use Rattle.gil_values.specs.Pure.{PureValue}
use Rattle.mem_model.specs.declared.keys.Key.{Key}
use Rattle.mem_model.specs.declared.keys.MemoryName.{MemoryName}
use Rattle.mem_model.specs.Heaps.{Heap, Holds, IsHeapOf}
use Rattle.pure_terms.specs.Meaning.{value}
use Rattle.pure_terms.specs.Pure.{PureTerm}
use Rattle.sym_model.specs.Meaning.{key_value}
use Rattle.sym_model.specs.Pure.{PureSub, named, cell, shape, bound, dom, proto, gone, PureChunk, sub_terms}
use Rattle.sym_model.specs.Terms.{LocatedTerms, StateTerms}

-- the chunk stands for this key and this value
pub record IsEntry (v : List PureValue) (c : PureChunk) (k : Key) (w : PureValue) : Type 0 where
  pub at : key_value v c.loc c.sub ≡ Some k
  pub holds : value v c.val ≡ Some w

-- The heap has what the chunks say, and nothing else: with the key of each taken out in turn, nothing is left. So no two chunks
-- stand for one key.
abbrev pub IsUnion : List PureValue → List PureChunk → Heap → Type 0
IsUnion v [] h = h ≡ empty
IsUnion v (c ∷ cs) h = (k : Key) × ((w : PureValue) × (IsEntry v c k w × Holds h k w × IsUnion v cs (remove h k)))

-- The chunks stand for the heap: it is their union, and a heap of the memory.
pub record StandFor (memory : MemoryName) (cs : List PureChunk) (v : List PureValue) (h : Heap) : Type 0 where
  pub union : IsUnion v cs h
  pub is_heap : IsHeapOf memory h

-- the chunks, where the one at this place holds another term
abbrev pub with_held : List PureChunk → ℕ → PureTerm → List PureChunk
with_held [] i t = []
with_held (c ∷ cs) zero t = record c { val = t } ∷ cs
with_held (c ∷ cs) (suc i) t = c ∷ with_held cs i t

-- ---- the terms of chunks

abbrev pub placed_in : PureChunk → List PureTerm
placed_in c = c.loc ∷ sub_terms c.sub

abbrev pub value_where_described : PureSub → PureTerm → List PureTerm
value_where_described shape t = t ∷ []
value_where_described bound t = t ∷ []
value_where_described dom t = t ∷ []
value_where_described _ t = []

abbrev pub value_where_held : PureSub → PureTerm → List PureTerm
value_where_held (named s) t = t ∷ []
value_where_held (cell s) t = t ∷ []
value_where_held proto t = t ∷ []
value_where_held gone t = t ∷ []
value_where_held _ t = []

abbrev pub offset_of : PureSub → List PureTerm
offset_of (cell t) = t ∷ []
offset_of _ = []

abbrev pub located_in : PureChunk → LocatedTerms
located_in c = record { loc = c.loc; terms = sub_terms c.sub ++ value_where_described c.sub c.val }

abbrev pub terms_of : List PureChunk → StateTerms
terms_of cs = record {
  placed = flat_map placed_in cs;
  described = flat_map (λ c. value_where_described c.sub c.val) cs;
  held = flat_map (λ c. value_where_held c.sub c.val) cs;
  offsets = flat_map (λ c. offset_of c.sub) cs;
  located = map located_in cs;
}
