-- States that are lists of chunks, by their view.
use Rattle.std.specs.Prelude.{ℤ, List}
use Rattle.gil_values.specs.Pure.{PureValue}
use Rattle.mem_model.specs.declared.keys.MemoryName.{MemoryName}
use Rattle.mem_model.specs.Heaps.{Heap}
use Rattle.sym_model.specs.Chunks.{StandFor, terms_of}
use Rattle.sym_model.specs.Plain.{IsPlainState}
use Rattle.sym_model.specs.Pure.{PureChunk, PureBranch}
use Rattle.sym_model.specs.Terms.{StateTerms}

abbrev pub chunks_stand : {S : Type 0} → MemoryName → (S → List PureChunk) → S → List PureValue → Heap → Type 0
chunks_stand memory view s v h = StandFor memory (view s) v h

abbrev pub chunks_terms : {S : Type 0} → (S → List PureChunk) → S → StateTerms
chunks_terms view s = terms_of (view s)

abbrev pub chunks_plain : {S : Type 0} → MemoryName → (S → List PureChunk) → S → ℤ → ℤ → Type 0
chunks_plain memory view s low high = IsPlainState memory (terms_of (view s)) low high

-- a branch over states as one over lists of chunks
abbrev pub seen : {S : Type 0} → (S → List PureChunk) → PureBranch S → PureBranch (List PureChunk)
seen view b = record { conds = b.conds; state = view b.state; result = b.result }
