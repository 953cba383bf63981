-- The states of symbolic blocks as symbolic states.
use Rattle.std.specs.Prelude.{ℕ, ℤ, List}
use Rattle.core_uses.specs.Kept.{AreKept}
use Rattle.gil_values.specs.Pure.{PureValue}
use Rattle.mem_model.specs.declared.keys.MemoryName.TheVariants.{Block}
use Rattle.mem_model.specs.Heaps.{Heap}
use Rattle.block_heap.specs.Names.{action_of}
use Rattle.block_sym.specs.Asking.{asked_by, formed_by, DependsOn}
use Rattle.block_sym.specs.View.{state_view}
use Rattle.block_sym.specs.declared.states.BlockSym.{BlockSym}
use Rattle.pure_terms.specs.Pure.{PureTerm}
use Rattle.sym_chunks.specs.Wrapped.{chunks_stand, chunks_terms, chunks_plain}
use Rattle.sym_model.specs.Pure.{PureChunk}
use Rattle.sym_model.specs.Terms.{StateTerms}

abbrev pub block_stands : BlockSym → List PureValue → Heap → Type 0
block_stands = chunks_stand Block state_view

abbrev pub block_terms : BlockSym → StateTerms
block_terms = chunks_terms state_view

-- each term is plain with its literals between two bounds, and each bound is a literal
abbrev pub block_plain : BlockSym → ℤ → ℤ → Type 0
block_plain = chunks_plain Block state_view

abbrev pub block_asked : List ℕ → List PureTerm → List PureTerm × List PureTerm
block_asked action args = (asked_by (action_of action) args, formed_by (action_of action) args)

abbrev pub chunks_depend : List PureChunk → List ℕ → List PureTerm → List PureValue → Heap → PureTerm → Type 0
chunks_depend cs action args v h t = DependsOn (action_of action) cs args v h t

abbrev pub block_depends : BlockSym → List ℕ → List PureTerm → List PureValue → Heap → PureTerm → Type 0
block_depends s = chunks_depend (state_view s)

-- each chunk is one of blocks, and where it says that a location is gone, it holds the literal true
abbrev pub block_kept : BlockSym → Type 0
block_kept s = AreKept Block (state_view s)
