-- The states of symbolic objects: what they stand for, their terms, and what their actions ask about and depend on.
use Rattle.std.specs.Prelude.{ℕ, ℤ, List, []}
use Rattle.core_uses.specs.Kept.{AreKept}
use Rattle.gil_values.specs.Pure.{PureValue}
use Rattle.mem_model.specs.declared.keys.MemoryName.TheVariants.{Object}
use Rattle.mem_model.specs.Heaps.{Heap}
use Rattle.object_heap.specs.Names.{action_of}
use Rattle.object_sym.specs.Forms.{DependsOn}
use Rattle.object_sym.specs.Table.{asked_by}
use Rattle.object_sym.specs.View.{state_view}
use Rattle.object_sym.specs.declared.states.ObjectSym.{ObjectSym}
use Rattle.pure_terms.specs.Pure.{PureTerm}
use Rattle.sym_model.specs.Chunks.{StandFor, terms_of}
use Rattle.sym_model.specs.Plain.{IsPlainState}
use Rattle.sym_model.specs.Terms.{StateTerms}

abbrev pub object_stands : ObjectSym → List PureValue → Heap → Type 0
object_stands s v h = StandFor Object (state_view s) v h

abbrev pub object_terms : ObjectSym → StateTerms
object_terms s = terms_of (state_view s)

-- each term is plain with its literals between two bounds, and names are listed by list terms
abbrev pub object_plain : ObjectSym → ℤ → ℤ → Type 0
object_plain s low high = IsPlainState Object (object_terms s) low high

-- no action needs the literal form of an argument by itself
abbrev pub object_asked : List ℕ → List PureTerm → List PureTerm × List PureTerm
object_asked action args = (asked_by (action_of action) args, [])

abbrev pub object_depends : ObjectSym → List ℕ → List PureTerm → List PureValue → Heap → PureTerm → Type 0
object_depends s action args v h t = DependsOn (action_of action) (state_view s) args v h t

-- each chunk is one of objects
abbrev pub object_kept : ObjectSym → Type 0
object_kept s = AreKept Object (state_view s)
