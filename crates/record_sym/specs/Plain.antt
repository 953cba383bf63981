-- The states of symbolic records: what they stand for, their terms, and what their actions ask about and depend on.
use Rattle.std.specs.Prelude.{ℕ, ℤ, List}
use Rattle.core_uses.specs.Kept.{AreKept}
use Rattle.gil_values.specs.Pure.{PureValue}
use Rattle.mem_model.specs.declared.keys.MemoryName.TheVariants.{Record}
use Rattle.mem_model.specs.Heaps.{Heap}
use Rattle.pure_terms.specs.Pure.{PureTerm}
use Rattle.record_heap.specs.Names.{action_of}
use Rattle.record_sym.specs.Forms.{DependsOn}
use Rattle.record_sym.specs.Table.{asked_by, formed_by}
use Rattle.record_sym.specs.View.{state_view}
use Rattle.record_sym.specs.declared.states.RecordSym.{RecordSym}
use Rattle.sym_model.specs.Chunks.{StandFor, terms_of}
use Rattle.sym_model.specs.Plain.{IsPlainState}
use Rattle.sym_model.specs.Terms.{StateTerms}

abbrev pub record_stands : RecordSym → List PureValue → Heap → Type 0
record_stands s v h = StandFor Record (state_view s) v h

abbrev pub record_terms : RecordSym → StateTerms
record_terms s = terms_of (state_view s)

-- each term is plain with its literals between two bounds, and names are listed by list terms
abbrev pub record_plain : RecordSym → ℤ → ℤ → Type 0
record_plain s low high = IsPlainState Record (record_terms s) low high

abbrev pub record_asked : List ℕ → List PureTerm → List PureTerm × List PureTerm
record_asked action args = (asked_by (action_of action) args, formed_by (action_of action) args)

abbrev pub record_depends : RecordSym → List ℕ → List PureTerm → List PureValue → Heap → PureTerm → Type 0
record_depends s action args v h t = DependsOn (action_of action) (state_view s) args v h t

-- each chunk is one of records, and where it says that a location is gone, it holds the literal true
abbrev pub record_kept : RecordSym → Type 0
record_kept s = AreKept Record (state_view s)
