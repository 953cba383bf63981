-- The laws of records as a listed memory, from those of lists of chunks.
use Rattle.std.proofs.Common.{◌≡◌, ℕ, List, [], ◌∷◌, map, sym, subst}
use Rattle.core_changes.specs.Consuming.{ConsumeChunks, Consume}
use Rattle.core_production.specs.Producing.{ProduceChunks, Produce}
use Rattle.core_production.proofs.FixLaws.{fix_law, fix_narrow}
use Rattle.core_production.proofs.Wrapped.{wrapped_production, wrapped_forms, wrapped_plain, wrapped_narrow, wrapped_kept, wrapped_consumption, wrapped_consumes_plainly, wrapped_consumes_narrowly, wrapped_consumed_kept}
use Rattle.core_uses.specs.Uses.{fix_of}
use Rattle.mem_model.specs.declared.keys.MemoryName.TheVariants.{Record}
use Rattle.pure_terms.specs.Pure.{PureTerm}
use Rattle.record_heap.specs.RecordLaws.{record_misses_what_lacks}
use Rattle.record_heap.specs.Table.{record_actions}
use Rattle.record_sym.specs.declared.states.RecordSym.{RecordSym}
use Rattle.record_sym.specs.Plain.{record_stands, record_terms, record_plain, record_kept}
use Rattle.record_sym.specs.RecordMeaning.{record_plain_is_said}
use Rattle.record_sym.specs.View.{state_view}
use Rattle.record_sym.proofs.Missing.{records_find_missed}
use Rattle.sym_chunks.specs.Cases.{ChunkBranches}
use Rattle.sym_chunks.specs.Wrapped.{seen}
use Rattle.sym_model.specs.CoreLaws.{ProduceLaw, ProducesWhatMatters, ProducesPlainly, ProducesNarrowly, ConsumeLaw, ConsumesPlainly, ConsumesNarrowly}
use Rattle.sym_model.specs.Cores.{TakesIns, TakesBoth}
use Rattle.sym_model.specs.Fixing.{FixLaw, FixesNarrowly}
use Rattle.sym_model.specs.Lists.{Each}
use Rattle.sym_model.specs.Pure.{PureKey, PureFix, PureBranch}

module _ (core : List ℕ) (ins : List PureTerm) (s : RecordSym) (bs : List (PureBranch RecordSym)) (chunks : ChunkBranches) (are : map (seen state_view) bs ≡ chunks) where
  module _ (outs : List PureTerm) (takes : TakesBoth Record core ins outs) (produced : Produce core ins outs (state_view s) chunks) where
    branches : ProduceChunks Record core ins outs (state_view s) (map (seen state_view) bs)
    branches = subst (ProduceChunks Record core ins outs (state_view s)) (sym are) (produced Record takes)

    pub produce_law : ProduceLaw Record record_stands record_terms core ins outs s bs
    produce_law = wrapped_production state_view Record s bs core ins outs branches

    pub produce_forms : ProducesWhatMatters Record record_stands record_terms core ins outs s bs
    produce_forms = wrapped_forms state_view Record s bs core ins outs branches

    pub produces_plainly : ProducesPlainly record_plain core ins outs s bs
    produces_plainly = wrapped_plain state_view Record s bs core ins outs branches record_plain record_plain_is_said

    pub names_produced_narrowly : ProducesNarrowly record_terms core ins outs s bs
    names_produced_narrowly = wrapped_narrow state_view Record s bs core ins outs branches

    pub produce_keeps : record_kept s → Each (λ b. record_kept b.state) bs
    produce_keeps = wrapped_kept state_view Record s bs core ins outs branches

  module _ (takes : TakesIns Record core ins) (consumed : Consume core ins (state_view s) chunks) where
    taken : ConsumeChunks Record core ins (state_view s) (map (seen state_view) bs)
    taken = subst (ConsumeChunks Record core ins (state_view s)) (sym are) (consumed Record takes)

    pub consume_law : ConsumeLaw Record record_stands record_terms core ins s bs
    consume_law = wrapped_consumption state_view Record s bs core ins taken

    pub consumes_plainly : ConsumesPlainly record_plain ins s bs
    consumes_plainly = wrapped_consumes_plainly state_view Record s bs core ins taken record_plain record_plain_is_said

    pub names_consumed_narrowly : ConsumesNarrowly record_terms core ins s bs
    names_consumed_narrowly = wrapped_consumes_narrowly state_view Record s bs core ins taken

    pub consume_keeps : record_kept s → Each (λ b. record_kept b.state) bs
    consume_keeps = wrapped_consumed_kept state_view Record s bs core ins taken

pub records_are_fixed : (at : PureKey) (fs : List PureFix) → fs ≡ fix_of at ∷ [] → FixLaw Record record_actions at fs
records_are_fixed at fs are = subst (FixLaw Record record_actions at) (sym are) (fix_law Record record_actions record_misses_what_lacks records_find_missed at)

pub fixed_narrowly : (at : PureKey) (fs : List PureFix) → fs ≡ fix_of at ∷ [] → FixesNarrowly at fs
fixed_narrowly at fs are = subst (FixesNarrowly at) (sym are) (fix_narrow at)
