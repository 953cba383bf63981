-- The laws of blocks as a listed memory, from those of lists of chunks.
use Rattle.std.proofs.Common.{◌≡◌, ℕ, List, [], ◌∷◌, map, sym, subst}
use Rattle.core_changes.specs.Consuming.{ConsumeChunks, Consume}
use Rattle.core_production.specs.Producing.{ProduceChunks, Produce}
use Rattle.core_production.proofs.FixLaws.{fix_law}
use Rattle.core_production.proofs.Wrapped.{wrapped_production, wrapped_forms, wrapped_plain, wrapped_kept, wrapped_consumption, wrapped_consumes_plainly, wrapped_consumed_kept}
use Rattle.core_uses.specs.Uses.{fix_of}
use Rattle.mem_model.specs.declared.keys.MemoryName.TheVariants.{Block}
use Rattle.pure_terms.specs.Pure.{PureTerm}
use Rattle.block_heap.specs.BlockLaws.{block_misses_what_lacks}
use Rattle.block_heap.specs.Table.{block_actions}
use Rattle.block_sym.specs.declared.states.BlockSym.{BlockSym}
use Rattle.block_sym.specs.Plain.{block_stands, block_terms, block_plain, block_kept}
use Rattle.block_sym.specs.BlockMeaning.{block_plain_is_said}
use Rattle.block_sym.specs.View.{state_view}
use Rattle.block_sym.proofs.Missing.{blocks_find_missed}
use Rattle.sym_chunks.specs.Cases.{ChunkBranches}
use Rattle.sym_chunks.specs.Wrapped.{seen}
use Rattle.sym_model.specs.CoreLaws.{ProduceLaw, ProducesWhatMatters, ProducesPlainly, ConsumeLaw, ConsumesPlainly}
use Rattle.sym_model.specs.Cores.{TakesIns, TakesBoth}
use Rattle.sym_model.specs.Fixing.{FixLaw}
use Rattle.sym_model.specs.Lists.{Each}
use Rattle.sym_model.specs.Pure.{PureKey, PureFix, PureBranch}

module _ (core : List ℕ) (ins : List PureTerm) (s : BlockSym) (bs : List (PureBranch BlockSym)) (chunks : ChunkBranches) (are : map (seen state_view) bs ≡ chunks) where
  module _ (outs : List PureTerm) (takes : TakesBoth Block core ins outs) (produced : Produce core ins outs (state_view s) chunks) where
    branches : ProduceChunks Block core ins outs (state_view s) (map (seen state_view) bs)
    branches = subst (ProduceChunks Block core ins outs (state_view s)) (sym are) (produced Block takes)

    pub produce_law : ProduceLaw Block block_stands block_terms core ins outs s bs
    produce_law = wrapped_production state_view Block s bs core ins outs branches

    pub produce_forms : ProducesWhatMatters Block block_stands block_terms core ins outs s bs
    produce_forms = wrapped_forms state_view Block s bs core ins outs branches

    pub produces_plainly : ProducesPlainly block_plain core ins outs s bs
    produces_plainly = wrapped_plain state_view Block s bs core ins outs branches block_plain block_plain_is_said

    pub produce_keeps : block_kept s → Each (λ b. block_kept b.state) bs
    produce_keeps = wrapped_kept state_view Block s bs core ins outs branches

  module _ (takes : TakesIns Block core ins) (consumed : Consume core ins (state_view s) chunks) where
    taken : ConsumeChunks Block core ins (state_view s) (map (seen state_view) bs)
    taken = subst (ConsumeChunks Block core ins (state_view s)) (sym are) (consumed Block takes)

    pub consume_law : ConsumeLaw Block block_stands block_terms core ins s bs
    consume_law = wrapped_consumption state_view Block s bs core ins taken

    pub consumes_plainly : ConsumesPlainly block_plain ins s bs
    consumes_plainly = wrapped_consumes_plainly state_view Block s bs core ins taken block_plain block_plain_is_said

    pub consume_keeps : block_kept s → Each (λ b. block_kept b.state) bs
    consume_keeps = wrapped_consumed_kept state_view Block s bs core ins taken

pub blocks_are_fixed : (at : PureKey) (fs : List PureFix) → fs ≡ fix_of at ∷ [] → FixLaw Block block_actions at fs
blocks_are_fixed at fs are = subst (FixLaw Block block_actions at) (sym are) (fix_law Block block_actions block_misses_what_lacks blocks_find_missed at)
