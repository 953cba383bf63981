use Rattle.core_production.proofs.Wrapped.{wrapped_listing}
use Rattle.mem_model.specs.declared.keys.MemoryName.TheVariants.{Block}
use Rattle.sym_chunks.proofs.Elements.{ok_to}
use Rattle.sym_model.specs.View.{uses_view}
use Rattle.block_sym.specs.View.{state_view}
use Rattle.block_sym.proofs.listed.BlockSymListedMemory.listing.Goals as goal

pub returns : goal.returns
returns c = ok_to c.list_chunks.result _ _ (λ us is. wrapped_listing state_view Block c.args.self.now (uses_view us) (is Block)) c.list_chunks.ensures
