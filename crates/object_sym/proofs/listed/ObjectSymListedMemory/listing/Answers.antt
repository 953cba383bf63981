use Rattle.core_production.proofs.Wrapped.{wrapped_listing}
use Rattle.mem_model.specs.declared.keys.MemoryName.TheVariants.{Object}
use Rattle.sym_chunks.proofs.Elements.{ok_to}
use Rattle.sym_model.specs.View.{uses_view}
use Rattle.object_sym.specs.View.{state_view}
use Rattle.object_sym.proofs.listed.ObjectSymListedMemory.listing.Goals as goal

pub returns : goal.returns
returns c = ok_to c.list_chunks.result _ _ (λ us is. wrapped_listing state_view Object c.args.self.now (uses_view us) (is Object)) c.list_chunks.ensures
