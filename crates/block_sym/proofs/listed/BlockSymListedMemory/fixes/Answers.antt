use Rattle.sym_chunks.proofs.Elements.{ok_to}
use Rattle.sym_model.specs.View.{key_view, fixes_view}
use Rattle.block_sym.proofs.Listing.{blocks_are_fixed}
use Rattle.block_sym.proofs.listed.BlockSymListedMemory.fixes.Goals as goal

pub returns-clause-laws : goal.returns-clause-laws
returns-clause-laws c = ok_to c.fixes_of_key.result _ _ (λ fs is. blocks_are_fixed (key_view c.args.key.now) (fixes_view fs) is) c.fixes_of_key.ensures
