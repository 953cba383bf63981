use Rattle.sym_chunks.proofs.Elements.{ok_to}
use Rattle.sym_model.specs.View.{key_view, fixes_view}
use Rattle.object_sym.proofs.Listing.{objects_are_fixed}
use Rattle.object_sym.proofs.listed.ObjectSymListedMemory.fixes.Goals as goal

pub returns-clause-laws : goal.returns-clause-laws
returns-clause-laws c = ok_to c.fixes_beside.result _ _ (λ fs is. objects_are_fixed (key_view c.args.key.now) (fixes_view fs) is) c.fixes_beside.ensures
