use Rattle.sym_chunks.proofs.Elements.{ok_to}
use Rattle.sym_model.specs.View.{key_view, fixes_view}
use Rattle.record_sym.proofs.Listing.{records_are_fixed, fixed_narrowly}
use Rattle.record_sym.proofs.listed.RecordSymListedMemory.fixes.Goals as goal

pub returns-clause-laws : goal.returns-clause-laws
returns-clause-laws c = ok_to c.fixes_of_key.result _ _ (λ fs is. records_are_fixed (key_view c.args.key.now) (fixes_view fs) is) c.fixes_of_key.ensures

pub returns-clause-narrow : goal.returns-clause-narrow
returns-clause-narrow c = λ keeps. ok_to c.fixes_of_key.result _ _ (λ fs is. fixed_narrowly (key_view c.args.key.now) (fixes_view fs) is) c.fixes_of_key.ensures
