use Rattle.proof_text.proofs.ProofSays.{only_writable_proofs}
use Rattle.proof_text.proofs.laws.only_writable_proofs.Goals as goal

pub returns : goal.returns
returns c = only_writable_proofs
