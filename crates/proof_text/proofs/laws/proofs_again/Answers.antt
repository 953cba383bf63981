use Rattle.proof_text.proofs.ProofLaws.{proofs_again}
use Rattle.proof_text.proofs.laws.proofs_again.Goals as goal

pub returns : goal.returns
returns c = proofs_again
