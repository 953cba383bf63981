-- What was printed is read again, whatever follows that is no part of it.
use Rattle.std.specs.Prelude.{◌≡◌, ℕ, false, ◌||◌, ◌==◌, List, ◌++◌, Some}
use Rattle.gil_lexer.specs.Bytes.{begins, is_name_byte}
use Rattle.gil_report.specs.Proofs.{printed_proof}
use Rattle.gil_report.specs.Pure.{PureNamedProof}
use Rattle.proof_text.specs.Reading.{any_proof_at}
use Rattle.proof_text.specs.Writable.{IsWritableProof}

-- neither a byte of a name or a number nor a blank follows
abbrev pub EndsProof : List ℕ → Type 0
EndsProof rest = begins (λ b. is_name_byte b || b == 32) rest ≡ false

-- A writable proof that was printed is read again.
abbrev pub ProofsAgain : Type 0
ProofsAgain = (p : PureNamedProof) (rest : List ℕ) → IsWritableProof p → EndsProof rest → any_proof_at (printed_proof p ++ rest) ≡ Some (p, rest)

-- What is read as a proof is writable.
abbrev pub OnlyWritableProofs : Type 0
OnlyWritableProofs = (bytes : List ℕ) (p : PureNamedProof) (rest : List ℕ) → any_proof_at bytes ≡ Some (p, rest) → IsWritableProof p
