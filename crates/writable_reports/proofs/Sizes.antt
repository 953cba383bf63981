-- The size of a proof, which falls at each part of it.
use Rattle.std.proofs.Common.{◌≡◌, ℕ, zero, suc, ◌+◌, ◌<◌, List, [], ◌∷◌, slice_get, Some, arith, ap}
use Rattle.gil_report.specs.Pure.{PureNamedProof, sum_of, false_at, chain, cases_of, values_at, parts_apart, parts_at, differ_at, split_on, meet_at, PureNamedProofs, no_proofs, proof_and, from_list}

abbrev mutual
  pub proof_size : PureNamedProof → ℕ
  proof_size (sum_of fs) = 1
  proof_size (false_at i) = 1
  proof_size (chain is end) = 1
  proof_size (cases_of t ps) = 1 + proofs_size ps
  proof_size (values_at i ps) = 1 + proofs_size ps
  proof_size (parts_apart i) = 1
  proof_size (parts_at i p) = 1 + proof_size p
  proof_size (differ_at i ps) = 1 + proofs_size ps
  proof_size (split_on t p q) = 1 + (proof_size p + proof_size q)
  proof_size (meet_at i j k) = 1

  pub proofs_size : PureNamedProofs → ℕ
  proofs_size no_proofs = 0
  proofs_size (proof_and p ps) = 1 + (proof_size p + proofs_size ps)

pub size-element : (ps : List PureNamedProof) (i : ℕ) (p : PureNamedProof) → slice_get ps i ≡ Some p → proof_size p < proofs_size (from_list ps)
size-element [] i p is = cc
size-element (q ∷ ps) zero p is = let here : proof_size q ≡ proof_size p = (let same : q ≡ p = cc in ap proof_size same) in omega (arith, here)
size-element (q ∷ ps) (suc i) p is = let rest : proof_size p < proofs_size (from_list ps) = size-element ps i p is in omega (arith, rest)
