-- The pure data of proofs.
use Rattle.std.specs.Prelude.{List, Some, None}
use Rattle.pure_terms.specs.View.{term_view}
use Rattle.solver_proof.specs.declared.proofs.Proof.{Proof, fold-Proof}
use Rattle.solver_proof.specs.declared.proofs.Proofs.{Proofs, fold-Proofs}
use Rattle.solver_proof.specs.declared.proofs.Proof.TheOpen.{Proof-F, Proofs-F}
use Rattle.solver_proof.specs.Pure.{PureProof, sum_of, false_at, chain, cases_of, values_at, parts_apart, parts_at, differ_at, split_on, meet_at, from_list}

-- one level of a proof, with each part already seen as its pure data
abbrev pub proof_step : Proof-F PureProof (List PureProof) → PureProof
proof_step (Proof-F.Sum fs) = sum_of fs
proof_step (Proof-F.False i) = false_at i
proof_step (Proof-F.Chain is end) = chain is end
proof_step (Proof-F.Cases t ps) = cases_of (term_view t) (from_list ps)
proof_step (Proof-F.Values i ps) = values_at i (from_list ps)
proof_step (Proof-F.Parts i None) = parts_apart i
proof_step (Proof-F.Parts i (Some p)) = parts_at i p.value
proof_step (Proof-F.Differ i ps) = differ_at i (from_list ps)
proof_step (Proof-F.Split t p q) = split_on (term_view t) p.value q.value
proof_step (Proof-F.Meet i j k) = meet_at i j k

abbrev pub proofs_step : Proofs-F PureProof (List PureProof) → List PureProof
proofs_step ps = ps.items.items

abbrev pub proof_view : Proof → PureProof
proof_view = fold-Proof PureProof (List PureProof) proof_step proofs_step

abbrev pub proofs_view : Proofs → List PureProof
proofs_view = fold-Proofs PureProof (List PureProof) proof_step proofs_step
