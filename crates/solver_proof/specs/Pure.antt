-- Proofs as pure data, without addresses and capacities.
use Rattle.std.specs.Prelude.{ℕ, List, [], ◌∷◌}
use Rattle.pure_terms.specs.Pure.{PureTerm}
use Rattle.solver_proof.specs.declared.proofs.ChainEnd.{ChainEnd}
use Rattle.solver_proof.specs.declared.proofs.Factor.{Factor}

-- numbers are places of atoms in the list; `parts_apart` is of list terms of other lengths
mutual
  pub data PureProof : Type 0 where
    sum_of : List Factor → PureProof
    false_at : ℕ → PureProof
    chain : List ℕ → ChainEnd → PureProof
    cases_of : PureTerm → PureProofs → PureProof
    values_at : ℕ → PureProofs → PureProof
    parts_apart : ℕ → PureProof
    parts_at : ℕ → PureProof → PureProof
    differ_at : ℕ → PureProofs → PureProof
    split_on : PureTerm → PureProof → PureProof → PureProof
    meet_at : ℕ → ℕ → ℕ → PureProof

  pub data PureProofs : Type 0 where
    no_proofs : PureProofs
    proof_and : PureProof → PureProofs → PureProofs

abbrev pub from_list : List PureProof → PureProofs
from_list [] = no_proofs
from_list (p ∷ ps) = proof_and p (from_list ps)
