-- Printed proofs. Atoms are named by their places in the list.
use Rattle.std.specs.Prelude.{ℕ, List, [], ◌∷◌, ◌++◌, codes}
use Rattle.std.specs.List.{join_by}
use Rattle.gil_values.specs.Printed.{numeral, signed_numeral}
use Rattle.solver_proof.specs.declared.proofs.ChainEnd.{ChainEnd}
use Rattle.solver_proof.specs.declared.proofs.Factor.{Factor}
use Rattle.solver_proof.specs.Pure.{PureProof, sum_of, false_at, chain, cases_of, values_at, parts_apart, parts_at, differ_at, split_on, meet_at, PureProofs, no_proofs, proof_and}
use Rattle.solver_print.specs.Terms.{printed_term}

-- 2:-1
abbrev pub printed_factor : Factor → List ℕ
printed_factor f = numeral f.atom ++ codes ":" ++ signed_numeral f.factor

-- sum [i:f, ..]
abbrev pub printed_sum : List Factor → List ℕ
printed_sum fs = codes "sum [" ++ join_by printed_factor (codes ", ") fs ++ codes "]"

abbrev pub printed_end : ChainEnd → List ℕ
printed_end ChainEnd.Literals = codes "literals"
printed_end ChainEnd.Kinds = codes "kinds"
printed_end ChainEnd.Fresh = codes "fresh"
printed_end (ChainEnd.Not i) = codes "not " ++ numeral i
printed_end (ChainEnd.Kind i) = codes "kind " ++ numeral i
printed_end (ChainEnd.BothKinds i j) = codes "kind " ++ numeral i ++ codes " " ++ numeral j

-- chain [i, ..] end
abbrev pub printed_chain : List ℕ → ChainEnd → List ℕ
printed_chain is end = codes "chain [" ++ join_by numeral (codes ", ") is ++ codes "] " ++ printed_end end

-- meet i j k
abbrev pub printed_meet : ℕ → ℕ → ℕ → List ℕ
printed_meet i j k = codes "meet " ++ numeral i ++ codes " " ++ numeral j ++ codes " " ++ numeral k

-- [P, ..], behind a blank
abbrev pub in_brackets : List (List ℕ) → List ℕ
in_brackets proofs = codes " [" ++ join_by (λ printed. printed) (codes ", ") proofs ++ codes "]"

abbrev mutual
  pub printed_proof : List (List ℕ) → PureProof → List ℕ
  printed_proof names (sum_of fs) = printed_sum fs
  printed_proof names (false_at i) = codes "false " ++ numeral i
  printed_proof names (chain is end) = printed_chain is end
  printed_proof names (cases_of t ps) = codes "cases " ++ printed_term names t ++ in_brackets (printed_proofs names ps)
  printed_proof names (values_at i ps) = codes "values " ++ numeral i ++ in_brackets (printed_proofs names ps)
  printed_proof names (parts_apart i) = codes "parts " ++ numeral i
  printed_proof names (parts_at i p) = codes "parts " ++ numeral i ++ codes " " ++ printed_proof names p
  printed_proof names (differ_at i ps) = codes "differ " ++ numeral i ++ in_brackets (printed_proofs names ps)
  printed_proof names (split_on t p q) =
      codes "split " ++ printed_term names t ++ codes " (" ++ printed_proof names p ++ codes ") (" ++ printed_proof names q ++ codes ")"
  printed_proof names (meet_at i j k) = printed_meet i j k

  pub printed_proofs : List (List ℕ) → PureProofs → List (List ℕ)
  printed_proofs names no_proofs = []
  printed_proofs names (proof_and p ps) = printed_proof names p ∷ printed_proofs names ps
