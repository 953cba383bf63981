-- Printed proofs, with expressions for their terms.
use Rattle.std.specs.Prelude.{ℕ, List, [], ◌∷◌, ◌++◌, codes}
use Rattle.gil_values.specs.Printed.{numeral}
use Rattle.syntax_print.specs.Expressions.{printed_expr}
use Rattle.solver_print.specs.Proofs.{in_brackets, printed_chain, printed_meet, printed_sum}
use Rattle.gil_report.specs.Pure.{PureNamedProof, sum_of, false_at, chain, cases_of, values_at, parts_apart, parts_at, differ_at, split_on, meet_at}
use Rattle.gil_report.specs.Pure.{PureNamedProofs, no_proofs, proof_and}

abbrev mutual
  pub printed_proof : PureNamedProof → List ℕ
  printed_proof (sum_of fs) = printed_sum fs
  printed_proof (false_at i) = codes "false " ++ numeral i
  printed_proof (chain is end) = printed_chain is end
  printed_proof (cases_of e ps) = codes "cases " ++ printed_expr e ++ in_brackets (printed_proofs ps)
  printed_proof (values_at i ps) = codes "values " ++ numeral i ++ in_brackets (printed_proofs ps)
  printed_proof (parts_apart i) = codes "parts " ++ numeral i
  printed_proof (parts_at i p) = codes "parts " ++ numeral i ++ codes " " ++ printed_proof p
  printed_proof (differ_at i ps) = codes "differ " ++ numeral i ++ in_brackets (printed_proofs ps)
  printed_proof (split_on e p q) =
      codes "split " ++ printed_expr e ++ codes " (" ++ printed_proof p ++ codes ") (" ++ printed_proof q ++ codes ")"
  printed_proof (meet_at i j k) = printed_meet i j k

  pub printed_proofs : PureNamedProofs → List (List ℕ)
  printed_proofs no_proofs = []
  printed_proofs (proof_and p ps) = printed_proof p ∷ printed_proofs ps
