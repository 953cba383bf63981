-- Writable proofs are printed in ASCII.
use Rattle.std.proofs.Common.{ℕ, List, ◌++◌, refl}
use Rattle.std.specs.Prelude.{codes}
use Rattle.std.specs.List.{AllByRecursion, join_by}
use Rattle.gil_values.specs.Printed.{numeral, signed_numeral}
use Rattle.syntax_print.specs.Expressions.{printed_expr}
use Rattle.solver_proof.specs.declared.proofs.ChainEnd.{ChainEnd}
use Rattle.solver_proof.specs.declared.proofs.Factor.{Factor}
use Rattle.solver_print.specs.Proofs.{printed_factor, printed_end, printed_chain, printed_meet, in_brackets}
use Rattle.gil_report.specs.Proofs.{printed_proof, printed_proofs}
use Rattle.gil_report.specs.Pure.{PureNamedProof, sum_of, false_at, chain, cases_of, values_at, parts_apart, parts_at, differ_at, split_on, meet_at}
use Rattle.gil_report.specs.Pure.{PureNamedProofs, no_proofs, proof_and}
use Rattle.proof_text.specs.Writable.{IsPlaceOfAtom, IsWritableFactor, IsWritableProof, AreWritableProofs}
use Rattle.json_parts.proofs.Ascii.{both_ascii}
use Rattle.report_json.proofs.AsciiSyntax.{IsAscii, numeral_ascii, signed_ascii, within_ascii, joined_ascii, each, expr_ascii}

-- a word, and a number behind it
worded_ascii : (word : List ℕ) (n : ℕ) → IsAscii word → IsAscii (word ++ numeral n)
worded_ascii word n is = both_ascii word (numeral n) is (numeral_ascii n)

factor_ascii : (f : Factor) → IsAscii (printed_factor f)
factor_ascii f = within_ascii (numeral f.atom) (codes ":") (signed_numeral f.factor) (numeral_ascii f.atom) refl (signed_ascii f.factor)

end_ascii : (end : ChainEnd) → IsAscii (printed_end end)
end_ascii ChainEnd.Literals = refl
end_ascii ChainEnd.Kinds = refl
end_ascii ChainEnd.Fresh = refl
end_ascii (ChainEnd.Not i) = worded_ascii (codes "not ") i refl
end_ascii (ChainEnd.Kind i) = worded_ascii (codes "kind ") i refl
end_ascii (ChainEnd.BothKinds i j) = within_ascii (codes "kind " ++ numeral i) (codes " ") (numeral j) (worded_ascii (codes "kind ") i refl) refl (numeral_ascii j)

chain_ascii : (is : List ℕ) (end : ChainEnd) → AllByRecursion IsPlaceOfAtom is → IsAscii (printed_chain is end)
chain_ascii is end all =
    let places : IsAscii (join_by numeral (codes ", ") is) =
    joined_ascii numeral (codes ", ") refl is (each IsPlaceOfAtom (λ n. IsAscii (numeral n)) (λ n small. numeral_ascii n) is all) in
    within_ascii (codes "chain [" ++ join_by numeral (codes ", ") is) (codes "] ") (printed_end end)
    (both_ascii (codes "chain [") (join_by numeral (codes ", ") is) refl places) refl (end_ascii end)

meet_ascii : (i j k : ℕ) → IsAscii (printed_meet i j k)
meet_ascii i j k =
    within_ascii (((codes "meet " ++ numeral i) ++ codes " ") ++ numeral j) (codes " ") (numeral k)
    (within_ascii (codes "meet " ++ numeral i) (codes " ") (numeral j) (worded_ascii (codes "meet ") i refl) refl (numeral_ascii j)) refl (numeral_ascii k)

branches_ascii : (proofs : List (List ℕ)) → AllByRecursion IsAscii proofs → IsAscii (in_brackets proofs)
branches_ascii proofs all =
    within_ascii (codes " [") (join_by (λ printed. printed) (codes ", ") proofs) (codes "]") refl (joined_ascii (λ printed. printed) (codes ", ") refl proofs all) refl

mutual
  pub proof_ascii : (p : PureNamedProof) → IsWritableProof p → IsAscii (printed_proof p)
  proof_ascii (sum_of fs) is =
      within_ascii (codes "sum [") (join_by printed_factor (codes ", ") fs) (codes "]") refl
      (joined_ascii printed_factor (codes ", ") refl fs (each IsWritableFactor (λ f. IsAscii (printed_factor f)) (λ f w. factor_ascii f) fs is)) refl
  proof_ascii (false_at i) is = worded_ascii (codes "false ") i refl
  proof_ascii (chain is end) w = chain_ascii is end w.0
  proof_ascii (cases_of e ps) is =
      within_ascii (codes "cases ") (printed_expr e) (in_brackets (printed_proofs ps)) refl (expr_ascii e is.0) (branches_ascii (printed_proofs ps) (proofs_ascii ps is.1))
  proof_ascii (values_at i ps) is =
      within_ascii (codes "values ") (numeral i) (in_brackets (printed_proofs ps)) refl (numeral_ascii i) (branches_ascii (printed_proofs ps) (proofs_ascii ps is.1))
  proof_ascii (parts_apart i) is = worded_ascii (codes "parts ") i refl
  proof_ascii (parts_at i p) is =
      within_ascii (codes "parts " ++ numeral i) (codes " ") (printed_proof p) (worded_ascii (codes "parts ") i refl) refl (proof_ascii p is.1)
  proof_ascii (differ_at i ps) is =
      within_ascii (codes "differ ") (numeral i) (in_brackets (printed_proofs ps)) refl (numeral_ascii i) (branches_ascii (printed_proofs ps) (proofs_ascii ps is.1))
  proof_ascii (split_on e p q) is =
      let first : IsAscii (((codes "split " ++ printed_expr e) ++ codes " (") ++ printed_proof p) =
      within_ascii (codes "split " ++ printed_expr e) (codes " (") (printed_proof p) (both_ascii (codes "split ") (printed_expr e) refl (expr_ascii e is.0)) refl (proof_ascii p is.1) in
      within_ascii ((((codes "split " ++ printed_expr e) ++ codes " (") ++ printed_proof p) ++ codes ") (") (printed_proof q) (codes ")")
      (both_ascii (((codes "split " ++ printed_expr e) ++ codes " (") ++ printed_proof p) (codes ") (") first refl) (proof_ascii q is.2) refl
  proof_ascii (meet_at i j k) is = meet_ascii i j k

  proofs_ascii : (ps : PureNamedProofs) → AreWritableProofs ps → AllByRecursion IsAscii (printed_proofs ps)
  proofs_ascii no_proofs is = tt
  proofs_ascii (proof_and p ps) is = (proof_ascii p is.0, proofs_ascii ps is.1)
