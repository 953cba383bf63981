-- Lists of terms and of proofs, element by element.
use Rattle.std.proofs.Common.{◌≡◌, ℕ, zero, suc, ◌+◌, List, [], ◌∷◌, ◌++◌, map, take, Some, slice_get, refl, ap, add-one}
use Rattle.gil_syntax.specs.Pure.{expr_and, from_list as list_exprs}
use Rattle.pure_terms.specs.Pure.{PureTerm, from_list as list_terms}
use Rattle.solver_proof.specs.Pure.{PureProof, from_list}
use Rattle.gil_report.specs.Pure as report
use Rattle.report_names.specs.Named.{expression_of, expressions_of, proof_of, proofs_of}

pub expressions-from_list : (names : List (List ℕ)) (ts : List PureTerm) → expressions_of names (list_terms ts) ≡ list_exprs (map (expression_of names) ts)
expressions-from_list names [] = refl
expressions-from_list names (t ∷ ts) = ap (expr_and (expression_of names t)) (expressions-from_list names ts)

pub proofs-from_list : (names : List (List ℕ)) (ps : List PureProof) → proofs_of names (from_list ps) ≡ report.from_list (map (proof_of names) ps)
proofs-from_list names [] = refl
proofs-from_list names (p ∷ ps) = ap (report.proof_and (proof_of names p)) (proofs-from_list names ps)

one_more : (names : List (List ℕ)) (ps : List PureProof) (i : ℕ) (p : PureProof) → slice_get ps i ≡ Some p
    → map (proof_of names) (take (suc i) ps) ≡ map (proof_of names) (take i ps) ++ proof_of names p ∷ []
one_more names [] i p e = cc
one_more names (q ∷ ps) zero p e = let same : q ≡ p = cc in ap (λ r. proof_of names r ∷ []) same
one_more names (q ∷ ps) (suc i) p e = ap (λ rest. proof_of names q ∷ rest) (one_more names ps i p e)

-- one proof more
pub named_more : (names : List (List ℕ)) (ps : List PureProof) (i : ℕ) (p : PureProof) → slice_get ps i ≡ Some p
    → map (proof_of names) (take (i + 1) ps) ≡ map (proof_of names) (take i ps) ++ proof_of names p ∷ []
named_more names ps i p e = rw add-one (one_more names ps i p e)
