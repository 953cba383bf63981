use Rattle.std.proofs.Common.{◌≡◌, ◌-◌, ◌≤◌, List, ℕ, [], ◌∷◌, take, drop, length, get_or, ap, ◌∙◌, arith, rules, Some}
use Rattle.std.proofs.lemmas.Grind.{common_steps}
use Rattle.solver_proof.specs.declared.proofs.Proof
use Rattle.solver_proof.specs.declared.proofs.Proof.{the_lemmas}
use Rattle.solver_proof.specs.Pure.{PureProof, parts_at}
use Rattle.solver_proof.specs.View.{proof_view}
use Rattle.equality_core.specs.Classes.{under_parts}
use Rattle.equality_core.proofs.opening.+under_parts.Goals as goal

first_and_rest : (x : ℕ) (xs : List ℕ) → take (length (x ∷ xs) - 1) (drop 1 (x ∷ xs)) ≡ xs
first_and_rest x xs = grind (arith, common_steps)

under_first : (is : List ℕ) (p : PureProof) → 1 ≤ length is → parts_at (get_or is 0 0) (under_parts (take (length is - 1) (drop 1 is)) p) ≡ under_parts is p
under_first [] p h = absurd (omega (arith, h))
under_first (i ∷ is) p h = ap (λ js. parts_at i (under_parts js p)) (first_and_rest i is)

pub returns-in_ok-new-in-len1-up : goal.returns-in_ok-new-in-len1-up
returns-in_ok-new-in-len1-up t c =
    let view : proof_view (Proof.Parts (get_or c.args.opened.now 0 0) (Some c.in_ok-new-in-len1-up.field-0)) ≡ parts_at (get_or c.args.opened.now 0 0) (proof_view c.in_ok-new-in-len1-up.field-0.value) = search (rules, the_lemmas) in
    view
    ∙ ap (λ b. parts_at (get_or c.args.opened.now 0 0) (proof_view b)) c.in_ok-new-in-len1-up.ensures.ok
    ∙ ap (parts_at (get_or c.args.opened.now 0 0)) c.in_ok-inner-in-len1-up.ensures
    ∙ under_first c.args.opened.now (proof_view c.args.proof) c.in-len1-up.len_at_least
