use Rattle.std.proofs.Common.{◌≡◌, List, sym, ap, ◌∙◌, subst}
use Rattle.pure_terms.specs.declared.variables.Sort.{Sort}
use Rattle.solver_proof.specs.declared.proofs.Proof.{Proof}
use Rattle.solver_proof.specs.Closing.{Closes}
use Rattle.solver_proof.specs.View.{proof_view}
use Rattle.equality_core.specs.Classes.{classes_view, given_list, under_parts}
use Rattle.equality_core.proofs.Finding.{ok_then}
use Rattle.equality_core.proofs.Taking.{under-closes}
use Rattle.equality_core.proofs.classes.Classes.proof_of_given.Goals as goal

pub returns : goal.returns
returns c =
    ok_then c.under_parts.result (λ (p : Proof). proof_view p ≡ under_parts c.as_slice.result.now (proof_view c.args.proof))
    (λ (p : Proof). (vars : List Sort) → Closes vars (classes_view c.args.self.now).list (proof_view c.args.proof) → Closes vars (given_list (classes_view c.args.self.now)) (proof_view p))
    (λ p is vars closes. subst (Closes vars (given_list (classes_view c.args.self.now))) (sym (is ∙ ap (λ o. under_parts o (proof_view c.args.proof)) c.as_slice.ensures.value))
    (under-closes vars (given_list (classes_view c.args.self.now)) c.args.self.now.opened.items (classes_view c.args.self.now).list (proof_view c.args.proof) c.requires.opened closes))
    c.under_parts.ensures
