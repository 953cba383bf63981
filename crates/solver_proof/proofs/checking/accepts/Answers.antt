use Rattle.std.proofs.Common.{subst}
use Rattle.pure_terms.specs.View.{atoms_view}
use Rattle.solver_proof.specs.Closing.{Closes}
use Rattle.solver_proof.specs.View.{proof_view}
use Rattle.solver_proof.proofs.Sound.{closed_lists_have_no_solution}
use Rattle.solver_proof.proofs.Views.{list_view-given}
use Rattle.solver_proof.proofs.checking.accepts.Goals as goal

pub returns-clause-sound : goal.returns-clause-sound
returns-clause-sound c over told =
    let closes = subst (λ atoms. Closes c.args.vars.now atoms (proof_view c.args.proof.now)) (list_view-given c.args.atoms) (c.closes.ensures.0 told) in
    closed_lists_have_no_solution c.args.vars.now (atoms_view c.args.atoms.now) (proof_view c.args.proof.now) over closes
