use Rattle.std.proofs.Common.{Option, IfSome, subst}
use Rattle.std.specs.Option.{option_map}
use Rattle.gil_syntax.specs.Program.{prog_view}
use Rattle.gil_syntax.specs.View.{spec_view}
use Rattle.solver_proof.specs.declared.proofs.Proof.{Proof}
use Rattle.solver_proof.specs.Refuting.{RefutesRightly}
use Rattle.solver_proof.specs.View.{proof_view}
use Rattle.spec_checker.proofs.Examined.{explored_found, vacuous_found}
use Rattle.spec_vacuity.specs.Translation.{precondition_table, precondition_atoms}
use Rattle.spec_vacuity.specs.Vacuity.{HasNoStart}
use Rattle.spec_checker.proofs.examining.find.Goals as goal

pub returns-in-Some : goal.returns-in-Some
returns-in-Some g c =
    let s = spec_view c.args.spec.now in
    let closes =
    subst (λ (o : Option Proof). RefutesRightly (precondition_table s) (precondition_atoms s) (option_map proof_view o)) c.in-Some.is c.in_ok-proof.ensures.refutes in
    let none = subst (λ (o : Option Proof). IfSome o (λ proof. HasNoStart s)) c.in-Some.is c.in_ok-proof.ensures.vacuous in
    vacuous_found (prog_view c.args.prog.now) g.M.Local.LocalMemory.memory g.M.Local.LocalMemory.actions g.M.SymMemory.keeps_plain c.args.bound s c.vacuous_specifications_have_no_run.ensures c.in-Some.proof none closes

pub returns-in_ok-explored-in-None : goal.returns-in_ok-explored-in-None
returns-in_ok-explored-in-None g c =
    let s = spec_view c.args.spec.now in
    let rightly =
    subst (λ (o : Option Proof). RefutesRightly (precondition_table s) (precondition_atoms s) (option_map proof_view o)) c.in-None.is c.in_ok-proof.ensures.refutes in
    explored_found (prog_view c.args.prog.now) g.M.Local.LocalMemory.memory g.M.Local.LocalMemory.actions g.M.SymMemory.keeps_plain c.args.bound s rightly
    c.in_ok-explored-in-None.explored.cause c.in_ok-explored-in-None.explored.uses c.finding_of.result c.finding_of.ensures c.in_ok-explored-in-None.ensures.verified c.in_ok-explored-in-None.ensures.causes
    c.in_ok-explored-in-None.ensures.ended c.in_ok-explored-in-None.ensures.used c.in_ok-explored-in-None.ensures.contained c.in_ok-explored-in-None.ensures.plain
