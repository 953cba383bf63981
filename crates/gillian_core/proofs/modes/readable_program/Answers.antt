use Rattle.std.proofs.Common.{subst}
use Rattle.std.proofs.lemmas.Result.{err_from_is_err_and}
use Rattle.assert_logic.specs.Modes.{IsNamedModeFault}
use Rattle.gil_syntax.specs.Program.{prog_view}
use Rattle.gillian_core.specs.Languages.{definition_of}
use Rattle.gillian_core.proofs.Checked.{no_modes}
use Rattle.gillian_core.proofs.Refusing.{lacks_modes, no_readable_of}
use Rattle.gillian_core.proofs.modes.readable_program.Goals as goal

pub returns-in_err-prog-clause-none : goal.returns-in_err-prog-clause-none
returns-in_err-prog-clause-none c =
    let p = err_from_is_err_and c.from_residual.result c.from_residual.ensures.1 in
    rw (p.1, p.2) (no_readable_of (definition_of c.args.language) c.args.bytes.now c.in_err-prog.field-0.0 c.in_err-prog.ensures.none)

pub returns-in-Err-clause-none : goal.returns-in-Err-clause-none
returns-in-Err-clause-none c =
    let p = prog_view c.in_ok-prog.prog in
    lacks_modes (definition_of c.args.language) c.args.bytes.now p c.in_ok-prog.ensures.program.0 c.in_ok-prog.ensures.only
    (no_modes p (definition_of c.args.language).memory.name c.in-Err.fault.kind c.in-Err.fault.item
    (subst (λ memory. IsNamedModeFault p memory c.in-Err.fault.kind c.in-Err.fault.item) c.memory_name.ensures c.in-Err.ensures.err)) c.modes_refused.result c.modes_refused.ensures
