use Rattle.std.proofs.lemmas.Result.{err_from_is_err_and}
use Rattle.gil_syntax.specs.Program.{prog_view}
use Rattle.gillian_core.specs.Accepted.{EntersAt}
use Rattle.gillian_core.specs.Languages.{definition_of}
use Rattle.gillian_core.proofs.Cases.{not_true}
use Rattle.gillian_core.proofs.Refusing.{lacks_entry, no_entry_of}
use Rattle.gillian_core.proofs.entries.program_with.Goals as goal

pub returns-in_err-prog-clause-none : goal.returns-in_err-prog-clause-none
returns-in_err-prog-clause-none c =
    let p = err_from_is_err_and c.from_residual.result c.from_residual.ensures.1 in
    rw (p.1, p.2)
    (no_entry_of (definition_of c.args.language) (EntersAt c.args.entry.now) c.args.bytes.now c.in_err-prog.field-0.0 c.in_err-prog.ensures.none)

pub returns-else-is_entry-clause-none : goal.returns-else-is_entry-clause-none
returns-else-is_entry-clause-none c =
    lacks_entry (definition_of c.args.language) (EntersAt c.args.entry.now) c.args.bytes.now (prog_view c.in_ok-prog.prog) c.in_ok-prog.ensures.program.0
    c.in_ok-prog.ensures.only (λ is. not_true _ c.if-is_entry.false (c.is_entry.ensures.1 is)) c.no_entry.result c.no_entry.ensures.at c.no_entry.ensures.kind
