use Rattle.std.proofs.Common.{sym}
use Rattle.std.proofs.lemmas.Result.{err_from_is_err_and}
use Rattle.gil_syntax.specs.Program.{prog_view}
use Rattle.clike_compiler.specs.Source.{source_view}
use Rattle.gillian_core.specs.ClikeLanguage.{clike_sources}
use Rattle.gillian_core.proofs.Refusing.{one_compiled, source_unread, source_too_long}
use Rattle.gillian_core.proofs.clike_language.program.Goals as goal

pub returns-in_err-source-clause-none : goal.returns-in_err-source-clause-none
returns-in_err-source-clause-none c =
    let p = err_from_is_err_and c.from_residual.result c.from_residual.ensures.1 in
    rw (p.1, p.2) (source_unread clike_sources c.args.bytes.now c.in_err-source.field-0.0 c.in_err-source.ensures.only c.in_err-source.ensures.refused)

pub returns-in-Ok-clause-program : goal.returns-in-Ok-clause-program
returns-in-Ok-clause-program c = (
  record {
    source = source_view c.in_ok-source.source;
    spelled = c.in_ok-source.ensures.ok;
    valid = c.in_ok-source.source.valid;
    short = c.in-Ok.ensures.short;
    program = sym c.in-Ok.ensures.compiled;
  },
  (source_view c.in_ok-source.source, c.in_ok-source.ensures.ok, c.in-Ok.ensures.same_ends),
)

pub returns-in-Ok-clause-only : goal.returns-in-Ok-clause-only
returns-in-Ok-clause-only c =
    one_compiled clike_sources c.args.bytes.now (source_view c.in_ok-source.source) (prog_view c.in-Ok.prog) c.in-Ok.ensures.compiled
    c.in_ok-source.ensures.only

pub returns-clause-none : goal.returns-clause-none
returns-clause-none c =
    rw c.limit_refused.ensures
    (source_too_long clike_sources c.args.bytes.now (source_view c.in_ok-source.source) c.in-Err.too_many c.in_ok-source.ensures.ok
    c.in_ok-source.source.valid c.in_ok-source.ensures.only c.in-Err.ensures.limit)
