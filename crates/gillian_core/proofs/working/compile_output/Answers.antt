use Rattle.std.proofs.lemmas.Result.{err_from_is_err_and}
use Rattle.gillian_words.specs.Tasks.{compile}
use Rattle.gillian_core.proofs.Refusing.{refused_for}
use Rattle.gillian_core.proofs.working.compile_output.Goals as goal

pub returns-in_err-prog-clause-none : goal.returns-in_err-prog-clause-none
returns-in_err-prog-clause-none c =
    let p = err_from_is_err_and c.from_residual.result c.from_residual.ensures.1 in
    rw (p.1, p.2) (refused_for (compile c.args.language) c.args.bytes.now c.in_err-prog.field-0.0 c.in_err-prog.ensures.none)
