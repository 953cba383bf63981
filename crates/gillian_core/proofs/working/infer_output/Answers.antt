use Rattle.std.proofs.Common.{refl}
use Rattle.std.proofs.lemmas.Result.{err_from_is_err_and}
use Rattle.gil_syntax.specs.Program.{prog_view}
use Rattle.gillian_words.specs.Tasks.{infer}
use Rattle.gillian_core.proofs.Cases.{if_ok_known}
use Rattle.gillian_core.proofs.Refusing.{no_output_for_memory, refused_for}
use Rattle.gillian_core.proofs.working.infer_output.Goals as goal

pub returns-in_err-prog-clause-none : goal.returns-in_err-prog-clause-none
returns-in_err-prog-clause-none g c =
    let p = err_from_is_err_and c.from_residual.result c.from_residual.ensures.1 in
    rw (p.1, p.2) (refused_for (infer c.args.language c.args.entry c.args.bound.steps) c.args.bytes.now c.in_err-prog.field-0.0 c.in_err-prog.ensures.none)

pub returns-in_err-answers-clause-none : goal.returns-in_err-answers-clause-none
returns-in_err-answers-clause-none g c =
    let p = err_from_is_err_and c.from_residual-in_err-answers.result c.from_residual-in_err-answers.ensures.1 in
    rw (p.1, p.2) (no_output_for_memory (infer c.args.language c.args.entry c.args.bound.steps) c.args.bytes.now c.in_err-answers.field-0.0 c.in_err-answers.ensures.err)

pub returns-clause-output : goal.returns-clause-output
returns-clause-output g c =
    let known = if_ok_known c.infer_in.result c.in_ok-answers.answers _ c.in_ok-answers.ensures.ok c.infer_in.ensures in (
      refl,
      record {
        program = prog_view c.in_ok-prog.prog;
        text = c.in_ok-prog.ensures.program.0;
        keeps = c.in_ok-prog.ensures.program.1;
        has = c.in_ok-prog.ensures.has;
        right = known;
      },
    )
