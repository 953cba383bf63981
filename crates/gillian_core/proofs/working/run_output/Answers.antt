use Rattle.std.proofs.Common.{refl, sym, subst}
use Rattle.std.proofs.lemmas.Result.{err_from_is_err_and}
use Rattle.gil_syntax.specs.Program.{prog_view}
use Rattle.gil_values.specs.View.{values_view}
use Rattle.gillian_words.specs.Tasks.{run}
use Rattle.gil_report.specs.View.{answer_view}
use Rattle.gillian_core.specs.Languages.{definition_of}
use Rattle.gillian_core.proofs.Cases.{if_ok_known}
use Rattle.gillian_core.proofs.MeantTexts.{run_is_meant}
use Rattle.gillian_core.proofs.Refusing.{no_output_for_memory, refused_for}
use Rattle.gillian_core.proofs.working.run_output.Goals as goal

pub returns-in_err-prog-clause-none : goal.returns-in_err-prog-clause-none
returns-in_err-prog-clause-none c =
    let p = err_from_is_err_and c.from_residual.result c.from_residual.ensures.1 in
    rw (p.1, p.2) (refused_for (run c.args.language c.args.entry c.args.bound.steps (values_view c.args.inputs.now)) c.args.bytes.now c.in_err-prog.field-0.0 c.in_err-prog.ensures.none)

pub returns-in_err-answer-clause-none : goal.returns-in_err-answer-clause-none
returns-in_err-answer-clause-none c =
    let p = err_from_is_err_and c.from_residual-in_err-answer.result c.from_residual-in_err-answer.ensures.1 in
    rw (p.1, p.2) (no_output_for_memory (run c.args.language c.args.entry c.args.bound.steps (values_view c.args.inputs.now)) c.args.bytes.now c.in_err-answer.field-0.0 c.in_err-answer.ensures.err)

pub returns-in_err-output-clause-none : goal.returns-in_err-output-clause-none
returns-in_err-output-clause-none c =
    let p = err_from_is_err_and c.from_residual-in_err-output.result c.from_residual-in_err-output.ensures.1 in
    rw (p.1, p.2) (no_output_for_memory (run c.args.language c.args.entry c.args.bound.steps (values_view c.args.inputs.now)) c.args.bytes.now c.in_err-output.field-0.0 c.in_err-output.ensures.err)

pub returns-clause-output : goal.returns-clause-output
returns-clause-output c =
    let program = c.in_ok-prog.ensures.program in
    let known = if_ok_known c.run_in.result c.in_ok-answer.answer _ c.in_ok-answer.ensures.ok c.run_in.ensures in
    let built = if_ok_known c.report_of.result c.in_ok-output.output _ c.in_ok-output.ensures.ok c.report_of.ensures in
    rw built (
      refl,
      (
        answer_view c.in_ok-answer.answer,
        refl,
        record {
          program = prog_view c.in_ok-prog.prog;
          text = c.in_ok-prog.ensures.program.0;
          enters = c.in_ok-prog.ensures.entry;
          ends = known;
          meant = subst ((definition_of c.args.language).IsMeant c.args.bytes.now c.args.entry (values_view c.args.inputs.now)) (sym known)
              (run_is_meant c.args.language c.args.bytes.now (prog_view c.in_ok-prog.prog) c.args.entry (values_view c.args.inputs.now)
              c.args.bound.steps program.1 c.in_ok-prog.ensures.entry);
        },
      ),
    )
