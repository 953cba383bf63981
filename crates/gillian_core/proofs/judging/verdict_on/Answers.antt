use Rattle.std.proofs.lemmas.Result.{err_from_is_err_and}
use Rattle.gil_syntax.specs.Program.{prog_view}
use Rattle.gillian_words.specs.Tasks.{test}
use Rattle.gil_report.specs.View.{answer_view}
use Rattle.gillian_core.proofs.Cases.{if_ok_known}
use Rattle.gillian_core.proofs.Refusing.{no_output_for_memory, refused_for}
use Rattle.gillian_core.proofs.Verdicts.{verdict_is_meant}
use Rattle.gillian_core.proofs.judging.verdict_on.Goals as goal

pub returns-in_err-prog-clause-none : goal.returns-in_err-prog-clause-none
returns-in_err-prog-clause-none g c =
    let p = err_from_is_err_and c.from_residual.result c.from_residual.ensures.1 in
    rw (p.1, p.2) (refused_for (test c.args.language c.args.entry.now c.args.bound.steps) c.args.bytes.now c.in_err-prog.field-0.0 c.in_err-prog.ensures.none)

pub returns-in_err-answer-clause-none : goal.returns-in_err-answer-clause-none
returns-in_err-answer-clause-none g c =
    let p = err_from_is_err_and c.from_residual-in_err-answer.result c.from_residual-in_err-answer.ensures.1 in
    rw (p.1, p.2) (no_output_for_memory (test c.args.language c.args.entry.now c.args.bound.steps) c.args.bytes.now c.in_err-answer.field-0.0 c.in_err-answer.ensures.err)

pub returns-clause-verdict : goal.returns-clause-verdict
returns-clause-verdict g c =
    let program = c.in_ok-prog.ensures.program in
    let known = if_ok_known c.verdict_in.result c.in_ok-answer.answer _ c.in_ok-answer.ensures.ok c.verdict_in.ensures in
    record {
      program = prog_view c.in_ok-prog.prog;
      text = c.in_ok-prog.ensures.program.0;
      enters = c.in_ok-prog.ensures.entry;
      verdict = known;
      meant = verdict_is_meant c.args.language c.args.bytes.now (prog_view c.in_ok-prog.prog) c.args.entry.now c.args.bound.steps
          (answer_view c.in_ok-answer.answer) program.1 known;
    }
