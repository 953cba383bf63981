-- The answers of the code as data.
use Rattle.std.specs.Prelude.{[], map}
use Rattle.gil_syntax.specs.Program.{prog_view}
use Rattle.sym_test.specs.View.{PureQuery, PureVerdict}
use Rattle.sym_test.specs.View as verdict
use Rattle.gil_report.specs.Pure.{PureAnswer, PureQuestion, clean, bug, undecided}
use Rattle.gil_report.specs.View.{report_view}
use Rattle.report_names.specs.Named.{condition_of}
use Rattle.gillian_core.specs.declared.outputs.Output.{Output}
use Rattle.gillian_core.specs.declared.outputs.Output.TheVariants as outputs
use Rattle.gillian_core.specs.Outputs.{PureOutput, a_report, a_program}

-- a query as a report has it: each variable is `v` and its number
abbrev pub question_of : PureQuery → PureQuestion
question_of q = record {
  place = q.place;
  path = q.path;
  vars = q.vars;
  given = map (condition_of []) q.given;
  query = map (condition_of []) q.query;
  outside = q.outside;
}

-- the answer that a verdict is
abbrev pub verdict_answer : PureVerdict → PureAnswer
verdict_answer (verdict.bug place value inputs) = bug place value inputs
verdict_answer verdict.clean = clean
verdict_answer (verdict.unknown q) = undecided (question_of q)

abbrev pub output_view : Output → PureOutput
output_view (outputs.Report r) = a_report (report_view r)
output_view (outputs.Program prog) = a_program (prog_view prog)
