use Rattle.std.proofs.Common.{List, map, sym, subst}
use Rattle.gil_syntax.specs.Program.{prog_view}
use Rattle.gil_report.specs.View.{answer_view}
use Rattle.gil_syntax.specs.Pure.{PureSpec}
use Rattle.gillian_core.specs.Checked.{CanEachBeTold, ReportsEach}
use Rattle.gillian_core.proofs.Checked.{all_told, right_answers}
use Rattle.gillian_core.proofs.checking.checked.Goals as goal

pub report_all-requires-clause-told : goal.report_all-requires-clause-told
report_all-requires-clause-told g c =
    let p = prog_view c.args.prog.now in
    subst (λ (ss : List PureSpec). CanEachBeTold ss c.in_ok-answers.answers) (sym c.specs.ensures)
    (all_told p g.M.Local.LocalMemory.memory g.M.Local.LocalMemory.actions c.args.bound.steps c.in_ok-answers.answers c.in_ok-answers.ensures.causes)

pub returns : goal.returns
returns g c =
    let p = prog_view c.args.prog.now in
    right_answers g.M.Local.LocalMemory.memory g.M.Local.LocalMemory.actions g.M.SymMemory.keeps_plain c.args.bound.steps p c.args.prog.now.valid c.in_ok-answers.answers
    c.in_ok-answers.ensures.answers c.in_ok-answers.ensures.hold c.in_ok-answers.ensures.faultless c.in_ok-answers.ensures.causes c.in_ok-answers.ensures.contained c.in_ok-answers.ensures.plain (map answer_view c.in_ok-reported.reported)
    (subst (λ (ss : List PureSpec). ReportsEach ss c.in_ok-answers.answers (map answer_view c.in_ok-reported.reported)) c.specs.ensures c.in_ok-reported.ensures)
