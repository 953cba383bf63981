use Rattle.std.proofs.Common.{List, sym, subst}
use Rattle.std.proofs.lemmas.Result.{IfOk-weaker}
use Rattle.spec_dependencies.specs.declared.entries.Entry.{Entry}
use Rattle.spec_dependencies.specs.Settling.{IsSettling}
use Rattle.spec_answers.specs.declared.answers.SpecAnswer.{SpecAnswer}
use Rattle.spec_answers.specs.Holding.{AnswersAreRight}
use Rattle.spec_answers.proofs.Places.{new_entries}
use Rattle.spec_answers.proofs.Right.{right_answers}
use Rattle.spec_answers.proofs.answering.answer_specifications.Goals as goal

pub settle_dependencies-requires : goal.settle_dependencies-requires
settle_dependencies-requires g c = new_entries c.args.examined c.in_ok-entries.entries c.in_ok-entries.ensures

pub returns : goal.returns
returns g c =
    let xs = c.args.examined in
    let settled = subst (λ (es : List Entry). IsSettling es c.in_ok-settled.settled) c.in_ok-entries.ensures c.in_ok-settled.ensures in
    IfOk-weaker c.answers_of.result _ _
    (λ answers is. subst (λ (answered : List (SpecAnswer g.row.C.Denot)). AnswersAreRight xs answered) (sym is) (right_answers xs c.in_ok-settled.settled settled))
    c.answers_of.ensures
