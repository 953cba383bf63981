use Rattle.std.proofs.Common.{ap}
use Rattle.gil_syntax.specs.View.{exprs_view}
use Rattle.pure_terms.specs.View.{atoms_view}
use Rattle.sym_evaluation.specs.Meaning.{AreCasesOfAll}
use Rattle.sym_evaluation.specs.Plainly.{AllAnswerPlainly}
use Rattle.sym_evaluation.specs.Questions.{AllComeFrom, NameNoOthers, AreEachOver}
use Rattle.sym_evaluation.specs.View.{store_view, faults_view}
use Rattle.sym_evaluation.proofs.EvaluationLaws.{all_cases_are_right}
use Rattle.sym_evaluation.proofs.Found.{found_all_cases}
use Rattle.sym_evaluation.proofs.FromLaws.{all_come_from}
use Rattle.sym_evaluation.proofs.NameLaws.{all_name_no_others}
use Rattle.sym_evaluation.proofs.PlainLaws.{all_answer_plainly}
use Rattle.sym_evaluation.proofs.evaluation.evaluate_all.Goals as goal

pub returns : goal.returns
returns c =
    let bs = store_view c.args.store.now in
    let e = exprs_view c.args.expressions.now in
    let folding = c.folding_replaces.ensures in
    record {
      cases = found_all_cases (AreCasesOfAll bs e) c.evaluate_all_after.result bs (faults_view c.new.result) (atoms_view c.new-2.result) e (ap faults_view c.new.ensures) (ap atoms_view c.new-2.ensures)
          (all_cases_are_right folding bs e c.requires) c.evaluate_all_after.ensures;
      origin = found_all_cases (AllComeFrom bs e) c.evaluate_all_after.result bs (faults_view c.new.result) (atoms_view c.new-2.result) e (ap faults_view c.new.ensures) (ap atoms_view c.new-2.ensures)
          (all_come_from bs e) c.evaluate_all_after.ensures;
      names = found_all_cases (NameNoOthers AreEachOver bs) c.evaluate_all_after.result bs (faults_view c.new.result) (atoms_view c.new-2.result) e (ap faults_view c.new.ensures) (ap atoms_view c.new-2.ensures)
          (all_name_no_others folding bs e) c.evaluate_all_after.ensures;
      plain = found_all_cases (AllAnswerPlainly bs e) c.evaluate_all_after.result bs (faults_view c.new.result) (atoms_view c.new-2.result) e (ap faults_view c.new.ensures) (ap atoms_view c.new-2.ensures)
          (all_answer_plainly bs e c.requires) c.evaluate_all_after.ensures;
    }
