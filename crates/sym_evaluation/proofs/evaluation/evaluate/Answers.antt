use Rattle.std.proofs.Common.{ap}
use Rattle.gil_syntax.specs.View.{expr_view}
use Rattle.pure_terms.specs.Meaning.{IsOver}
use Rattle.pure_terms.specs.View.{atoms_view}
use Rattle.sym_evaluation.specs.Meaning.{AreCasesOf}
use Rattle.sym_evaluation.specs.Plainly.{AnswersPlainly, GuardsPlainly}
use Rattle.sym_evaluation.specs.Questions.{ComesFrom, NameNoOthers}
use Rattle.sym_evaluation.specs.View.{store_view, faults_view}
use Rattle.sym_evaluation.proofs.EvaluationLaws.{cases_are_right}
use Rattle.sym_evaluation.proofs.Found.{found_cases}
use Rattle.sym_evaluation.proofs.FromLaws.{comes_from}
use Rattle.sym_evaluation.proofs.GuardLaws.{guards_plainly}
use Rattle.sym_evaluation.proofs.NameLaws.{names_no_others}
use Rattle.sym_evaluation.proofs.PlainLaws.{answers_plainly}
use Rattle.sym_evaluation.proofs.evaluation.evaluate.Goals as goal

pub returns : goal.returns
returns c =
    let bs = store_view c.args.store.now in
    let e = expr_view c.args.expression.now in
    let folding = c.folding_replaces.ensures in
    record {
      cases = found_cases (AreCasesOf bs e) c.evaluate_after.result bs (faults_view c.new.result) (atoms_view c.new-2.result) e (ap faults_view c.new.ensures) (ap atoms_view c.new-2.ensures)
          (cases_are_right folding bs e c.requires) c.evaluate_after.ensures;
      origin = found_cases (ComesFrom bs e) c.evaluate_after.result bs (faults_view c.new.result) (atoms_view c.new-2.result) e (ap faults_view c.new.ensures) (ap atoms_view c.new-2.ensures)
          (comes_from bs e) c.evaluate_after.ensures;
      names = found_cases (NameNoOthers IsOver bs) c.evaluate_after.result bs (faults_view c.new.result) (atoms_view c.new-2.result) e (ap faults_view c.new.ensures) (ap atoms_view c.new-2.ensures)
          (names_no_others folding bs e) c.evaluate_after.ensures;
      plain = found_cases (AnswersPlainly bs e) c.evaluate_after.result bs (faults_view c.new.result) (atoms_view c.new-2.result) e (ap faults_view c.new.ensures) (ap atoms_view c.new-2.ensures)
          (answers_plainly bs e c.requires) c.evaluate_after.ensures;
      guard = found_cases (GuardsPlainly bs e) c.evaluate_after.result bs (faults_view c.new.result) (atoms_view c.new-2.result) e (ap faults_view c.new.ensures) (ap atoms_view c.new-2.ensures)
          (guards_plainly bs e c.requires) c.evaluate_after.ensures;
    }
