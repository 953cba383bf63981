use Rattle.pure_terms.specs.View.{term_view}
use Rattle.sym_evaluation.specs.Meaning.{AreSidesOf}
use Rattle.sym_evaluation.specs.Plainly.{AreDecided}
use Rattle.sym_evaluation.specs.Questions.{SidesComeFrom}
use Rattle.sym_evaluation.proofs.Found.{found_sides}
use Rattle.sym_evaluation.proofs.PlainGuards.{sides_are_decided}
use Rattle.sym_evaluation.proofs.SideLaws.{sides_are_right}
use Rattle.sym_evaluation.proofs.SideOrigins.{sides_come_from}
use Rattle.sym_evaluation.proofs.guards.guard_sides.Goals as goal

pub returns : goal.returns
returns c =
    let t = term_view c.args.term.now in
    record {
      sides = found_sides (AreSidesOf t) c.sides_of.result t (sides_are_right t) c.sides_of.ensures;
      origin = found_sides (SidesComeFrom t) c.sides_of.result t (sides_come_from t) c.sides_of.ensures;
      decided = found_sides (AreDecided t) c.sides_of.result t (sides_are_decided t) c.sides_of.ensures;
    }
