use Rattle.std.proofs.Common.{◌≡◌, true, Bool}
use Rattle.std.specs.Prelude.{IsTrue}
use Rattle.gil_values.specs.View.{values_view}
use Rattle.pure_terms.specs.Meaning.{all_true}
use Rattle.pure_terms.specs.View.{atoms_view}
use Rattle.solver_guess.specs.Guesses.{IsModel}
use Rattle.solver_guess.specs.Tame.{AreTame}
use Rattle.solver_guess.proofs.Taming.{ok_then, tame_proper, tame_numbers}
use Rattle.solver_guess.proofs.testing.is_model.Goals as goal

pub returns : goal.returns
returns c =
    let tame : AreTame c.args.vars.now (values_view c.args.values.now) = c.are_tame.ensures c.if-not-are_tame.false in
    ok_then c.are_true.result (λ (b : Bool). IsTrue b → all_true (values_view c.args.values.now) (atoms_view c.args.list.now) ≡ true) (λ (b : Bool). IsTrue b → IsModel c.args.vars.now (atoms_view c.args.list.now) (values_view c.args.values.now))
    (λ b are is. (record { proper = tame_proper c.args.vars.now (values_view c.args.values.now) tame; true_there = are is }, tame_numbers c.args.vars.now (values_view c.args.values.now) tame)) c.are_true.ensures
