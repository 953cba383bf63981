use Rattle.std.proofs.Common.{List, [], ◌∷◌, ◌++◌, sym, ap, ◌∙◌}
use Rattle.pure_terms.specs.Pure.{PureAtom}
use Rattle.pure_terms.specs.View.{atom_view, atoms_view}
use Rattle.path_solver.proofs.Appending.{got_at, take_at}
use Rattle.path_solver.proofs.solvers.PathSolver.turn_to.Goals as goal

pub loop-index-preserved : goal.loop-index-preserved
loop-index-preserved c =
    let at = got_at c.args.atoms.now c.loop-index.index c.in-Some.atom.now c.in-Some.ensures in
    record {
      table = c.in_ok-add.ensures.table ∙ c.loop-index.invariant.table;
      list = c.in_ok-add.ensures.list ∙ ap (λ (xs : List PureAtom). xs ++ atom_view c.in-Some.atom.now ∷ []) c.loop-index.invariant.list ∙ sym (take_at (atoms_view c.args.atoms.now) c.loop-index.index (atom_view c.in-Some.atom.now) at);
    }
