use Rattle.gil_values.specs.View.{values_view}
use Rattle.pure_terms.specs.View.{atom_view, atoms_view}
use Rattle.solver_guess.proofs.Trying.{item_at, true_next}
use Rattle.solver_guess.proofs.testing.are_true.Goals as goal

pub loop-atom-preserved : goal.loop-atom-preserved
loop-atom-preserved c =
    let at = item_at c.args.atoms.now c.as_slice-atom-items.result.now c.loop-atom.atom-index c.atom-item.result c.as_slice-atom-items.ensures c.loop-atom-test.true c.atom-item.is in
    true_next (values_view c.args.valuation.now) (atoms_view c.args.atoms.now) c.loop-atom.atom-index (atom_view c.atom-item.result) at c.loop-atom.invariant (c.in_ok-is_true.ensures c.if-not-branch.false)
