use Rattle.std.proofs.Common.{sym, ap, subst}
use Rattle.pure_terms.specs.View.{atom_view, atoms_view}
use Rattle.solver_rules.specs.Steps.{ArePlain}
use Rattle.path_solver.proofs.Appending.{item_at, plain_pushed}
use Rattle.path_solver.proofs.Keeping.{over_at, none_plain}
use Rattle.path_solver.proofs.outside.plain_list.Goals as goal

pub loop-atom-init : goal.loop-atom-init
loop-atom-init g c = subst (ArePlain c.args.vars.now) (ap atoms_view (sym c.new-list.ensures)) (none_plain c.args.vars.now)

pub loop-atom-preserved : goal.loop-atom-preserved
loop-atom-preserved g c =
    let at = item_at c.args.atoms.now c.as_slice-atom-items.result.now c.loop-atom.atom-index c.atom-item.result c.as_slice-atom-items.ensures c.loop-atom-test.true c.atom-item.is in
    plain_pushed c.args.vars.now c.loop-atom.list c.push.new.self c.in_ok-plain_atom.field-0 c.loop-atom.invariant
    (c.in_ok-plain_atom.ensures c.args.vars.now (over_at c.args.vars.now (atoms_view c.args.atoms.now) c.loop-atom.atom-index (atom_view c.atom-item.result) c.requires at)) c.in_ok-push.ensures.ok

pub returns : goal.returns
returns g c = c.loop-atom.invariant
