use Rattle.std.proofs.Common.{◌≡◌, Some, slice_get, sym, ap, ◌∙◌}
use Rattle.pure_terms.specs.View.{atom_view, atoms_view}
use Rattle.path_solver.proofs.Appending.{got_at, taken_more, views_taken}
use Rattle.path_solver.proofs.lists.turn_to.Goals as goal

pub loop-index-init : goal.loop-index-init
loop-index-init c = views_taken c.common-kept.result c.args.list.now c.cut_to.new.list c.cut_to.ensures ∙ c.common-kept.ensures.same

pub loop-index-preserved : goal.loop-index-preserved
loop-index-preserved c =
    let at : slice_get (atoms_view c.args.atoms.now) c.loop-index.index ≡ Some (atom_view c.in_ok-atom.atom) = got_at c.args.atoms.now c.loop-index.index c.in-Some.atom.now c.in-Some.ensures ∙ ap Some (sym c.in_ok-atom.ensures) in
    taken_more (atoms_view c.args.atoms.now) c.loop-index.list c.push.new.self c.loop-index.index c.in_ok-atom.atom c.loop-index.invariant at c.in_ok-push.ensures.ok
