use Rattle.pure_terms.specs.Pure.{from_list}
use Rattle.pure_terms.specs.View.{terms_view, atom_view, atoms_view}
use Rattle.path_solver.proofs.Appending.{got_at}
use Rattle.path_solver.proofs.Branching.{elements_found}
use Rattle.path_solver.proofs.branches.differences_at.Goals as goal

pub returns : goal.returns
returns c =
    elements_found c.args.vars.now (atoms_view c.args.list.now) c.args.place c.requires.lists.left c.requires.lists.right (from_list (terms_view c.in-Some-different_lists.lists.left.now)) (from_list (terms_view c.in-Some-different_lists.lists.right.now))
    (atom_view c.in-Some.atom.now) (atoms_view c.in_ok-atoms-in-Some-different_lists.atoms) c.requires.plain c.requires.lists.at c.requires.lists.one_length c.requires.lists.unsaid (got_at c.args.list.now c.args.place c.in-Some.atom.now c.in-Some.ensures) c.in-Some-different_lists.ensures.found c.in_ok-atoms-in-Some-different_lists.ensures
