use Rattle.pure_terms.specs.View.{atom_view, atoms_view}
use Rattle.path_solver.proofs.Appending.{got_at}
use Rattle.path_solver.proofs.Branching.{values_found}
use Rattle.path_solver.proofs.branches.values_at.Goals as goal

pub returns : goal.returns
returns c =
    values_found c.args.vars.now (atoms_view c.args.list.now) c.args.place c.requires.small.x c.in-Some-kind_said.said.subject c.requires.small.kind c.in-Some-kind_said.said.kind (atom_view c.in-Some.atom.now) (atoms_view c.in_ok-atoms-in-Some-kind_said.atoms)
    c.requires.plain c.requires.small.at c.requires.small.small c.requires.small.unsaid (got_at c.args.list.now c.args.place c.in-Some.atom.now c.in-Some.ensures) c.in-Some-kind_said.ensures.found c.in_ok-atoms-in-Some-kind_said.ensures.booleans c.in_ok-atoms-in-Some-kind_said.ensures.kinds
