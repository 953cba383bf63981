use Rattle.pure_terms.specs.View.{term_view, atom_view}
use Rattle.equality_core.specs.Equating.{turned}
use Rattle.solver_rules.specs.Nodes.{vars_of, list_of_node, classes_of}
use Rattle.solver_rules.proofs.Ordering.{equal_there}
use Rattle.solver_rules.proofs.numbering.meeting.Goals as goal

pub met-requires-clause-equated : goal.met-requires-clause-equated
met-requires-clause-equated c = (equal_there (vars_of c.args.node.now) (list_of_node c.args.node.now) (classes_of c.args.node.now) c.requires.node c.args.place (atom_view c.args.atom.now) (term_view c.in-Some.pair.left.now) (term_view c.in-Some.pair.right.now) c.requires.at c.in-Some.ensures.found c.in-Some.ensures.simple).equated

pub met-requires-clause-left : goal.met-requires-clause-left
met-requires-clause-left c = (equal_there (vars_of c.args.node.now) (list_of_node c.args.node.now) (classes_of c.args.node.now) c.requires.node c.args.place (atom_view c.args.atom.now) (term_view c.in-Some.pair.left.now) (term_view c.in-Some.pair.right.now) c.requires.at c.in-Some.ensures.found c.in-Some.ensures.simple).left

pub met-requires-clause-right : goal.met-requires-clause-right
met-requires-clause-right c = (equal_there (vars_of c.args.node.now) (list_of_node c.args.node.now) (classes_of c.args.node.now) c.requires.node c.args.place (atom_view c.args.atom.now) (term_view c.in-Some.pair.left.now) (term_view c.in-Some.pair.right.now) c.requires.at c.in-Some.ensures.found c.in-Some.ensures.simple).right

pub met-requires-in-None-2-clause-equated : goal.met-requires-in-None-2-clause-equated
met-requires-in-None-2-clause-equated c = turned (equal_there (vars_of c.args.node.now) (list_of_node c.args.node.now) (classes_of c.args.node.now) c.requires.node c.args.place (atom_view c.args.atom.now) (term_view c.in-Some.pair.left.now) (term_view c.in-Some.pair.right.now) c.requires.at c.in-Some.ensures.found c.in-Some.ensures.simple).equated

pub met-requires-in-None-2-clause-left : goal.met-requires-in-None-2-clause-left
met-requires-in-None-2-clause-left c = (equal_there (vars_of c.args.node.now) (list_of_node c.args.node.now) (classes_of c.args.node.now) c.requires.node c.args.place (atom_view c.args.atom.now) (term_view c.in-Some.pair.left.now) (term_view c.in-Some.pair.right.now) c.requires.at c.in-Some.ensures.found c.in-Some.ensures.simple).right

pub met-requires-in-None-2-clause-right : goal.met-requires-in-None-2-clause-right
met-requires-in-None-2-clause-right c = (equal_there (vars_of c.args.node.now) (list_of_node c.args.node.now) (classes_of c.args.node.now) c.requires.node c.args.place (atom_view c.args.atom.now) (term_view c.in-Some.pair.left.now) (term_view c.in-Some.pair.right.now) c.requires.at c.in-Some.ensures.found c.in-Some.ensures.simple).left

pub returns-in-None : goal.returns-in-None
returns-in-None c = λ s t is simple. absurd (c.in-None.ensures.none s t is simple)
