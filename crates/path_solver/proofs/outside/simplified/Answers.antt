use Rattle.pure_terms.specs.Pure.{term_of}
use Rattle.pure_terms.specs.View.{term_view, atom_view}
use Rattle.path_solver.proofs.Keeping.{names_along}
use Rattle.path_solver.proofs.outside.simplified.Goals as goal

pub returns-in-Holds : goal.returns-in-Holds
returns-in-Holds g c =
    names_along (term_view c.in_ok-copy.field-0) (term_view c.term.result.now) (term_of (atom_view c.args.atom.now)) (term_view c.in_ok-term.term) c.in_ok-term.ensures.replaces c.in_ok-copy.ensures c.term.ensures

pub returns-in-Not : goal.returns-in-Not
returns-in-Not g c =
    names_along (term_view c.in_ok-copy.field-0) (term_view c.term.result.now) (term_of (atom_view c.args.atom.now)) (term_view c.in_ok-term.term) c.in_ok-term.ensures.replaces c.in_ok-copy.ensures c.term.ensures

pub returns-in-Open : goal.returns-in-Open
returns-in-Open g c =
    names_along (term_view c.in_ok-copy.field-0) (term_view c.term.result.now) (term_of (atom_view c.args.atom.now)) (term_view c.in_ok-term.term) c.in_ok-term.ensures.replaces c.in_ok-copy.ensures c.term.ensures
