use Rattle.std.proofs.Common.{sym}
use Rattle.gil_values.specs.declared.kinds.Kind.{Kind}
use Rattle.pure_terms.specs.View.{term_view}
use Rattle.equality_core.specs.declared.classes.Wanted.{Wanted}
use Rattle.equality_core.specs.Equating.{itself}
use Rattle.solver_rules.specs.Nodes.{vars_of, list_of_node, classes_of}
use Rattle.solver_rules.specs.Rules.{HasKindFact}
use Rattle.solver_rules.proofs.KindsApart.{first_found, no_kind_beside, known_found, known_not_none, none_either}
use Rattle.solver_rules.proofs.kinds.kind_of.Goals as goal

pub returns-in-Some-clause-found : goal.returns-in-Some-clause-found
returns-in-Some-clause-found c =
    known_found (classes_of c.args.node.now) (term_view c.args.term.now) (term_view c.in-Some.known.now) c.known_kind.result c.known_kind.ensures
    (first_found (vars_of c.args.node.now) (list_of_node c.args.node.now) (classes_of c.args.node.now) c.requires Wanted.KnownKind (term_view c.args.term.now) (term_view c.in-Some.known.now) (sym c.in-Some.ensures)).equated

pub returns-in-Some-clause-none : goal.returns-in-Some-clause-none
returns-in-Some-clause-none c =
    known_not_none _ (term_view c.in-Some.known.now) c.known_kind.result c.known_kind.ensures
    (first_found (vars_of c.args.node.now) (list_of_node c.args.node.now) (classes_of c.args.node.now) c.requires Wanted.KnownKind (term_view c.args.term.now) (term_view c.in-Some.known.now) (sym c.in-Some.ensures)).wanted

pub returns-in-None-clause-none : goal.returns-in-None-clause-none
returns-in-None-clause-none c =
    none_either c.said_kind.result (no_kind_beside (vars_of c.args.node.now) (list_of_node c.args.node.now) (classes_of c.args.node.now) c.requires (term_view c.args.term.now) (term_view c.args.term.now) (sym c.in-None.ensures) itself)

pub returns-in-Some-clause-unsaid : goal.returns-in-Some-clause-unsaid
returns-in-Some-clause-unsaid c =
    known_not_none ((k : Kind) → HasKindFact (classes_of c.args.node.now) (term_view c.args.term.now) k → ⊥) (term_view c.in-Some.known.now) c.known_kind.result c.known_kind.ensures
    (first_found (vars_of c.args.node.now) (list_of_node c.args.node.now) (classes_of c.args.node.now) c.requires Wanted.KnownKind (term_view c.args.term.now) (term_view c.in-Some.known.now) (sym c.in-Some.ensures)).wanted
