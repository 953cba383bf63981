use Rattle.std.proofs.Common.{◌≡◌, false, Some, sym, ap, ◌∙◌}
use Rattle.pure_terms.specs.Pure.{PureTerm}
use Rattle.pure_terms.specs.View.{term_view, atom_view}
use Rattle.solver_proof.specs.Chains.{KindFact, is_against}
use Rattle.equality_core.specs.declared.classes.Wanted.{Wanted}
use Rattle.equality_core.specs.Classes.{given_list}
use Rattle.equality_core.specs.Equating.{Equates, itself}
use Rattle.solver_rules.specs.Atoms.{fact_view, is_against_kind}
use Rattle.solver_rules.specs.Nodes.{vars_of, list_of_node, classes_of}
use Rattle.solver_rules.proofs.KindsApart.{first_found, kind_ends, one_kind_done, alone_kind_done, fact_done}
use Rattle.solver_rules.proofs.kinding.one_kind.Goals as goal

pub closed_by-requires-clause-equated : goal.closed_by-requires-clause-equated
closed_by-requires-clause-equated c =
    (first_found (vars_of c.args.node.now) (list_of_node c.args.node.now) (classes_of c.args.node.now) c.requires.node Wanted.KnownKind (term_view c.in-Some.fact.subject.now) (term_view c.in-Some-first_in_class.term.now) (sym c.in-Some-first_in_class.ensures)).equated

pub closed_by-requires-clause-ends : goal.closed_by-requires-clause-ends
closed_by-requires-clause-ends c =
    kind_ends (vars_of c.args.node.now) (list_of_node c.args.node.now) (classes_of c.args.node.now) c.requires.node c.args.place (atom_view c.args.atom.now) (fact_view c.in-Some.fact) (term_view c.in-Some-first_in_class.term.now) c.requires.at (sym c.in-Some.ensures)
    (ap (is_against_kind c.in-Some.fact.is_so c.in-Some.fact.kind) (sym c.known_kind.ensures) ∙ sym c.is_against.ensures ∙ c.if-is_against.true)

pub closed_by-requires-then-is_against-2-clause-equated : goal.closed_by-requires-then-is_against-2-clause-equated
closed_by-requires-then-is_against-2-clause-equated c = itself

pub closed_by-requires-then-is_against-2-clause-ends : goal.closed_by-requires-then-is_against-2-clause-ends
closed_by-requires-then-is_against-2-clause-ends c =
    kind_ends (vars_of c.args.node.now) (list_of_node c.args.node.now) (classes_of c.args.node.now) c.requires.node c.args.place (atom_view c.args.atom.now) (fact_view c.in-Some.fact) (term_view c.in-Some.fact.subject.now) c.requires.at (sym c.in-Some.ensures)
    (ap (is_against_kind c.in-Some.fact.is_so c.in-Some.fact.kind) (sym c.known_kind-in-None-first_in_class.ensures) ∙ sym c.if-is_against-2.ensures)

pub returns-else-is_against : goal.returns-else-is_against
returns-else-is_against c =
    fact_done (atom_view c.args.atom.now) (fact_view c.in-Some.fact) (sym c.in-Some.ensures) (λ (f : KindFact). (u : PureTerm) → Equates (given_list (classes_of c.args.node.now)) f.subject u → is_against (Some f) f.subject u ≡ false)
    (one_kind_done (vars_of c.args.node.now) (list_of_node c.args.node.now) (classes_of c.args.node.now) c.requires.node (fact_view c.in-Some.fact) (term_view c.in-Some-first_in_class.term.now) (sym c.in-Some-first_in_class.ensures)
    (ap (is_against_kind c.in-Some.fact.is_so c.in-Some.fact.kind) (sym c.known_kind.ensures) ∙ sym c.is_against.ensures ∙ c.if-is_against.false))

pub returns-else-is_against-2 : goal.returns-else-is_against-2
returns-else-is_against-2 c =
    fact_done (atom_view c.args.atom.now) (fact_view c.in-Some.fact) (sym c.in-Some.ensures) (λ (f : KindFact). (u : PureTerm) → Equates (given_list (classes_of c.args.node.now)) f.subject u → is_against (Some f) f.subject u ≡ false)
    (alone_kind_done (vars_of c.args.node.now) (list_of_node c.args.node.now) (classes_of c.args.node.now) c.requires.node (fact_view c.in-Some.fact) (sym c.in-None-first_in_class.ensures)
    (ap (is_against_kind c.in-Some.fact.is_so c.in-Some.fact.kind) (sym c.known_kind-in-None-first_in_class.ensures) ∙ sym c.if-is_against-2.ensures))
