use Rattle.std.proofs.Common.{List, slice_get, sym, ap, ◌∙◌}
use Rattle.std.proofs.lemmas.Option.{option_and_then_some}
use Rattle.gil_values.specs.declared.kinds.Kind.{Kind}
use Rattle.pure_terms.specs.declared.atoms.Atom.{Atom}
use Rattle.pure_terms.specs.View.{term_view, atom_view, atoms_view}
use Rattle.solver_proof.specs.Chains.{kind_fact_of}
use Rattle.equality_core.proofs.Finding.{each_more, each_all}
use Rattle.solver_rules.specs.Kinds.{IsKindSaid}
use Rattle.solver_rules.specs.Nodes.{classes_of}
use Rattle.solver_rules.proofs.kinds.said_kind.Goals as goal

pub loop-atom-preserved : goal.loop-atom-preserved
loop-atom-preserved c =
    each_more atom_view c.as_slice-atoms.result.now (λ i a. (k : Kind) → IsKindSaid (classes_of c.args.node.now) (term_view c.args.term.now) a k → ⊥) c.loop-atom.atom-index c.atom-item.result c.loop-atom-test.true c.atom-item.is c.loop-atom.invariant
    c.in_default.ensures.none

pub returns-clause-none : goal.returns-clause-none
returns-clause-none c = λ k fact.
    option_and_then_some kind_fact_of (slice_get _ fact.place) fact.fact fact.at (λ a at says.
    each_all atom_view c.as_slice-atoms.result.now (λ i a. (k : Kind) → IsKindSaid (classes_of c.args.node.now) (term_view c.args.term.now) a k → ⊥) c.loop-atom.atom-index c.loop-atom-test.false c.loop-atom.invariant fact.place a
    (ap (λ (xs : List Atom). slice_get (atoms_view xs) fact.place) c.as_slice-atoms.ensures ∙ ap (λ l. slice_get l fact.place) (sym c.requires.given) ∙ at) k
    (record { fact = fact.fact; says = says; so = fact.so; kind = fact.kind; equated = fact.equated }))
