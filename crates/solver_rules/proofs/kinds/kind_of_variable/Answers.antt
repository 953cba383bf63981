use Rattle.std.proofs.Common.{◌≡◌, subst, rules}
use Rattle.std.specs.Option.{IfNone}
use Rattle.gil_values.specs.declared.kinds.Kind.{Kind}
use Rattle.pure_terms.specs.declared.terms.Term
use Rattle.pure_terms.specs.declared.terms.Term.{the_lemmas}
use Rattle.pure_terms.specs.Pure.{PureTerm, variable}
use Rattle.pure_terms.specs.View.{term_view}
use Rattle.solver_rules.specs.Nodes.{classes_of}
use Rattle.solver_rules.specs.Rules.{HasKindFact}
use Rattle.solver_rules.proofs.kinds.kind_of_variable.Goals as goal

pub returns-clause-unsaid : goal.returns-clause-unsaid
returns-clause-unsaid c =
    let view : term_view (Term.Var c.args.x) ≡ variable c.args.x = search (rules, the_lemmas) in
    subst (λ (t : PureTerm). IfNone c.kind_of.result ((k : Kind) → HasKindFact (classes_of c.args.node.now) t k → ⊥)) view c.kind_of.ensures.unsaid
