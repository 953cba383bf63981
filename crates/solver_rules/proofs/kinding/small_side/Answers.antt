use Rattle.std.proofs.Common.{subst}
use Rattle.pure_terms.specs.View.{term_view}
use Rattle.solver_rules.specs.Nodes.{vars_of}
use Rattle.solver_rules.specs.Steps.{IsPlainAtom}
use Rattle.solver_rules.proofs.Plain.{flat_sides}
use Rattle.solver_rules.proofs.kinding.small_side.Goals as goal

pub small_term-requires-clause-side : goal.small_term-requires-clause-side
small_term-requires-clause-side c =
    (flat_sides (vars_of c.args.node.now) (term_view c.in-Some.pair.left.now) (term_view c.in-Some.pair.right.now) (subst (IsPlainAtom (vars_of c.args.node.now)) c.in-Some.ensures.found (c.requires.node.plain c.args.place _ c.requires.at)) c.in-Some.ensures.left c.in-Some.ensures.right).0

pub small_term-requires-in-None-2-clause-side : goal.small_term-requires-in-None-2-clause-side
small_term-requires-in-None-2-clause-side c =
    (flat_sides (vars_of c.args.node.now) (term_view c.in-Some.pair.left.now) (term_view c.in-Some.pair.right.now) (subst (IsPlainAtom (vars_of c.args.node.now)) c.in-Some.ensures.found (c.requires.node.plain c.args.place _ c.requires.at)) c.in-Some.ensures.left c.in-Some.ensures.right).1
