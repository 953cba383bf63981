use Rattle.std.proofs.Common.{⊎_elim, sym, subst}
use Rattle.pure_terms.specs.View.{term_view}
use Rattle.solver_rules.specs.Nodes.{vars_of, list_of_node}
use Rattle.solver_rules.specs.Rules.{IsUndecided}
use Rattle.solver_rules.specs.Steps.{IsSplit}
use Rattle.solver_rules.proofs.Ordering.{orders_split}
use Rattle.solver_rules.proofs.numbering.at_most.Goals as goal

pub returns-in_ok-joined-in-None-clause-some : goal.returns-in_ok-joined-in-None-clause-some
returns-in_ok-joined-in-None-clause-some c =
    let s = term_view c.args.s.now in
    let t = term_view c.args.t.now in (
      subst (IsSplit (vars_of c.args.node.now)) (sym c.in_ok-joined-in-None.ensures)
          (⊎_elim (λ at. (orders_split (vars_of c.args.node.now) s t (c.requires.node.plain c.args.place _ at) c.requires.left c.requires.right).0)
          (λ at. (orders_split (vars_of c.args.node.now) t s (c.requires.node.plain c.args.place _ at) c.requires.right c.requires.left).1) c.requires.at),
      subst (IsUndecided (list_of_node c.args.node.now)) (sym c.in_ok-joined-in-None.ensures) (record { not_true = c.requires.unsaid; not_false = c.in-None.ensures.none }),
    )
