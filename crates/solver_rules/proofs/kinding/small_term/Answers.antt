use Rattle.std.proofs.Common.{sym, subst}
use Rattle.pure_terms.specs.View.{term_view}
use Rattle.equality_core.specs.declared.classes.Wanted.{Wanted}
use Rattle.solver_rules.specs.Nodes.{vars_of, list_of_node, classes_of}
use Rattle.solver_rules.specs.Rules.{IsUndecided}
use Rattle.solver_rules.specs.Steps.{IsSplit}
use Rattle.solver_rules.proofs.KindsApart.{first_side}
use Rattle.solver_rules.proofs.Plain.{boolean_split}
use Rattle.solver_rules.proofs.Unsaid.{boolean_undecided}
use Rattle.solver_rules.proofs.kinding.small_term.Goals as goal

pub returns-in_ok-copy-in-None-first_in_class-clause-some : goal.returns-in_ok-copy-in-None-first_in_class-clause-some
returns-in_ok-copy-in-None-first_in_class-clause-some c =
    let vars = vars_of c.args.node.now in
    let list = list_of_node c.args.node.now in
    let classes = classes_of c.args.node.now in (
      subst (IsSplit vars) (sym c.in_ok-copy-in-None-first_in_class.ensures)
          (boolean_split vars (term_view c.in-Some.known.now)
          (first_side vars list classes c.requires.node Wanted.KnownKind (term_view c.args.term.now) (term_view c.in-Some.known.now) c.requires.side (sym c.in-Some.ensures)) (sym c.if-not-is_variable_of.ensures)),
      subst (IsUndecided list) (sym c.in_ok-copy-in-None-first_in_class.ensures)
          (boolean_undecided vars list classes c.requires.node (term_view c.args.term.now) (term_view c.in-Some.known.now) (sym c.in-Some.ensures) (sym c.if-not-is_variable_of.ensures) (sym c.in-None-first_in_class.ensures)),
    )
