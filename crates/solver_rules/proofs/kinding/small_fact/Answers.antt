use Rattle.std.proofs.Common.{◌≡◌, Some, None, sym, ap, ◌∙◌, subst}
use Rattle.pure_terms.specs.Pure.{PureTerm, variable}
use Rattle.equality_core.specs.declared.classes.Wanted.{Wanted}
use Rattle.equality_core.specs.Classified.{first_in_class}
use Rattle.solver_rules.specs.Nodes.{vars_of, list_of_node, classes_of}
use Rattle.solver_rules.proofs.Unsaid.{literal_unsaid}
use Rattle.solver_rules.proofs.kinding.small_fact.Goals as goal

pub returns-in-None-first_in_class : goal.returns-in-None-first_in_class
returns-in-None-first_in_class c =
    let said = c.in-Some.ensures.found in
    let none : first_in_class (classes_of c.args.node.now).nodes Wanted.Literal (variable said.x) ≡ None =
    subst (λ (t : PureTerm). first_in_class (classes_of c.args.node.now).nodes Wanted.Literal t ≡ None) said.subject (sym c.in-None-first_in_class.ensures) in
    record {
      x = said.x;
      kind = c.in-Some.fact.kind;
      at = c.requires.at ∙ ap Some said.is;
      small = sym c.if-not-is_small.ensures;
      unsaid = λ l. literal_unsaid (vars_of c.args.node.now) (list_of_node c.args.node.now) (classes_of c.args.node.now) c.requires.node said.x l none;
    }
