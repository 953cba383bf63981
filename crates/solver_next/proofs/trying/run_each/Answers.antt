use Rattle.std.proofs.Common.{get_or, subst}
use Rattle.std.proofs.lemmas.Option.{slice_get-get_or}
use Rattle.gil_values.specs.View.{values_view}
use Rattle.solver_rules.specs.declared.rules.Rule.{Rule}
use Rattle.solver_rules.specs.Nodes.{classes_of, IsRun}
use Rattle.solver_rules.specs.Rules.{AreDone}
use Rattle.solver_next.proofs.Listing.{each_more, each_all}
use Rattle.solver_next.proofs.trying.run_each.Goals as goal

pub loop-rule-preserved : goal.loop-rule-preserved
loop-rule-preserved c =
    let rule : Rule = get_or c.args.rules.now c.loop-rule.rule-index Rule.Lists in
    each_more c.args.rules.now (λ r. AreDone r (classes_of c.args.node.now) (values_view c.args.node.now.numbers.now)) c.loop-rule.rule-index rule (slice_get-get_or c.args.rules.now c.loop-rule.rule-index Rule.Lists c.loop-rule-test.true) c.loop-rule.invariant
    (subst (IsRun c.args.node.now rule) c.in_default.is c.in_ok-step.ensures)

pub returns : goal.returns
returns c = each_all c.args.rules.now (λ r. AreDone r (classes_of c.args.node.now) (values_view c.args.node.now.numbers.now)) c.loop-rule.rule-index c.loop-rule-test.false c.loop-rule.invariant
