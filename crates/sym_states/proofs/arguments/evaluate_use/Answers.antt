use Rattle.std.proofs.Common.{sym, subst}
use Rattle.std.specs.Option.{option_map}
use Rattle.gil_syntax.specs.View.{pred_use_view}
use Rattle.sym_evaluation.specs.View.{store_view, all_cases_view}
use Rattle.sym_states.specs.Producing.{AreArgumentsIfAny}
use Rattle.sym_states.specs.View.{arguments_view}
use Rattle.sym_states.proofs.ArgumentLaws.{AreRight, arguments_if_any, spelled_parts}
use Rattle.sym_states.proofs.Plainness.{arguments_ask}
use Rattle.sym_states.proofs.Values.{ok_to}
use Rattle.sym_states.proofs.arguments.evaluate_use.Goals as goal

pub evaluate_all-requires : goal.evaluate_all-requires
evaluate_all-requires c = (spelled_parts (pred_use_view c.args.used.now) c.requires).0

pub evaluate_all-requires-2 : goal.evaluate_all-requires-2
evaluate_all-requires-2 c = (spelled_parts (pred_use_view c.args.used.now) c.requires).1

pub returns : goal.returns
returns c =
    let bs = store_view c.args.store.now in
    let u = pred_use_view c.args.used.now in
    let first = all_cases_view c.in_ok-ins.ins in
    let second = all_cases_view c.in_ok-outs.outs in
    let right_ins : AreRight bs u.ins first = record { says = c.in_ok-ins.ensures.cases; from = c.in_ok-ins.ensures.origin; names = c.in_ok-ins.ensures.names; plainly = arguments_ask c.plain_expressions_ask_nothing.ensures bs u.ins first c.in_ok-ins.ensures.cases c.in_ok-ins.ensures.origin (spelled_parts u c.requires).0 } in
    let right_outs : AreRight bs u.outs second = record { says = c.in_ok-outs.ensures.cases; from = c.in_ok-outs.ensures.origin; names = c.in_ok-outs.ensures.names; plainly = arguments_ask c.plain_expressions_ask_nothing.ensures bs u.outs second c.in_ok-outs.ensures.cases c.in_ok-outs.ensures.origin (spelled_parts u c.requires).1 } in
    ok_to c.both.result _ (λ o. AreArgumentsIfAny bs u (option_map arguments_view o))
    (λ o is. subst (AreArgumentsIfAny bs u) (sym is) (arguments_if_any bs u first second right_ins right_outs)) c.both.ensures
