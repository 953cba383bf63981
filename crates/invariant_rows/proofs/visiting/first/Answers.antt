use Rattle.std.proofs.Common.{inr, subst}
use Rattle.std.specs.Option.{option_map}
use Rattle.gil_syntax.specs.View.{assertion_view}
use Rattle.sym_evaluation.specs.View.{store_view}
use Rattle.sym_states.proofs.Values.{ok_to}
use Rattle.sym_states.specs.View.{state_view}
use Rattle.checked_paths.specs.View.{checking_view, entry_view, nexts_view}
use Rattle.sym_model.specs.Lists.{Each}
use Rattle.checked_rows.specs.Asking.{AddsTo}
use Rattle.invariant_rows.specs.Asked.{AsksAddingThere, AsksAddingAnew}
use Rattle.invariant_rows.proofs.AnewLaws.{loop_adds}
use Rattle.invariant_rows.specs.Entering.{IsInLoopIfAny, AreAdded, AreEntered}
use Rattle.invariant_rows.proofs.LoopLaws.{loop_over}
use Rattle.invariant_rows.proofs.visiting.first.Goals as goal

pub add_there-requires-clause-over : goal.add_there-requires-clause-over
add_there-requires-clause-over g c =
    let stands = g.M.SymMemory.stands in
    let terms = g.M.SymMemory.terms in
    let xs = c.args.listed.now in
    let bs = store_view c.args.unlisted.now in
    let x = checking_view c.args.checking.now in
    let s = state_view c.args.state in
    loop_over stands terms (entry_view c.args.spec.now c.args.entered.now) c.args.scope.now xs bs x s (checking_view c.in-Some.inside) c.requires.over c.requires.of_path c.requires.unlisted
    (subst (λ o. IsInLoopIfAny stands terms c.args.scope.now xs bs x s (option_map checking_view o)) c.in-Some.is c.in_ok-inside.ensures)

pub returns-in-Some-clause-enters : goal.returns-in-Some-clause-enters
returns-in-Some-clause-enters g c =
    let stands = g.M.SymMemory.stands in
    let terms = g.M.SymMemory.terms in
    let kept = g.M.SymMemory.kept in
    let memory = g.M.Local.LocalMemory.memory in
    let e = entry_view c.args.spec.now c.args.entered.now in
    let xs = c.args.listed.now in
    let bs = store_view c.args.unlisted.now in
    let x = checking_view c.args.checking.now in
    let s = state_view c.args.state in
    let y = checking_view c.in-Some.inside in
    let items = assertion_view c.args.items.now in
    ok_to c.add_there.result (λ ns. AreAdded memory stands terms kept e c.args.scope.now items c.args.here.now y (nexts_view ns)) (λ ns. AreEntered memory stands terms kept e xs c.args.scope.now items bs c.args.here.now x s (nexts_view ns))
    (λ ns added. inr (y, (subst (λ o. IsInLoopIfAny stands terms c.args.scope.now xs bs x s (option_map checking_view o)) c.in-Some.is c.in_ok-inside.ensures, added))) c.add_there.ensures.adds

pub returns-in-Some-clause-asked : goal.returns-in-Some-clause-asked
returns-in-Some-clause-asked g c =
    let stands = g.M.SymMemory.stands in
    let terms = g.M.SymMemory.terms in
    let e = entry_view c.args.spec.now c.args.entered.now in
    let xs = c.args.listed.now in
    let bs = store_view c.args.unlisted.now in
    let x = checking_view c.args.checking.now in
    let s = state_view c.args.state in
    let y = checking_view c.in-Some.inside in
    let items = assertion_view c.args.items.now in
    let inside = subst (λ o. IsInLoopIfAny stands terms c.args.scope.now xs bs x s (option_map checking_view o)) c.in-Some.is c.in_ok-inside.ensures in
    ok_to c.add_there.result (λ ns. Each (AddsTo (AsksAddingThere e y items) y.path.conds) (nexts_view ns)) (λ ns. Each (AddsTo (AsksAddingAnew e x items) s.conds) (nexts_view ns))
    (λ ns all. loop_adds stands terms e c.args.scope.now xs bs x s y c.requires.unlisted inside items (nexts_view ns) all) c.add_there.ensures.asked
