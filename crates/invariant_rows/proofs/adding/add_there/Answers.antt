use Rattle.std.proofs.Common.{[], refl, ap, subst}
use Rattle.gil_syntax.specs.View.{assertion_view}
use Rattle.pure_terms.specs.View.{atoms_view}
use Rattle.sym_evaluation.specs.View.{store_view}
use Rattle.sym_model.proofs.ListLaws.{each_to}
use Rattle.sym_states.proofs.Values.{ok_to}
use Rattle.sym_states.specs.Meaning.{IsOverTable}
use Rattle.sym_states.specs.View.{state_view, states_view}
use Rattle.sym_unfolding.specs.Adding.{AddsItems}
use Rattle.sym_unfolding.specs.Further.{IsFurther}
use Rattle.checked_paths.specs.Meaning.{EachWith}
use Rattle.checked_paths.specs.View.{checking_view, entry_view, nexts_view}
use Rattle.checked_rows.proofs.MatchLaws.{names_over, over_there}
use Rattle.sym_model.specs.Lists.{Each}
use Rattle.sym_unfolding.specs.Origins.{IsAddedFrom}
use Rattle.checked_rows.specs.Asked.{HasConds}
use Rattle.checked_rows.specs.Asking.{AddsTo}
use Rattle.checked_rows.proofs.StateLaws.{state_conds}
use Rattle.invariant_rows.specs.Asked.{AsksAddingThere}
use Rattle.invariant_rows.specs.Entering.{AreAdded, IsAdditionAnswered}
use Rattle.invariant_rows.proofs.AnewLaws.{added_adds}
use Rattle.invariant_rows.proofs.adding.add_there.Goals as goal

pub each_state-requires-clause-over : goal.each_state-requires-clause-over
each_state-requires-clause-over g c =
    let stands = g.M.SymMemory.stands in
    let terms = g.M.SymMemory.terms in
    let kept = g.M.SymMemory.kept in
    let e = entry_view c.args.spec.now c.args.entered.now in
    let y = checking_view c.args.checking.now in
    let s = state_view c.in_ok-state.state in
    let bs = store_view c.in_ok-names.names in
    let adds = subst (λ more. AddsItems g.M.Local.LocalMemory.memory stands terms kept c.args.scope.now bs more (assertion_view c.args.items.now) s (states_view c.in_ok-states.states)) (ap atoms_view c.new-none.ensures) c.in_ok-states.ensures.says in
    each_to (IsFurther terms kept s) (IsOverTable terms) (states_view c.in_ok-states.states) (λ r f. f.over)
    (adds.follow (over_there stands terms kept e y s bs c.requires.over c.in_ok-state.ensures c.in_ok-names.ensures) (names_over stands terms kept e y s bs c.requires.over c.in_ok-state.ensures c.in_ok-names.ensures) tt)

pub returns-clause-adds : goal.returns-clause-adds
returns-clause-adds g c =
    let stands = g.M.SymMemory.stands in
    let terms = g.M.SymMemory.terms in
    let kept = g.M.SymMemory.kept in
    let memory = g.M.Local.LocalMemory.memory in
    let e = entry_view c.args.spec.now c.args.entered.now in
    let y = checking_view c.args.checking.now in
    let s = state_view c.in_ok-state.state in
    let bs = store_view c.in_ok-names.names in
    let items = assertion_view c.args.items.now in
    let rs = states_view c.in_ok-states.states in
    let adds = subst (λ more. AddsItems memory stands terms kept c.args.scope.now bs more items s rs) (ap atoms_view c.new-none.ensures) c.in_ok-states.ensures.says in
    ok_to c.each_state.result (λ ns. EachWith (IsAdditionAnswered stands terms c.args.here.now y) rs (nexts_view ns)) (λ ns. AreAdded memory stands terms kept e c.args.scope.now items c.args.here.now y (nexts_view ns))
    (λ ns each. record { state = s; is_state = c.in_ok-state.ensures; store = bs; names = c.in_ok-names.ensures; added = rs; adds = adds; answered = each }) c.each_state.ensures.answered

pub returns-clause-asked : goal.returns-clause-asked
returns-clause-asked g c =
    let stands = g.M.SymMemory.stands in
    let terms = g.M.SymMemory.terms in
    let e = entry_view c.args.spec.now c.args.entered.now in
    let y = checking_view c.args.checking.now in
    let s = state_view c.in_ok-state.state in
    let bs = store_view c.in_ok-names.names in
    let items = assertion_view c.args.items.now in
    let rs = states_view c.in_ok-states.states in
    let added = subst (λ more. Each (IsAddedFrom terms bs more items s) rs) (ap atoms_view c.new-none.ensures) c.in_ok-states.ensures.origin in
    ok_to c.each_state.result (λ ns. EachWith (λ r. HasConds r.conds) rs (nexts_view ns)) (λ ns. Each (AddsTo (AsksAddingThere e y items) y.path.conds) (nexts_view ns))
    (λ ns same. added_adds terms e y bs [] items s rs (nexts_view ns) c.in_ok-names.ensures (state_conds stands terms y.path y.facts s c.in_ok-state.ensures) refl added same) c.each_state.ensures.same
