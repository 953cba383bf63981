use Rattle.std.proofs.Common.{◌≡◌, ◌∷◌, ◌++◌, [], Some, map, take, slice_get, sym, ap, subst, ◌∙◌}
use Rattle.gil_syntax.specs.View.{assertion_view, pred_def_view}
use Rattle.gil_values.proofs.Lists.{slice_get-read}
use Rattle.pure_terms.specs.View.{atoms_view}
use Rattle.sym_evaluation.specs.View.{store_view}
use Rattle.sym_model.specs.Lists.{Each}
use Rattle.sym_model.proofs.ListLaws.{each_at}
use Rattle.sym_states.specs.Producing.{MayAdd}
use Rattle.sym_states.specs.View.{state_view, states_view}
use Rattle.sym_unfolding.specs.Adding.{AddsCases}
use Rattle.sym_unfolding.specs.View.{cases_view}
use Rattle.sym_unfolding.proofs.AddLaws.{map_more, length_taken, case_more}
use Rattle.sym_unfolding.proofs.adding.add_cases.Goals as goal

pub add_items-requires : goal.add_items-requires
add_items-requires g c =
    each_at (Each (MayAdd g.M.Local.LocalMemory.memory)) (pred_def_view c.args.pred.now).cases c.loop-number.number (assertion_view c.index-bodies-number.result) c.requires
    (subst (λ bodies. slice_get (map assertion_view bodies) c.loop-number.number ≡ Some (assertion_view c.index-bodies-number.result)) c.as_slice-bodies.ensures
    (slice_get-read assertion_view c.as_slice-bodies.result.now c.loop-number.number c.index-bodies-number.result c.loop-number-test.true c.index-bodies-number.is))

pub loop-number-preserved : goal.loop-number-preserved
loop-number-preserved g c =
    let s = state_view c.args.state.now in
    let bs = store_view c.args.store.now in
    let more = atoms_view c.args.conds.now in
    let xs = c.as_slice-bodies.result.now in
    let i = c.loop-number.number in
    let body = c.index-bodies-number.result in
    let states = states_view c.in_ok-states.states in
    subst (λ bodies. AddsCases g.M.Local.LocalMemory.memory g.M.SymMemory.stands g.M.SymMemory.terms g.M.SymMemory.kept c.args.scope.now bs more bodies s (cases_view c.in_ok-cases.cases)) (sym (map_more assertion_view xs i body c.loop-number-test.true c.index-bodies-number.is))
    (subst (AddsCases g.M.Local.LocalMemory.memory g.M.SymMemory.stands g.M.SymMemory.terms g.M.SymMemory.kept c.args.scope.now bs more (map assertion_view (take i xs) ++ assertion_view body ∷ []) s)
    (sym (c.in_ok-cases.ensures ∙ ap (λ rs. cases_view c.loop-number.cases ++ rs) c.in_ok-more.ensures))
    (case_more g.M.Local.LocalMemory.memory g.M.SymMemory.stands g.M.SymMemory.terms g.M.SymMemory.kept c.args.scope.now bs more s (map assertion_view (take i xs)) (assertion_view body) (cases_view c.loop-number.cases) states i (length_taken assertion_view xs i c.loop-number-test.true) c.loop-number.invariant c.in_ok-states.ensures.says c.in_ok-states.ensures.origin))
