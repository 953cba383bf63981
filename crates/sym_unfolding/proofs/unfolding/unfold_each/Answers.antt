use Rattle.std.proofs.Common.{[], ◌∷◌, ◌++◌, map, take, sym, subst, ◌∙◌}
use Rattle.std.proofs.lemmas.List.{take_all}
use Rattle.gil_syntax.specs.View.{pred_def_view}
use Rattle.sym_states.specs.View.{state_view}
use Rattle.sym_unfolding.specs.Answering.{UnfoldsEach}
use Rattle.sym_unfolding.specs.View.{cases_view, found_view}
use Rattle.sym_unfolding.proofs.AddLaws.{map_more}
use Rattle.sym_unfolding.proofs.UnfoldLaws.{each_more}
use Rattle.sym_unfolding.proofs.unfolding.unfold_each.Goals as goal

pub loop-one-preserved : goal.loop-one-preserved
loop-one-preserved g c ins outs many_ins many_outs =
    let s = state_view c.args.state.now in
    let d = pred_def_view c.args.pred.now in
    let xs = c.as_slice-one-items.result.now in
    let i = c.loop-one.one-index in
    let f = c.one-item.result in
    subst (λ fs. UnfoldsEach g.M.Local.LocalMemory.memory g.M.SymMemory.stands g.M.SymMemory.terms g.M.SymMemory.kept d ins outs s fs (cases_view c.in_ok-cases.cases)) (sym (map_more found_view xs i f c.loop-one-test.true c.one-item.is))
    (subst (UnfoldsEach g.M.Local.LocalMemory.memory g.M.SymMemory.stands g.M.SymMemory.terms g.M.SymMemory.kept d ins outs s (map found_view (take i xs) ++ found_view f ∷ [])) (sym c.in_ok-cases.ensures)
    (each_more g.M.Local.LocalMemory.memory g.M.SymMemory.stands g.M.SymMemory.terms g.M.SymMemory.kept d ins outs s many_ins many_outs (map found_view (take i xs)) (found_view f) (cases_view c.loop-one.cases) (cases_view c.in_ok-more.more) (c.loop-one.invariant ins outs many_ins many_outs)
    (c.in_ok-more.ensures ins outs many_ins many_outs)))

pub returns : goal.returns
returns g c ins outs many_ins many_outs =
    let s = state_view c.args.state.now in
    let d = pred_def_view c.args.pred.now in
    subst (λ fs. UnfoldsEach g.M.Local.LocalMemory.memory g.M.SymMemory.stands g.M.SymMemory.terms g.M.SymMemory.kept d ins outs s (map found_view fs) (cases_view c.loop-one.cases))
    (take_all c.loop-one.one-index c.as_slice-one-items.result.now c.loop-one-test.false ∙ c.as_slice-one-items.ensures) (c.loop-one.invariant ins outs many_ins many_outs)
