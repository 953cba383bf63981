use Rattle.std.proofs.Common.{◌≡◌, Some, None, slice_get, sym, ap, subst, ◌∙◌}
use Rattle.std.specs.Option.{option_map}
use Rattle.std.proofs.lemmas.Option.{slice_get-map}
use Rattle.gil_syntax.specs.View.{exprs_view}
use Rattle.sym_evaluation.specs.View.{store_view}
use Rattle.sym_states.specs.View.{fact_view, facts_view, state_view}
use Rattle.sym_states.proofs.Values.{ok_to}
use Rattle.footprint.specs.Uses.{TakesFactAt, TakesFact}
use Rattle.footprint.specs.View.{fact_case_view, leaves_view}
use Rattle.footprint.proofs.uses.take_fact.Goals as goal

pub returns-in_ok-next-in-Some : goal.returns-in_ok-next-in-Some
returns-in_ok-next-in-Some g c =
    let s = state_view c.args.state.now in
    let bs = store_view c.args.store.now in
    let es = exprs_view c.args.outs.now in
    let case = fact_case_view c.args.case.now in
    let preds = c.args.state.now.preds in
    let at : slice_get (facts_view preds) case.place ≡ Some (fact_view c.in-Some.fact.now) = slice_get-map fact_view preds case.place ∙ ap (option_map fact_view) (sym c.get.ensures ∙ ap (option_map (λ x. x.now)) c.in-Some.is) in
    ok_to c.match_outs.result _ (λ r. TakesFact g.M.SymMemory.stands g.M.SymMemory.terms g.M.SymMemory.kept c.args.number c.args.scope.now es bs s case (leaves_view r))
    (λ r is. subst (λ o. TakesFactAt g.M.SymMemory.stands g.M.SymMemory.terms g.M.SymMemory.kept c.args.number c.args.scope.now es bs s case o (leaves_view r)) (sym at)
    (state_view c.in_ok-next-in-Some.next, (c.in_ok-next-in-Some.ensures, is))) c.match_outs.ensures

pub returns-in-None : goal.returns-in-None
returns-in-None g c =
    let s = state_view c.args.state.now in
    let bs = store_view c.args.store.now in
    let es = exprs_view c.args.outs.now in
    let case = fact_case_view c.args.case.now in
    let preds = c.args.state.now.preds in
    let at : slice_get (facts_view preds) case.place ≡ None = slice_get-map fact_view preds case.place ∙ ap (option_map fact_view) (sym c.get.ensures ∙ ap (option_map (λ x. x.now)) c.in-None.is) in
    subst (λ o. TakesFactAt g.M.SymMemory.stands g.M.SymMemory.terms g.M.SymMemory.kept c.args.number c.args.scope.now es bs s case o (leaves_view c.new.result)) (sym at) c.new.ensures
