use Rattle.std.proofs.Common.{◌≡◌, ◌+◌, [], ◌∷◌, ◌++◌, take, sym, ap, subst, ◌∙◌}
use Rattle.std.proofs.lemmas.List.{take_more, map-append}
use Rattle.gil_syntax.specs.View.{exprs_view}
use Rattle.sym_evaluation.specs.View.{store_view}
use Rattle.sym_states.specs.View.{state_view}
use Rattle.footprint.specs.Spreading.{Gathers}
use Rattle.footprint.specs.Uses.{TakesFact}
use Rattle.footprint.specs.View.{fact_case_view, fact_cases_view, leaves_view}
use Rattle.footprint.proofs.Parts.{gathers_more}
use Rattle.footprint.proofs.uses.take_facts.Goals as goal

pub loop-case-preserved : goal.loop-case-preserved
loop-case-preserved g c =
    let xs = c.as_slice-case-items.result.now in
    let i = c.loop-case.case-index in
    let case = c.case-item.result in
    let P = TakesFact g.M.SymMemory.stands g.M.SymMemory.terms g.M.SymMemory.kept c.args.number c.args.scope.now (exprs_view c.args.outs.now) (store_view c.args.store.now) (state_view c.args.state.now) in
    let cs = fact_cases_view (take i xs) in
    let seen : fact_cases_view (take (i + 1) xs) ≡ cs ++ fact_case_view case ∷ [] = ap fact_cases_view (take_more xs i case c.loop-case-test.true ∙ ap (λ y. take i xs ++ y ∷ []) (sym c.case-item.is)) ∙ map-append fact_case_view (take i xs) (case ∷ []) in
    subst (λ ys. Gathers P ys (leaves_view c.in_ok-leaves.leaves)) (sym seen)
    (subst (Gathers P (cs ++ fact_case_view case ∷ [])) (sym c.in_ok-leaves.ensures)
    (gathers_more P cs (fact_case_view case) (leaves_view c.loop-case.leaves) (leaves_view c.in_ok-more.more) c.loop-case.invariant c.in_ok-more.ensures))
