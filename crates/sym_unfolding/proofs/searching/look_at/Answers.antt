use Rattle.std.proofs.Common.{sym, subst, ◌∙◌}
use Rattle.pure_terms.specs.View.{terms_view}
use Rattle.sym_matching.specs.View.{test_view, outs_view}
use Rattle.sym_states.specs.View.{fact_view}
use Rattle.sym_unfolding.specs.Searching.{LooksAt}
use Rattle.sym_unfolding.specs.View.{search_view}
use Rattle.sym_unfolding.proofs.AddLaws.{ok_to, isnt_not, is_not}
use Rattle.sym_unfolding.proofs.SearchLaws.{looks_past, looks_closer}
use Rattle.sym_unfolding.proofs.searching.look_at.Goals as goal

pub returns-then-ne : goal.returns-then-ne
returns-then-ne c =
    looks_past c.args.pred.now (terms_view c.args.ins.now) (outs_view c.args.outs.now) c.args.place (fact_view c.args.fact.now) (search_view c.args.search) (isnt_not _ (sym c.ne.ensures ∙ c.if-ne.true))

pub returns : goal.returns
returns c =
    let ins = terms_view c.args.ins.now in
    let outs = outs_view c.args.outs.now in
    let fact = fact_view c.args.fact.now in
    let before = search_view c.args.search in
    ok_to c.look_closer.result _ (λ s. LooksAt c.args.pred.now ins outs c.args.place fact before (search_view s))
    (λ s is. subst (LooksAt c.args.pred.now ins outs c.args.place fact before) (sym is)
    (looks_closer c.args.pred.now ins outs c.args.place fact (test_view c.in_ok-test.test) before (is_not _ (sym c.ne.ensures ∙ c.if-ne.false)) c.in_ok-test.ensures)) c.look_closer.ensures
