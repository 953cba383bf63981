use Rattle.std.proofs.Common.{sym, subst}
use Rattle.pure_terms.specs.View.{terms_view}
use Rattle.sym_matching.specs.View.{test_view, outs_view}
use Rattle.sym_states.specs.View.{fact_view}
use Rattle.sym_unfolding.specs.Searching.{TestsFact}
use Rattle.sym_unfolding.proofs.AddLaws.{ok_to}
use Rattle.sym_unfolding.proofs.SearchLaws.{tests_fact}
use Rattle.sym_unfolding.proofs.searching.has_arguments.Goals as goal

pub returns : goal.returns
returns c =
    let ins = terms_view c.args.ins.now in
    let outs = outs_view c.args.outs.now in
    let fact = fact_view c.args.fact.now in
    ok_to c.both_met.result _ (λ t. TestsFact ins outs fact (test_view t))
    (λ t is. subst (TestsFact ins outs fact) (sym is) (tests_fact ins outs fact (test_view c.in_ok-same_ins.same_ins) (test_view c.in_ok-same_outs.same_outs) c.in_ok-same_ins.ensures.says c.in_ok-same_ins.ensures.names c.in_ok-same_ins.ensures.origin c.in_ok-same_outs.ensures.says c.in_ok-same_outs.ensures.names c.in_ok-same_outs.ensures.origin)) c.both_met.ensures
