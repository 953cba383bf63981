use Rattle.std.proofs.Common.{◌≡◌, Bool, true, false, not, refl, sym, subst, ◌∙◌, true≢false}
use Rattle.std.specs.Str.{bytes_eq}
use Rattle.pure_terms.specs.View.{terms_view}
use Rattle.sym_matching.specs.View.{test_view, outs_view}
use Rattle.sym_states.specs.View.{fact_view}
use Rattle.sym_states.proofs.Values.{ok_to}
use Rattle.footprint.specs.Coming.{FactComesFrom}
use Rattle.footprint.specs.Choosing.{TestsFact, FactStaysOver}
use Rattle.footprint.proofs.ChoiceOrigins.{tested_from}
use Rattle.footprint.proofs.FirstFact.{tested_fact, tests_over}
use Rattle.footprint.proofs.choosing.test_fact.Goals as goal

unequal : (b : Bool) → not b ≡ false → b ≡ true
unequal true is = refl
unequal false is = absurd (true≢false is)

pub returns-clause-says : goal.returns-clause-says
returns-clause-says c =
    let fact = fact_view c.args.fact.now in
    let ins = terms_view c.args.ins.now in
    let known = outs_view c.args.known.now in
    let same : bytes_eq fact.pred c.args.pred.now ≡ true = unequal (bytes_eq fact.pred c.args.pred.now) (sym c.ne.ensures ∙ c.if-ne.false) in
    ok_to c.test_both.result _ (λ x. TestsFact fact c.args.pred.now ins known (test_view x))
    (λ x is. subst (TestsFact fact c.args.pred.now ins known) (sym is) (tested_fact fact c.args.pred.now ins known (test_view c.in_ok-same.same) (test_view c.in_ok-agree.agree) same c.in_ok-same.ensures.says c.in_ok-agree.ensures.says)) c.test_both.ensures

pub returns-clause-names : goal.returns-clause-names
returns-clause-names c =
    let fact = fact_view c.args.fact.now in
    let ins = terms_view c.args.ins.now in
    let known = outs_view c.args.known.now in
    ok_to c.test_both.result _ (λ x. FactStaysOver fact ins known (test_view x))
    (λ x is. subst (FactStaysOver fact ins known) (sym is) (tests_over fact c.args.pred.now ins known (test_view c.in_ok-same.same) (test_view c.in_ok-agree.agree) c.in_ok-same.ensures.names c.in_ok-agree.ensures.names)) c.test_both.ensures

pub returns-clause-origin : goal.returns-clause-origin
returns-clause-origin c =
    let fact = fact_view c.args.fact.now in
    let ins = terms_view c.args.ins.now in
    let known = outs_view c.args.known.now in
    let same : bytes_eq fact.pred c.args.pred.now ≡ true = unequal (bytes_eq fact.pred c.args.pred.now) (sym c.ne.ensures ∙ c.if-ne.false) in
    ok_to c.test_both.result _ (λ x. FactComesFrom fact c.args.pred.now ins known (test_view x))
    (λ x is. subst (FactComesFrom fact c.args.pred.now ins known) (sym is) (tested_from fact c.args.pred.now ins known (test_view c.in_ok-same.same) (test_view c.in_ok-agree.agree) same c.in_ok-same.ensures.origin c.in_ok-agree.ensures.origin)) c.test_both.ensures
