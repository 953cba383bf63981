use Rattle.std.proofs.Common.{◌≡◌, ◌+◌, [], ◌∷◌, ◌++◌, take, length, sym, subst, ◌∙◌, arith, length-take-le}
use Rattle.std.proofs.lemmas.List.{take_all, length-map}
use Rattle.pure_terms.specs.View.{terms_view}
use Rattle.sym_model.specs.Alternatives.{alternatives_view}
use Rattle.sym_matching.specs.View.{test_view, outs_view}
use Rattle.sym_states.specs.View.{fact_view, facts_view}
use Rattle.footprint.specs.Coming.{ChoiceComesFrom}
use Rattle.footprint.specs.Choosing.{PureChoice, ChoosesFact, ChoiceStaysOver}
use Rattle.footprint.specs.View.{fact_cases_view}
use Rattle.footprint.proofs.ChoiceOrigins.{choice_more}
use Rattle.footprint.proofs.FirstFact.{more_choice, facts_seen, chooses_more, choice_more_over}
use Rattle.footprint.proofs.choosing.choose_fact.Goals as goal

pub loop-place-preserved : goal.loop-place-preserved
loop-place-preserved c =
    let xs = c.as_slice-items.result.now in
    let i = c.loop-place.place in
    let fact = c.index-items-place.result in
    let cs = facts_view (take i xs) in
    let pred = c.args.pred.now in
    let ins = terms_view c.args.ins.now in
    let known = outs_view c.args.known.now in
    let x : PureChoice = record { found = fact_cases_view c.loop-place.found; none = alternatives_view c.loop-place.none } in
    let y : PureChoice = record { found = fact_cases_view c.in_ok-found.found; none = alternatives_view c.in_ok-none-2.none } in
    let test = test_view c.in_ok-test.test in
    let size : length cs ≡ i = length-map (take i xs) fact_view ∙ length-take-le i xs (omega (arith, c.loop-place-test.true)) in
    let seen : facts_view (take (i + 1) xs) ≡ cs ++ fact_view fact ∷ [] = facts_seen xs i fact c.loop-place-test.true c.index-items-place.is in
    let next : more_choice x test i ≡ y = (λ j. record { found = sym c.in_ok-found.ensures j; none = sym c.in_ok-none-2.ensures j }) in (
      subst (λ ds. ChoosesFact ds pred ins known y) (sym seen)
          (subst (ChoosesFact (cs ++ fact_view fact ∷ []) pred ins known) next
          (subst (λ k. ChoosesFact (cs ++ fact_view fact ∷ []) pred ins known (more_choice x test k)) size (chooses_more pred ins known cs (fact_view fact) x test c.loop-place.invariant.0 c.in_ok-test.ensures.says))),
      subst (λ ds. ChoiceStaysOver ds ins known y) (sym seen)
          (subst (ChoiceStaysOver (cs ++ fact_view fact ∷ []) ins known) next (choice_more_over pred ins known cs (fact_view fact) x test i c.loop-place.invariant.1 c.in_ok-test.ensures.names)),
      subst (λ ds. ChoiceComesFrom ds pred ins known y) (sym seen)
          (subst (ChoiceComesFrom (cs ++ fact_view fact ∷ []) pred ins known) next
          (subst (λ k. ChoiceComesFrom (cs ++ fact_view fact ∷ []) pred ins known (more_choice x test k)) size (choice_more pred ins known cs (fact_view fact) x test c.loop-place.invariant.2 c.in_ok-test.ensures.origin))),
    )

pub returns-clause-says : goal.returns-clause-says
returns-clause-says c =
    let all = take_all c.loop-place.place c.as_slice-items.result.now (omega (arith, c.loop-place-test.false)) in
    subst (λ xs. ChoosesFact (facts_view xs) c.args.pred.now (terms_view c.args.ins.now) (outs_view c.args.known.now) (record { found = fact_cases_view c.loop-place.found; none = alternatives_view c.loop-place.none }))
    (all ∙ c.as_slice-items.ensures) c.loop-place.invariant.0

pub returns-clause-names : goal.returns-clause-names
returns-clause-names c =
    let all = take_all c.loop-place.place c.as_slice-items.result.now (omega (arith, c.loop-place-test.false)) in
    subst (λ xs. ChoiceStaysOver (facts_view xs) (terms_view c.args.ins.now) (outs_view c.args.known.now) (record { found = fact_cases_view c.loop-place.found; none = alternatives_view c.loop-place.none }))
    (all ∙ c.as_slice-items.ensures) c.loop-place.invariant.1

pub returns-clause-origin : goal.returns-clause-origin
returns-clause-origin c =
    let all = take_all c.loop-place.place c.as_slice-items.result.now (omega (arith, c.loop-place-test.false)) in
    subst (λ xs. ChoiceComesFrom (facts_view xs) c.args.pred.now (terms_view c.args.ins.now) (outs_view c.args.known.now) (record { found = fact_cases_view c.loop-place.found; none = alternatives_view c.loop-place.none }))
    (all ∙ c.as_slice-items.ensures) c.loop-place.invariant.2
