use Rattle.std.proofs.Common.{◌≡◌, ◌++◌, Some, None, IfNone, IfSome, sym, ap, ◌∙◌}
use Rattle.std.specs.Option.{option_map}
use Rattle.pure_terms.specs.Meaning.{IsOver, IsUnsatisfiable}
use Rattle.pure_terms.specs.Pure.{term_of}
use Rattle.pure_terms.specs.View.{term_view, atoms_view}
use Rattle.sym_evaluation.specs.Pure.{term_at}
use Rattle.sym_evaluation.specs.View.{store_view}
use Rattle.sym_matching.specs.Meaning.{AreConditions, IsCondition}
use Rattle.sym_matching.specs.View.{test_view}
use Rattle.sym_model.proofs.ListLaws.{each_to}
use Rattle.sym_model.specs.Lists.{Each, OneOf}
use Rattle.sym_states.proofs.Values.{ok_to}
use Rattle.checked_rows.specs.Doubts.{IsToldThere}
use Rattle.checked_rows.specs.View.{doubt_view}
use Rattle.call_rows.specs.Arguments.{FitsParam, IsDoubtOver, IsUnfit}
use Rattle.call_rows.proofs.ArgumentLaws.{none_to, some_to, fits_param, unfit_param, no_argument}
use Rattle.sym_matching.specs.Origins.{AsksSorts}
use Rattle.checked_rows.specs.Asked.{DoubtAdds}
use Rattle.call_rows.specs.Asked.{AsksParams}
use Rattle.call_rows.proofs.AskedLaws.{one_told_adds}
use Rattle.call_rows.proofs.arguments.argument_doubt.Goals as goal

pub alternatives_doubt-requires-clause-alternatives :
    goal.alternatives_doubt-requires-clause-alternatives
alternatives_doubt-requires-clause-alternatives g c =
    let vars = c.args.vars.now in
    let t = term_view c.in-Some.term.now in
    let at : term_at (store_view c.args.store.now) c.args.param.now.name ≡ Some t = sym c.get.ensures ∙ ap (option_map (λ u. term_view u.now)) c.in-Some.is in
    let over = c.in_ok-test-in-Some.ensures.names vars (c.requires.store c.args.param.now.name t at) in
    each_to (AreConditions vars) (Each (λ a. IsOver vars (term_of a))) (test_view c.in_ok-test-in-Some.test).otherwise (λ conds all. each_to (IsCondition vars) (λ a. IsOver vars (term_of a)) conds (λ a is. is.0) all) over.otherwise

pub returns-in_ok-test-in-Some-clause-fit : goal.returns-in_ok-test-in-Some-clause-fit
returns-in_ok-test-in-Some-clause-fit g c =
    let vars = c.args.vars.now in
    let conds = atoms_view c.args.conds.now in
    let bs = store_view c.args.store.now in
    let test = test_view c.in_ok-test-in-Some.test in
    let t = term_view c.in-Some.term.now in
    let at : term_at bs c.args.param.now.name ≡ Some t = sym c.get.ensures ∙ ap (option_map (λ u. term_view u.now)) c.in-Some.is in
    ok_to c.alternatives_doubt.result (λ o. IfNone o (Each (λ more. IsUnsatisfiable vars (conds ++ more)) test.otherwise)) (λ o. IfNone o (FitsParam vars conds bs c.args.scope.now c.args.param.now))
    (λ o never. none_to o (Each (λ more. IsUnsatisfiable vars (conds ++ more)) test.otherwise) (FitsParam vars conds bs c.args.scope.now c.args.param.now) (fits_param vars conds bs c.args.scope.now c.args.param.now t test at c.in_ok-test-in-Some.ensures.says) never)
    c.alternatives_doubt.ensures.none

pub returns-in_ok-test-in-Some-clause-doubt :
    goal.returns-in_ok-test-in-Some-clause-doubt
returns-in_ok-test-in-Some-clause-doubt g c =
    let vars = c.args.vars.now in
    let conds = atoms_view c.args.conds.now in
    let bs = store_view c.args.store.now in
    let scope = c.args.scope.now in
    let q = c.args.param.now in
    let test = test_view c.in_ok-test-in-Some.test in
    let t = term_view c.in-Some.term.now in
    let at : term_at bs q.name ≡ Some t = sym c.get.ensures ∙ ap (option_map (λ u. term_view u.now)) c.in-Some.is in
    ok_to c.alternatives_doubt.result (λ o. IfSome o (λ d. OneOf (λ more. IsToldThere vars conds more (doubt_view d)) test.otherwise)) (λ o. IfSome o (λ d. IsDoubtOver vars conds (IsUnfit vars conds bs scope q) (doubt_view d)))
    (λ o told. some_to o (λ d. OneOf (λ more. IsToldThere vars conds more (doubt_view d)) test.otherwise) (λ d. IsDoubtOver vars conds (IsUnfit vars conds bs scope q) (doubt_view d))
    (λ d one. unfit_param vars conds bs scope q t test (doubt_view d) at c.in_ok-test-in-Some.ensures.says one) told)
    c.alternatives_doubt.ensures.doubt

pub returns-in-None-clause-doubt : goal.returns-in-None-clause-doubt
returns-in-None-clause-doubt g c =
    let bs = store_view c.args.store.now in
    let q = c.args.param.now in
    let at : term_at bs q.name ≡ None = sym c.get.ensures ∙ ap (option_map (λ u. term_view u.now)) c.in-None.is in
    no_argument c.args.vars.now (atoms_view c.args.conds.now) bs c.args.scope.now q at

pub returns-in_ok-test-in-Some-clause-asked :
    goal.returns-in_ok-test-in-Some-clause-asked
returns-in_ok-test-in-Some-clause-asked g c =
    let vars = c.args.vars.now in
    let conds = atoms_view c.args.conds.now in
    let bs = store_view c.args.store.now in
    let scope = c.args.scope.now in
    let q = c.args.param.now in
    let test = test_view c.in_ok-test-in-Some.test in
    let t = term_view c.in-Some.term.now in
    let Own = AsksParams scope bs in
    let at : term_at bs q.name ≡ Some t = sym c.get.ensures ∙ ap (option_map (λ u. term_view u.now)) c.in-Some.is in
    let all : Each (Each Own) test.otherwise =
    each_to (Each (AsksSorts scope q.name t)) (Each Own) test.otherwise (λ conds each. each_to (AsksSorts scope q.name t) Own conds (λ a asks. (q.name, (t, (at, asks)))) each) c.in_ok-test-in-Some.ensures.origin.otherwise in
    ok_to c.alternatives_doubt.result (λ o. IfSome o (λ d. OneOf (λ more. IsToldThere vars conds more (doubt_view d)) test.otherwise)) (λ o. IfSome o (λ d. DoubtAdds Own conds (doubt_view d)))
    (λ o told. some_to o (λ d. OneOf (λ more. IsToldThere vars conds more (doubt_view d)) test.otherwise) (λ d. DoubtAdds Own conds (doubt_view d)) (λ d one. one_told_adds Own vars conds test.otherwise (doubt_view d) all one) told)
    c.alternatives_doubt.ensures.doubt
