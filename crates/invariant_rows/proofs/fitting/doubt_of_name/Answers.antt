use Rattle.std.proofs.Common.{◌≡◌, Some, IfNone, IfSome, sym, ap, ◌∙◌}
use Rattle.std.specs.Option.{option_map}
use Rattle.pure_terms.specs.View.{atoms_view, term_view}
use Rattle.sym_model.specs.Alternatives.{alternatives_view}
use Rattle.sym_evaluation.specs.Pure.{term_at}
use Rattle.sym_evaluation.specs.View.{store_view}
use Rattle.sym_matching.specs.View.{test_view}
use Rattle.sym_states.proofs.Values.{ok_to}
use Rattle.sym_matching.specs.Origins.{AsksSorts}
use Rattle.sym_model.proofs.ListLaws.{each_to}
use Rattle.sym_model.specs.Lists.{Each}
use Rattle.checked_rows.specs.Asked.{DoubtAdds}
use Rattle.checked_rows.specs.View.{doubt_view}
use Rattle.invariant_rows.specs.Asked.{AsksNames}
use Rattle.invariant_rows.proofs.AskedLaws.{one_adds}
use Rattle.invariant_rows.specs.Fitting.{NeverMet, SurelyFits, DoubtsOne, DoubtsSorts}
use Rattle.invariant_rows.proofs.FitLaws.{conditions_over, if_none_to, if_some_to, test_fits, test_doubts}
use Rattle.invariant_rows.proofs.fitting.doubt_of_name.Goals as goal

pub doubt_of_any-requires-clause-alternatives : goal.doubt_of_any-requires-clause-alternatives
doubt_of_any-requires-clause-alternatives g c =
    let there : term_at (store_view c.args.names.now) c.args.name.now ≡ Some (term_view c.in-Some.term.now) = sym c.get.ensures ∙ ap (option_map (λ t. term_view t.now)) c.in-Some.is in
    conditions_over c.args.vars.now (alternatives_view c.in_ok-test-in-Some.test.otherwise) (c.in_ok-test-in-Some.ensures.names c.args.vars.now (c.requires.names c.args.name.now (term_view c.in-Some.term.now) there)).otherwise

pub returns-in_ok-test-in-Some-clause-none : goal.returns-in_ok-test-in-Some-clause-none
returns-in_ok-test-in-Some-clause-none g c =
    let there : term_at (store_view c.args.names.now) c.args.name.now ≡ Some (term_view c.in-Some.term.now) = sym c.get.ensures ∙ ap (option_map (λ t. term_view t.now)) c.in-Some.is in
    ok_to c.doubt_of_any.result (λ o. IfNone o (NeverMet c.args.vars.now (atoms_view c.args.conds.now) (alternatives_view c.in_ok-test-in-Some.test.otherwise)))
    (λ o. IfNone o (SurelyFits c.args.scope.now c.args.vars.now (atoms_view c.args.conds.now) (store_view c.args.names.now) c.args.name.now))
    (λ o never. if_none_to o never (test_fits c.args.scope.now c.args.vars.now (atoms_view c.args.conds.now) (store_view c.args.names.now) c.args.name.now (term_view c.in-Some.term.now) (test_view c.in_ok-test-in-Some.test) c.requires.names there c.in_ok-test-in-Some.ensures.says))
    c.doubt_of_any.ensures.none

pub returns-in_ok-test-in-Some-clause-doubt : goal.returns-in_ok-test-in-Some-clause-doubt
returns-in_ok-test-in-Some-clause-doubt g c =
    let vars = c.args.vars.now in
    let conds = atoms_view c.args.conds.now in
    let bs = store_view c.args.names.now in
    let test = test_view c.in_ok-test-in-Some.test in
    let there : term_at bs c.args.name.now ≡ Some (term_view c.in-Some.term.now) = sym c.get.ensures ∙ ap (option_map (λ t. term_view t.now)) c.in-Some.is in
    ok_to c.doubt_of_any.result (λ o. IfSome o (λ d. DoubtsOne vars conds test.otherwise (doubt_view d))) (λ o. IfSome o (λ d. DoubtsSorts c.args.scope.now vars conds bs (doubt_view d)))
    (λ o one. if_some_to o one (λ d is. test_doubts c.args.scope.now vars conds bs c.args.name.now (term_view c.in-Some.term.now) test c.requires.names there c.in_ok-test-in-Some.ensures.says (doubt_view d) is))
    c.doubt_of_any.ensures.doubt

pub returns-in_ok-test-in-Some-clause-asked : goal.returns-in_ok-test-in-Some-clause-asked
returns-in_ok-test-in-Some-clause-asked g c =
    let scope = c.args.scope.now in
    let vars = c.args.vars.now in
    let conds = atoms_view c.args.conds.now in
    let bs = store_view c.args.names.now in
    let x = c.args.name.now in
    let t = term_view c.in-Some.term.now in
    let test = test_view c.in_ok-test-in-Some.test in
    let there : term_at bs x ≡ Some t = sym c.get.ensures ∙ ap (option_map (λ t. term_view t.now)) c.in-Some.is in
    let all : Each (Each (AsksNames scope bs)) test.otherwise =
    each_to (Each (AsksSorts scope x t)) (Each (AsksNames scope bs)) test.otherwise (λ cs. each_to (AsksSorts scope x t) (AsksNames scope bs) cs (λ a asks. (x, (t, (there, asks))))) c.in_ok-test-in-Some.ensures.origin.otherwise in
    ok_to c.doubt_of_any.result (λ o. IfSome o (λ d. DoubtsOne vars conds test.otherwise (doubt_view d))) (λ o. IfSome o (λ d. DoubtAdds (AsksNames scope bs) conds (doubt_view d)))
    (λ o one. if_some_to o one (λ d is. one_adds (AsksNames scope bs) vars conds test.otherwise (doubt_view d) all is)) c.doubt_of_any.ensures.doubt
