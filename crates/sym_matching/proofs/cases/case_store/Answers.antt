use Rattle.std.proofs.Common.{◌≡◌, map, Some, [], List, subst}
use Rattle.gil_syntax.specs.declared.assertions.Param.{Param}
use Rattle.gil_syntax.specs.Pure.{PurePredDef}
use Rattle.gil_syntax.specs.View.{pred_def_view}
use Rattle.assert_logic.specs.Matching.{scope_of}
use Rattle.pure_terms.specs.Pure.{PureTerm}
use Rattle.pure_terms.specs.View.{terms_view}
use Rattle.sym_evaluation.specs.Pure.{PureStore}
use Rattle.sym_evaluation.specs.View.{store_view}
use Rattle.sym_states.proofs.Values.{ok_to}
use Rattle.sym_matching.specs.Matching.{SplitsCase, CaseStaysOver}
use Rattle.sym_matching.specs.Origins.{CaseComesFrom}
use Rattle.sym_matching.specs.Parts.{BindsParams, Continues}
use Rattle.sym_matching.specs.Pure.{PureSplit, PureOuts}
use Rattle.sym_matching.specs.View.{stores_view, outs_view}
use Rattle.sym_matching.proofs.CaseLaws.{case_says, case_over, case_from}
use Rattle.sym_matching.proofs.cases.case_store.Goals as goal

-- the ins are bound first
first_binds : (d : PurePredDef) (ts : List PureTerm) (scope : List Param) (known : PureOuts) (bs : PureStore) (first : PureSplit PureStore) → scope ≡ scope_of d → known ≡ map Some ts → bs ≡ []
    → BindsParams scope d.ins known bs first → BindsParams (scope_of d) d.ins (map Some ts) [] first
first_binds d ts scope known bs first is_scope is_known is_empty binds =
    subst (λ (xs : List Param). BindsParams xs d.ins (map Some ts) [] first) is_scope
    (subst (λ (ks : PureOuts). BindsParams scope d.ins ks [] first) is_known (subst (λ (cs : PureStore). BindsParams scope d.ins known cs first) is_empty binds))

then_binds : (d : PurePredDef) (ks : PureOuts) (scope : List Param) (first whole : PureSplit PureStore) → scope ≡ scope_of d → Continues (BindsParams scope d.outs ks) first.found first.none whole
    → Continues (BindsParams (scope_of d) d.outs ks) first.found first.none whole
then_binds d ks scope first whole is continues = subst (λ (xs : List Param). Continues (BindsParams xs d.outs ks) first.found first.none whole) is continues

pub returns-clause-says : goal.returns-clause-says
returns-clause-says c =
    let d = pred_def_view c.args.pred.now in
    let ts = terms_view c.args.ins.now in
    let ks = outs_view c.args.outs.now in
    let first = stores_view c.in_ok-first.first in
    ok_to c.bind_behind.result _ (λ x. SplitsCase d ts ks (stores_view x))
    (λ x is. case_says d ts ks first (stores_view x)
    (first_binds d ts c.in_ok-scope.scope (outs_view c.in_ok-known.known) (store_view c.new.result) first c.in_ok-scope.ensures c.in_ok-known.ensures c.new.ensures c.in_ok-first.ensures)
    (then_binds d ks c.in_ok-scope.scope first (stores_view x) c.in_ok-scope.ensures is)) c.bind_behind.ensures

pub returns-clause-names : goal.returns-clause-names
returns-clause-names c =
    let d = pred_def_view c.args.pred.now in
    let ts = terms_view c.args.ins.now in
    let ks = outs_view c.args.outs.now in
    let first = stores_view c.in_ok-first.first in
    ok_to c.bind_behind.result _ (λ x. CaseStaysOver ts ks (stores_view x))
    (λ x is. case_over d ts ks first (stores_view x)
    (first_binds d ts c.in_ok-scope.scope (outs_view c.in_ok-known.known) (store_view c.new.result) first c.in_ok-scope.ensures c.in_ok-known.ensures c.new.ensures c.in_ok-first.ensures)
    (then_binds d ks c.in_ok-scope.scope first (stores_view x) c.in_ok-scope.ensures is)) c.bind_behind.ensures

pub returns-clause-origin : goal.returns-clause-origin
returns-clause-origin c =
    let d = pred_def_view c.args.pred.now in
    let ts = terms_view c.args.ins.now in
    let ks = outs_view c.args.outs.now in
    let first = stores_view c.in_ok-first.first in
    ok_to c.bind_behind.result _ (λ x. CaseComesFrom d ts ks (stores_view x))
    (λ x is. case_from d ts ks first (stores_view x)
    (first_binds d ts c.in_ok-scope.scope (outs_view c.in_ok-known.known) (store_view c.new.result) first c.in_ok-scope.ensures c.in_ok-known.ensures c.new.ensures c.in_ok-first.ensures)
    (then_binds d ks c.in_ok-scope.scope first (stores_view x) c.in_ok-scope.ensures is)) c.bind_behind.ensures
