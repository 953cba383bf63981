use Rattle.std.proofs.Common.{[], ◌∷◌, ◌≡◌, subst}
use Rattle.gil_syntax.specs.Program.{prog_view}
use Rattle.gil_syntax.specs.Pure.{assert_that}
use Rattle.gil_syntax.specs.View.{assertion_view}
use Rattle.gil_values.specs.View.{values_view}
use Rattle.pure_terms.specs.View.{atoms_view}
use Rattle.footprint.specs.Pure.{PureStop, all_match, unmatched}
use Rattle.footprint.specs.View.{matching_view, matches_view}
use Rattle.sym_paths.specs.Moves.{passing}
use Rattle.sym_states.proofs.Values.{ok_to}
use Rattle.checked_paths.specs.declared.nexts.FaultKind.{FaultKind}
use Rattle.checked_paths.specs.Following.{IsAnswered}
use Rattle.checked_paths.specs.Pure.{PureNext}
use Rattle.checked_paths.specs.View.{entry_view, checking_view, nexts_view}
use Rattle.checked_rows.specs.Doubts.{under, beyond, IsDoubtAlone}
use Rattle.checked_rows.specs.Matching.{MatchesThere}
use Rattle.checked_rows.specs.Rows.{AreRowOf, IsExactRowOf}
use Rattle.checked_rows.proofs.AssertLaws.{assert_covers, assert_exact, stop_is_right}
use Rattle.checked_rows.proofs.ExactLaws.{right_alone}
use Rattle.sym_model.specs.Lists.{Each}
use Rattle.checked_rows.specs.Asked.{HasConds, MatchingAsks}
use Rattle.checked_rows.specs.Asking.{AsksOnlyOwn}
use Rattle.checked_rows.proofs.AskedRowLaws.{same_asks, assert_asks}
use Rattle.checked_rows.proofs.asserting.assert_row.Goals as goal

pub returns-in-All-clause-next : goal.returns-in-All-clause-next
returns-in-All-clause-next g c =
    let p = prog_view c.args.prog.now in
    let e = entry_view c.args.spec.now c.args.entered.now in
    let x = checking_view c.args.checking in
    let items = assertion_view c.args.items.now in
    ok_to c.go_on.result
    (λ ns. (n : PureNext _) × ((nexts_view ns ≡ n ∷ []) × IsAnswered g.M.SymMemory.stands g.M.SymMemory.terms x.facts x.passed (passing x.path) n))
    (λ ns. AreRowOf p g.M.Local.LocalMemory.memory g.M.Local.LocalMemory.actions g.M.SymMemory.stands g.M.SymMemory.terms e x (assert_that items) [] (nexts_view ns))
    (λ ns (n, (is, answered)).
    assert_covers p g.M.Local.LocalMemory.memory g.M.Local.LocalMemory.actions g.M.SymMemory.stands g.M.SymMemory.terms g.met.M.SymMemory.meaning e x items (matches_view c.in-All.field-0)
    (subst (λ ps. MatchesThere g.M.SymMemory.stands g.M.SymMemory.terms e x p.preds ps items (all_match (matches_view c.in-All.field-0))) c.logicals_in-scope.ensures
    (subst (λ r. MatchesThere g.M.SymMemory.stands g.M.SymMemory.terms e x p.preds c.logicals_in-scope.result.now items (matching_view r)) c.in-All.is c.in_ok-match_there.ensures.says))
    c.args.prog.now.valid n (λ may. answered) (nexts_view ns) is)
    c.go_on.ensures.next

pub returns-in-All-clause-exact : goal.returns-in-All-clause-exact
returns-in-All-clause-exact g c =
    let p = prog_view c.args.prog.now in
    let e = entry_view c.args.spec.now c.args.entered.now in
    let x = checking_view c.args.checking in
    let items = assertion_view c.args.items.now in
    ok_to c.go_on.result
    (λ ns. (n : PureNext _) × ((nexts_view ns ≡ n ∷ []) × IsAnswered g.M.SymMemory.stands g.M.SymMemory.terms x.facts x.passed (passing x.path) n))
    (λ ns. IsExactRowOf p g.M.Local.LocalMemory.memory g.M.Local.LocalMemory.actions g.M.SymMemory.stands g.M.SymMemory.terms e x (assert_that items) c.args.here.now (nexts_view ns))
    (λ ns (n, (is, answered)) k may at this place.
    assert_exact p g.M.Local.LocalMemory.memory g.M.Local.LocalMemory.actions g.M.SymMemory.stands g.M.SymMemory.terms g.met.M.SymMemory.meaning e x items k at this (matches_view c.in-All.field-0)
    (subst (λ ps. MatchesThere g.M.SymMemory.stands g.M.SymMemory.terms e x p.preds ps items (all_match (matches_view c.in-All.field-0))) c.logicals_in-scope.ensures
    (subst (λ r. MatchesThere g.M.SymMemory.stands g.M.SymMemory.terms e x p.preds c.logicals_in-scope.result.now items (matching_view r)) c.in-All.is c.in_ok-match_there.ensures.says))
    may n answered (nexts_view ns) is)
    c.go_on.ensures.next

pub returns-in-Unmatched-clause-exact : goal.returns-in-Unmatched-clause-exact
returns-in-Unmatched-clause-exact g c =
    let p = prog_view c.args.prog.now in
    let e = entry_view c.args.spec.now c.args.entered.now in
    let x = checking_view c.args.checking in
    let items = assertion_view c.args.items.now in
    let k : PureStop = record { item = c.in-Unmatched.item; conds = atoms_view c.in-Unmatched.conds } in
    let u = values_view c.in-Unmatched.valuation in
    let there = subst (λ ps. MatchesThere g.M.SymMemory.stands g.M.SymMemory.terms e x p.preds ps items (unmatched k u)) c.logicals_in-scope.ensures
    (subst (λ r. MatchesThere g.M.SymMemory.stands g.M.SymMemory.terms e x p.preds c.logicals_in-scope.result.now items (matching_view r)) c.in-Unmatched.is c.in_ok-match_there.ensures.says) in
    ok_to c.doubted.result
    (λ ns. IsDoubtAlone FaultKind.FoldBody c.args.here.now x.path (under k.conds u) (nexts_view ns))
    (λ ns. IsExactRowOf p g.M.Local.LocalMemory.memory g.M.Local.LocalMemory.actions g.M.SymMemory.stands g.M.SymMemory.terms e x (assert_that items) c.args.here.now (nexts_view ns))
    (λ ns alone n may at this place. right_alone p g.M.Local.LocalMemory.memory g.M.Local.LocalMemory.actions g.M.SymMemory.stands e x FaultKind.FoldBody c.args.here.now place (under k.conds u)
    (stop_is_right p g.M.Local.LocalMemory.memory g.M.Local.LocalMemory.actions g.M.SymMemory.stands g.M.SymMemory.terms g.met.M.SymMemory.meaning e x items n at this k u there) (nexts_view ns) alone)
    c.doubted.ensures.shows

pub returns-in-Unknown-clause-exact : goal.returns-in-Unknown-clause-exact
returns-in-Unknown-clause-exact g c =
    let p = prog_view c.args.prog.now in
    let e = entry_view c.args.spec.now c.args.entered.now in
    let x = checking_view c.args.checking in
    let items = assertion_view c.args.items.now in
    let conds = atoms_view c.in-Unknown.conds in
    let there = subst (λ r. MatchesThere g.M.SymMemory.stands g.M.SymMemory.terms e x p.preds c.logicals_in-scope.result.now items (matching_view r)) c.in-Unknown.is c.in_ok-match_there.ensures.says in
    ok_to c.doubted-in-Unknown.result
    (λ ns. IsDoubtAlone FaultKind.FoldBody c.args.here.now x.path (beyond conds c.in-Unknown.reason) (nexts_view ns))
    (λ ns. IsExactRowOf p g.M.Local.LocalMemory.memory g.M.Local.LocalMemory.actions g.M.SymMemory.stands g.M.SymMemory.terms e x (assert_that items) c.args.here.now (nexts_view ns))
    (λ ns alone n may at this place. right_alone p g.M.Local.LocalMemory.memory g.M.Local.LocalMemory.actions g.M.SymMemory.stands e x FaultKind.FoldBody c.args.here.now place (beyond conds c.in-Unknown.reason) there (nexts_view ns) alone)
    c.doubted-in-Unknown.ensures.shows

pub returns-in-All-clause-asked : goal.returns-in-All-clause-asked
returns-in-All-clause-asked g c =
    let p = prog_view c.args.prog.now in
    let e = entry_view c.args.spec.now c.args.entered.now in
    let x = checking_view c.args.checking in
    let items = assertion_view c.args.items.now in
    ok_to c.go_on.result (λ ns. Each (HasConds x.path.conds) (nexts_view ns)) (λ ns. AsksOnlyOwn p e x (assert_that items) (nexts_view ns))
    (λ ns same. same_asks p e x (assert_that items) (nexts_view ns) same) c.go_on.ensures.same

pub returns-in-Unmatched-clause-asked : goal.returns-in-Unmatched-clause-asked
returns-in-Unmatched-clause-asked g c =
    let p = prog_view c.args.prog.now in
    let e = entry_view c.args.spec.now c.args.entered.now in
    let x = checking_view c.args.checking in
    let items = assertion_view c.args.items.now in
    let terms = g.M.SymMemory.terms in
    let scope = c.logicals_in-scope.result.now in
    let k : PureStop = record { item = c.in-Unmatched.item; conds = atoms_view c.in-Unmatched.conds } in
    let d = under k.conds (values_view c.in-Unmatched.valuation) in
    let (bs, (names, comes)) = subst (λ r. MatchingAsks terms e x p.preds scope items (matching_view r)) c.in-Unmatched.is c.in_ok-match_there.ensures.origin in
    ok_to c.doubted.result (λ ns. IsDoubtAlone FaultKind.FoldBody c.args.here.now x.path d (nexts_view ns)) (λ ns. AsksOnlyOwn p e x (assert_that items) (nexts_view ns))
    (λ ns alone. assert_asks p e x items scope c.logicals_in-scope.ensures bs names (terms x.path.memory) FaultKind.FoldBody c.args.here.now d comes (nexts_view ns) alone) c.doubted.ensures.shows

pub returns-in-Unknown-clause-asked : goal.returns-in-Unknown-clause-asked
returns-in-Unknown-clause-asked g c =
    let p = prog_view c.args.prog.now in
    let e = entry_view c.args.spec.now c.args.entered.now in
    let x = checking_view c.args.checking in
    let items = assertion_view c.args.items.now in
    let terms = g.M.SymMemory.terms in
    let scope = c.logicals_in-scope.result.now in
    let d = beyond (atoms_view c.in-Unknown.conds) c.in-Unknown.reason in
    let (bs, (names, comes)) = subst (λ r. MatchingAsks terms e x p.preds scope items (matching_view r)) c.in-Unknown.is c.in_ok-match_there.ensures.origin in
    ok_to c.doubted-in-Unknown.result (λ ns. IsDoubtAlone FaultKind.FoldBody c.args.here.now x.path d (nexts_view ns)) (λ ns. AsksOnlyOwn p e x (assert_that items) (nexts_view ns))
    (λ ns alone. assert_asks p e x items scope c.logicals_in-scope.ensures bs names (terms x.path.memory) FaultKind.FoldBody c.args.here.now d comes (nexts_view ns) alone) c.doubted-in-Unknown.ensures.shows
