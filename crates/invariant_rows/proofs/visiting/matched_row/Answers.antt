use Rattle.std.proofs.Common.{◌≡◌, [], map, sym, ap, subst, ◌∙◌}
use Rattle.std.specs.Option.{option_map}
use Rattle.gil_syntax.specs.Program.{prog_view}
use Rattle.gil_syntax.specs.Pure.{loop_invariant}
use Rattle.gil_syntax.specs.View.{assertion_view}
use Rattle.footprint.specs.Pure.{all_match}
use Rattle.footprint.specs.View.{matching_view, matches_view}
use Rattle.sym_evaluation.specs.View.{store_view}
use Rattle.sym_states.proofs.Values.{ok_to}
use Rattle.checked_paths.specs.View.{checking_view, entry_view, nexts_view, passed_view}
use Rattle.sym_model.specs.Lists.{Each}
use Rattle.checked_paths.specs.Exactness.{AddsOnly}
use Rattle.checked_rows.specs.Asked.{MatchingAsks}
use Rattle.checked_rows.specs.Matching.{MatchesThere}
use Rattle.invariant_rows.specs.Asked.{AsksVisitThere}
use Rattle.invariant_rows.proofs.AskedLaws.{alone_adds, matches_visit, unmatched_visit, unknown_visit}
use Rattle.checked_rows.specs.Rows.{AreRowOf, IsExactRowOf}
use Rattle.checked_rows.specs.Doubts.{under, beyond, IsDoubtAlone}
use Rattle.checked_rows.proofs.ExactLaws.{right_alone}
use Rattle.checked_paths.specs.declared.nexts.FaultKind.{FaultKind}
use Rattle.footprint.specs.Pure.{PureStop}
use Rattle.gil_values.specs.View.{values_view}
use Rattle.pure_terms.specs.View.{atoms_view}
use Rattle.invariant_rows.proofs.LeftLaws.{are_left, is_known, unmatched_is_fault}
use Rattle.invariant_rows.specs.Entering.{running_next}
use Rattle.invariant_rows.specs.Fitting.{AllFit}
use Rattle.invariant_rows.specs.Passing.{former_at, of_running}
use Rattle.invariant_rows.specs.Visiting.{AreVisits, IsKnown}
use Rattle.invariant_rows.proofs.VisitLaws.{visits_cover}
use Rattle.invariant_rows.proofs.visiting.matched_row.Goals as goal

pub visit_each-requires-clause-left : goal.visit_each-requires-clause-left
visit_each-requires-clause-left g c =
    let p = prog_view c.args.prog.now in
    let memory = g.M.Local.LocalMemory.memory in
    let m = g.M.Local.LocalMemory.actions in
    let stands = g.M.SymMemory.stands in
    let terms = g.M.SymMemory.terms in
    let e = entry_view c.args.spec.now c.args.entered.now in
    let x = checking_view c.args.checking.now in
    let xs = c.args.listed.now in
    let ps = c.args.declared.now in
    let items = assertion_view c.args.items.now in
    let here = c.args.here.now in
    let there = subst (λ r. MatchesThere stands terms e x p.preds c.args.scope.now items (matching_view r)) c.in-All.is c.in_ok-matches.ensures.says in
    let (names, (are_names, fits)) = c.requires.fits in
    are_left p memory m stands terms e x xs ps items c.args.scope.now c.requires.scope (option_map (λ q. passed_view q.now) c.former_of-former.result) c.requires.terms names are_names fits (matches_view c.in-All.matches) there

pub visit_each-requires-clause-known : goal.visit_each-requires-clause-known
visit_each-requires-clause-known g c =
    let p = prog_view c.args.prog.now in
    let memory = g.M.Local.LocalMemory.memory in
    let m = g.M.Local.LocalMemory.actions in
    let stands = g.M.SymMemory.stands in
    let terms = g.M.SymMemory.terms in
    let e = entry_view c.args.spec.now c.args.entered.now in
    let x = checking_view c.args.checking.now in
    let xs = c.args.listed.now in
    let ps = c.args.declared.now in
    let items = assertion_view c.args.items.now in
    let here = c.args.here.now in
    let former : option_map (λ q. passed_view q.now) c.former_of-former.result ≡ former_at (running_next x.path.stack) (of_running x.passed) =
    c.former_of-former.ensures ∙ ap (λ i. former_at i (of_running x.passed)) c.index_of.ensures in
    subst (λ o. IsKnown p memory m stands terms e x xs ps items o) (sym former) (is_known p memory m stands terms e x xs ps items c.args.scope.now c.requires.scope c.requires.over)

pub returns-in-All-clause-next : goal.returns-in-All-clause-next
returns-in-All-clause-next g c =
    let p = prog_view c.args.prog.now in
    let memory = g.M.Local.LocalMemory.memory in
    let m = g.M.Local.LocalMemory.actions in
    let stands = g.M.SymMemory.stands in
    let terms = g.M.SymMemory.terms in
    let e = entry_view c.args.spec.now c.args.entered.now in
    let x = checking_view c.args.checking.now in
    let xs = c.args.listed.now in
    let ps = c.args.declared.now in
    let items = assertion_view c.args.items.now in
    let ms = matches_view c.in-All.matches in
    let there = subst (λ r. MatchesThere stands terms e x p.preds c.args.scope.now items (matching_view r)) c.in-All.is c.in_ok-matches.ensures.says in
    let (names, (are_names, fits)) = c.requires.fits in
    let former : option_map (λ q. passed_view q.now) c.former_of-former.result ≡ former_at (running_next x.path.stack) (of_running x.passed) =
    c.former_of-former.ensures ∙ ap (λ i. former_at i (of_running x.passed)) c.index_of.ensures in
    ok_to c.visit_each.result (λ ns. AreVisits p memory m stands terms e x xs ps items (option_map (λ q. passed_view q.now) c.former_of-former.result) (map (λ k. k.state) ms) (nexts_view ns)) (λ ns. AreRowOf p memory m stands terms e x (loop_invariant xs ps items) [] (nexts_view ns))
    (λ ns visits. visits_cover p memory m stands terms g.met.M.SymMemory.meaning g.M.SymMemory.kept e x xs ps items (store_view c.args.unlisted.now) c.requires.unlisted c.requires.terms names are_names (subst (λ qs. AllFit qs x.path.vars x.path.conds names qs) c.requires.scope fits) ms
    (subst (λ qs. MatchesThere stands terms e x p.preds qs items (all_match ms)) c.requires.scope there) (nexts_view ns)
    (subst (λ o. AreVisits p memory m stands terms e x xs ps items o (map (λ k. k.state) ms) (nexts_view ns)) former visits)) c.visit_each.ensures.cover

pub returns-in-All-clause-exact : goal.returns-in-All-clause-exact
returns-in-All-clause-exact g c = c.visit_each.ensures.exact

pub returns-in-Unmatched-clause-exact : goal.returns-in-Unmatched-clause-exact
returns-in-Unmatched-clause-exact g c =
    let p = prog_view c.args.prog.now in
    let memory = g.M.Local.LocalMemory.memory in
    let m = g.M.Local.LocalMemory.actions in
    let stands = g.M.SymMemory.stands in
    let terms = g.M.SymMemory.terms in
    let e = entry_view c.args.spec.now c.args.entered.now in
    let x = checking_view c.args.checking.now in
    let xs = c.args.listed.now in
    let ps = c.args.declared.now in
    let items = assertion_view c.args.items.now in
    let here = c.args.here.now in
    let k : PureStop = record { item = c.in-Unmatched.item; conds = atoms_view c.in-Unmatched.conds } in
    let u = values_view c.in-Unmatched.valuation in
    let there = subst (λ r. MatchesThere stands terms e x p.preds c.args.scope.now items (matching_view r)) c.in-Unmatched.is c.in_ok-matches.ensures.says in
    ok_to c.doubted.result
    (λ ns. IsDoubtAlone FaultKind.Invariant here x.path (under k.conds u) (nexts_view ns))
    (λ ns. IsExactRowOf p memory m stands terms e x (loop_invariant xs ps items) here (nexts_view ns))
    (λ ns alone n may at this place. right_alone p memory m stands e x FaultKind.Invariant here place (under k.conds u)
    (unmatched_is_fault p memory m stands terms e x xs ps items c.args.scope.now c.requires.scope n at this k u there) (nexts_view ns) alone)
    c.doubted.ensures.shows

pub returns-in-Unknown-clause-exact : goal.returns-in-Unknown-clause-exact
returns-in-Unknown-clause-exact g c =
    let p = prog_view c.args.prog.now in
    let memory = g.M.Local.LocalMemory.memory in
    let m = g.M.Local.LocalMemory.actions in
    let stands = g.M.SymMemory.stands in
    let terms = g.M.SymMemory.terms in
    let e = entry_view c.args.spec.now c.args.entered.now in
    let x = checking_view c.args.checking.now in
    let xs = c.args.listed.now in
    let ps = c.args.declared.now in
    let items = assertion_view c.args.items.now in
    let here = c.args.here.now in
    let conds = atoms_view c.in-Unknown.conds in
    let there = subst (λ r. MatchesThere stands terms e x p.preds c.args.scope.now items (matching_view r)) c.in-Unknown.is c.in_ok-matches.ensures.says in
    ok_to c.doubted-in-Unknown.result
    (λ ns. IsDoubtAlone FaultKind.Invariant here x.path (beyond conds c.in-Unknown.reason) (nexts_view ns))
    (λ ns. IsExactRowOf p memory m stands terms e x (loop_invariant xs ps items) here (nexts_view ns))
    (λ ns alone n may at this place. right_alone p memory m stands e x FaultKind.Invariant here place (beyond conds c.in-Unknown.reason) there (nexts_view ns) alone)
    c.doubted-in-Unknown.ensures.shows

pub visit_each-requires-clause-own : goal.visit_each-requires-clause-own
visit_each-requires-clause-own g c =
    let p = prog_view c.args.prog.now in
    let terms = g.M.SymMemory.terms in
    let e = entry_view c.args.spec.now c.args.entered.now in
    let x = checking_view c.args.checking.now in
    let scope = c.args.scope.now in
    let items = assertion_view c.args.items.now in
    matches_visit e x p scope items terms (matches_view c.in-All.matches) (subst (λ r. MatchingAsks terms e x p.preds scope items (matching_view r)) c.in-All.is c.in_ok-matches.ensures.origin)

pub returns-in-All-clause-asked : goal.returns-in-All-clause-asked
returns-in-All-clause-asked g c = c.visit_each.ensures.asked

pub returns-in-Unmatched-clause-asked : goal.returns-in-Unmatched-clause-asked
returns-in-Unmatched-clause-asked g c =
    let p = prog_view c.args.prog.now in
    let terms = g.M.SymMemory.terms in
    let e = entry_view c.args.spec.now c.args.entered.now in
    let x = checking_view c.args.checking.now in
    let scope = c.args.scope.now in
    let items = assertion_view c.args.items.now in
    let here = c.args.here.now in
    let own = AsksVisitThere e x p scope items in
    let k : PureStop = record { item = c.in-Unmatched.item; conds = atoms_view c.in-Unmatched.conds } in
    let u = values_view c.in-Unmatched.valuation in
    let there = subst (λ r. MatchingAsks terms e x p.preds scope items (matching_view r)) c.in-Unmatched.is c.in_ok-matches.ensures.origin in
    ok_to c.doubted.result (λ ns. IsDoubtAlone FaultKind.Invariant here x.path (under k.conds u) (nexts_view ns)) (λ ns. Each (AddsOnly own x) (nexts_view ns))
    (λ ns alone. alone_adds own FaultKind.Invariant here x (under k.conds u) (nexts_view ns) (unmatched_visit e x p scope items terms k u there) alone) c.doubted.ensures.shows

pub returns-in-Unknown-clause-asked : goal.returns-in-Unknown-clause-asked
returns-in-Unknown-clause-asked g c =
    let p = prog_view c.args.prog.now in
    let terms = g.M.SymMemory.terms in
    let e = entry_view c.args.spec.now c.args.entered.now in
    let x = checking_view c.args.checking.now in
    let scope = c.args.scope.now in
    let items = assertion_view c.args.items.now in
    let here = c.args.here.now in
    let own = AsksVisitThere e x p scope items in
    let conds = atoms_view c.in-Unknown.conds in
    let there = subst (λ r. MatchingAsks terms e x p.preds scope items (matching_view r)) c.in-Unknown.is c.in_ok-matches.ensures.origin in
    ok_to c.doubted-in-Unknown.result (λ ns. IsDoubtAlone FaultKind.Invariant here x.path (beyond conds c.in-Unknown.reason) (nexts_view ns)) (λ ns. Each (AddsOnly own x) (nexts_view ns))
    (λ ns alone. alone_adds own FaultKind.Invariant here x (beyond conds c.in-Unknown.reason) (nexts_view ns) (unknown_visit e x p scope items terms conds c.in-Unknown.reason there) alone) c.doubted-in-Unknown.ensures.shows
