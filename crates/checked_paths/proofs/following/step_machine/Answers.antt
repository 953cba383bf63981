use Rattle.std.proofs.Common.{◌≡◌, ◌<◌, [], sym, ap, subst}
use Rattle.std.proofs.lemmas.Result.{IfOk-weaker}
use Rattle.gil_syntax.specs.Program.{prog_view}
use Rattle.sym_engine.specs.Lawful.{IsOwnAt}
use Rattle.sym_model.specs.Lists.{Each}
use Rattle.sym_paths.specs.Origins.{Follows}
use Rattle.sym_paths.specs.Steps.{IsPlaceOf}
use Rattle.sym_paths.specs.View.{path_view, paths_view}
use Rattle.sym_states.specs.View.{facts_view}
use Rattle.checked_paths.specs.Covering.{AreNexts}
use Rattle.checked_paths.specs.Exactness.{AddsOnly, AreExact}
use Rattle.checked_paths.specs.Following.{IsAtMachineCommand, StaysInFrame}
use Rattle.checked_paths.specs.Meaning.{MayGoOn}
use Rattle.checked_paths.specs.Plainly.{LeadsPlainly}
use Rattle.checked_paths.specs.Pure.{PureEntry}
use Rattle.checked_paths.specs.View.{checking_view, nexts_view, passed_by_view}
use Rattle.checked_paths.proofs.Answering.{machine_nexts}
use Rattle.checked_paths.proofs.Exact.{adds_own, if_ok_both, machine_exact}
use Rattle.checked_paths.proofs.Going.{answers_go}
use Rattle.checked_paths.proofs.Plainness.{leads_plainly}
use Rattle.checked_paths.proofs.following.step_machine.Goals as goal

pub returns-clause-next : goal.returns-clause-next
returns-clause-next g c =
    let M = g.M.SymMemory in
    let m = g.M.Local.LocalMemory.actions in
    let p = prog_view c.args.prog.now in
    let parts = c.into_parts-path.result in
    let same : record { path = path_view parts.0; facts = facts_view parts.1; passed = passed_by_view parts.2 } ≡ checking_view c.args.checking =
    λ i. record { path = path_view (c.into_parts-path.ensures.path i); facts = facts_view (c.into_parts-path.ensures.preds i); passed = passed_by_view (c.into_parts-path.ensures.passed i) } in
    IfOk-weaker c.follow_all.result _ _
    (λ ns are. subst (λ x. (e : PureEntry) → MayGoOn p M.terms e x → AreNexts p g.M.Local.LocalMemory.memory m M.stands M.terms e x [] (nexts_view ns)) same
    (machine_nexts p g.M.Local.LocalMemory.memory m M.stands M.terms g.met.M.SymMemory.meaning _ _ (record { path = path_view parts.0; facts = facts_view parts.1; passed = passed_by_view parts.2 })
    (paths_view c.in_ok-paths.paths) (nexts_view ns) c.in_ok-paths.ensures.next c.in_ok-paths.ensures.placed
    (subst (λ q. IsAtMachineCommand p (path_view q)) (sym c.into_parts-path.ensures.path) c.requires.machine) are))
    c.follow_all.ensures.answer

pub returns-clause-exact : goal.returns-clause-exact
returns-clause-exact g c =
    let M = g.M.SymMemory in
    let memory = g.M.Local.LocalMemory.memory in
    let m = g.M.Local.LocalMemory.actions in
    let p = prog_view c.args.prog.now in
    let here = c.args.here.now in
    let parts = c.into_parts-path.result in
    let same : record { path = path_view parts.0; facts = facts_view parts.1; passed = passed_by_view parts.2 } ≡ checking_view c.args.checking =
    λ i. record { path = path_view (c.into_parts-path.ensures.path i); facts = facts_view (c.into_parts-path.ensures.preds i); passed = passed_by_view (c.into_parts-path.ensures.passed i) } in
    if_ok_both _ _ _ c.follow_all.result
    (λ ns are shows.
    subst (λ y. (e : PureEntry) → MayGoOn p M.terms e y → StaysInFrame p y.path → IsPlaceOf p y.path.stack here → AreExact p memory m M.stands e y (nexts_view ns)) same
    (machine_exact p memory m M.stands M.terms g.met.M.SymMemory.meaning _ _ (record { path = path_view parts.0; facts = facts_view parts.1; passed = passed_by_view parts.2 })
    (paths_view c.in_ok-paths.paths) (nexts_view ns) here c.in_ok-paths.ensures.next are shows))
    c.follow_all.ensures.answer c.follow_all.ensures.shows

pub returns-clause-own : goal.returns-clause-own
returns-clause-own g c =
    let M = g.M.SymMemory in
    let m = g.M.Local.LocalMemory.actions in
    let p = prog_view c.args.prog.now in
    let parts = c.into_parts-path.result in
    let same : record { path = path_view parts.0; facts = facts_view parts.1; passed = passed_by_view parts.2 } ≡ checking_view c.args.checking =
    λ i. record { path = path_view (c.into_parts-path.ensures.path i); facts = facts_view (c.into_parts-path.ensures.preds i); passed = passed_by_view (c.into_parts-path.ensures.passed i) } in
    if_ok_both _ _ _ c.follow_all.result
    (λ ns are shows.
    subst (λ y. Each (AddsOnly (IsOwnAt M.stands M.terms M.asked m p y.path) y) (nexts_view ns)) same
    (adds_own M.stands M.terms _ (record { path = path_view parts.0; facts = facts_view parts.1; passed = passed_by_view parts.2 }) c.args.here.now
    (paths_view c.in_ok-paths.paths) (nexts_view ns) are shows c.in_ok-paths.ensures.next.own_conditions))
    c.follow_all.ensures.answer c.follow_all.ensures.shows

pub returns-clause-origin : goal.returns-clause-origin
returns-clause-origin g c =
    let M = g.M.SymMemory in
    let m = g.M.Local.LocalMemory.actions in
    let p = prog_view c.args.prog.now in
    let nexts = paths_view c.in_ok-paths.paths in
    let Comes = Follows p m M.terms (path_view c.args.checking.path) in
    IfOk-weaker c.follow_all.result _ _
    (λ ns are. answers_go Comes M.stands M.terms _ _ nexts (nexts_view ns) are (subst (λ q. Each (Follows p m M.terms q) nexts) (ap path_view c.into_parts-path.ensures.path) c.in_ok-paths.ensures.next.origin))
    c.follow_all.ensures.answer

pub returns-clause-plain : goal.returns-clause-plain
returns-clause-plain g c keeps =
    let M = g.M.SymMemory in
    let p = prog_view c.args.prog.now in
    let path = path_view c.into_parts-path.result.0 in
    let nexts = paths_view c.in_ok-paths.paths in
    let early : path.steps < 10000 = subst (λ q. (path_view q).steps < 10000) (sym c.into_parts-path.ensures.path) c.requires.may.steps in
    if_ok_both _ _ _ c.follow_all.result
    (λ ns are shows. subst (λ q. LeadsPlainly p M.plain (path_view q) (nexts_view ns)) c.into_parts-path.ensures.path
    (leads_plainly p M.plain M.terms path early nexts c.in_ok-paths.ensures.next.growth (c.in_ok-paths.ensures.simple keeps) c.args.here.now M.stands _ _ (nexts_view ns) are shows))
    c.follow_all.ensures.answer c.follow_all.ensures.shows
