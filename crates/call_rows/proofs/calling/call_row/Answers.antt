use Rattle.std.proofs.Common.{◌+◌, IsTrue, sym, ap, subst}
use Rattle.gil_syntax.specs.Program.{prog_view}
use Rattle.gil_syntax.specs.Simple.{is_simple_command}
use Rattle.sym_model.specs.Lists.{Each}
use Rattle.sym_model.proofs.ListLaws.{each_to}
use Rattle.sym_paths.specs.Origins.{Follows}
use Rattle.sym_engine.specs.Lawful.{IsOwnAt, IsAskedByMemoryAt}
use Rattle.sym_paths.specs.Steps.{AddsOwn, AreNextPaths, Covers, Grows, IsPlainPath, StaysWithin, step_growth}
use Rattle.sym_paths.specs.View.{path_view, paths_view}
use Rattle.sym_states.specs.View.{facts_view}
use Rattle.checked_paths.specs.View.{checking_view, entry_view, nexts_view, passed_by_view}
use Rattle.call_rows.specs.Calling.{EachIsCalled, IsNextOver, IsUnspecified}
use Rattle.call_rows.proofs.CallLaws.{nexts_over, row_covers}
use Rattle.checked_paths.proofs.Plainness.{IsSurePath, nexts_sure}
use Rattle.call_rows.proofs.Unspecified.{is_unspecified, calls_go, calls_sure, each_both}
use Rattle.call_rows.proofs.RowExact.{row_exact}
use Rattle.call_rows.proofs.AskedRow.{row_asks}
use Rattle.call_rows.proofs.UsesLaws.{names_are_used}
use Rattle.call_rows.proofs.calling.call_row.Goals as goal

pub call_all-requires-clause-over : goal.call_all-requires-clause-over
call_all-requires-clause-over g c =
    let terms = g.M.SymMemory.terms in
    let m = g.M.Local.LocalMemory.actions in
    let p = prog_view c.args.prog.now in
    let e = entry_view c.args.spec.now c.args.entered.now in
    let x = checking_view c.args.checking in
    let nexts = paths_view c.in_ok-paths.paths in
    let parts = c.into_parts-path.result in
    let growth : Each (Grows terms x.path) nexts = subst (λ q. Each (Grows terms q) nexts) (ap path_view c.into_parts-path.ensures.path) c.in_ok-paths.ensures.next.growth in
    let origin : Each (Follows p m terms x.path) nexts = subst (λ q. Each (Follows p m terms q) nexts) (ap path_view c.into_parts-path.ensures.path) c.in_ok-paths.ensures.next.origin in
    subst (λ qs. Each (IsNextOver terms e (facts_view parts.1) qs) nexts) (sym (ap passed_by_view c.into_parts-path.ensures.passed))
    (subst (λ fs. Each (IsNextOver terms e fs x.passed) nexts) (sym (ap facts_view c.into_parts-path.ensures.preds)) (nexts_over p m terms e x c.requires.over c.requires.at nexts growth origin))

pub returns-clause-next : goal.returns-clause-next
returns-clause-next g c =
    let stands = g.M.SymMemory.stands in
    let terms = g.M.SymMemory.terms in
    let kept = g.M.SymMemory.kept in
    let memory = g.M.Local.LocalMemory.memory in
    let m = g.M.Local.LocalMemory.actions in
    let p = prog_view c.args.prog.now in
    let e = entry_view c.args.spec.now c.args.entered.now in
    let x = checking_view c.args.checking in
    let nexts = paths_view c.in_ok-paths.paths in
    let ns = nexts_view c.in_ok-nexts.nexts in
    let parts = c.into_parts-path.result in
    let growth : Each (Grows terms x.path) nexts = subst (λ q. Each (Grows terms q) nexts) (ap path_view c.into_parts-path.ensures.path) c.in_ok-paths.ensures.next.growth in
    let cover : Covers p m stands x.path nexts = subst (λ q. Covers p m stands q nexts) (ap path_view c.into_parts-path.ensures.path) c.in_ok-paths.ensures.next.cover in
    row_covers p memory m stands terms g.met.M.SymMemory.meaning kept e x c.args.prog.now.well_made c.args.prog.now.valid c.requires.modes c.args.here.now nexts ns c.in_ok-uses.uses
    (subst (λ qs. EachIsCalled p memory stands terms kept e c.args.here.now x.facts qs nexts ns) (ap passed_by_view c.into_parts-path.ensures.passed)
    (subst (λ fs. EachIsCalled p memory stands terms kept e c.args.here.now fs (passed_by_view parts.2) nexts ns) (ap facts_view c.into_parts-path.ensures.preds) c.in_ok-nexts.ensures.answers))
    cover growth c.in_ok-paths.ensures.placed c.in_ok-uses.ensures.named

pub returns-clause-exact : goal.returns-clause-exact
returns-clause-exact g c =
    let stands = g.M.SymMemory.stands in
    let terms = g.M.SymMemory.terms in
    let kept = g.M.SymMemory.kept in
    let memory = g.M.Local.LocalMemory.memory in
    let m = g.M.Local.LocalMemory.actions in
    let p = prog_view c.args.prog.now in
    let e = entry_view c.args.spec.now c.args.entered.now in
    let x = checking_view c.args.checking in
    let here = c.args.here.now in
    let nexts = paths_view c.in_ok-paths.paths in
    let ns = nexts_view c.in_ok-nexts.nexts in
    let parts = c.into_parts-path.result in
    let Own = IsOwnAt stands terms g.M.SymMemory.asked m p (path_view parts.0) in
    let ByMemory = IsAskedByMemoryAt stands terms g.M.SymMemory.asked m p (path_view parts.0) in
    let laws : AreNextPaths p m stands terms Own ByMemory x.path nexts = subst (λ q. AreNextPaths p m stands terms Own ByMemory q nexts) (ap path_view c.into_parts-path.ensures.path) c.in_ok-paths.ensures.next in
    row_exact p memory m stands terms g.met.M.SymMemory.meaning kept Own ByMemory e x c.args.prog.now.well_made c.args.prog.now.valid c.requires.modes here nexts ns
    (subst (λ qs. EachIsCalled p memory stands terms kept e here x.facts qs nexts ns) (ap passed_by_view c.into_parts-path.ensures.passed)
    (subst (λ fs. EachIsCalled p memory stands terms kept e here fs (passed_by_view parts.2) nexts ns) (ap facts_view c.into_parts-path.ensures.preds) c.in_ok-nexts.ensures.answers))
    laws c.in_ok-paths.ensures.placed

pub returns-clause-unspecified : goal.returns-clause-unspecified
returns-clause-unspecified g c calls =
    let stands = g.M.SymMemory.stands in
    let terms = g.M.SymMemory.terms in
    let memory = g.M.Local.LocalMemory.memory in
    let m = g.M.Local.LocalMemory.actions in
    let p = prog_view c.args.prog.now in
    let e = entry_view c.args.spec.now c.args.entered.now in
    let path = path_view c.args.checking.path in
    let nexts = paths_view c.in_ok-paths.paths in
    let parts = c.into_parts-path.result in
    let Comes = Follows p m terms path in
    let origin : Each Comes nexts = subst (λ q. Each (Follows p m terms q) nexts) (ap path_view c.into_parts-path.ensures.path) c.in_ok-paths.ensures.next.origin in (
      c.in_ok-uses.ensures.only (each_to Comes (IsUnspecified p) nexts (is_unspecified p m terms path calls) origin),
      calls_go p memory stands terms g.M.SymMemory.kept e c.args.here.now (facts_view parts.1) (passed_by_view parts.2) Comes nexts (nexts_view c.in_ok-nexts.nexts) c.in_ok-nexts.ensures.answers
          (each_to Comes (λ next. IsUnspecified p next × Comes next) nexts (λ next comes. (is_unspecified p m terms path calls next comes, comes)) origin),
    )

pub returns-clause-plain : goal.returns-clause-plain
returns-clause-plain g c keeps calls d b at simple narrow from =
    let stands = g.M.SymMemory.stands in
    let terms = g.M.SymMemory.terms in
    let plain = g.M.SymMemory.plain in
    let memory = g.M.Local.LocalMemory.memory in
    let m = g.M.Local.LocalMemory.actions in
    let p = prog_view c.args.prog.now in
    let e = entry_view c.args.spec.now c.args.entered.now in
    let path = path_view c.args.checking.path in
    let nexts = paths_view c.in_ok-paths.paths in
    let parts = c.into_parts-path.result in
    let Comes = Follows p m terms path in
    let P = IsPlainPath plain (b + step_growth) in
    let origin : Each Comes nexts = subst (λ q. Each (Follows p m terms q) nexts) (ap path_view c.into_parts-path.ensures.path) c.in_ok-paths.ensures.next.origin in
    let growth : Each (Grows terms path) nexts = subst (λ q. Each (Grows terms q) nexts) (ap path_view c.into_parts-path.ensures.path) c.in_ok-paths.ensures.next.growth in
    let within : StaysWithin p (λ k. IsTrue (is_simple_command k)) (IsPlainPath plain) path nexts = subst (λ q. StaysWithin p (λ k. IsTrue (is_simple_command k)) (IsPlainPath plain) q nexts) (ap path_view c.into_parts-path.ensures.path) (c.in_ok-paths.ensures.simple keeps) in
    let none : Each (IsUnspecified p) nexts = each_to Comes (IsUnspecified p) nexts (is_unspecified p m terms path calls) origin in
    calls_sure p memory stands terms g.M.SymMemory.kept e c.args.here.now (facts_view parts.1) (passed_by_view parts.2) P nexts (nexts_view c.in_ok-nexts.nexts) c.in_ok-nexts.ensures.answers
    (each_both (IsUnspecified p) (IsSurePath P) nexts none (nexts_sure p plain terms path c.requires.may.steps nexts growth within d b at simple narrow from))

pub returns-clause-used : goal.returns-clause-used
returns-clause-used g c =
    let stands = g.M.SymMemory.stands in
    let terms = g.M.SymMemory.terms in
    let m = g.M.Local.LocalMemory.actions in
    let p = prog_view c.args.prog.now in
    let e = entry_view c.args.spec.now c.args.entered.now in
    let x = checking_view c.args.checking in
    let nexts = paths_view c.in_ok-paths.paths in
    let parts = c.into_parts-path.result in
    let Own = IsOwnAt stands terms g.M.SymMemory.asked m p (path_view parts.0) in
    let ByMemory = IsAskedByMemoryAt stands terms g.M.SymMemory.asked m p (path_view parts.0) in
    let laws : AreNextPaths p m stands terms Own ByMemory x.path nexts = subst (λ q. AreNextPaths p m stands terms Own ByMemory q nexts) (ap path_view c.into_parts-path.ensures.path) c.in_ok-paths.ensures.next in
    names_are_used p m stands terms Own ByMemory e x c.requires.at nexts c.in_ok-uses.uses laws c.in_ok-uses.ensures.called

pub returns-clause-asked : goal.returns-clause-asked
returns-clause-asked g c =
    let stands = g.M.SymMemory.stands in
    let terms = g.M.SymMemory.terms in
    let memory = g.M.Local.LocalMemory.memory in
    let m = g.M.Local.LocalMemory.actions in
    let p = prog_view c.args.prog.now in
    let e = entry_view c.args.spec.now c.args.entered.now in
    let x = checking_view c.args.checking in
    let nexts = paths_view c.in_ok-paths.paths in
    let Asked = g.M.SymMemory.asked in
    let own : Each (AddsOwn (IsOwnAt stands terms Asked m p x.path) x.path) nexts = subst (λ q. Each (AddsOwn (IsOwnAt stands terms Asked m p q) q) nexts) (ap path_view c.into_parts-path.ensures.path) c.in_ok-paths.ensures.next.own_conditions in
    let origin : Each (Follows p m terms x.path) nexts = subst (λ q. Each (Follows p m terms q) nexts) (ap path_view c.into_parts-path.ensures.path) c.in_ok-paths.ensures.next.origin in
    row_asks p memory m stands terms Asked e x c.args.prog.now.well_made c.args.prog.now.valid c.requires.modes nexts (nexts_view c.in_ok-nexts.nexts) c.in_ok-nexts.ensures.asked own origin
