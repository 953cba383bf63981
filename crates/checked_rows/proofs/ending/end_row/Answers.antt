use Rattle.std.proofs.Common.{[], IsTrue, ap, subst}
use Rattle.gil_syntax.specs.Program.{prog_view}
use Rattle.gil_syntax.specs.Pure.{PureCommand}
use Rattle.gil_syntax.specs.Simple.{is_simple_command}
use Rattle.sym_model.proofs.ListLaws.{each_to}
use Rattle.sym_model.specs.Lists.{Each}
use Rattle.sym_engine.specs.Lawful.{IsOwnAt, IsAskedByMemoryAt}
use Rattle.sym_paths.specs.Origins.{Follows}
use Rattle.sym_paths.specs.Steps.{Covers, Grows, AreNextPaths, IsPlainPath, StaysWithin}
use Rattle.sym_paths.specs.View.{path_view, paths_view}
use Rattle.sym_states.proofs.Values.{ok_to}
use Rattle.sym_states.specs.View.{facts_view, state_view}
use Rattle.footprint.specs.Plainly.{IsPlainMemory}
use Rattle.checked_paths.specs.Following.{OfGoing}
use Rattle.checked_paths.specs.View.{checking_view, entry_view, nexts_view, passed_by_view}
use Rattle.checked_rows.specs.Ending.{EachIsEnded, EachIsExactlyEnded, IsLeaving, MayEnd}
use Rattle.checked_rows.specs.Plainly.{EachEndsSurely, EndsPlainly}
use Rattle.checked_rows.specs.Rows.{AreRowOf, IsExactRowOf}
use Rattle.checked_rows.proofs.EndExactLaws.{end_exact}
use Rattle.checked_rows.proofs.EndRowLaws.{may_end, end_covers}
use Rattle.checked_rows.proofs.EndGoing.{ends_go}
use Rattle.checked_rows.proofs.Plainness.{memory_of_path, ends_plainly}
use Rattle.checked_rows.specs.Asked.{EachEndAsks}
use Rattle.checked_rows.specs.Asking.{AsksOnlyOwn}
use Rattle.checked_rows.proofs.AskedRowLaws.{end_asks}
use Rattle.checked_rows.proofs.ending.end_row.Goals as goal

pub end_all-requires-clause-end : goal.end_all-requires-clause-end
end_all-requires-clause-end g c =
    let stands = g.M.SymMemory.stands in
    let terms = g.M.SymMemory.terms in
    let e = entry_view c.args.spec.now c.args.entered.now in
    let x = checking_view c.args.checking in
    let s = state_view c.in_ok-state.state in
    let nexts = paths_view c.in_ok-paths.paths in
    let growth : Each (Grows terms x.path) nexts = subst (λ q. Each (Grows terms q) nexts) (ap path_view c.into_parts-path.ensures.path) c.in_ok-paths.ensures.next.growth in
    each_to (Grows terms x.path) (MayEnd terms e s) nexts (may_end stands terms e x s c.in_ok-state.ensures c.requires.over) growth

pub returns-clause-next : goal.returns-clause-next
returns-clause-next g c =
    let stands = g.M.SymMemory.stands in
    let terms = g.M.SymMemory.terms in
    let memory = g.M.Local.LocalMemory.memory in
    let m = g.M.Local.LocalMemory.actions in
    let p = prog_view c.args.prog.now in
    let e = entry_view c.args.spec.now c.args.entered.now in
    let x = checking_view c.args.checking in
    let s = state_view c.in_ok-state.state in
    let nexts = paths_view c.in_ok-paths.paths in
    let parts = c.into_parts-path.result in
    let growth : Each (Grows terms x.path) nexts = subst (λ q. Each (Grows terms q) nexts) (ap path_view c.into_parts-path.ensures.path) c.in_ok-paths.ensures.next.growth in
    let cover : Covers p m stands x.path nexts = subst (λ q. Covers p m stands q nexts) (ap path_view c.into_parts-path.ensures.path) c.in_ok-paths.ensures.next.cover in
    ok_to c.end_all.result (λ ns. EachIsEnded p stands terms e s (facts_view parts.1) (passed_by_view parts.2) nexts (nexts_view ns))
    (λ ns. (command : PureCommand) → IsLeaving command → AreRowOf p memory m stands terms e x command [] (nexts_view ns))
    (λ ns are. end_covers p memory m stands terms g.met.M.SymMemory.meaning e x c.requires.over s c.in_ok-state.ensures nexts (nexts_view ns)
    (subst (λ qs. EachIsEnded p stands terms e s x.facts qs nexts (nexts_view ns)) (ap passed_by_view c.into_parts-path.ensures.passed)
    (subst (λ fs. EachIsEnded p stands terms e s fs (passed_by_view parts.2) nexts (nexts_view ns)) (ap facts_view c.into_parts-path.ensures.preds) are))
    cover growth c.in_ok-paths.ensures.placed)
    c.end_all.ensures.next

pub returns-clause-exact : goal.returns-clause-exact
returns-clause-exact g c =
    let stands = g.M.SymMemory.stands in
    let terms = g.M.SymMemory.terms in
    let memory = g.M.Local.LocalMemory.memory in
    let m = g.M.Local.LocalMemory.actions in
    let p = prog_view c.args.prog.now in
    let e = entry_view c.args.spec.now c.args.entered.now in
    let x = checking_view c.args.checking in
    let s = state_view c.in_ok-state.state in
    let here = c.args.here.now in
    let nexts = paths_view c.in_ok-paths.paths in
    let parts = c.into_parts-path.result in
    let laws = subst (λ q. AreNextPaths p m stands terms (IsOwnAt stands terms g.M.SymMemory.asked m p q) (IsAskedByMemoryAt stands terms g.M.SymMemory.asked m p q) q nexts) (ap path_view c.into_parts-path.ensures.path) c.in_ok-paths.ensures.next in
    ok_to c.end_all.result (λ ns. EachIsExactlyEnded p stands terms e s (facts_view parts.1) (passed_by_view parts.2) here nexts (nexts_view ns))
    (λ ns. (command : PureCommand) → IsLeaving command → IsExactRowOf p memory m stands terms e x command here (nexts_view ns))
    (λ ns are. end_exact p memory m stands terms g.met.M.SymMemory.meaning _ _ e x c.requires.over s c.in_ok-state.ensures here nexts (nexts_view ns)
    (subst (λ qs. EachIsExactlyEnded p stands terms e s x.facts qs here nexts (nexts_view ns)) (ap passed_by_view c.into_parts-path.ensures.passed)
    (subst (λ fs. EachIsExactlyEnded p stands terms e s fs (passed_by_view parts.2) here nexts (nexts_view ns)) (ap facts_view c.into_parts-path.ensures.preds) are))
    laws)
    c.end_all.ensures.exact

pub returns-clause-origin : goal.returns-clause-origin
returns-clause-origin g c =
    let stands = g.M.SymMemory.stands in
    let terms = g.M.SymMemory.terms in
    let m = g.M.Local.LocalMemory.actions in
    let p = prog_view c.args.prog.now in
    let e = entry_view c.args.spec.now c.args.entered.now in
    let s = state_view c.in_ok-state.state in
    let nexts = paths_view c.in_ok-paths.paths in
    let parts = c.into_parts-path.result in
    let Comes = Follows p m terms (path_view c.args.checking.path) in
    let origin : Each Comes nexts = subst (λ q. Each (Follows p m terms q) nexts) (ap path_view c.into_parts-path.ensures.path) c.in_ok-paths.ensures.next.origin in
    ok_to c.end_all.result (λ ns. EachIsEnded p stands terms e s (facts_view parts.1) (passed_by_view parts.2) nexts (nexts_view ns)) (λ ns. Each (OfGoing Comes) (nexts_view ns))
    (λ ns are. ends_go p stands terms e s (facts_view parts.1) (passed_by_view parts.2) Comes nexts (nexts_view ns) are origin) c.end_all.ensures.next

pub returns-clause-plain : goal.returns-clause-plain
returns-clause-plain g c keeps =
    let terms = g.M.SymMemory.terms in
    let plain = g.M.SymMemory.plain in
    let p = prog_view c.args.prog.now in
    let e = entry_view c.args.spec.now c.args.entered.now in
    let path = path_view c.args.checking.path in
    let nexts = paths_view c.in_ok-paths.paths in
    let growth : Each (Grows terms path) nexts = subst (λ q. Each (Grows terms q) nexts) (ap path_view c.into_parts-path.ensures.path) c.in_ok-paths.ensures.next.growth in
    let within : StaysWithin p (λ k. IsTrue (is_simple_command k)) (IsPlainPath plain) path nexts = subst (λ q. StaysWithin p (λ k. IsTrue (is_simple_command k)) (IsPlainPath plain) q nexts) (ap path_view c.into_parts-path.ensures.path) (c.in_ok-paths.ensures.simple keeps) in
    let s = state_view c.in_ok-state.state in
    let memory = g.M.Local.LocalMemory.memory in
    let holds = g.M.SymMemory.keeps_plain in
    ok_to c.end_all.result (λ ns. EachEndsSurely plain (IsPlainMemory g.M.Local.LocalMemory.memory g.M.SymMemory.keeps_plain g.M.SymMemory.terms) s e nexts (nexts_view ns)) (λ ns. EndsPlainly p plain e path (nexts_view ns))
    (λ ns are. ends_plainly p plain (IsPlainMemory g.M.Local.LocalMemory.memory g.M.SymMemory.keeps_plain g.M.SymMemory.terms) s terms e path c.requires.may.steps nexts growth within
    (memory_of_path memory holds g.M.SymMemory.stands terms plain g.met.M.SymMemory.plain_is_said keeps path (checking_view c.args.checking).facts s c.in_ok-state.ensures) (nexts_view ns) are) c.end_all.ensures.plain

pub returns-clause-asked : goal.returns-clause-asked
returns-clause-asked g c =
    let stands = g.M.SymMemory.stands in
    let terms = g.M.SymMemory.terms in
    let asked = g.M.SymMemory.asked in
    let m = g.M.Local.LocalMemory.actions in
    let p = prog_view c.args.prog.now in
    let e = entry_view c.args.spec.now c.args.entered.now in
    let x = checking_view c.args.checking in
    let nexts = paths_view c.in_ok-paths.paths in
    let laws = subst (λ q. AreNextPaths p m stands terms (IsOwnAt stands terms asked m p q) (IsAskedByMemoryAt stands terms asked m p q) q nexts) (ap path_view c.into_parts-path.ensures.path) c.in_ok-paths.ensures.next in
    ok_to c.end_all.result (λ ns. EachEndAsks p e nexts (nexts_view ns)) (λ ns. (command : PureCommand) → IsLeaving command → AsksOnlyOwn p e x command (nexts_view ns))
    (λ ns are. end_asks p e x stands terms asked m nexts (nexts_view ns) laws.own_conditions laws.origin are) c.end_all.ensures.asked
