use Rattle.std.proofs.Common.{◌≡◌, Some, ◌∙◌, sym}
use Rattle.gil_syntax.specs.Program.{prog_view}
use Rattle.gil_syntax.specs.Pure.{unfold_use}
use Rattle.gil_syntax.specs.View.{pred_use_view}
use Rattle.mem_model.specs.CoreNames.{core_of}
use Rattle.sym_states.proofs.Values.{ok_to}
use Rattle.checked_paths.specs.declared.nexts.FaultKind.{FaultKind}
use Rattle.checked_paths.specs.View.{checking_view, entry_view, nexts_view}
use Rattle.checked_rows.specs.Doubts.{always, IsDoubtAlone}
use Rattle.checked_rows.specs.Rows.{IsExactRowOf}
use Rattle.checked_rows.proofs.ExactLaws.{right_alone}
use Rattle.checked_rows.proofs.UnfoldExactLaws.{core_is_fault}
use Rattle.checked_rows.specs.Asking.{AsksOnlyOwn}
use Rattle.checked_rows.proofs.AskedRowLaws.{always_asks}
use Rattle.checked_rows.proofs.unfolding.unfold_row.Goals as goal

pub returns-in-Some-clause-exact : goal.returns-in-Some-clause-exact
returns-in-Some-clause-exact g c =
    let stands = g.M.SymMemory.stands in
    let terms = g.M.SymMemory.terms in
    let p = prog_view c.args.prog.now in
    let memory = g.M.Local.LocalMemory.memory in
    let m = g.M.Local.LocalMemory.actions in
    let e = entry_view c.args.spec.now c.args.entered.now in
    let x = checking_view c.args.checking in
    let u = pred_use_view c.args.used.now in
    let here = c.args.here.now in
    let core : core_of u.pred ≡ Some c.in-Some.field-0 = sym c.from_name.ensures ∙ c.in-Some.is in
    ok_to c.doubted.result (λ ns. IsDoubtAlone FaultKind.FoldBody here x.path always (nexts_view ns)) (λ ns. IsExactRowOf p memory m stands terms e x (unfold_use u) here (nexts_view ns))
    (λ ns alone n may at this place. right_alone p memory m stands e x FaultKind.FoldBody here place always (core_is_fault p memory m stands e x u n at this c.in-Some.field-0 core) (nexts_view ns) alone) c.doubted.ensures.shows

pub returns-in-Some-clause-asked : goal.returns-in-Some-clause-asked
returns-in-Some-clause-asked g c =
    let p = prog_view c.args.prog.now in
    let e = entry_view c.args.spec.now c.args.entered.now in
    let x = checking_view c.args.checking in
    let u = pred_use_view c.args.used.now in
    let here = c.args.here.now in
    ok_to c.doubted.result (λ ns. IsDoubtAlone FaultKind.FoldBody here x.path always (nexts_view ns)) (λ ns. AsksOnlyOwn p e x (unfold_use u) (nexts_view ns))
    (λ ns alone. always_asks p e x (unfold_use u) FaultKind.FoldBody here (nexts_view ns) alone) c.doubted.ensures.shows
