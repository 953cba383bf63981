use Rattle.std.proofs.Common.{IfOk, IfSome, sym, subst}
use Rattle.std.specs.Option.{option_map}
use Rattle.gil_syntax.specs.Program.{prog_view}
use Rattle.gil_syntax.specs.View.{spec_view}
use Rattle.addable_programs.proofs.AddableLaws.{programs_are_addable}
use Rattle.checked_paths.specs.View.{checking_view, entry_view, nexts_view}
use Rattle.checked_rows.specs.Asking.{AddsTo}
use Rattle.sym_model.specs.Lists.{Each}
use Rattle.sym_paths.specs.Frames.{running_store}
use Rattle.call_rows.specs.Asked.{AsksFurther}
use Rattle.call_rows.specs.Calling.{IsSpecOf}
use Rattle.call_rows.proofs.calling.further_nexts.Goals as goal

pub specified_nexts-requires-clause-addable : goal.specified_nexts-requires-clause-addable
specified_nexts-requires-clause-addable g c =
    let p = prog_view c.args.prog.now in
    let used = spec_view c.in-Some.used.now in
    let is : IsSpecOf p used = subst (λ o. IfSome o (λ s. IsSpecOf p (spec_view s.now))) c.in-Some.is c.requires.used in
    (programs_are_addable p g.M.Local.LocalMemory.memory c.args.prog.now.well_made c.args.prog.now.valid c.requires.modes).specs used used.name is

pub specified_nexts-requires-clause-cases : goal.specified_nexts-requires-clause-cases
specified_nexts-requires-clause-cases g c =
    let p = prog_view c.args.prog.now in
    (programs_are_addable p g.M.Local.LocalMemory.memory c.args.prog.now.well_made c.args.prog.now.valid c.requires.modes).preds

pub returns-in-Some-clause-asked : goal.returns-in-Some-clause-asked
returns-in-Some-clause-asked g c =
    let y = checking_view c.args.checking in
    subst (λ o. IfOk c.specified_nexts.result (λ ns. Each (AddsTo (AsksFurther (prog_view c.args.prog.now) (entry_view c.args.spec.now c.args.entered.now) (option_map (λ s. spec_view s.now) o) (running_store y.path.stack)) y.path.conds) (nexts_view ns)))
    (sym c.in-Some.is) c.specified_nexts.ensures.asked
