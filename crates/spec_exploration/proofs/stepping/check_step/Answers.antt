use Rattle.std.proofs.Common.{sym, subst}
use Rattle.gil_syntax.specs.Program.{prog_view}
use Rattle.gil_syntax.specs.View.{spec_view}
use Rattle.checked_paths.proofs.Exact.{if_ok_both}
use Rattle.checked_paths.specs.View.{checking_view, entry_view, nexts_view}
use Rattle.call_rows.specs.Uses.{AreUsedThere}
use Rattle.spec_exploration.proofs.Inside.{command_there, nexts_inside}
use Rattle.spec_exploration.proofs.Plainness.{nexts_plain}
use Rattle.spec_exploration.proofs.stepping.check_step.Goals as goal

pub returns-then-is_call-clause-inside : goal.returns-then-is_call-clause-inside
returns-then-is_call-clause-inside g c contained inside =
    let p = prog_view c.args.prog.now in
    let x = checking_view c.args.checking in
    let (n, at) = command_there p x.path.stack c.requires.may.placed in
    if_ok_both _ _ _ c.step_call.result
    (λ st nexts both.
    (both.0, nexts_inside p (spec_view c.args.spec.now) contained g.M.Local.LocalMemory.actions g.M.SymMemory.terms (entry_view c.args.spec.now c.args.entered.now) x n at inside (nexts_view st.nexts) nexts.follow both.1))
    c.step_call.ensures.next (c.step_call.ensures.unspecified contained inside)

pub returns-clause-inside : goal.returns-clause-inside
returns-clause-inside g c contained inside =
    let p = prog_view c.args.prog.now in
    let x = checking_view c.args.checking in
    let (n, at) = command_there p x.path.stack c.requires.may.placed in (
      c.new-uses.ensures,
      nexts_inside p (spec_view c.args.spec.now) contained g.M.Local.LocalMemory.actions g.M.SymMemory.terms (entry_view c.args.spec.now c.args.entered.now) x n at inside (nexts_view c.in_ok-nexts.nexts)
          c.in_ok-nexts.ensures.next.follow (c.in_ok-nexts.ensures.origin contained inside),
    )

pub returns-then-is_call-clause-plain : goal.returns-then-is_call-clause-plain
returns-then-is_call-clause-plain g c keeps plain terms inside from =
    let p = prog_view c.args.prog.now in
    let x = checking_view c.args.checking in
    if_ok_both _ _ _ c.step_call.result
    (λ st nexts steps. nexts_plain p (spec_view c.args.spec.now) plain g.M.SymMemory.plain g.M.SymMemory.terms (entry_view c.args.spec.now c.args.entered.now) x (nexts_view st.nexts) nexts.follow (steps from))
    c.step_call.ensures.next (c.step_call.ensures.plain keeps plain inside)

pub returns-clause-plain : goal.returns-clause-plain
returns-clause-plain g c keeps plain terms inside from =
    nexts_plain (prog_view c.args.prog.now) (spec_view c.args.spec.now) plain g.M.SymMemory.plain g.M.SymMemory.terms (entry_view c.args.spec.now c.args.entered.now) (checking_view c.args.checking) (nexts_view c.in_ok-nexts.nexts)
    c.in_ok-nexts.ensures.next.follow (c.in_ok-nexts.ensures.plain keeps plain terms inside from)

pub returns-clause-used : goal.returns-clause-used
returns-clause-used g c =
    subst (AreUsedThere (prog_view c.args.prog.now) g.M.Local.LocalMemory.actions g.M.SymMemory.stands (entry_view c.args.spec.now c.args.entered.now) (checking_view c.args.checking)) (sym c.new-uses.ensures) tt
