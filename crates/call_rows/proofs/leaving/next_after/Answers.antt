use Rattle.std.proofs.Common.{IfOk, sym, subst}
use Rattle.gil_syntax.specs.Program.{prog_view}
use Rattle.checked_paths.specs.View.{entry_view, next_view}
use Rattle.checked_rows.specs.Asking.{AddsTo}
use Rattle.sym_states.specs.View.{state_view}
use Rattle.call_rows.specs.Asked.{AsksCompleting}
use Rattle.call_rows.proofs.leaving.next_after.Goals as goal

pub returns-in-Returns-clause-asked : goal.returns-in-Returns-clause-asked
returns-in-Returns-clause-asked g c =
    subst (λ how. IfOk c.returned_next.result (λ n. AddsTo (AsksCompleting (prog_view c.args.prog.now) (entry_view c.args.spec.now c.args.entered.now) how) (state_view c.args.state).conds (next_view n)))
    (sym c.in-Returns.is) c.returned_next.ensures.asked

pub returns-in-Throws-clause-asked : goal.returns-in-Throws-clause-asked
returns-in-Throws-clause-asked g c =
    subst (λ how. IfOk c.thrown_next.result (λ n. AddsTo (AsksCompleting (prog_view c.args.prog.now) (entry_view c.args.spec.now c.args.entered.now) how) (state_view c.args.state).conds (next_view n)))
    (sym c.in-Throws.is) c.thrown_next.ensures.asked
