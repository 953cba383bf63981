use Rattle.std.proofs.Common.{refl}
use Rattle.std.proofs.lemmas.Result.{IfOk-weaker}
use Rattle.gil_syntax.specs.Program.{prog_view}
use Rattle.gil_syntax.specs.View.{numbered_command_view, spec_view}
use Rattle.sym_paths.specs.View.{path_view}
use Rattle.spec_exploration.proofs.Inside.{call_unspecified}
use Rattle.checked_paths.specs.View.{nexts_view}
use Rattle.spec_exploration.proofs.Plainness.{row_plain}
use Rattle.spec_exploration.proofs.stepping.step_call.Goals as goal

pub call_row-requires-clause-at : goal.call_row-requires-clause-at
call_row-requires-clause-at g c = (numbered_command_view c.args.numbered.now, (c.requires.at, c.requires.call))

pub returns-clause-next : goal.returns-clause-next
returns-clause-next g c =
    IfOk-weaker c.call_row.result _ _ (λ s row. row (numbered_command_view c.args.numbered.now).command c.requires.call (numbered_command_view c.args.numbered.now) c.requires.may c.requires.at refl) c.call_row.ensures.next

pub returns-clause-exact : goal.returns-clause-exact
returns-clause-exact g c =
    IfOk-weaker c.call_row.result _ _
    (λ s row. row (numbered_command_view c.args.numbered.now).command c.requires.call (numbered_command_view c.args.numbered.now) c.requires.may c.requires.at refl (c.in_ok-here.ensures (prog_view c.args.prog.now) c.requires.at))
    c.call_row.ensures.exact

pub returns-clause-unspecified : goal.returns-clause-unspecified
returns-clause-unspecified g c contained inside =
    c.call_row.ensures.unspecified
    (call_unspecified (prog_view c.args.prog.now) (spec_view c.args.spec.now) contained (path_view c.args.checking.path) (numbered_command_view c.args.numbered.now) c.requires.at c.requires.call inside)

pub returns-clause-asked : goal.returns-clause-asked
returns-clause-asked g c =
    IfOk-weaker c.call_row.result _ _ (λ s asked. asked (numbered_command_view c.args.numbered.now).command c.requires.call (numbered_command_view c.args.numbered.now) c.requires.at refl) c.call_row.ensures.asked

pub returns-clause-plain : goal.returns-clause-plain
returns-clause-plain g c keeps plain inside =
    let p = prog_view c.args.prog.now in
    let s = spec_view c.args.spec.now in
    let n = numbered_command_view c.args.numbered.now in
    let path = path_view c.args.checking.path in
    IfOk-weaker c.call_row.result _ _
    (λ st leads. row_plain p s plain g.M.SymMemory.plain path c.requires.early n c.requires.at inside (nexts_view st.nexts) leads)
    (c.call_row.ensures.plain keeps (call_unspecified p s plain.contained path n c.requires.at c.requires.call inside))
