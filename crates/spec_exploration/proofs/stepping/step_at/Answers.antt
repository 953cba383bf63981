use Rattle.std.proofs.Common.{IsTrue, refl, sym, ap, subst, ◌∙◌, true≢false}
use Rattle.std.proofs.lemmas.Result.{IfOk-weaker}
use Rattle.gil_syntax.specs.Program.{prog_view}
use Rattle.gil_syntax.specs.View.{command_view, exprs_view, numbered_command_view, spec_view}
use Rattle.addable_programs.specs.Addable.{IsAddableCommand}
use Rattle.addable_programs.proofs.AddableLaws.{programs_are_addable}
use Rattle.plain_specs.specs.Contained.{is_told_by_itself}
use Rattle.sym_paths.specs.View.{frames_view, path_view}
use Rattle.checked_paths.specs.View.{entry_view, checking_view, nexts_view}
use Rattle.spec_exploration.proofs.Inside.{told}
use Rattle.spec_exploration.proofs.Plainness.{end_plain, row_plain}
use Rattle.spec_exploration.proofs.Asking.{own_asked}
use Rattle.spec_exploration.proofs.Steps.{addable_there, ins_spelled, outs_spelled, of_some_kind, machine_stays}
use Rattle.spec_exploration.proofs.stepping.step_at.Goals as goal

pub step_machine-requires-clause-machine :
    goal.step_machine-requires-clause-machine
step_machine-requires-clause-machine g c = (numbered_command_view c.args.numbered.now, (c.requires.at, sym c.is_of_machine.ensures ∙ c.if-is_of_machine.true))

pub returns-then-is_of_machine-clause-next :
    goal.returns-then-is_of_machine-clause-next
returns-then-is_of_machine-clause-next g c = IfOk-weaker c.step_machine.result _ _ (λ ns nexts. nexts (entry_view c.args.spec.now c.args.entered.now) c.requires.may) c.step_machine.ensures.next

pub returns-then-is_of_machine-clause-exact :
    goal.returns-then-is_of_machine-clause-exact
returns-then-is_of_machine-clause-exact g c =
    let n = numbered_command_view c.args.numbered.now in
    let stays = machine_stays n.command (sym c.is_of_machine.ensures ∙ c.if-is_of_machine.true) (c.is_leaving.ensures.other c.if-is_leaving.false) in
    IfOk-weaker c.step_machine.result _ _
    (λ ns exact. exact (entry_view c.args.spec.now c.args.entered.now) c.requires.may (n, (c.requires.at, stays)) (c.in_ok-here.ensures (prog_view c.args.prog.now) c.requires.at))
    c.step_machine.ensures.exact

pub assert_row-requires-clause-may : goal.assert_row-requires-clause-may
assert_row-requires-clause-may g c =
    let p = prog_view c.args.prog.now in
    let memory = g.M.Local.LocalMemory.memory in
    subst (IsAddableCommand p memory) (ap command_view c.in-AssertThat.is)
    (addable_there p memory (programs_are_addable p memory c.args.prog.now.well_made c.args.prog.now.valid c.requires.modes) (frames_view c.args.checking.path.stack) (numbered_command_view c.args.numbered.now) c.requires.at)

pub assert_row-requires-clause-cases : goal.assert_row-requires-clause-cases
assert_row-requires-clause-cases g c =
    let p = prog_view c.args.prog.now in
    (programs_are_addable p g.M.Local.LocalMemory.memory c.args.prog.now.well_made c.args.prog.now.valid c.requires.modes).preds

pub returns-in-AssertThat-clause-next : goal.returns-in-AssertThat-clause-next
returns-in-AssertThat-clause-next g c =
    IfOk-weaker c.assert_row.result _ _ (λ ns row. row (numbered_command_view c.args.numbered.now) c.requires.may c.requires.at (ap command_view c.in-AssertThat.is)) c.assert_row.ensures.next

pub returns-in-AssertThat-clause-exact : goal.returns-in-AssertThat-clause-exact
returns-in-AssertThat-clause-exact g c =
    IfOk-weaker c.assert_row.result _ _
    (λ ns row. row (numbered_command_view c.args.numbered.now) c.requires.may c.requires.at (ap command_view c.in-AssertThat.is) (c.in_ok-here.ensures (prog_view c.args.prog.now) c.requires.at)) c.assert_row.ensures.exact

pub fold_row-requires-clause-ins : goal.fold_row-requires-clause-ins
fold_row-requires-clause-ins g c =
    let p = prog_view c.args.prog.now in
    let memory = g.M.Local.LocalMemory.memory in
    let used = subst (IsAddableCommand p memory) (ap command_view c.in-Fold.is)
    (addable_there p memory (programs_are_addable p memory c.args.prog.now.well_made c.args.prog.now.valid c.requires.modes) (frames_view c.args.checking.path.stack) (numbered_command_view c.args.numbered.now) c.requires.at) in
    ins_spelled (exprs_view c.in-Fold.used.ins) (exprs_view c.in-Fold.used.outs) used.0

pub unfold_row-requires-clause-ins : goal.unfold_row-requires-clause-ins
unfold_row-requires-clause-ins g c =
    let p = prog_view c.args.prog.now in
    let memory = g.M.Local.LocalMemory.memory in
    let used = subst (IsAddableCommand p memory) (ap command_view c.in-Unfold.is)
    (addable_there p memory (programs_are_addable p memory c.args.prog.now.well_made c.args.prog.now.valid c.requires.modes) (frames_view c.args.checking.path.stack) (numbered_command_view c.args.numbered.now) c.requires.at) in
    ins_spelled (exprs_view c.in-Unfold.used.ins) (exprs_view c.in-Unfold.used.outs) used.0

pub fold_row-requires-clause-outs : goal.fold_row-requires-clause-outs
fold_row-requires-clause-outs g c =
    let p = prog_view c.args.prog.now in
    let memory = g.M.Local.LocalMemory.memory in
    let used = subst (IsAddableCommand p memory) (ap command_view c.in-Fold.is)
    (addable_there p memory (programs_are_addable p memory c.args.prog.now.well_made c.args.prog.now.valid c.requires.modes) (frames_view c.args.checking.path.stack) (numbered_command_view c.args.numbered.now) c.requires.at) in
    outs_spelled (exprs_view c.in-Fold.used.ins) (exprs_view c.in-Fold.used.outs) used.0

pub unfold_row-requires-clause-outs : goal.unfold_row-requires-clause-outs
unfold_row-requires-clause-outs g c =
    let p = prog_view c.args.prog.now in
    let memory = g.M.Local.LocalMemory.memory in
    let used = subst (IsAddableCommand p memory) (ap command_view c.in-Unfold.is)
    (addable_there p memory (programs_are_addable p memory c.args.prog.now.well_made c.args.prog.now.valid c.requires.modes) (frames_view c.args.checking.path.stack) (numbered_command_view c.args.numbered.now) c.requires.at) in
    outs_spelled (exprs_view c.in-Unfold.used.ins) (exprs_view c.in-Unfold.used.outs) used.0

pub fold_row-requires-clause-cases : goal.fold_row-requires-clause-cases
fold_row-requires-clause-cases g c =
    let p = prog_view c.args.prog.now in
    (programs_are_addable p g.M.Local.LocalMemory.memory c.args.prog.now.well_made c.args.prog.now.valid c.requires.modes).preds

pub unfold_row-requires-clause-cases : goal.unfold_row-requires-clause-cases
unfold_row-requires-clause-cases g c =
    let p = prog_view c.args.prog.now in
    (programs_are_addable p g.M.Local.LocalMemory.memory c.args.prog.now.well_made c.args.prog.now.valid c.requires.modes).preds

pub returns-in-Fold-clause-next : goal.returns-in-Fold-clause-next
returns-in-Fold-clause-next g c =
    IfOk-weaker c.fold_row.result _ _ (λ ns row. row (numbered_command_view c.args.numbered.now) c.requires.may c.requires.at (ap command_view c.in-Fold.is)) c.fold_row.ensures.next

pub returns-in-Fold-clause-exact : goal.returns-in-Fold-clause-exact
returns-in-Fold-clause-exact g c =
    IfOk-weaker c.fold_row.result _ _
    (λ ns row. row (numbered_command_view c.args.numbered.now) c.requires.may c.requires.at (ap command_view c.in-Fold.is) (c.in_ok-here.ensures (prog_view c.args.prog.now) c.requires.at)) c.fold_row.ensures.exact

pub returns-in-Unfold-clause-next : goal.returns-in-Unfold-clause-next
returns-in-Unfold-clause-next g c =
    IfOk-weaker c.unfold_row.result _ _ (λ ns row. row (numbered_command_view c.args.numbered.now) c.requires.may c.requires.at (ap command_view c.in-Unfold.is)) c.unfold_row.ensures.next

pub returns-in-Unfold-clause-exact : goal.returns-in-Unfold-clause-exact
returns-in-Unfold-clause-exact g c =
    IfOk-weaker c.unfold_row.result _ _
    (λ ns row. row (numbered_command_view c.args.numbered.now) c.requires.may c.requires.at (ap command_view c.in-Unfold.is) (c.in_ok-here.ensures (prog_view c.args.prog.now) c.requires.at)) c.unfold_row.ensures.exact

pub returns-then-is_leaving-clause-next : goal.returns-then-is_leaving-clause-next
returns-then-is_leaving-clause-next g c =
    IfOk-weaker c.leave.result _ _ (λ ns row. row (numbered_command_view c.args.numbered.now).command (c.is_leaving.ensures.is c.if-is_leaving.true) (numbered_command_view c.args.numbered.now) c.requires.may c.requires.at refl) c.leave.ensures.next

pub returns-then-is_leaving-clause-exact :
    goal.returns-then-is_leaving-clause-exact
returns-then-is_leaving-clause-exact g c =
    IfOk-weaker c.leave.result _ _
    (λ ns row. row (numbered_command_view c.args.numbered.now).command (c.is_leaving.ensures.is c.if-is_leaving.true) (numbered_command_view c.args.numbered.now) c.requires.may c.requires.at refl (c.in_ok-here.ensures (prog_view c.args.prog.now) c.requires.at)) c.leave.ensures.exact

pub invariant_row-requires-clause-may : goal.invariant_row-requires-clause-may
invariant_row-requires-clause-may g c =
    let p = prog_view c.args.prog.now in
    let memory = g.M.Local.LocalMemory.memory in
    subst (IsAddableCommand p memory) (ap command_view c.in-LoopInvariant.is)
    (addable_there p memory (programs_are_addable p memory c.args.prog.now.well_made c.args.prog.now.valid c.requires.modes) (frames_view c.args.checking.path.stack) (numbered_command_view c.args.numbered.now) c.requires.at)

pub invariant_row-requires-clause-cases : goal.invariant_row-requires-clause-cases
invariant_row-requires-clause-cases g c =
    let p = prog_view c.args.prog.now in
    (programs_are_addable p g.M.Local.LocalMemory.memory c.args.prog.now.well_made c.args.prog.now.valid c.requires.modes).preds

pub returns-in-LoopInvariant-clause-next : goal.returns-in-LoopInvariant-clause-next
returns-in-LoopInvariant-clause-next g c =
    IfOk-weaker c.invariant_row.result _ _ (λ ns row. row (numbered_command_view c.args.numbered.now) c.requires.may c.requires.at (ap command_view c.in-LoopInvariant.is)) c.invariant_row.ensures.next

pub returns-in-LoopInvariant-clause-exact : goal.returns-in-LoopInvariant-clause-exact
returns-in-LoopInvariant-clause-exact g c =
    IfOk-weaker c.invariant_row.result _ _
    (λ ns row. row (numbered_command_view c.args.numbered.now) c.requires.may c.requires.at (ap command_view c.in-LoopInvariant.is) (c.in_ok-here.ensures (prog_view c.args.prog.now) c.requires.at)) c.invariant_row.ensures.exact

pub returns-then-is_leaving-clause-asked : goal.returns-then-is_leaving-clause-asked
returns-then-is_leaving-clause-asked g c =
    IfOk-weaker c.leave.result _ _ (λ ns asked. asked (numbered_command_view c.args.numbered.now).command (c.is_leaving.ensures.is c.if-is_leaving.true) (numbered_command_view c.args.numbered.now) c.requires.at refl) c.leave.ensures.asked

pub returns-then-is_of_machine-clause-asked : goal.returns-then-is_of_machine-clause-asked
returns-then-is_of_machine-clause-asked g c =
    let M = g.M.SymMemory in
    IfOk-weaker c.step_machine.result _ _
    (λ ns own. own_asked (prog_view c.args.prog.now) (entry_view c.args.spec.now c.args.entered.now) (checking_view c.args.checking) M.stands M.terms M.asked g.M.Local.LocalMemory.actions g.met.M.SymMemory.asked_are_given (nexts_view ns) own) c.step_machine.ensures.own

pub returns-in-AssertThat-clause-asked : goal.returns-in-AssertThat-clause-asked
returns-in-AssertThat-clause-asked g c =
    IfOk-weaker c.assert_row.result _ _ (λ ns asked. asked (numbered_command_view c.args.numbered.now) c.requires.at (ap command_view c.in-AssertThat.is)) c.assert_row.ensures.asked

pub returns-in-Fold-clause-asked : goal.returns-in-Fold-clause-asked
returns-in-Fold-clause-asked g c =
    IfOk-weaker c.fold_row.result _ _ (λ ns asked. asked (numbered_command_view c.args.numbered.now) c.requires.at (ap command_view c.in-Fold.is)) c.fold_row.ensures.asked

pub returns-in-Unfold-clause-asked : goal.returns-in-Unfold-clause-asked
returns-in-Unfold-clause-asked g c =
    IfOk-weaker c.unfold_row.result _ _ (λ ns asked. asked (numbered_command_view c.args.numbered.now) c.requires.at (ap command_view c.in-Unfold.is)) c.unfold_row.ensures.asked

pub returns-in-LoopInvariant-clause-asked : goal.returns-in-LoopInvariant-clause-asked
returns-in-LoopInvariant-clause-asked g c =
    IfOk-weaker c.invariant_row.result _ _ (λ ns asked. asked (numbered_command_view c.args.numbered.now) c.requires.at (ap command_view c.in-LoopInvariant.is)) c.invariant_row.ensures.asked

pub unreachable-requires : goal.unreachable-requires
unreachable-requires g c =
    of_some_kind c.args.numbered.now.command c.requires.no_call (c.is_leaving.ensures.other c.if-is_leaving.false) (sym c.is_of_machine.ensures ∙ c.if-is_of_machine.false)
    c.in_default.not-Fold c.in_default.not-Unfold c.in_default.not-AssertThat c.in_default.not-LoopInvariant

pub returns-then-is_leaving-clause-origin : goal.returns-then-is_leaving-clause-origin
returns-then-is_leaving-clause-origin g c contained inside = c.leave.ensures.origin

pub returns-then-is_of_machine-clause-origin : goal.returns-then-is_of_machine-clause-origin
returns-then-is_of_machine-clause-origin g c contained inside = c.step_machine.ensures.origin

pub returns-in-AssertThat-clause-origin : goal.returns-in-AssertThat-clause-origin
returns-in-AssertThat-clause-origin g c contained inside =
    let told = told (prog_view c.args.prog.now) (spec_view c.args.spec.now) contained (path_view c.args.checking.path) (numbered_command_view c.args.numbered.now) c.requires.at inside in
    absurd (true≢false (sym (subst (λ k. IsTrue (is_told_by_itself k)) (ap command_view c.in-AssertThat.is) told)))

pub returns-in-Fold-clause-origin : goal.returns-in-Fold-clause-origin
returns-in-Fold-clause-origin g c contained inside =
    let told = told (prog_view c.args.prog.now) (spec_view c.args.spec.now) contained (path_view c.args.checking.path) (numbered_command_view c.args.numbered.now) c.requires.at inside in
    absurd (true≢false (sym (subst (λ k. IsTrue (is_told_by_itself k)) (ap command_view c.in-Fold.is) told)))

pub returns-in-Unfold-clause-origin : goal.returns-in-Unfold-clause-origin
returns-in-Unfold-clause-origin g c contained inside =
    let told = told (prog_view c.args.prog.now) (spec_view c.args.spec.now) contained (path_view c.args.checking.path) (numbered_command_view c.args.numbered.now) c.requires.at inside in
    absurd (true≢false (sym (subst (λ k. IsTrue (is_told_by_itself k)) (ap command_view c.in-Unfold.is) told)))

pub returns-in-LoopInvariant-clause-origin : goal.returns-in-LoopInvariant-clause-origin
returns-in-LoopInvariant-clause-origin g c contained inside =
    let told = told (prog_view c.args.prog.now) (spec_view c.args.spec.now) contained (path_view c.args.checking.path) (numbered_command_view c.args.numbered.now) c.requires.at inside in
    absurd (true≢false (sym (subst (λ k. IsTrue (is_told_by_itself k)) (ap command_view c.in-LoopInvariant.is) told)))

pub returns-then-is_leaving-clause-plain : goal.returns-then-is_leaving-clause-plain
returns-then-is_leaving-clause-plain g c keeps plain terms inside =
    let p = prog_view c.args.prog.now in
    let s = spec_view c.args.spec.now in
    let n = numbered_command_view c.args.numbered.now in
    IfOk-weaker c.leave.result _ _
    (λ ns ends. end_plain p s plain g.M.SymMemory.plain (path_view c.args.checking.path) c.requires.early n c.requires.at inside (entry_view c.args.spec.now c.args.entered.now) refl terms (nexts_view ns) ends) (c.leave.ensures.plain keeps)

pub returns-then-is_of_machine-clause-plain : goal.returns-then-is_of_machine-clause-plain
returns-then-is_of_machine-clause-plain g c keeps plain terms inside =
    let p = prog_view c.args.prog.now in
    let s = spec_view c.args.spec.now in
    let n = numbered_command_view c.args.numbered.now in
    IfOk-weaker c.step_machine.result _ _
    (λ ns leads. row_plain p s plain g.M.SymMemory.plain (path_view c.args.checking.path) c.requires.early n c.requires.at inside (nexts_view ns) leads) (c.step_machine.ensures.plain keeps)

pub returns-in-AssertThat-clause-plain : goal.returns-in-AssertThat-clause-plain
returns-in-AssertThat-clause-plain g c keeps plain terms inside =
    let told = told (prog_view c.args.prog.now) (spec_view c.args.spec.now) plain.contained (path_view c.args.checking.path) (numbered_command_view c.args.numbered.now) c.requires.at inside in
    absurd (true≢false (sym (subst (λ k. IsTrue (is_told_by_itself k)) (ap command_view c.in-AssertThat.is) told)))

pub returns-in-Fold-clause-plain : goal.returns-in-Fold-clause-plain
returns-in-Fold-clause-plain g c keeps plain terms inside =
    let told = told (prog_view c.args.prog.now) (spec_view c.args.spec.now) plain.contained (path_view c.args.checking.path) (numbered_command_view c.args.numbered.now) c.requires.at inside in
    absurd (true≢false (sym (subst (λ k. IsTrue (is_told_by_itself k)) (ap command_view c.in-Fold.is) told)))

pub returns-in-Unfold-clause-plain : goal.returns-in-Unfold-clause-plain
returns-in-Unfold-clause-plain g c keeps plain terms inside =
    let told = told (prog_view c.args.prog.now) (spec_view c.args.spec.now) plain.contained (path_view c.args.checking.path) (numbered_command_view c.args.numbered.now) c.requires.at inside in
    absurd (true≢false (sym (subst (λ k. IsTrue (is_told_by_itself k)) (ap command_view c.in-Unfold.is) told)))

pub returns-in-LoopInvariant-clause-plain : goal.returns-in-LoopInvariant-clause-plain
returns-in-LoopInvariant-clause-plain g c keeps plain terms inside =
    let told = told (prog_view c.args.prog.now) (spec_view c.args.spec.now) plain.contained (path_view c.args.checking.path) (numbered_command_view c.args.numbered.now) c.requires.at inside in
    absurd (true≢false (sym (subst (λ k. IsTrue (is_told_by_itself k)) (ap command_view c.in-LoopInvariant.is) told)))
