use Rattle.std.proofs.Common.{[], inl, inr, sym, ap, subst, ◌∙◌}
use Rattle.gil_syntax.specs.Program.{prog_view}
use Rattle.gil_syntax.specs.Pure.{assign, call, act, ifgoto, return, fail, throw}
use Rattle.gil_syntax.specs.Subexpressions.{exprs_of}
use Rattle.gil_syntax.specs.View.{command_view, expr_view, exprs_view, numbered_command_view}
use Rattle.sym_engine.specs.View.{candidates_view}
use Rattle.sym_paths.specs.Moves.{IsLogic}
use Rattle.sym_paths.specs.View.{frames_view, path_view}
use Rattle.sym_step.proofs.Made.{spelled_first, spelled_later, spelled_exprs, drawn_kind}
use Rattle.sym_step.proofs.Next.{asked_at, no_action}
use Rattle.sym_step.proofs.Silent.{vanish_steps, pass_steps, fresh_steps, draw_steps}
use Rattle.sym_step.proofs.following.next_of.Goals as goal

pub unreachable-requires : goal.unreachable-requires
unreachable-requires g c =
    drawn_kind (prog_view c.args.prog.now) (frames_view c.args.path.stack) (numbered_command_view c.args.numbered.now) c.args.prog.now.well_made c.requires.at
    c.in-Isym.name c.in-Isym.kind (ap command_view c.in-Isym.is) (sym c.sort_of_draw.ensures ∙ c.in-None.is)

pub assign_candidates-requires-clause-spellable : goal.assign_candidates-requires-clause-spellable
assign_candidates-requires-clause-spellable g c =
    spelled_first (prog_view c.args.prog.now) (frames_view c.args.path.stack) (numbered_command_view c.args.numbered.now) c.args.prog.now.well_made c.requires.at
    (expr_view c.in-Assign.value) [] (ap exprs_of (ap command_view c.in-Assign.is))

pub call_candidates-requires-clause-callee : goal.call_candidates-requires-clause-callee
call_candidates-requires-clause-callee g c =
    spelled_first (prog_view c.args.prog.now) (frames_view c.args.path.stack) (numbered_command_view c.args.numbered.now) c.args.prog.now.well_made c.requires.at
    (expr_view c.in-Call.callee) (exprs_view c.in-Call.arguments) (ap exprs_of (ap command_view c.in-Call.is))

pub call_candidates-requires-clause-arguments : goal.call_candidates-requires-clause-arguments
call_candidates-requires-clause-arguments g c =
    spelled_later (prog_view c.args.prog.now) (frames_view c.args.path.stack) (numbered_command_view c.args.numbered.now) c.args.prog.now.well_made c.requires.at
    (expr_view c.in-Call.callee) (exprs_view c.in-Call.arguments) (ap exprs_of (ap command_view c.in-Call.is))

pub act_candidates-requires-clause-spellable : goal.act_candidates-requires-clause-spellable
act_candidates-requires-clause-spellable g c =
    spelled_exprs (prog_view c.args.prog.now) (frames_view c.args.path.stack) (numbered_command_view c.args.numbered.now) c.args.prog.now.well_made c.requires.at
    (exprs_view c.in-Act.arguments) (ap exprs_of (ap command_view c.in-Act.is))

pub guard_candidates-requires-clause-spellable : goal.guard_candidates-requires-clause-spellable
guard_candidates-requires-clause-spellable g c =
    spelled_first (prog_view c.args.prog.now) (frames_view c.args.path.stack) (numbered_command_view c.args.numbered.now) c.args.prog.now.well_made c.requires.at
    (expr_view c.in-IfGoto.guard) [] (ap exprs_of (ap command_view c.in-IfGoto.is))

pub return_candidates-requires-clause-spellable : goal.return_candidates-requires-clause-spellable
return_candidates-requires-clause-spellable g c =
    spelled_first (prog_view c.args.prog.now) (frames_view c.args.path.stack) (numbered_command_view c.args.numbered.now) c.args.prog.now.well_made c.requires.at
    (expr_view c.in-Return.value) [] (ap exprs_of (ap command_view c.in-Return.is))

pub fail_candidates-requires-clause-spellable : goal.fail_candidates-requires-clause-spellable
fail_candidates-requires-clause-spellable g c =
    spelled_first (prog_view c.args.prog.now) (frames_view c.args.path.stack) (numbered_command_view c.args.numbered.now) c.args.prog.now.well_made c.requires.at
    (expr_view c.in-Fail.value) [] (ap exprs_of (ap command_view c.in-Fail.is))

pub throw_candidates-requires-clause-spellable : goal.throw_candidates-requires-clause-spellable
throw_candidates-requires-clause-spellable g c =
    spelled_first (prog_view c.args.prog.now) (frames_view c.args.path.stack) (numbered_command_view c.args.numbered.now) c.args.prog.now.well_made c.requires.at
    (expr_view c.in-Throw.value) [] (ap exprs_of (ap command_view c.in-Throw.is))

pub returns-in-Vanish : goal.returns-in-Vanish
returns-in-Vanish g c =
    vanish_steps _ g.M.SymMemory.stands g.M.SymMemory.terms g.met.M.SymMemory.meaning (prog_view c.args.prog.now) g.M.Local.LocalMemory.actions g.M.SymMemory.asked g.M.SymMemory.depends g.M.SymMemory.plain g.M.SymMemory.keeps_plain g.M.SymMemory.keeps_narrow (path_view c.args.path) (numbered_command_view c.args.numbered.now)
    c.requires.may.over c.requires.may.no_end c.requires.at c.args.prog.now.valid c.requires.may.placed (path_view c.vanish.result) c.vanish.ensures (ap command_view c.in-Vanish.is)

pub returns-in_ok-take_symbol-in-Usym : goal.returns-in_ok-take_symbol-in-Usym
returns-in_ok-take_symbol-in-Usym g c =
    fresh_steps _ g.M.SymMemory.stands g.M.SymMemory.terms g.met.M.SymMemory.meaning (prog_view c.args.prog.now) g.M.Local.LocalMemory.actions g.M.SymMemory.asked g.M.SymMemory.depends g.M.SymMemory.plain g.M.SymMemory.keeps_plain g.M.SymMemory.keeps_narrow (path_view c.args.path) (numbered_command_view c.args.numbered.now)
    c.requires.may.over c.requires.may.no_end c.requires.at c.args.prog.now.valid c.requires.may.placed (path_view c.in_ok-take_symbol-in-Usym.field-0) c.in-Usym.name c.in_ok-take_symbol-in-Usym.ensures (ap command_view c.in-Usym.is)

pub returns-in_ok-draw-in-Some : goal.returns-in_ok-draw-in-Some
returns-in_ok-draw-in-Some g c =
    draw_steps _ g.M.SymMemory.stands g.M.SymMemory.terms g.met.M.SymMemory.meaning (prog_view c.args.prog.now) g.M.Local.LocalMemory.actions g.M.SymMemory.asked g.M.SymMemory.depends g.M.SymMemory.plain g.M.SymMemory.keeps_plain g.M.SymMemory.keeps_narrow (path_view c.args.path) (numbered_command_view c.args.numbered.now)
    c.requires.may.over c.requires.may.no_end c.requires.at c.args.prog.now.valid c.requires.may.placed (path_view c.in_ok-draw-in-Some.field-0) c.in-Isym.name c.in-Isym.kind c.in-Some.sort (sym c.sort_of_draw.ensures ∙ c.in-Some.is) c.in_ok-draw-in-Some.ensures (ap command_view c.in-Isym.is)

pub returns-in_ok-assign_candidates-in-Assign : goal.returns-in_ok-assign_candidates-in-Assign
returns-in_ok-assign_candidates-in-Assign g c =
    asked_at (prog_view c.args.prog.now) g.M.Local.LocalMemory.actions g.M.SymMemory.stands g.M.SymMemory.terms g.M.SymMemory.asked g.M.SymMemory.depends g.M.SymMemory.plain g.M.SymMemory.keeps_plain g.M.SymMemory.keeps_narrow (path_view c.args.path) (numbered_command_view c.args.numbered.now) c.args.here.now
    (command_view c.args.numbered.now.command) (assign c.in-Assign.name (expr_view c.in-Assign.value)) (candidates_view c.in_ok-assign_candidates-in-Assign.field-0) (ap command_view c.in-Assign.is)
    (c.in_ok-assign_candidates-in-Assign.ensures.lawful (prog_view c.args.prog.now)) (λ keeps. c.in_ok-assign_candidates-in-Assign.ensures.plain keeps (prog_view c.args.prog.now))
    (no_action (prog_view c.args.prog.now) g.M.SymMemory.stands g.M.SymMemory.terms g.M.SymMemory.depends (path_view c.args.path) (assign c.in-Assign.name (expr_view c.in-Assign.value)) (λ next. tt) (candidates_view c.in_ok-assign_candidates-in-Assign.field-0))
    (λ keeps. c.in_ok-assign_candidates-in-Assign.ensures.narrow (prog_view c.args.prog.now))

pub returns-in_ok-call_candidates-in-Call : goal.returns-in_ok-call_candidates-in-Call
returns-in_ok-call_candidates-in-Call g c =
    asked_at (prog_view c.args.prog.now) g.M.Local.LocalMemory.actions g.M.SymMemory.stands g.M.SymMemory.terms g.M.SymMemory.asked g.M.SymMemory.depends g.M.SymMemory.plain g.M.SymMemory.keeps_plain g.M.SymMemory.keeps_narrow (path_view c.args.path) (numbered_command_view c.args.numbered.now) c.args.here.now
    (command_view c.args.numbered.now.command) (call c.in-Call.name (expr_view c.in-Call.callee) (exprs_view c.in-Call.arguments) c.in-Call.handler) (candidates_view c.in_ok-call_candidates-in-Call.field-0) (ap command_view c.in-Call.is)
    c.in_ok-call_candidates-in-Call.ensures.lawful c.in_ok-call_candidates-in-Call.ensures.plain
    (no_action (prog_view c.args.prog.now) g.M.SymMemory.stands g.M.SymMemory.terms g.M.SymMemory.depends (path_view c.args.path) (call c.in-Call.name (expr_view c.in-Call.callee) (exprs_view c.in-Call.arguments) c.in-Call.handler) (λ next. tt) (candidates_view c.in_ok-call_candidates-in-Call.field-0))
    (λ keeps. c.in_ok-call_candidates-in-Call.ensures.narrow)

pub returns-in_ok-act_candidates-in-Act : goal.returns-in_ok-act_candidates-in-Act
returns-in_ok-act_candidates-in-Act g c =
    asked_at (prog_view c.args.prog.now) g.M.Local.LocalMemory.actions g.M.SymMemory.stands g.M.SymMemory.terms g.M.SymMemory.asked g.M.SymMemory.depends g.M.SymMemory.plain g.M.SymMemory.keeps_plain g.M.SymMemory.keeps_narrow (path_view c.args.path) (numbered_command_view c.args.numbered.now) c.args.here.now
    (command_view c.args.numbered.now.command) (act c.in-Act.name c.in-Act.action (exprs_view c.in-Act.arguments)) (candidates_view c.in_ok-act_candidates-in-Act.field-0) (ap command_view c.in-Act.is)
    (c.in_ok-act_candidates-in-Act.ensures.lawful (prog_view c.args.prog.now)) (λ keeps. c.in_ok-act_candidates-in-Act.ensures.plain keeps (prog_view c.args.prog.now))
    (c.in_ok-act_candidates-in-Act.ensures.forms (prog_view c.args.prog.now))
    (λ keeps. c.in_ok-act_candidates-in-Act.ensures.narrow keeps (prog_view c.args.prog.now))

pub returns-in_ok-guard_candidates-in-IfGoto : goal.returns-in_ok-guard_candidates-in-IfGoto
returns-in_ok-guard_candidates-in-IfGoto g c =
    asked_at (prog_view c.args.prog.now) g.M.Local.LocalMemory.actions g.M.SymMemory.stands g.M.SymMemory.terms g.M.SymMemory.asked g.M.SymMemory.depends g.M.SymMemory.plain g.M.SymMemory.keeps_plain g.M.SymMemory.keeps_narrow (path_view c.args.path) (numbered_command_view c.args.numbered.now) c.args.here.now
    (command_view c.args.numbered.now.command) (ifgoto (expr_view c.in-IfGoto.guard) c.in-IfGoto.label) (candidates_view c.in_ok-guard_candidates-in-IfGoto.field-0) (ap command_view c.in-IfGoto.is)
    (c.in_ok-guard_candidates-in-IfGoto.ensures.lawful (prog_view c.args.prog.now)) (λ keeps. c.in_ok-guard_candidates-in-IfGoto.ensures.plain keeps (prog_view c.args.prog.now))
    (no_action (prog_view c.args.prog.now) g.M.SymMemory.stands g.M.SymMemory.terms g.M.SymMemory.depends (path_view c.args.path) (ifgoto (expr_view c.in-IfGoto.guard) c.in-IfGoto.label) (λ next. tt) (candidates_view c.in_ok-guard_candidates-in-IfGoto.field-0))
    (λ keeps. c.in_ok-guard_candidates-in-IfGoto.ensures.narrow (prog_view c.args.prog.now))

pub returns-in_ok-return_candidates-in-Return : goal.returns-in_ok-return_candidates-in-Return
returns-in_ok-return_candidates-in-Return g c =
    asked_at (prog_view c.args.prog.now) g.M.Local.LocalMemory.actions g.M.SymMemory.stands g.M.SymMemory.terms g.M.SymMemory.asked g.M.SymMemory.depends g.M.SymMemory.plain g.M.SymMemory.keeps_plain g.M.SymMemory.keeps_narrow (path_view c.args.path) (numbered_command_view c.args.numbered.now) c.args.here.now
    (command_view c.args.numbered.now.command) (return (expr_view c.in-Return.value)) (candidates_view c.in_ok-return_candidates-in-Return.field-0) (ap command_view c.in-Return.is)
    (c.in_ok-return_candidates-in-Return.ensures.lawful (prog_view c.args.prog.now)) (λ keeps. c.in_ok-return_candidates-in-Return.ensures.plain keeps (prog_view c.args.prog.now))
    (no_action (prog_view c.args.prog.now) g.M.SymMemory.stands g.M.SymMemory.terms g.M.SymMemory.depends (path_view c.args.path) (return (expr_view c.in-Return.value)) (λ next. tt) (candidates_view c.in_ok-return_candidates-in-Return.field-0))
    (λ keeps. c.in_ok-return_candidates-in-Return.ensures.narrow (prog_view c.args.prog.now))

pub returns-in_ok-fail_candidates-in-Fail : goal.returns-in_ok-fail_candidates-in-Fail
returns-in_ok-fail_candidates-in-Fail g c =
    asked_at (prog_view c.args.prog.now) g.M.Local.LocalMemory.actions g.M.SymMemory.stands g.M.SymMemory.terms g.M.SymMemory.asked g.M.SymMemory.depends g.M.SymMemory.plain g.M.SymMemory.keeps_plain g.M.SymMemory.keeps_narrow (path_view c.args.path) (numbered_command_view c.args.numbered.now) c.args.here.now
    (command_view c.args.numbered.now.command) (fail (expr_view c.in-Fail.value)) (candidates_view c.in_ok-fail_candidates-in-Fail.field-0) (ap command_view c.in-Fail.is)
    (c.in_ok-fail_candidates-in-Fail.ensures.lawful (prog_view c.args.prog.now)) (λ keeps. c.in_ok-fail_candidates-in-Fail.ensures.plain keeps (prog_view c.args.prog.now))
    (no_action (prog_view c.args.prog.now) g.M.SymMemory.stands g.M.SymMemory.terms g.M.SymMemory.depends (path_view c.args.path) (fail (expr_view c.in-Fail.value)) (λ next. tt) (candidates_view c.in_ok-fail_candidates-in-Fail.field-0))
    (λ keeps. c.in_ok-fail_candidates-in-Fail.ensures.narrow (prog_view c.args.prog.now))

pub returns-in_ok-throw_candidates-in-Throw : goal.returns-in_ok-throw_candidates-in-Throw
returns-in_ok-throw_candidates-in-Throw g c =
    asked_at (prog_view c.args.prog.now) g.M.Local.LocalMemory.actions g.M.SymMemory.stands g.M.SymMemory.terms g.M.SymMemory.asked g.M.SymMemory.depends g.M.SymMemory.plain g.M.SymMemory.keeps_plain g.M.SymMemory.keeps_narrow (path_view c.args.path) (numbered_command_view c.args.numbered.now) c.args.here.now
    (command_view c.args.numbered.now.command) (throw (expr_view c.in-Throw.value)) (candidates_view c.in_ok-throw_candidates-in-Throw.field-0) (ap command_view c.in-Throw.is)
    (c.in_ok-throw_candidates-in-Throw.ensures.lawful (prog_view c.args.prog.now)) (λ keeps. c.in_ok-throw_candidates-in-Throw.ensures.plain keeps (prog_view c.args.prog.now))
    (no_action (prog_view c.args.prog.now) g.M.SymMemory.stands g.M.SymMemory.terms g.M.SymMemory.depends (path_view c.args.path) (throw (expr_view c.in-Throw.value)) (λ next. tt) (candidates_view c.in_ok-throw_candidates-in-Throw.field-0))
    (λ keeps. c.in_ok-throw_candidates-in-Throw.ensures.narrow (prog_view c.args.prog.now))

pub returns-in_ok-pass-in-Fold : goal.returns-in_ok-pass-in-Fold
returns-in_ok-pass-in-Fold g c =
    let logic : IsLogic (command_view c.args.numbered.now.command) =
    elim c.in-Fold.is [
      | inl folded ↦ subst IsLogic (sym (ap command_view folded.1)) tt
      | inr others ↦ elim others [
        | inl unfolded ↦ subst IsLogic (sym (ap command_view unfolded.1)) tt
        | inr rest ↦ elim rest [
          | inl asserted ↦ subst IsLogic (sym (ap command_view asserted.1)) tt
          | inr invariant ↦ subst IsLogic (sym (ap command_view invariant.3)) tt
        ]
      ]
    ] in
    pass_steps _ g.M.SymMemory.stands g.M.SymMemory.terms g.met.M.SymMemory.meaning (prog_view c.args.prog.now) g.M.Local.LocalMemory.actions g.M.SymMemory.asked g.M.SymMemory.depends g.M.SymMemory.plain g.M.SymMemory.keeps_plain g.M.SymMemory.keeps_narrow (path_view c.args.path) (numbered_command_view c.args.numbered.now)
    c.requires.may.over c.requires.may.no_end c.requires.at c.args.prog.now.valid c.requires.may.placed (path_view c.in_ok-pass-in-Fold.field-0) c.in_ok-pass-in-Fold.ensures logic
