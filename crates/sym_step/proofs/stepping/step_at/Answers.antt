use Rattle.std.proofs.Common.{◌≡◌, [], ◌∷◌, length, sym, ap, subst, ◌∙◌}
use Rattle.std.proofs.lemmas.List.{length-map}
use Rattle.std.proofs.lemmas.Result.{IfOk-weaker}
use Rattle.gil_syntax.specs.Program.{prog_view}
use Rattle.gil_syntax.specs.View.{command_view, numbered_command_view}
use Rattle.pure_terms.specs.View.{atom_view}
use Rattle.sym_engine.specs.View.{candidates_view}
use Rattle.sym_engine.proofs.Settled.{SettledSoFar}
use Rattle.sym_paths.specs.View.{path_view, paths_view}
use Rattle.sym_step.specs.Next.{AreStepped, IsNext}
use Rattle.sym_step.specs.View.{next_view}
use Rattle.sym_step.proofs.Next.{asked_over, asked_steps}
use Rattle.sym_step.proofs.stepping.step_at.Goals as goal

pub returns-in-Alone : goal.returns-in-Alone
returns-in-Alone g c =
    let stepped = subst (λ n. IsNext (prog_view c.args.prog.now) g.M.Local.LocalMemory.actions g.M.SymMemory.stands g.M.SymMemory.terms g.M.SymMemory.asked g.M.SymMemory.depends g.M.SymMemory.plain g.M.SymMemory.keeps_plain g.M.SymMemory.keeps_narrow (path_view c.args.path) c.in_ok-here.here (command_view c.args.numbered.now.command) (next_view n))
    c.in-Alone.is c.in_ok-path.ensures in
    IfOk-weaker c.alone.result (λ ps. paths_view ps ≡ path_view c.in-Alone.path ∷ [])
    (λ ps. AreStepped (prog_view c.args.prog.now) g.M.Local.LocalMemory.actions g.M.SymMemory.stands g.M.SymMemory.terms g.M.SymMemory.asked g.M.SymMemory.depends g.M.SymMemory.plain g.M.SymMemory.keeps_plain g.M.SymMemory.keeps_narrow (path_view c.args.path) (paths_view ps))
    (λ ps same. subst (AreStepped (prog_view c.args.prog.now) g.M.Local.LocalMemory.actions g.M.SymMemory.stands g.M.SymMemory.terms g.M.SymMemory.asked g.M.SymMemory.depends g.M.SymMemory.plain g.M.SymMemory.keeps_plain g.M.SymMemory.keeps_narrow (path_view c.args.path)) (sym same) stepped)
    c.alone.ensures

pub settle-requires : goal.settle-requires
settle-requires g c =
    let next = subst (λ n. IsNext (prog_view c.args.prog.now) g.M.Local.LocalMemory.actions g.M.SymMemory.stands g.M.SymMemory.terms g.M.SymMemory.asked g.M.SymMemory.depends g.M.SymMemory.plain g.M.SymMemory.keeps_plain g.M.SymMemory.keeps_narrow (path_view c.args.path) c.in_ok-here.here (command_view c.args.numbered.now.command) (next_view n))
    c.in-Asked.is c.in_ok-path.ensures in
    asked_over (prog_view c.args.prog.now) (path_view c.args.path) g.M.Local.LocalMemory.actions g.M.SymMemory.stands g.M.SymMemory.terms g.M.SymMemory.asked (numbered_command_view c.args.numbered.now) c.in_ok-here.here (candidates_view c.in-Asked.candidates)
    c.requires.may.over c.requires.may.no_end c.requires.at c.in_ok-here.ensures next.0

pub returns : goal.returns
returns g c =
    let next = subst (λ n. IsNext (prog_view c.args.prog.now) g.M.Local.LocalMemory.actions g.M.SymMemory.stands g.M.SymMemory.terms g.M.SymMemory.asked g.M.SymMemory.depends g.M.SymMemory.plain g.M.SymMemory.keeps_plain g.M.SymMemory.keeps_narrow (path_view c.args.path) c.in_ok-here.here (command_view c.args.numbered.now.command) (next_view n))
    c.in-Asked.is c.in_ok-path.ensures in
    let counted = ap length (sym c.atoms.ensures) ∙ length-map c.atoms.result.now atom_view ∙ sym c.len-old.ensures in
    IfOk-weaker c.settle.result (λ ps. SettledSoFar c.len-old.result c.in_ok-here.here (candidates_view c.in-Asked.candidates) (paths_view ps))
    (λ ps. AreStepped (prog_view c.args.prog.now) g.M.Local.LocalMemory.actions g.M.SymMemory.stands g.M.SymMemory.terms g.M.SymMemory.asked g.M.SymMemory.depends g.M.SymMemory.plain g.M.SymMemory.keeps_plain g.M.SymMemory.keeps_narrow (path_view c.args.path) (paths_view ps))
    (λ ps settled. asked_steps (prog_view c.args.prog.now) g.M.Local.LocalMemory.actions g.M.SymMemory.stands g.M.SymMemory.terms g.M.SymMemory.asked g.M.SymMemory.depends g.M.SymMemory.plain g.M.SymMemory.keeps_plain g.M.SymMemory.keeps_narrow (path_view c.args.path) (numbered_command_view c.args.numbered.now) c.in_ok-here.here
    (candidates_view c.in-Asked.candidates) c.len-old.result (paths_view ps) c.requires.may c.requires.at c.in_ok-here.ensures c.args.prog.now.valid next counted settled)
    c.settle.ensures
