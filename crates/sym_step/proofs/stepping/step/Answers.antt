use Rattle.std.proofs.Common.{IsTrue}
use Rattle.std.proofs.lemmas.Result.{IfOk-weaker}
use Rattle.gil_syntax.specs.Program.{prog_view}
use Rattle.gil_syntax.specs.Simple.{is_simple_command}
use Rattle.sym_engine.specs.Narrow.{StaysNarrow}
use Rattle.sym_paths.specs.Steps.{IsPlainPath, StaysWithin}
use Rattle.sym_paths.specs.View.{path_view, paths_view}
use Rattle.sym_step.specs.Next.{AreStepped}
use Rattle.sym_step.proofs.stepping.step.Goals as goal

pub returns-clause-simple : goal.returns-clause-simple
returns-clause-simple g c = λ keeps.
    IfOk-weaker c.step_at.result
    (λ ps. AreStepped (prog_view c.args.prog.now) g.M.Local.LocalMemory.actions g.M.SymMemory.stands g.M.SymMemory.terms g.M.SymMemory.asked g.M.SymMemory.depends g.M.SymMemory.plain g.M.SymMemory.keeps_plain g.M.SymMemory.keeps_narrow (path_view c.args.path) (paths_view ps))
    (λ ps. StaysWithin (prog_view c.args.prog.now) (λ k. IsTrue (is_simple_command k)) (IsPlainPath g.M.SymMemory.plain) (path_view c.args.path) (paths_view ps))
    (λ ps stepped. stepped.simple keeps)
    c.step_at.ensures

pub returns-clause-narrow : goal.returns-clause-narrow
returns-clause-narrow g c = λ keeps.
    IfOk-weaker c.step_at.result
    (λ ps. AreStepped (prog_view c.args.prog.now) g.M.Local.LocalMemory.actions g.M.SymMemory.stands g.M.SymMemory.terms g.M.SymMemory.asked g.M.SymMemory.depends g.M.SymMemory.plain g.M.SymMemory.keeps_plain g.M.SymMemory.keeps_narrow (path_view c.args.path) (paths_view ps))
    (λ ps. StaysNarrow (prog_view c.args.prog.now) g.M.SymMemory.terms (path_view c.args.path) (paths_view ps))
    (λ ps stepped. stepped.narrow keeps)
    c.step_at.ensures
