use Rattle.std.proofs.Common.{◌++◌}
use Rattle.gil_syntax.specs.Program.{prog_view}
use Rattle.sym_step.specs.Exploring.{CoverRuns, IsEndedFrom, IsFrom, MayGoOn}
use Rattle.sym_step.specs.Narrow.{IsNarrowFrom, IsNarrowEndedFrom}
use Rattle.sym_step.specs.ExplorationView.{paths_left}
use Rattle.sym_model.specs.Lists.{Each}
use Rattle.sym_paths.specs.View.{path_view, paths_view}
use Rattle.sym_step.proofs.exploration.explore.Given as goal

abbrev pub invariant-loop-turn : goal.invariant-loop-turn
invariant-loop-turn g l = record {
  placed : Each (MayGoOn (prog_view l.prog) g.M.SymMemory.terms) (paths_left l.exploration);
  left : Each (IsFrom (prog_view l.prog) g.M.Local.LocalMemory.actions g.M.SymMemory.stands g.M.SymMemory.terms g.M.SymMemory.asked g.M.SymMemory.depends g.M.SymMemory.plain g.M.SymMemory.keeps_plain l.bound (path_view l.fn.start)) (paths_left l.exploration);
  ended : Each (IsEndedFrom (prog_view l.prog) g.M.Local.LocalMemory.actions g.M.SymMemory.stands g.M.SymMemory.terms g.M.SymMemory.asked g.M.SymMemory.depends g.M.SymMemory.plain g.M.SymMemory.keeps_plain l.bound (path_view l.fn.start)) (paths_view l.ended);
  narrow_left : g.M.SymMemory.keeps_narrow → Each (IsNarrowFrom (prog_view l.prog) g.M.Local.LocalMemory.actions g.M.SymMemory.stands g.M.SymMemory.terms g.M.SymMemory.asked g.M.SymMemory.depends g.M.SymMemory.plain g.M.SymMemory.keeps_plain l.bound (path_view l.fn.start)) (paths_left l.exploration);
  narrow_ended : g.M.SymMemory.keeps_narrow → Each (IsNarrowEndedFrom (prog_view l.prog) g.M.Local.LocalMemory.actions g.M.SymMemory.stands g.M.SymMemory.terms g.M.SymMemory.asked g.M.SymMemory.depends g.M.SymMemory.plain g.M.SymMemory.keeps_plain l.bound (path_view l.fn.start)) (paths_view l.ended);
  cover : CoverRuns (prog_view l.prog) g.M.Local.LocalMemory.actions g.M.SymMemory.stands l.bound (path_view l.fn.start) (paths_view l.ended ++ paths_left l.exploration);
}
