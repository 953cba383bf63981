use Rattle.std.proofs.Common.{[]}
use Rattle.gil_syntax.specs.Program.{prog_view}
use Rattle.sym_step.specs.Exploring.{KeepAccounts, KeepTrails, MayGoOn}
use Rattle.sym_step.specs.Narrow.{KeepNarrowTrails}
use Rattle.sym_step.specs.ExplorationView.{paths_left}
use Rattle.sym_model.specs.Lists.{Each}
use Rattle.sym_step.proofs.exploration.Exploration.next_ended.Given as goal

abbrev pub invariant-loop-turn : goal.invariant-loop-turn
invariant-loop-turn g l = record {
  placed : Each (MayGoOn (prog_view l.prog) g.M.SymMemory.terms) (paths_left l.self);
  trails : KeepTrails (prog_view l.prog) g.M.Local.LocalMemory.actions g.M.SymMemory.stands g.M.SymMemory.terms g.M.SymMemory.asked g.M.SymMemory.depends g.M.SymMemory.plain g.M.SymMemory.keeps_plain l.bound (paths_left l.fn.self) [] (paths_left l.self);
  narrow : g.M.SymMemory.keeps_narrow → KeepNarrowTrails (prog_view l.prog) g.M.Local.LocalMemory.actions g.M.SymMemory.stands g.M.SymMemory.terms g.M.SymMemory.asked g.M.SymMemory.depends g.M.SymMemory.plain g.M.SymMemory.keeps_plain l.bound (paths_left l.fn.self) [] (paths_left l.self);
  cover : KeepAccounts (prog_view l.prog) g.M.Local.LocalMemory.actions g.M.SymMemory.stands l.bound (paths_left l.fn.self) (paths_left l.self);
}
