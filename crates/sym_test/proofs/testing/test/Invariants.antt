use Rattle.std.specs.Option.{option_map}
use Rattle.gil_syntax.specs.Program.{prog_view}
use Rattle.sym_step.specs.ExplorationView.{paths_left}
use Rattle.sym_test.specs.View.{query_view}
use Rattle.sym_test.proofs.UnderWay.{IsUnderWay}
use Rattle.sym_test.proofs.testing.test.Given as goal

abbrev pub invariant-loop-turn : goal.invariant-loop-turn
invariant-loop-turn g l =
    IsUnderWay (prog_view l.prog) g.M.Local.LocalMemory.actions g.M.SymMemory.stands g.M.SymMemory.terms g.M.SymMemory.asked g.M.SymMemory.depends g.M.SymMemory.plain g.M.SymMemory.keeps_plain l.proc l.bound
    (paths_left l.exploration) (option_map query_view l.kept)
