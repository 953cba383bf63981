use Rattle.gil_syntax.specs.Program.{prog_view}
use Rattle.spec_checker.proofs.Examined.{ExaminedUntil}
use Rattle.spec_checker.proofs.examining.examine_all.Given as goal

abbrev pub invariant-loop-place : goal.invariant-loop-place
invariant-loop-place g l =
    ExaminedUntil (prog_view l.prog) g.M.Local.LocalMemory.memory g.M.Local.LocalMemory.actions g.M.SymMemory.keeps_plain l.bound (prog_view l.prog).specs l.place l.examined
