use Rattle.std.proofs.Common.{◌≤◌, length}
use Rattle.std.specs.FinMap.{entries}
use Rattle.gil_syntax.specs.Program.{prog_view}
use Rattle.gil_syntax.specs.View.{proc_view}
use Rattle.biabduce.specs.Asked.{AsksRightly, AsksOthers}
use Rattle.biabduce.specs.Covering.{PureRun, IsWanted, IsProvided}
use Rattle.biabduce.specs.Decided.{IsDecidable, IsDecided}
use Rattle.biabduce.specs.Narrowly.{IsNarrowEntry, IsNarrowlyDecidable, IsNarrowlyDecided}
use Rattle.biabduce.specs.NarrowRuns.{IsNarrowRun, IsProvidedNarrowly}
use Rattle.biabduce.specs.Sound.{IsSound}
use Rattle.biabduce.specs.View.{inference_view}
use Rattle.biabduce.proofs.inferring.follow_all.Given as goal

abbrev pub invariant-loop-turn : goal.invariant-loop-turn
invariant-loop-turn g l = record {
  sound : IsSound (prog_view l.prog) g.M.Local.LocalMemory.memory g.M.Local.LocalMemory.actions (proc_view l.proc) l.bound (inference_view l.inference);
  cover : (r : PureRun) → IsWanted (prog_view l.prog) g.M.Local.LocalMemory.memory g.M.Local.LocalMemory.actions (proc_view l.proc) l.bound r → length (entries r.heap) ≤ l.bound → IsProvided (prog_view l.prog) g.M.Local.LocalMemory.memory g.M.Local.LocalMemory.actions (proc_view l.proc) l.bound (inference_view l.inference) r;
  asked : AsksRightly (prog_view l.prog) g.M.Local.LocalMemory.memory g.M.Local.LocalMemory.actions g.M.SymMemory.stands g.M.SymMemory.terms g.M.SymMemory.asked g.M.SymMemory.depends g.M.SymMemory.plain g.M.SymMemory.keeps_plain g.M.SymMemory.kept (proc_view l.proc) l.bound (inference_view l.inference);
  other : g.M.SymMemory.keeps_narrow → IsNarrowEntry g.M.Local.LocalMemory.memory (proc_view l.proc) → AsksOthers (prog_view l.prog) g.M.Local.LocalMemory.memory g.M.Local.LocalMemory.actions g.M.SymMemory.stands g.M.SymMemory.terms g.M.SymMemory.asked g.M.SymMemory.depends g.M.SymMemory.plain g.M.SymMemory.keeps_plain g.M.SymMemory.kept (proc_view l.proc) l.bound (inference_view l.inference);
  decided : IsDecidable g.M.SymMemory.keeps_plain (prog_view l.prog) g.M.Local.LocalMemory.memory g.M.Local.LocalMemory.actions (proc_view l.proc).name → IsDecided (inference_view l.inference);
  narrow : g.M.SymMemory.keeps_narrow → IsNarrowlyDecidable (prog_view l.prog) g.M.Local.LocalMemory.memory (proc_view l.proc) → IsNarrowlyDecided (proc_view l.proc) l.bound (inference_view l.inference);
  narrow_cover : g.M.SymMemory.keeps_narrow → IsNarrowEntry g.M.Local.LocalMemory.memory (proc_view l.proc) → (r : PureRun) → IsWanted (prog_view l.prog) g.M.Local.LocalMemory.memory g.M.Local.LocalMemory.actions (proc_view l.proc) l.bound r
      → IsNarrowRun (prog_view l.prog) g.M.Local.LocalMemory.memory g.M.Local.LocalMemory.actions (proc_view l.proc) l.bound r → length (entries r.heap) ≤ l.bound
      → IsProvidedNarrowly (prog_view l.prog) g.M.Local.LocalMemory.memory g.M.Local.LocalMemory.actions (proc_view l.proc) l.bound (inference_view l.inference) r;
}
