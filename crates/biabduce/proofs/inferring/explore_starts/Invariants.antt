use Rattle.std.proofs.Common.{◌≡◌, ◌⊎◌, ◌++◌, length}
use Rattle.std.specs.Vec.Iter.{into_iter_len, into_iter_items}
use Rattle.gil_syntax.specs.Program.{prog_view}
use Rattle.gil_syntax.specs.View.{proc_view}
use Rattle.sym_model.specs.Lists.{Each}
use Rattle.sym_paths.specs.View.{paths_view}
use Rattle.bi_beginnings.specs.Beginnings.{BeginsBare}
use Rattle.bi_beginnings.specs.View.{beginning_view}
use Rattle.biabduce.specs.Asked.{AsksRightly, IsOtherBegun, AsksOthers}
use Rattle.biabduce.specs.Covering.{Keeps, CoversStart}
use Rattle.biabduce.specs.Decided.{IsDecidable, StaysDecided}
use Rattle.biabduce.specs.NarrowRuns.{KeepsNarrowly, CoversNarrowStart}
use Rattle.biabduce.specs.Narrowly.{IsNarrowEntry, IsNarrowlyDecidable, IsNarrowLeft, StaysNarrowlyDecided, StartsNarrowly}
use Rattle.biabduce.specs.Sound.{IsSound}
use Rattle.biabduce.specs.View.{inference_view}
use Rattle.biabduce.proofs.inferring.explore_starts.Given as goal

abbrev pub invariant-loop-start : goal.invariant-loop-start
invariant-loop-start g l = record {
  counted : into_iter_len l.start-iterator ≡ length (into_iter_items l.start-iterator);
  rest : l.fn.starts ≡ l.yielded ++ into_iter_items l.start-iterator;
  sound : IsSound (prog_view l.prog) g.M.Local.LocalMemory.memory g.M.Local.LocalMemory.actions (proc_view l.proc) l.bound (inference_view l.inference);
  keeps : Keeps (prog_view l.prog) g.M.Local.LocalMemory.memory g.M.Local.LocalMemory.actions (proc_view l.proc) l.bound (inference_view l.initial.inference) (inference_view l.inference);
  cover : Each (CoversStart (prog_view l.prog) g.M.Local.LocalMemory.memory g.M.Local.LocalMemory.actions (proc_view l.proc) l.bound g.M.SymMemory.stands (beginning_view l.beginning) (inference_view l.inference)) (paths_view l.yielded);
  asked : AsksRightly (prog_view l.prog) g.M.Local.LocalMemory.memory g.M.Local.LocalMemory.actions g.M.SymMemory.stands g.M.SymMemory.terms g.M.SymMemory.asked g.M.SymMemory.depends g.M.SymMemory.plain g.M.SymMemory.keeps_plain g.M.SymMemory.kept (proc_view l.proc) l.bound (inference_view l.initial.inference) → AsksRightly (prog_view l.prog) g.M.Local.LocalMemory.memory g.M.Local.LocalMemory.actions g.M.SymMemory.stands g.M.SymMemory.terms g.M.SymMemory.asked g.M.SymMemory.depends g.M.SymMemory.plain g.M.SymMemory.keeps_plain g.M.SymMemory.kept (proc_view l.proc) l.bound (inference_view l.inference);
  other : g.M.SymMemory.keeps_narrow → IsNarrowEntry g.M.Local.LocalMemory.memory (proc_view l.proc)
      → (IsNarrowLeft (proc_view l.proc) l.bound (beginning_view l.beginning) × Each (StartsNarrowly g.M.SymMemory.terms (beginning_view l.beginning)) (paths_view l.fn.starts)) ⊎ IsOtherBegun (prog_view l.prog) g.M.Local.LocalMemory.memory g.M.Local.LocalMemory.actions g.M.SymMemory.stands g.M.SymMemory.terms g.M.SymMemory.asked g.M.SymMemory.depends g.M.SymMemory.plain g.M.SymMemory.keeps_plain g.M.SymMemory.kept (proc_view l.proc) l.bound (beginning_view l.beginning)
      → AsksOthers (prog_view l.prog) g.M.Local.LocalMemory.memory g.M.Local.LocalMemory.actions g.M.SymMemory.stands g.M.SymMemory.terms g.M.SymMemory.asked g.M.SymMemory.depends g.M.SymMemory.plain g.M.SymMemory.keeps_plain g.M.SymMemory.kept (proc_view l.proc) l.bound (inference_view l.initial.inference) → AsksOthers (prog_view l.prog) g.M.Local.LocalMemory.memory g.M.Local.LocalMemory.actions g.M.SymMemory.stands g.M.SymMemory.terms g.M.SymMemory.asked g.M.SymMemory.depends g.M.SymMemory.plain g.M.SymMemory.keeps_plain g.M.SymMemory.kept (proc_view l.proc) l.bound (inference_view l.inference);
  decided : IsDecidable g.M.SymMemory.keeps_plain (prog_view l.prog) g.M.Local.LocalMemory.memory g.M.Local.LocalMemory.actions (proc_view l.proc).name → Each (BeginsBare g.M.SymMemory.stands g.M.SymMemory.plain) (paths_view l.fn.starts)
      → StaysDecided (inference_view l.initial.inference) (inference_view l.inference);
  narrow : g.M.SymMemory.keeps_narrow → IsNarrowlyDecidable (prog_view l.prog) g.M.Local.LocalMemory.memory (proc_view l.proc) → IsNarrowLeft (proc_view l.proc) l.bound (beginning_view l.beginning)
      → Each (StartsNarrowly g.M.SymMemory.terms (beginning_view l.beginning)) (paths_view l.fn.starts) → StaysNarrowlyDecided (proc_view l.proc) l.bound (inference_view l.initial.inference) (inference_view l.inference);
  keeps_narrowly : g.M.SymMemory.keeps_narrow → IsNarrowEntry g.M.Local.LocalMemory.memory (proc_view l.proc) → KeepsNarrowly (prog_view l.prog) g.M.Local.LocalMemory.memory g.M.Local.LocalMemory.actions (proc_view l.proc) l.bound (inference_view l.initial.inference) (inference_view l.inference);
  narrow_cover : g.M.SymMemory.keeps_narrow → IsNarrowEntry g.M.Local.LocalMemory.memory (proc_view l.proc) → IsNarrowLeft (proc_view l.proc) l.bound (beginning_view l.beginning) → Each (StartsNarrowly g.M.SymMemory.terms (beginning_view l.beginning)) (paths_view l.fn.starts)
      → Each (CoversNarrowStart (prog_view l.prog) g.M.Local.LocalMemory.memory g.M.Local.LocalMemory.actions (proc_view l.proc) l.bound g.M.SymMemory.stands g.M.SymMemory.terms (beginning_view l.beginning) (inference_view l.inference)) (paths_view l.yielded);
}
