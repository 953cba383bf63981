use Rattle.std.proofs.Common.{◌⊎◌, []}
use Rattle.gil_syntax.specs.Program.{prog_view}
use Rattle.gil_syntax.specs.View.{proc_view}
use Rattle.gil_machine.specs.Run.{start as start_state}
use Rattle.sym_step.specs.Exploring.{IsFrom, MayGoOn}
use Rattle.sym_step.specs.Narrow.{IsNarrowFrom}
use Rattle.sym_step.specs.Runs.{AccountsFor}
use Rattle.sym_step.specs.ExplorationView.{paths_left}
use Rattle.sym_model.specs.Lists.{Each, OneOf}
use Rattle.sym_paths.specs.View.{path_view}
use Rattle.bi_beginnings.specs.Beginnings.{BeginsWith, BeginsBare}
use Rattle.bi_beginnings.specs.View.{beginning_view}
use Rattle.biabduce.specs.Asked.{AsksRightly, IsOtherBegun, AsksOthers}
use Rattle.biabduce.specs.Covering.{PureRun, IsWanted, IsAwaited, IsProvided, Keeps}
use Rattle.biabduce.specs.Decided.{IsDecidable, StaysDecided}
use Rattle.biabduce.specs.NarrowRuns.{IsNarrowRun, IsProvidedNarrowly, KeepsNarrowly}
use Rattle.biabduce.specs.Narrowly.{IsNarrowEntry, IsNarrowlyDecidable, IsNarrowLeft, StaysNarrowlyDecided, StartsNarrowly}
use Rattle.biabduce.specs.Sound.{IsSound}
use Rattle.biabduce.specs.View.{inference_view}
use Rattle.biabduce.proofs.inferring.explore_start.Given as goal

abbrev pub invariant-loop-turn : goal.invariant-loop-turn
invariant-loop-turn g l = record {
  placed : Each (MayGoOn (prog_view l.prog) g.M.SymMemory.terms) (paths_left l.exploration);
  left : Each (IsFrom (prog_view l.prog) g.M.Local.LocalMemory.actions g.M.SymMemory.stands g.M.SymMemory.terms g.M.SymMemory.asked g.M.SymMemory.depends g.M.SymMemory.plain g.M.SymMemory.keeps_plain l.bound (path_view l.fn.start)) (paths_left l.exploration);
  sound : IsSound (prog_view l.prog) g.M.Local.LocalMemory.memory g.M.Local.LocalMemory.actions (proc_view l.proc) l.bound (inference_view l.inference);
  keeps : Keeps (prog_view l.prog) g.M.Local.LocalMemory.memory g.M.Local.LocalMemory.actions (proc_view l.proc) l.bound (inference_view l.initial.inference) (inference_view l.inference);
  accounts : (r : PureRun) → IsWanted (prog_view l.prog) g.M.Local.LocalMemory.memory g.M.Local.LocalMemory.actions (proc_view l.proc) l.bound r → (a : IsAwaited (prog_view l.prog) g.M.Local.LocalMemory.memory g.M.Local.LocalMemory.actions (proc_view l.proc) l.bound r (beginning_view l.beginning)) → BeginsWith g.M.SymMemory.stands (beginning_view l.beginning).vars a.values a.own (path_view l.fn.start)
      → IsProvided (prog_view l.prog) g.M.Local.LocalMemory.memory g.M.Local.LocalMemory.actions (proc_view l.proc) l.bound (inference_view l.inference) r
      ⊎ OneOf (AccountsFor (prog_view l.prog) g.M.Local.LocalMemory.actions g.M.SymMemory.stands [] (start_state (prog_view l.prog) (proc_view l.proc).name r.args a.own r.counter) (path_view l.fn.start) a.values) (paths_left l.exploration);
  asked : AsksRightly (prog_view l.prog) g.M.Local.LocalMemory.memory g.M.Local.LocalMemory.actions g.M.SymMemory.stands g.M.SymMemory.terms g.M.SymMemory.asked g.M.SymMemory.depends g.M.SymMemory.plain g.M.SymMemory.keeps_plain g.M.SymMemory.kept (proc_view l.proc) l.bound (inference_view l.initial.inference) → AsksRightly (prog_view l.prog) g.M.Local.LocalMemory.memory g.M.Local.LocalMemory.actions g.M.SymMemory.stands g.M.SymMemory.terms g.M.SymMemory.asked g.M.SymMemory.depends g.M.SymMemory.plain g.M.SymMemory.keeps_plain g.M.SymMemory.kept (proc_view l.proc) l.bound (inference_view l.inference);
  other : g.M.SymMemory.keeps_narrow → IsNarrowEntry g.M.Local.LocalMemory.memory (proc_view l.proc)
      → (IsNarrowLeft (proc_view l.proc) l.bound (beginning_view l.beginning) × StartsNarrowly g.M.SymMemory.terms (beginning_view l.beginning) (path_view l.fn.start)) ⊎ IsOtherBegun (prog_view l.prog) g.M.Local.LocalMemory.memory g.M.Local.LocalMemory.actions g.M.SymMemory.stands g.M.SymMemory.terms g.M.SymMemory.asked g.M.SymMemory.depends g.M.SymMemory.plain g.M.SymMemory.keeps_plain g.M.SymMemory.kept (proc_view l.proc) l.bound (beginning_view l.beginning)
      → AsksOthers (prog_view l.prog) g.M.Local.LocalMemory.memory g.M.Local.LocalMemory.actions g.M.SymMemory.stands g.M.SymMemory.terms g.M.SymMemory.asked g.M.SymMemory.depends g.M.SymMemory.plain g.M.SymMemory.keeps_plain g.M.SymMemory.kept (proc_view l.proc) l.bound (inference_view l.initial.inference) → AsksOthers (prog_view l.prog) g.M.Local.LocalMemory.memory g.M.Local.LocalMemory.actions g.M.SymMemory.stands g.M.SymMemory.terms g.M.SymMemory.asked g.M.SymMemory.depends g.M.SymMemory.plain g.M.SymMemory.keeps_plain g.M.SymMemory.kept (proc_view l.proc) l.bound (inference_view l.inference);
  decided : IsDecidable g.M.SymMemory.keeps_plain (prog_view l.prog) g.M.Local.LocalMemory.memory g.M.Local.LocalMemory.actions (proc_view l.proc).name → BeginsBare g.M.SymMemory.stands g.M.SymMemory.plain (path_view l.fn.start)
      → StaysDecided (inference_view l.initial.inference) (inference_view l.inference);
  narrow_left : g.M.SymMemory.keeps_narrow → Each (IsNarrowFrom (prog_view l.prog) g.M.Local.LocalMemory.actions g.M.SymMemory.stands g.M.SymMemory.terms g.M.SymMemory.asked g.M.SymMemory.depends g.M.SymMemory.plain g.M.SymMemory.keeps_plain l.bound (path_view l.fn.start)) (paths_left l.exploration);
  narrow : g.M.SymMemory.keeps_narrow → IsNarrowlyDecidable (prog_view l.prog) g.M.Local.LocalMemory.memory (proc_view l.proc) → IsNarrowLeft (proc_view l.proc) l.bound (beginning_view l.beginning)
      → StartsNarrowly g.M.SymMemory.terms (beginning_view l.beginning) (path_view l.fn.start) → StaysNarrowlyDecided (proc_view l.proc) l.bound (inference_view l.initial.inference) (inference_view l.inference);
  keeps_narrowly : g.M.SymMemory.keeps_narrow → IsNarrowEntry g.M.Local.LocalMemory.memory (proc_view l.proc) → KeepsNarrowly (prog_view l.prog) g.M.Local.LocalMemory.memory g.M.Local.LocalMemory.actions (proc_view l.proc) l.bound (inference_view l.initial.inference) (inference_view l.inference);
  accounts_narrowly : g.M.SymMemory.keeps_narrow → IsNarrowEntry g.M.Local.LocalMemory.memory (proc_view l.proc) → IsNarrowLeft (proc_view l.proc) l.bound (beginning_view l.beginning) → StartsNarrowly g.M.SymMemory.terms (beginning_view l.beginning) (path_view l.fn.start)
      → (r : PureRun) → IsWanted (prog_view l.prog) g.M.Local.LocalMemory.memory g.M.Local.LocalMemory.actions (proc_view l.proc) l.bound r → IsNarrowRun (prog_view l.prog) g.M.Local.LocalMemory.memory g.M.Local.LocalMemory.actions (proc_view l.proc) l.bound r
      → (a : IsAwaited (prog_view l.prog) g.M.Local.LocalMemory.memory g.M.Local.LocalMemory.actions (proc_view l.proc) l.bound r (beginning_view l.beginning)) → BeginsWith g.M.SymMemory.stands (beginning_view l.beginning).vars a.values a.own (path_view l.fn.start)
      → IsProvidedNarrowly (prog_view l.prog) g.M.Local.LocalMemory.memory g.M.Local.LocalMemory.actions (proc_view l.proc) l.bound (inference_view l.inference) r
      ⊎ OneOf (AccountsFor (prog_view l.prog) g.M.Local.LocalMemory.actions g.M.SymMemory.stands [] (start_state (prog_view l.prog) (proc_view l.proc).name r.args a.own r.counter) (path_view l.fn.start) a.values) (paths_left l.exploration);
}
