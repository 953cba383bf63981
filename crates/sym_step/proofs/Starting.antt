-- A path that begins may make a step.
use Rattle.std.proofs.Common.{◌≡◌, List, [], ◌∷◌, None, IsSome, refl, sym, subst, ◌∙◌, arith}
use Rattle.std.specs.FinMap.{empty}
use Rattle.gil_machine.specs.Run.{start}
use Rattle.gil_machine.specs.State.{Frame}
use Rattle.gil_machine.specs.Step.{command_of}
use Rattle.gil_machine.proofs.Placed.{starts_placed}
use Rattle.gil_syntax.specs.Programs.{find_proc}
use Rattle.gil_syntax.specs.Pure.{PureParts}
use Rattle.gil_values.specs.Pure.{PureValue}
use Rattle.mem_model.specs.Heaps.{Heap}
use Rattle.sym_step.specs.Stepping.{AreAtCommands}
use Rattle.sym_model.proofs.ListLaws.{not_none}
use Rattle.sym_model.specs.Terms.{StateTerms}
use Rattle.sym_paths.specs.Meaning.{AreFrames}
use Rattle.sym_paths.specs.Pure.{PureFrame}
use Rattle.sym_step.specs.Stepping.{StartsMayStep}

entry_placed : (p : PureParts) (v : List PureValue) (fs : List PureFrame) (g : Frame) → AreFrames v fs (g ∷ []) → IsSome (command_of (find_proc p.procs g.procedure) g.next) → g.handler ≡ None → AreAtCommands p fs
entry_placed p v [] g are at none = absurd are
entry_placed p v (f ∷ []) g are at none = (
  record {
    command = subst (λ x. IsSome (command_of (find_proc p.procs x) f.next)) (sym are.0.procedure) (subst (λ n. IsSome (command_of (find_proc p.procs g.procedure) n)) (sym are.0.next) at);
    handler = λ i is. not_none (sym none ∙ sym are.0.handler ∙ is);
  },
  tt,
)
entry_placed p v (f ∷ h ∷ fs) g are at none = absurd are.1

pub starts_may_step : {S : Type 0} (stands : S → List PureValue → Heap → Type 0) (terms : S → StateTerms) → StartsMayStep stands terms
starts_may_step stands terms p f path valid (q, (found, none)) stand over zero_steps no_end = record {
  no_end = no_end;
  steps = omega (arith, zero_steps);
  placed = entry_placed p [] path.stack (start p f [] empty 0).current stand.frames (starts_placed p f q [] empty 0 valid found).current refl;
  over = over;
}
