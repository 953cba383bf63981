-- States in which every frame stands at a command of the program, and so does each handler.
use Rattle.std.specs.Prelude.{IsSome, All, ⊤}
use Rattle.std.specs.Option.{IfSome}
use Rattle.gil_syntax.specs.Pure.{PureParts}
use Rattle.gil_machine.specs.State.{Frame, State, Step, goes_on, ends}
use Rattle.gil_syntax.specs.Programs.{find_proc}
use Rattle.gil_machine.specs.Step.{command_of, command_at}

abbrev pub StandsAtCommand : PureParts → Frame → Type 0
StandsAtCommand p frame = IsSome (command_at p frame)

abbrev pub HandlesAtCommand : PureParts → Frame → Type 0
HandlesAtCommand p frame = IfSome frame.handler (λ i. IsSome (command_of (find_proc p.procs frame.procedure) i))

pub record IsPlaced (p : PureParts) (s : State) : Type 0 where
  pub current : StandsAtCommand p s.current
  pub callers : All (StandsAtCommand p) s.callers
  pub handlers : All (HandlesAtCommand p) s.callers

abbrev pub IsPlacedStep : PureParts → Step → Type 0
IsPlacedStep p (goes_on s) = IsPlaced p s
IsPlacedStep p (ends e) = ⊤
