-- Paths whose frames stand at commands of the program.
use Rattle.std.specs.Prelude.{◌≡◌, ℕ, List, [], ◌∷◌, Some, None, IsSome}
use Rattle.gil_machine.specs.Step.{command_of}
use Rattle.gil_syntax.specs.Programs.{find_proc}
use Rattle.gil_syntax.specs.Pure.{PureParts}
use Rattle.sym_model.specs.Lists.{Each}
use Rattle.sym_paths.specs.Pure.{PureFrame, PurePath}

-- the frame stands at a command of the program, and the handler of its call, if it has one, is the number of a command
pub record IsAtCommand (p : PureParts) (f : PureFrame) : Type 0 where
  pub command : IsSome (command_of (find_proc p.procs f.procedure) f.next)
  pub handler : (i : ℕ) → f.handler ≡ Some i → IsSome (command_of (find_proc p.procs f.procedure) i)

-- there is a frame that runs, and each frame stands at a command of the program
abbrev pub AreAtCommands : PureParts → List PureFrame → Type 0
AreAtCommands p [] = ⊥
AreAtCommands p (f ∷ fs) = IsAtCommand p f × Each (IsAtCommand p) fs

-- a path without an end has its frames at commands
abbrev pub GoesOnAtCommands : {S : Type 0} → PureParts → PurePath S → Type 0
GoesOnAtCommands p path = path.ending ≡ None → AreAtCommands p path.stack
