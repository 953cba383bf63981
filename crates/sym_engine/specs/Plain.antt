-- Simple commands: from a plain path they lead to plain candidates.
use Rattle.std.specs.Prelude.{◌≡◌, ℕ, ◌+◌, ◌≤◌, ℤ, List, Some, IsTrue}
use Rattle.gil_syntax.specs.Pure.{PureParts, PureCommand, PureNumberedCommand}
use Rattle.gil_syntax.specs.Simple.{is_simple_command}
use Rattle.gil_syntax.specs.Valid.{IsValid}
use Rattle.sym_model.specs.Lists.{Each}
use Rattle.sym_paths.specs.Meaning.{command_of_path}
use Rattle.sym_paths.specs.Pure.{PurePath}
use Rattle.sym_paths.specs.Settling.{Candidate}
use Rattle.sym_paths.specs.Steps.{IsPlainPath, step_growth, narrow_bound}

module _ {S : Type 0} (plain : S → ℤ → ℤ → Type 0) where
  -- each candidate's path is plain with numbers from -b to b
  abbrev pub AreAllPlain : ℕ → List (Candidate S) → Type 0
  AreAllPlain b cs = Each (λ d. IsPlainPath plain b d.path) cs

  -- Wherever the path stands at the command in the program, which is valid, if the command has a simple form and the path is plain with
  -- numbers up to b, these candidates are plain with larger ones, as long as those are numbers of the fragment.
  abbrev pub StayPlainIn : PureParts → PurePath S → PureCommand → List (Candidate S) → Type 0
  StayPlainIn p path command cs =
      (c : PureNumberedCommand) (b : ℕ) → IsValid p → command_of_path p path ≡ Some c → c.command ≡ command
      → IsTrue (is_simple_command command) → b + step_growth ≤ narrow_bound → IsPlainPath plain b path
      → AreAllPlain (b + step_growth) cs

  -- the same of every program
  abbrev pub StayPlain : PurePath S → PureCommand → List (Candidate S) → Type 0
  StayPlain path command cs = (p : PureParts) → StayPlainIn p path command cs
