-- When a path may make a step.
use Rattle.std.specs.Prelude.{◌≡◌, ℕ, ◌<◌, List, [], None}
use Rattle.std.specs.FinMap.{empty}
use Rattle.gil_machine.specs.Run.{start, IsEntry}
use Rattle.gil_syntax.specs.Pure.{PureParts}
use Rattle.gil_syntax.specs.Valid.{IsValid}
use Rattle.gil_values.specs.Pure.{PureValue}
use Rattle.mem_model.specs.Heaps.{Heap}
pub use Rattle.sym_engine.specs.Placed.{IsAtCommand, AreAtCommands}
use Rattle.sym_model.specs.Terms.{StateTerms}
use Rattle.sym_paths.specs.Meaning.{Stands, IsOverTable}
use Rattle.sym_paths.specs.Pure.{PurePath}

-- how many steps a path makes at most
abbrev pub most_steps : ℕ
most_steps = 10000

-- The path has no end and made fewer steps than it may, its frames stand at commands, and all that it names is in its table.
pub record MayStep {S : Type 0} (p : PureParts) (terms : S → StateTerms) (path : PurePath S) : Type 0 where
  pub no_end : path.ending ≡ None
  pub steps : path.steps < most_steps
  pub placed : AreAtCommands p path.stack
  pub over : IsOverTable terms path

-- A path that stands for the start of a procedure without parameters, in a valid program, may make a step.
abbrev pub StartsMayStep : {S : Type 0} → (S → List PureValue → Heap → Type 0) → (S → StateTerms) → Type 0
StartsMayStep {S} stands terms =
    (p : PureParts) (f : List ℕ) (path : PurePath S) → IsValid p → IsEntry p f → Stands stands path [] (start p f [] empty 0)
    → IsOverTable terms path → path.steps ≡ 0 → path.ending ≡ None → MayStep p terms path
