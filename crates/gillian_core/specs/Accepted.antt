-- Which texts are accepted.
use Rattle.std.specs.Prelude.{ℕ, List, IsSome, ⊤}
use Rattle.gil_syntax.specs.Programs.{find_proc}
use Rattle.gil_syntax.specs.Pure.{PureParts}
use Rattle.gil_machine.specs.Run.{IsEntry}
use Rattle.assert_logic.specs.Modes.{HasModes}
use Rattle.atom_text.specs.Accepted.{PureAtomText, SpellAtoms}
use Rattle.gillian_words.specs.Tasks.{PureTask, run, test, check, infer, compile, solve, sweep}
use Rattle.gillian_core.specs.Definitions.{Definition}
use Rattle.gillian_core.specs.Languages.{definition_of}

-- the bytes are a text with a program
abbrev pub HasProgram : Definition → List ℕ → Type 0
HasProgram d bytes = (p : PureParts) × d.IsText bytes p

-- the bytes are a text with a program of which this holds
abbrev pub HasProgramThat : Definition → (PureParts → Type 0) → List ℕ → Type 0
HasProgramThat d P bytes = (p : PureParts) × d.IsText bytes p × P p

-- the program has the procedure, with any parameters
abbrev pub HasProc : List ℕ → PureParts → Type 0
HasProc name p = IsSome (find_proc p.procs name)

-- the program has the procedure, without parameters
abbrev pub EntersAt : List ℕ → PureParts → Type 0
EntersAt entry p = IsEntry p entry

-- the bytes are a text with a program whose assertions can be read from left to right, for its memory
abbrev pub HasReadable : Definition → List ℕ → Type 0
HasReadable d bytes = HasProgramThat d (λ p. HasModes p d.memory.name) bytes

-- the bytes are a text of variables and atoms
abbrev pub HasAtoms : List ℕ → Type 0
HasAtoms bytes = (t : PureAtomText) × SpellAtoms bytes t

-- `run` and `test` accept the texts with programs in which they find their entry, without parameters; `infer` those in which it finds it,
-- with any; `check` those with programs whose assertions can be read; `compile` the texts with programs; `solve` those of variables and
-- atoms. `sweep` looks at no text, and so accepts any.
abbrev pub IsAccepted : PureTask → List ℕ → Type 0
IsAccepted (run language entry bound inputs) bytes = HasProgramThat (definition_of language) (EntersAt entry) bytes
IsAccepted (test language entry bound) bytes = HasProgramThat (definition_of language) (EntersAt entry) bytes
IsAccepted (check language bound) bytes = HasReadable (definition_of language) bytes
IsAccepted (infer language entry bound) bytes = HasProgramThat (definition_of language) (HasProc entry) bytes
IsAccepted (compile language) bytes = HasProgram (definition_of language) bytes
IsAccepted solve bytes = HasAtoms bytes
IsAccepted (sweep size) bytes = ⊤
