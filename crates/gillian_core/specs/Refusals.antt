-- Texts that aren't accepted: the line that says so, and which kind and byte it names.
use Rattle.std.specs.Prelude.{◌≡◌, ◌≢◌, ◌⊎◌, ℕ, List, [], ◌++◌, length, codes}
use Rattle.gil_values.specs.Printed.{numeral}
use Rattle.gil_syntax.specs.Pure.{PureParts}
use Rattle.gil_syntax.specs.declared.validity.InvalidKind.{InvalidKind}
use Rattle.gil_syntax.specs.declared.validity.InvalidKind.TheVariants as faults
use Rattle.gil_lexer.specs.declared.forms.Token.{Token}
use Rattle.gil_lexer.specs.Texts.{AreTokensOf}
use Rattle.gil_text.specs.Refusals.{IsTokenPlace}
use Rattle.gil_text.specs.declared.refused.Refused.{Refused}
use Rattle.gil_text.specs.declared.refused.RefusedKind.{RefusedKind}
use Rattle.gil_text.specs.declared.refused.RefusedKind.TheVariants.{Lex, Nesting, Syntax, Invalid, Limit, Entry, Modes, Memory}
use Rattle.atom_text.specs.Refusals as atoms
use Rattle.assert_logic.specs.Modes.{HasModes}
use Rattle.gillian_words.specs.Tasks.{PureTask, run, test, check, infer, compile, solve, sweep}
use Rattle.gillian_core.specs.Accepted.{EntersAt, HasProc, IsAccepted}
use Rattle.gillian_core.specs.Definitions.{Definition}
use Rattle.gillian_core.specs.Languages.{definition_of}
use Rattle.gil_report.specs.Lines.{line}

abbrev pub fault_word : InvalidKind → List ℕ
fault_word faults.Duplicate = codes "duplicate"
fault_word faults.BadLabel = codes "label"
fault_word faults.NoEnd = codes "noend"
fault_word faults.UnknownName = codes "unknown-name"
fault_word faults.Arity = codes "arity"
fault_word faults.TooMany = codes "too-many"
fault_word faults.Memory = []

-- Want of memory is no refusal, and has no word.
abbrev pub kind_word : RefusedKind → List ℕ
kind_word Lex = codes "lex"
kind_word Nesting = codes "nesting"
kind_word Syntax = codes "syntax"
kind_word (Invalid fault) = fault_word fault
kind_word Limit = codes "limit"
kind_word Entry = codes "entry"
kind_word Modes = codes "modes"
kind_word Memory = []

-- `refused label at 0`
abbrev pub refusal_line : Refused → List ℕ
refusal_line r = line (codes "refused " ++ kind_word r.kind ++ codes " at " ++ numeral r.at)

-- The first fault of a text by itself; or, of a text without one, that its program hasn't the entry that is wanted, at the text's length.
abbrev pub IsFaultOfEntry : Definition → (PureParts → Type 0) → List ℕ → ℕ → RefusedKind → Type 0
IsFaultOfEntry d IsWanted bytes at kind =
    d.IsFault bytes at kind
    ⊎ ((kind ≡ Entry) × ((p : PureParts) × d.IsText bytes p × (IsWanted p → ⊥)) × (at ≡ length bytes))

-- a token of the text begins at the byte, or the text ends there
abbrev pub IsPlaceIn : List ℕ → ℕ → Type 0
IsPlaceIn bytes at = (tokens : List Token) × AreTokensOf tokens bytes × IsTokenPlace bytes tokens at

-- The first fault of a text by itself; or, of a text without one, that some assertion of its program can't be read from left to right, for
-- its memory.
abbrev pub IsFaultOfModes : Definition → List ℕ → ℕ → RefusedKind → Type 0
IsFaultOfModes d bytes at kind =
    d.IsFault bytes at kind
    ⊎ ((kind ≡ Modes) × ((p : PureParts) × d.IsText bytes p × (HasModes p d.memory.name → ⊥)) × IsPlaceIn bytes at)

-- the kind is the first that applies where this is asked, at this byte
abbrev pub IsFirstKind : PureTask → List ℕ → ℕ → RefusedKind → Type 0
IsFirstKind (run language entry bound inputs) bytes at kind = IsFaultOfEntry (definition_of language) (EntersAt entry) bytes at kind
IsFirstKind (test language entry bound) bytes at kind = IsFaultOfEntry (definition_of language) (EntersAt entry) bytes at kind
IsFirstKind (check language bound) bytes at kind = IsFaultOfModes (definition_of language) bytes at kind
IsFirstKind (infer language entry bound) bytes at kind = IsFaultOfEntry (definition_of language) (HasProc entry) bytes at kind
IsFirstKind (compile language) bytes at kind = (definition_of language).IsFault bytes at kind
IsFirstKind solve bytes at kind = (kind ≢ Memory) × atoms.IsRefusedFor bytes at kind
IsFirstKind (sweep size) bytes at kind = ⊥

-- the refusal of a text where this is asked: it isn't accepted, and the kind is the first that applies
pub record IsRefusal (t : PureTask) (bytes : List ℕ) (r : Refused) : Type 0 where
  pub not_accepted : IsAccepted t bytes → ⊥
  pub kind : IsFirstKind t bytes r.at r.kind
