-- What words ask for.
use Rattle.std.specs.Prelude.{◌≡◌, ◌≤◌, ℕ, List, [], Bool, true, false, Option, Some, None, length, codes}
use Rattle.std.specs.Str.{bytes_eq}
use Rattle.std.specs.Str.Parse.{IsNumeral, digits_value}
use Rattle.gil_values.specs.Pure.{PureValue}
use Rattle.gil_lexer.specs.Spelling.{IsName}
use Rattle.gillian_words.specs.Inputs.{SpellsInputs}
use Rattle.gillian_words.specs.Line.{AreTaken, matched}
use Rattle.gillian_words.specs.Tasks.{PureTask, run, test, check, infer, compile, solve, sweep, PureRequest, has_report, language_word, mode_word}

-- one to five digits, and at most 10,000
abbrev pub SpellsBound : List ℕ → ℕ → Type 0
SpellsBound word n = IsNumeral 10 word × (length word ≤ 5) × (n ≡ digits_value 10 word) × (n ≤ 10000)

-- one to four digits, a number from 1 to 1,000
abbrev pub SpellsSize : List ℕ → ℕ → Type 0
SpellsSize word n = IsNumeral 10 word × (length word ≤ 4) × (n ≡ digits_value 10 word) × (1 ≤ n) × (n ≤ 1000)

-- the form of a name, reserved or not
abbrev pub SpellsEntry : List ℕ → List ℕ → Type 0
SpellsEntry word entry = IsName word × (entry ≡ word)

-- The word of an option that is given spells the value. One that isn't given has its default.
abbrev pub IsOption : {X : Type 0} → (List ℕ → X → Type 0) → X → Option (List ℕ) → X → Type 0
IsOption spells default (Some word) x = spells word x
IsOption spells default None x = x ≡ default

-- the entry, the bound and the inputs that are asked for, with what they are by default
abbrev pub IsEntryOption : Option (List ℕ) → List ℕ → Type 0
IsEntryOption given entry = IsOption SpellsEntry (codes "main") given entry

abbrev pub IsBoundOption : Option (List ℕ) → ℕ → Type 0
IsBoundOption given bound = IsOption SpellsBound 1000 given bound

abbrev pub IsInputsOption : Option (List ℕ) → List PureValue → Type 0
IsInputsOption given inputs = IsOption SpellsInputs [] given inputs

-- whether a flag is given
abbrev pub is_given : Option (List ℕ) → Bool
is_given (Some word) = bytes_eq word (codes "true")
is_given None = false

-- what clap matches to each name of the line
pub record Given : Type 0 where
  pub mode : Option (List ℕ)
  pub second : Option (List ℕ)
  pub bound : Option (List ℕ)
  pub entry : Option (List ℕ)
  pub inputs : Option (List ℕ)
  pub json : Option (List ℕ)

abbrev pub given_by : List (List ℕ) → Given
given_by words = record {
  mode = matched words (codes "mode");
  second = matched words (codes "second");
  bound = matched words (codes "bound");
  entry = matched words (codes "entry");
  inputs = matched words (codes "inputs");
  json = matched words (codes "json");
}

-- a word is given, and it spells the value
abbrev pub IsGiven : {X : Type 0} → (List ℕ → X → Type 0) → Option (List ℕ) → X → Type 0
IsGiven spells (Some word) x = spells word x
IsGiven spells None x = ⊥

-- The second word names the language of the programs, or that of atoms where these are solved, or spells the size of a made program.
abbrev pub IsSecond : Option (List ℕ) → PureTask → Type 0
IsSecond given (run language entry bound inputs) = given ≡ Some (language_word language)
IsSecond given (test language entry bound) = given ≡ Some (language_word language)
IsSecond given (check language bound) = given ≡ Some (language_word language)
IsSecond given (infer language entry bound) = given ≡ Some (language_word language)
IsSecond given (compile language) = given ≡ Some (language_word language)
IsSecond given solve = given ≡ Some (codes "atoms")
IsSecond given (sweep size) = IsGiven SpellsSize given size

-- The options with a value that a mode takes have these values, and no other such option is given.
abbrev pub HasOptions : Given → PureTask → Type 0
HasOptions g (run language entry bound inputs) = IsEntryOption g.entry entry × IsBoundOption g.bound bound × IsInputsOption g.inputs inputs
HasOptions g (test language entry bound) = IsEntryOption g.entry entry × IsBoundOption g.bound bound × (g.inputs ≡ None)
HasOptions g (check language bound) = (g.entry ≡ None) × IsBoundOption g.bound bound × (g.inputs ≡ None)
HasOptions g (infer language entry bound) = IsEntryOption g.entry entry × IsBoundOption g.bound bound × (g.inputs ≡ None)
HasOptions g (compile language) = (g.entry ≡ None) × (g.bound ≡ None) × (g.inputs ≡ None)
HasOptions g solve = (g.entry ≡ None) × (g.bound ≡ None) × (g.inputs ≡ None)
HasOptions g (sweep size) = (g.entry ≡ None) × (g.bound ≡ None) × (g.inputs ≡ None)

-- what is given asks for this, the form of the report aside
pub record AsksTask (g : Given) (t : PureTask) : Type 0 where
  pub mode : g.mode ≡ Some (mode_word t)
  pub second : IsSecond g.second t
  pub options : HasOptions g t

-- what is given asks for this: for JSON where the flag `--json` is given, which the modes with a report take
pub record Asks (g : Given) (r : PureRequest) : Type 0 where
  pub task : AsksTask g r.task
  pub json : r.json ≡ is_given g.json
  pub reports : r.json ≡ true → has_report r.task ≡ true

-- The words ask for this: clap takes them, and what it matches asks for it.
pub record AskFor (words : List (List ℕ)) (r : PureRequest) : Type 0 where
  pub taken : AreTaken words
  pub asks : Asks (given_by words) r
