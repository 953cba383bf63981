-- The values that the option of inputs spells.
use Rattle.std.specs.Prelude.{◌≡◌, ◌≢◌, ℕ, ℤ, List, [], ◌∷◌, ◌++◌, Bool, true, false, slice_index, FitsSigned, codes}
use Rattle.std.specs.Int.{w128}
use Rattle.std.specs.Str.Parse.{IsNumeral, without_leading_sign, signed_digits_value}
use Rattle.gil_values.specs.Pure.{PureValue, integer, boolean, text, symbol, kind, procedure, list}
use Rattle.gil_lexer.specs.Spelling.{SpellsText}

abbrev pub plus : ℕ
plus = 43

abbrev pub comma : ℕ
comma = 44

-- The word is the whole number z in decimal digits, with a `-` before them or without, and z has 128 bits.
pub record SpellsNumber (word : List ℕ) (z : ℤ) : Type 0 where
  pub no_plus : slice_index word 0 ≢ plus
  pub digits : IsNumeral 10 (without_leading_sign word)
  pub number : z ≡ signed_digits_value 10 word
  pub fits : FitsSigned w128 z

abbrev pub boolean_word : Bool → List ℕ
boolean_word true = codes "true"
boolean_word false = codes "false"

-- a whole number, `true`, `false` or a text literal
abbrev pub SpellsInput : List ℕ → PureValue → Type 0
SpellsInput word (integer z) = SpellsNumber word z
SpellsInput word (boolean b) = word ≡ boolean_word b
SpellsInput word (text characters) = SpellsText word characters
SpellsInput word (symbol n) = ⊥
SpellsInput word (kind k) = ⊥
SpellsInput word (procedure f) = ⊥
SpellsInput word (list vs) = ⊥

-- a value and those after it, with a comma between one and the next and no blanks
abbrev pub SpellsSome : List ℕ → PureValue → List PureValue → Type 0
SpellsSome word v [] = SpellsInput word v
SpellsSome word v (w ∷ ws) = (first more : List ℕ) × (word ≡ first ++ comma ∷ more) × SpellsInput first v × SpellsSome more w ws

-- any number of values
abbrev pub SpellsInputs : List ℕ → List PureValue → Type 0
SpellsInputs word [] = word ≡ []
SpellsInputs word (v ∷ vs) = SpellsSome word v vs
