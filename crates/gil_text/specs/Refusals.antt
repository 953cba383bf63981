-- Why a text is refused.
use Rattle.std.specs.Prelude.{◌≡◌, ◌≢◌, ◌⊎◌, ℕ, ◌-◌, List, [], ◌∷◌, ◌++◌, Option, Some, None, length, slice_get}
use Rattle.gil_lexer.specs.declared.forms.Token.{Token}
use Rattle.gil_lexer.specs.declared.faults.LexKind.{LexKind}
use Rattle.gil_lexer.specs.declared.faults.LexKind.TheVariants as kinds
use Rattle.gil_lexer.specs.Faults.{StopsAt}
use Rattle.gil_lexer.specs.Texts.{AreTokensOf}
use Rattle.gil_lexemes.specs.declared.standing.Lexeme.{Lexeme}
use Rattle.gil_lexemes.specs.Lexemes.{StandForAll}
use Rattle.gil_syntax.specs.Valid.{IsNamedFault}
use Rattle.gil_grammar.specs.Nesting.{IsNested}
use Rattle.gil_grammar.specs.Texts.{PlacedItem, SpellsItems, BeginsWithProc, Spell, parts_of, places_of}
use Rattle.gil_text.specs.declared.refused.Refused.{Refused}
use Rattle.gil_text.specs.declared.refused.RefusedKind.{RefusedKind}
use Rattle.gil_text.specs.declared.refused.RefusedKind.TheVariants.{Lex, Nesting, Syntax, Invalid, Limit, Entry, Modes, Memory}

-- the kind of a refusal for a fault of tokens
abbrev pub lexical : LexKind → RefusedKind
lexical kinds.Memory = Memory
lexical _ = Lex

-- The bytes before this one are tokens and blanks, and what stands there goes on neither.
abbrev pub HasNoTokenAt : List ℕ → ℕ → Type 0
HasNoTokenAt bytes at = (kind : LexKind) × (kind ≢ kinds.Memory) × StopsAt kind at bytes

-- why bytes have no tokens: none stands at this byte, or memory ran out
abbrev pub HasNoTokens : List ℕ → ℕ → RefusedKind → Type 0
HasNoTokens bytes at Lex = HasNoTokenAt bytes at
HasNoTokens bytes at Memory = Unit {0}
HasNoTokens bytes at _ = ⊥

abbrev pub byte_or : ℕ → Option Token → ℕ
byte_or end (Some token) = token.from
byte_or end None = end

-- the byte at which the last `left` tokens begin, or the text's length where that is none
abbrev pub place_of : List ℕ → List Token → ℕ → ℕ
place_of bytes tokens left = byte_or (length bytes) (slice_get tokens (length tokens - left))

-- a token begins at the byte, or the text ends there
abbrev pub IsTokenPlace : List ℕ → List Token → ℕ → Type 0
IsTokenPlace bytes tokens at = (at ≡ length bytes) ⊎ ((i : ℕ) × (token : Token) × (slice_get tokens i ≡ Some token) × (at ≡ token.from))

-- The lexemes nest too deep, and this many are left from the first one on behind which they do.
pub record IsTooDeep (is_nested : List Lexeme → Type 0) (lexemes : List Lexeme) (left : ℕ) : Type 0 where
  pub whole : is_nested lexemes → ⊥
  pub front : List Lexeme
  pub lexeme : Lexeme
  pub rest : List Lexeme
  pub is : lexemes ≡ front ++ lexeme ∷ rest
  pub before : is_nested front
  pub behind : is_nested (front ++ lexeme ∷ []) → ⊥
  pub many : left ≡ length (lexeme ∷ rest)

-- the first lexeme behind which they nest too deep is that of the token that begins at the byte
abbrev pub IsTooDeepAt : (List Lexeme → Type 0) → List ℕ → List Token → List Lexeme → ℕ → Type 0
IsTooDeepAt is_nested bytes tokens lexemes at = (left : ℕ) × IsTooDeep is_nested lexemes left × (at ≡ place_of bytes tokens left)

-- the tokens of the bytes, and the lexemes that they stand for
pub record AreLexemesOf (tokens : List Token) (lexemes : List Lexeme) (bytes : List ℕ) : Type 0 where
  pub text : AreTokensOf tokens bytes
  pub stand : StandForAll bytes tokens lexemes

-- A text is refused with the first of these kinds that applies: at that byte stands no token; the token there is the first
-- behind which more brackets are open than may be; the tokens are those of no items of which a procedure is the first, and
-- a token begins at that byte, or the text ends there; the items make no program, and the fault that is named is at the item
-- that begins at that byte. The other kinds are none of a text of GIL by itself. Want of memory may come before any.
abbrev pub IsRefusedFor : List ℕ → ℕ → RefusedKind → Type 0
IsRefusedFor bytes at Lex = HasNoTokenAt bytes at
IsRefusedFor bytes at Nesting =
    (tokens : List Token) × (lexemes : List Lexeme) × AreLexemesOf tokens lexemes bytes × IsTooDeepAt IsNested bytes tokens lexemes at
IsRefusedFor bytes at Syntax =
    (tokens : List Token) × (lexemes : List Lexeme) × AreLexemesOf tokens lexemes bytes × IsNested lexemes
    × ((items : List PlacedItem) → SpellsItems tokens items lexemes → BeginsWithProc items → ⊥) × IsTokenPlace bytes tokens at
IsRefusedFor bytes at (Invalid kind) =
    (items : List PlacedItem) × (i : ℕ) × Spell bytes items × IsNamedFault (parts_of items) kind i
    × (slice_get (places_of items) i ≡ Some at)
IsRefusedFor bytes at Limit = ⊥
IsRefusedFor bytes at Entry = ⊥
IsRefusedFor bytes at Modes = ⊥
IsRefusedFor bytes at Memory = Unit {0}

abbrev pub IsRefused : List ℕ → Refused → Type 0
IsRefused bytes refused = IsRefusedFor bytes refused.at refused.kind
