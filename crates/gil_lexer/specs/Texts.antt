-- What whole texts spell: tokens, and blanks between them.
use Rattle.std.specs.Prelude.{ℕ, ◌≡◌, ◌+◌, ◌≤◌, ◌⊎◌, ◌==◌, not, List, [], ◌∷◌, ◌++◌, length, Option, Some, None, IsTrue}
use Rattle.std.specs.List.{list_all, concat, AllByRecursion, slice_range}
use Rattle.gil_lexer.specs.Bytes.{line_feed, slash, is_blank}
use Rattle.gil_lexer.specs.Spelling.{IsToken, Spells}
use Rattle.gil_lexer.specs.declared.forms.Form.{Form}
use Rattle.gil_lexer.specs.declared.forms.Token.{Token}

-- bytes of one line
abbrev pub AreOfOneLine : List ℕ → Type 0
AreOfOneLine bytes = IsTrue (list_all (λ b. not (b == line_feed)) bytes)

-- a blank, or a comment from `//` to the line feed that ends it
abbrev pub IsBlank : List ℕ → Type 0
IsBlank piece =
    ((b : ℕ) × IsTrue (is_blank b) × (piece ≡ b ∷ []))
    ⊎ ((inside : List ℕ) × AreOfOneLine inside × (piece ≡ slash ∷ slash ∷ (inside ++ line_feed ∷ [])))

-- blanks and whole comments, or nothing
abbrev pub AreBlanks : List ℕ → Type 0
AreBlanks gap = (pieces : List (List ℕ)) × AllByRecursion IsBlank pieces × (gap ≡ concat pieces)

-- blanks up to the text's end, where a last comment may want its line feed
abbrev pub AreLastBlanks : List ℕ → Type 0
AreLastBlanks gap =
    AreBlanks gap
    ⊎ ((blanks inside : List ℕ) × AreBlanks blanks × AreOfOneLine inside × (gap ≡ blanks ++ slash ∷ slash ∷ inside))

-- a place in a text: the form of the token before, how many bytes stand before, and the bytes that follow
pub record Place : Type 0 where
  pub before : Option Form
  pub at : ℕ
  pub rest : List ℕ

-- where a text begins
abbrev pub start : List ℕ → Place
start bytes = record { before = None; at = 0; rest = bytes }

-- from the place p, behind blanks, the token leads to the place q
pub record Passes (p : Place) (token : Token) (q : Place) : Type 0 where
  pub gap : List ℕ
  pub text : List ℕ
  pub bytes : p.rest ≡ gap ++ (text ++ q.rest)
  pub blanks : AreBlanks gap
  pub spelled : IsToken p.before token.form text q.rest
  pub from : token.from ≡ p.at + length gap
  pub to : token.to ≡ token.from + length text
  pub at : q.at ≡ token.to
  pub before : q.before ≡ Some token.form

-- the tokens lead from p to q, each from where the one before leads
abbrev pub Lead : Place → List Token → Place → Type 0
Lead p [] q = p ≡ q
Lead p (token ∷ tokens) q = (next : Place) × Passes p token next × Lead next tokens q

-- The text is these tokens, with blanks alone before, between and behind them.
abbrev pub AreTokensOf : List Token → List ℕ → Type 0
AreTokensOf tokens bytes = (end : Place) × Lead (start bytes) tokens end × AreLastBlanks end.rest

-- the token lies within the text, and its slice is a token of its form
pub record IsSlice (bytes : List ℕ) (token : Token) : Type 0 where
  pub forward : token.from ≤ token.to
  pub within : token.to ≤ length bytes
  pub spelled : Spells token.form (slice_range bytes token.from token.to)
