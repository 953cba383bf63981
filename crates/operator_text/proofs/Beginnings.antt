-- With which lexemes expressions begin, by a test that leaves, prefixes, `(` and `&` meet.
use Rattle.std.proofs.Common.{◌≡◌, inl, inr, ℕ, List, ◌∷◌, Bool, true, Some}
use Rattle.gil_lexer.specs.declared.forms.Form.{Form}
use Rattle.gil_lexer.specs.declared.forms.Form.TheVariants.{Sign}
use Rattle.gil_lexer.specs.declared.signs.Sign.TheVariants.{LeftParenthesis, Ampersand}
use Rattle.gil_lexemes.specs.declared.standing.Lexeme.{Lexeme}
use Rattle.gil_lexemes.specs.Reading.{form_of}
use Rattle.gil_grammar.specs.Vocabulary.{opening_parenthesis}
use Rattle.source_operators.specs.Operands.{Operand, known, named}
use Rattle.source_operators.specs.Pure.{PureExpression, constant, variable, brackets, prefixed, joined, skipping}
use Rattle.operator_text.specs.Grammar.{ampersand, SpellsExpression}
use Rattle.operator_text.specs.Signs.{Signs}

-- the lexemes begin so
abbrev pub BeginsSo : (Form → Bool) → List Lexeme → Type 0
BeginsSo test ls = (l : Lexeme) × (more : List Lexeme) × (ls ≡ l ∷ more) × (test (form_of l) ≡ true)

module _ {P J : Type 0} (g : Signs P J) (test : Form → Bool)
    (leaves : (l : Lexeme) (a : Operand) → g.leaf l ≡ Some a → test (form_of l) ≡ true)
    (prefixes : (form : Form) (u : P) → g.prefix form ≡ Some u → test form ≡ true)
    (opens : test (Sign LeftParenthesis) ≡ true) (takes : test (Sign Ampersand) ≡ true) where
  pub expression_begins : (e : PureExpression P J) (k : ℕ) (ls rest : List Lexeme) → SpellsExpression g k e ls rest → BeginsSo test ls
  expression_begins (constant v) k ls rest (l, says, is) = (l, rest, is, leaves l (known v) says)
  expression_begins (variable x) k ls rest (l, says, is) = (l, rest, is, leaves l (named x) says)
  expression_begins (brackets e) k ls rest (inner, is, h) = (opening_parenthesis, inner, is, opens)
  expression_begins (prefixed u e) k ls rest (l, inner, le, says, is, h) = (l, inner, is, prefixes (form_of l) u says)
  expression_begins (joined j d e) k ls rest (inl (l, right, a, says, same, le, h, side)) = expression_begins d _ ls (l ∷ right) h
  expression_begins (joined j d e) k ls rest (inr (i, inner, taken, le, is, h)) = (ampersand, inner, is, takes)
  expression_begins (skipping c d e) k ls rest (l, right, a, says, same, le, h, side) = expression_begins d _ ls (l ∷ right) h
