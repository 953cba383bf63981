-- Which lexemes begin what: no two of these. What `&` makes of an operator it makes nothing of.
use Rattle.std.specs.Prelude.{◌≡◌, false, Some, None}
use Rattle.gil_lexer.specs.declared.forms.Form.{Form}
use Rattle.gil_lexer.specs.declared.signs.Sign.TheVariants.{LeftParenthesis, Ampersand}
use Rattle.gil_lexemes.specs.declared.standing.Lexeme.{Lexeme}
use Rattle.gil_lexemes.specs.Reading.{form_of, is_sign}
use Rattle.source_operators.specs.Operands.{Operand}
use Rattle.operator_text.specs.Signs.{Signs}

pub record AreApart {P J : Type 0} (g : Signs P J) : Type 0 where
  pub leaf_opens : (l : Lexeme) (a : Operand) → g.leaf l ≡ Some a → is_sign LeftParenthesis (Some (form_of l)) ≡ false
  pub leaf_takes : (l : Lexeme) (a : Operand) → g.leaf l ≡ Some a → is_sign Ampersand (Some (form_of l)) ≡ false
  pub leaf_prefix : (l : Lexeme) (a : Operand) → g.leaf l ≡ Some a → g.prefix (form_of l) ≡ None
  pub prefix_opens : (form : Form) (u : P) → g.prefix form ≡ Some u → is_sign LeftParenthesis (Some form) ≡ false
  pub prefix_takes : (form : Form) (u : P) → g.prefix form ≡ Some u → is_sign Ampersand (Some form) ≡ false
  pub taken_once : (i j : J) → g.taken i ≡ Some j → g.taken j ≡ None
