-- Reading expressions.
use Rattle.std.specs.Prelude.{ℕ, zero, suc, Bool, true, false, List, Option, Some, None, is_some, if◌then◌else◌}
use Rattle.gil_values.specs.declared.operators.UnOp.{UnOp}
use Rattle.gil_values.specs.declared.operators.BinOp.TheVariants.{Nth}
use Rattle.gil_values.specs.Pure.{integer, text, procedure}
use Rattle.gil_lexer.specs.declared.forms.Form.{Form}
use Rattle.gil_lexer.specs.declared.forms.Form.TheVariants as forms
use Rattle.gil_lexer.specs.declared.words.Word.{Word}
use Rattle.gil_lexer.specs.declared.words.Word.TheVariants as words
use Rattle.gil_lexer.specs.declared.signs.Sign.TheVariants.{LeftParenthesis, RightParenthesis, LeftBracket, RightBracket, Comma}
use Rattle.gil_lexemes.specs.declared.standing.Lexeme.{Lexeme}
use Rattle.gil_lexemes.specs.Lists.{separated_at}
use Rattle.gil_lexemes.specs.Reading.{Reading, ◌>>=◌, first_form, behind, sign_at, logical_at, procedure_at, number_at, characters_at}
use Rattle.gil_syntax.specs.Pure.{PureExpr, literal, name, logical, list_of, unary_of, binary_of, from_list}
use Rattle.gil_grammar.specs.declared.positions.Position.{Position}
use Rattle.gil_grammar.specs.declared.positions.Position.TheVariants.{Assertion}
use Rattle.gil_grammar.specs.Reading.Vocabulary.{word_value, unary_of_word, operator_of, named_at}

-- ---- literals and names

abbrev pub name_leaf : Position → List Lexeme → Reading PureExpr
name_leaf position ls = named_at position ls >>= λ x. Some (name x.0, x.1)

-- the literal that a reserved word is, or else the name for which it serves
abbrev pub word_leaf : Word → Position → List Lexeme → Reading PureExpr
word_leaf word position ls =
    if is_some (word_value word)
    then (word_value word >>= λ v. Some (literal v, behind ls))
    else name_leaf position ls

abbrev pub logical_leaf : Position → List Lexeme → Reading PureExpr
logical_leaf Assertion ls = logical_at ls >>= λ x. Some (logical x.0, x.1)
logical_leaf _ ls = None

abbrev pub leaf_by : Option Form → Position → List Lexeme → Reading PureExpr
leaf_by (Some forms.Name) position ls = name_leaf position ls
leaf_by (Some (forms.Word word)) position ls = word_leaf word position ls
leaf_by (Some forms.Logical) position ls = logical_leaf position ls
leaf_by (Some forms.Procedure) position ls = procedure_at ls >>= λ f. Some (literal (procedure f.0), f.1)
leaf_by (Some forms.Number) position ls = number_at ls >>= λ n. Some (literal (integer n.0), n.1)
leaf_by (Some forms.Text) position ls = characters_at ls >>= λ t. Some (literal (text t.0), t.1)
leaf_by _ position ls = None

abbrev pub leaf_at : Position → List Lexeme → Reading PureExpr
leaf_at position ls = leaf_by (first_form ls) position ls

-- ---- expressions with brackets; those within are read by inner

-- (e op e)
unfoldable pub infix_at : (List Lexeme → Reading PureExpr) → List Lexeme → Reading PureExpr
infix_at inner ls = do
  left ← sign_at LeftParenthesis ls
  d ← inner left
  op ← operator_of (first_form d.1)
  e ← inner (behind d.1)
  rest ← sign_at RightParenthesis e.1
  Some (binary_of op d.0 e.0, rest)

-- nth(e, e)
unfoldable pub nth_at : (List Lexeme → Reading PureExpr) → List Lexeme → Reading PureExpr
nth_at inner ls = do
  left ← sign_at LeftParenthesis (behind ls)
  d ← inner left
  right ← sign_at Comma d.1
  e ← inner right
  rest ← sign_at RightParenthesis e.1
  Some (binary_of Nth d.0 e.0, rest)

-- op(e)
unfoldable pub unary_at : UnOp → (List Lexeme → Reading PureExpr) → List Lexeme → Reading PureExpr
unary_at op inner ls = do
  operand ← sign_at LeftParenthesis (behind ls)
  e ← inner operand
  rest ← sign_at RightParenthesis e.1
  Some (unary_of op e.0, rest)

-- [e, ..]
unfoldable pub list_at : (List Lexeme → Reading PureExpr) → List Lexeme → Reading PureExpr
list_at inner ls = do
  elements ← sign_at LeftBracket ls
  es ← separated_at inner RightBracket Comma elements
  rest ← sign_at RightBracket es.1
  Some (list_of (from_list es.0), rest)

abbrev pub word_bracketed : Word → (List Lexeme → Reading PureExpr) → List Lexeme → Reading PureExpr
word_bracketed words.Nth inner ls = nth_at inner ls
word_bracketed word inner ls = unary_of_word word >>= λ op. unary_at op inner ls

abbrev pub bracketed_by : Option Form → (List Lexeme → Reading PureExpr) → List Lexeme → Reading PureExpr
bracketed_by (Some (forms.Sign LeftParenthesis)) inner ls = infix_at inner ls
bracketed_by (Some (forms.Sign LeftBracket)) inner ls = list_at inner ls
bracketed_by (Some (forms.Word word)) inner ls = word_bracketed word inner ls
bracketed_by _ inner ls = None

abbrev pub bracketed_at : (List Lexeme → Reading PureExpr) → List Lexeme → Reading PureExpr
bracketed_at inner ls = bracketed_by (first_form ls) inner ls

-- whether an expression with brackets begins with a token of this form
abbrev pub word_opens : Word → Bool
word_opens words.Nth = true
word_opens word = is_some (unary_of_word word)

abbrev pub opens : Option Form → Bool
opens (Some (forms.Sign LeftParenthesis)) = true
opens (Some (forms.Sign LeftBracket)) = true
opens (Some (forms.Word word)) = word_opens word
opens _ = false

-- the expression at the front, in which so many brackets may be open
unfoldable pub expr_at : ℕ → Position → List Lexeme → Reading PureExpr
expr_at zero position ls = if opens (first_form ls) then None else leaf_at position ls
expr_at (suc n) position ls = if opens (first_form ls) then bracketed_at (expr_at n position) ls else leaf_at position ls
