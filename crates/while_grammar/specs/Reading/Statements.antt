-- Reading statements, blocks and functions.
use Rattle.std.specs.Prelude.{ℕ, zero, suc, List, length, Option, Some, None, if◌then◌else◌}
use Rattle.gil_lexer.specs.declared.forms.Form.{Form}
use Rattle.gil_lexer.specs.declared.forms.Form.TheVariants as forms
use Rattle.gil_lexer.specs.declared.words.Word.{Word}
use Rattle.gil_lexer.specs.declared.words.Word.TheVariants as words
use Rattle.gil_lexer.specs.declared.signs.Sign.TheVariants.{LeftParenthesis, RightParenthesis, LeftBrace, RightBrace, Comma, Semicolon, Colon, Dot, Equal}
use Rattle.gil_lexemes.specs.declared.standing.Lexeme.{Lexeme}
use Rattle.gil_lexemes.specs.Lists.{separated_at, each_until}
use Rattle.gil_lexemes.specs.Reading.{Reading, ◌>>=◌, first_form, behind, is_sign, is_word, sign_at, name_at}
use Rattle.gil_syntax.specs.Pure.{PureExpr}
use Rattle.gil_grammar.specs.declared.positions.Position.TheVariants.{Command}
use Rattle.gil_grammar.specs.Reading.Assertions.{expression_at, expressions_at}
use Rattle.gil_grammar.specs.Reading.Commands.{names_at}
use Rattle.gil_grammar.specs.Reading.Vocabulary.{word_of, input_of_word}
use Rattle.source_text.specs.Logic as logics
use Rattle.source_text.specs.Logic.{invariant_at}
use Rattle.while_lang.specs.Pure.{PureField, PureStatement, assign, input, symbol, new, lookup, call, mutate, dispose, assert, assume, if_else, while, return, fail, logic, PureBlock, no_statements, PurePlacedStatement, from_placed, PureFunction}

-- ---- pieces

-- e;
unfoldable pub value_at : List Lexeme → Reading PureExpr
value_at ls = do
  e ← expression_at Command ls
  rest ← sign_at Semicolon e.1
  Some (e.0, rest)

-- (e)
unfoldable pub condition_at : List Lexeme → Reading PureExpr
condition_at ls = do
  inner ← sign_at LeftParenthesis ls
  e ← expression_at Command inner
  rest ← sign_at RightParenthesis e.1
  Some (e.0, rest)

-- (e);
unfoldable pub claim_at : List Lexeme → Reading PureExpr
claim_at ls = do
  e ← condition_at ls
  rest ← sign_at Semicolon e.1
  Some (e.0, rest)

-- name: e
unfoldable pub field_at : List Lexeme → Reading PureField
field_at ls = do
  p ← name_at ls
  value ← sign_at Colon p.1
  e ← expression_at Command value
  Some (record { name = p.0; value = e.0 }, e.1)

-- ---- what is assigned to the variable x, behind `=`

abbrev pub assign_at : List ℕ → List Lexeme → Reading PureStatement
assign_at x ls = value_at ls >>= λ e. Some (assign x e.0, e.1)

-- sort;   behind `input`
unfoldable pub input_at : List ℕ → List Lexeme → Reading PureStatement
input_at x ls = do
  word ← word_of (first_form ls)
  k ← input_of_word word
  rest ← sign_at Semicolon (behind ls)
  Some (input x k, rest)

-- behind `symbol`
abbrev pub symbol_at : List ℕ → List Lexeme → Reading PureStatement
symbol_at x ls = sign_at Semicolon ls >>= λ rest. Some (symbol x, rest)

-- {p: e, ..};   behind `new`
unfoldable pub new_at : List ℕ → List Lexeme → Reading PureStatement
new_at x ls = do
  inner ← sign_at LeftBrace ls
  fields ← separated_at field_at RightBrace Comma inner
  end ← sign_at RightBrace fields.1
  rest ← sign_at Semicolon end
  Some (new x fields.0, rest)

-- y.p;
unfoldable pub lookup_at : List ℕ → List Lexeme → Reading PureStatement
lookup_at x ls = do
  y ← name_at ls
  name ← sign_at Dot y.1
  p ← name_at name
  rest ← sign_at Semicolon p.1
  Some (lookup x y.0 p.0, rest)

-- f(e, ..);
unfoldable pub call_at : List ℕ → List Lexeme → Reading PureStatement
call_at x ls = do
  f ← name_at ls
  inner ← sign_at LeftParenthesis f.1
  es ← expressions_at Command RightParenthesis inner
  end ← sign_at RightParenthesis es.1
  rest ← sign_at Semicolon end
  Some (call x f.0 es.0, rest)

-- a name, with what follows it
unfoldable pub named_at : List ℕ → List Lexeme → Reading PureStatement
named_at x ls =
    if is_sign Dot (first_form (behind ls)) then lookup_at x ls
    else if is_sign LeftParenthesis (first_form (behind ls)) then call_at x ls else assign_at x ls

abbrev pub assigned_by : Option Form → List ℕ → List Lexeme → Reading PureStatement
assigned_by (Some forms.Name) x ls = named_at x ls
assigned_by (Some (forms.Word words.Input)) x ls = input_at x (behind ls)
assigned_by (Some (forms.Word words.Symbol)) x ls = symbol_at x (behind ls)
assigned_by (Some (forms.Word words.New)) x ls = new_at x (behind ls)
assigned_by _ x ls = assign_at x ls

abbrev pub assigned_at : List ℕ → List Lexeme → Reading PureStatement
assigned_at x ls = assigned_by (first_form ls) x ls

-- x = ..
unfoldable pub assignment_at : List Lexeme → Reading PureStatement
assignment_at ls = do
  x ← name_at ls
  value ← sign_at Equal x.1
  assigned_at x.0 value

-- y.p = e;
unfoldable pub mutate_at : List Lexeme → Reading PureStatement
mutate_at ls = do
  y ← name_at ls
  name ← sign_at Dot y.1
  p ← name_at name
  value ← sign_at Equal p.1
  e ← value_at value
  Some (mutate y.0 p.0 e.0, e.1)

-- a statement that begins with a name
unfoldable pub of_name_at : List Lexeme → Reading PureStatement
of_name_at ls = if is_sign Dot (first_form (behind ls)) then mutate_at ls else assignment_at ls

-- ---- statements that begin with a word, behind it

abbrev pub dispose_at : List Lexeme → Reading PureStatement
dispose_at ls = value_at ls >>= λ e. Some (dispose e.0, e.1)

abbrev pub return_at : List Lexeme → Reading PureStatement
return_at ls = value_at ls >>= λ e. Some (return e.0, e.1)

abbrev pub fail_at : List Lexeme → Reading PureStatement
fail_at ls = value_at ls >>= λ e. Some (fail e.0, e.1)

abbrev pub assert_at : List Lexeme → Reading PureStatement
assert_at ls = claim_at ls >>= λ e. Some (assert e.0, e.1)

abbrev pub assume_at : List Lexeme → Reading PureStatement
assume_at ls = claim_at ls >>= λ e. Some (assume e.0, e.1)

-- what only proofs look at, from the word on
abbrev pub logic_at : Word → List Lexeme → Reading PureStatement
logic_at word ls = logics.logic_at word ls >>= λ l. Some (logic l.0, l.1)

-- from the word `assert` on
unfoldable pub asserted_at : List Lexeme → Reading PureStatement
asserted_at ls = if is_sign LeftBrace (first_form (behind ls)) then logic_at words.Assert ls else assert_at (behind ls)

-- ---- statements with blocks, which are read by blocks

module _ (blocks : List Lexeme → Reading PureBlock) where
  -- else block
  unfoldable pub else_at : List Lexeme → Reading PureBlock
  else_at ls = if is_word words.Else (first_form ls) then blocks (behind ls) else Some (no_statements, ls)

  unfoldable pub if_at : List Lexeme → Reading PureStatement
  if_at ls = do
    e ← condition_at ls
    on ← blocks e.1
    off ← else_at on.1
    Some (if_else e.0 on.0 off.0, off.1)

  unfoldable pub while_at : List Lexeme → Reading PureStatement
  while_at ls = do
    e ← condition_at ls
    i ← invariant_at e.1
    body ← blocks i.1
    Some (while e.0 i.0 body.0, body.1)

  abbrev pub of_word_at : Word → List Lexeme → Reading PureStatement
  of_word_at words.Dispose ls = dispose_at (behind ls)
  of_word_at words.Assert ls = asserted_at ls
  of_word_at words.Assume ls = assume_at (behind ls)
  of_word_at words.If ls = if_at (behind ls)
  of_word_at words.While ls = while_at (behind ls)
  of_word_at words.Return ls = return_at (behind ls)
  of_word_at words.Fail ls = fail_at (behind ls)
  of_word_at words.Fold ls = logic_at words.Fold ls
  of_word_at words.Unfold ls = logic_at words.Unfold ls
  of_word_at words.Invariant ls = logic_at words.Invariant ls
  of_word_at _ ls = None

  abbrev pub statement_by : Option Form → List Lexeme → Reading PureStatement
  statement_by (Some forms.Name) ls = of_name_at ls
  statement_by (Some (forms.Word word)) ls = of_word_at word ls
  statement_by _ ls = None

  unfoldable pub statement_at : List Lexeme → Reading PureStatement
  statement_at ls = statement_by (first_form ls) ls

-- ---- blocks and functions

module _ (place : ℕ → ℕ) where
  -- a statement, which is read by statements, and the byte at which it begins
  unfoldable pub placed_at : (List Lexeme → Reading PureStatement) → List Lexeme → Reading PurePlacedStatement
  placed_at statements ls = statements ls >>= λ c. Some (record { at = place (length ls); statement = c.0 }, c.1)

  -- { statement .. }
  unfoldable pub block_by : (List Lexeme → Reading PureStatement) → List Lexeme → Reading PureBlock
  block_by statements ls = do
    inner ← sign_at LeftBrace ls
    body ← each_until (placed_at statements) (length inner) RightBrace inner
    rest ← sign_at RightBrace body.1
    Some (from_placed body.0, rest)

  -- a block in which so many blocks stand within one another at most, this one among them
  unfoldable pub block_at : ℕ → List Lexeme → Reading PureBlock
  block_at zero ls = None
  block_at (suc n) ls = block_by (statement_at (block_at n)) ls

  -- from the word `func` on
  unfoldable pub function_at : List Lexeme → Reading PureFunction
  function_at ls = do
    x ← name_at (behind ls)
    inner ← sign_at LeftParenthesis x.1
    xs ← names_at RightParenthesis inner
    outer ← sign_at RightParenthesis xs.1
    body ← block_at (length outer) outer
    Some (record { name = x.0; params = xs.0; body = body.0; at = place (length ls) }, body.1)
