-- Reading the statements that every source language has, over the reading of the expressions and the simple statements of a language.
use Rattle.std.specs.Prelude.{ℕ, zero, suc, Bool, true, false, List, length, Option, Some, None, if◌then◌else◌}
use Rattle.gil_lexer.specs.declared.forms.Form.{Form}
use Rattle.gil_lexer.specs.declared.forms.Form.TheVariants as forms
use Rattle.gil_lexer.specs.declared.words.Word.{Word}
use Rattle.gil_lexer.specs.declared.words.Word.TheVariants as words
use Rattle.gil_lexer.specs.declared.signs.Sign.TheVariants.{LeftParenthesis, RightParenthesis, LeftBrace, RightBrace, Semicolon}
use Rattle.gil_lexemes.specs.declared.standing.Lexeme.{Lexeme}
use Rattle.gil_lexemes.specs.Lists.{each_until}
use Rattle.gil_lexemes.specs.Reading.{Reading, ◌>>=◌, first_form, behind, is_sign, is_word, sign_at, word_at, name_at}
use Rattle.source_text.specs.Logic as logics
use Rattle.source_text.specs.Logic.{invariant_at}
use Rattle.source_statements.specs.Pure.{PureStatement, simple, assert, assume, if_else, while, return, logic, try_catch, PureBlock, no_statements, PurePlacedStatement, from_placed}

-- how a language reads its expressions, and its simple statements, to their last `;`; whether it has `try`
pub record Readers (E S : Type 0) : Type 0 where
  pub expression_at : List Lexeme → Reading E
  pub simple_at : List Lexeme → Reading S
  pub has_try : Bool

-- a statement that every source language has begins with one of these words, or with `try`, with which no other does
abbrev pub is_shared_word : Word → Bool
is_shared_word words.Assert = true
is_shared_word words.Assume = true
is_shared_word words.If = true
is_shared_word words.While = true
is_shared_word words.Return = true
is_shared_word words.Fold = true
is_shared_word words.Unfold = true
is_shared_word words.Invariant = true
is_shared_word words.Try = true
is_shared_word _ = false

abbrev pub is_shared : Option Form → Bool
is_shared (Some (forms.Word word)) = is_shared_word word
is_shared _ = false

-- (x)   behind `catch`
unfoldable pub caught_at : List Lexeme → Reading (List ℕ)
caught_at ls = do
  inner ← sign_at LeftParenthesis ls
  x ← name_at inner
  rest ← sign_at RightParenthesis x.1
  Some (x.0, rest)

module _ {E S : Type 0} (r : Readers E S) where
  -- e;
  unfoldable pub value_at : List Lexeme → Reading E
  value_at ls = do
    e ← r.expression_at ls
    rest ← sign_at Semicolon e.1
    Some (e.0, rest)

  -- (e)
  unfoldable pub condition_at : List Lexeme → Reading E
  condition_at ls = do
    inner ← sign_at LeftParenthesis ls
    e ← r.expression_at inner
    rest ← sign_at RightParenthesis e.1
    Some (e.0, rest)

  -- (e);
  unfoldable pub claim_at : List Lexeme → Reading E
  claim_at ls = do
    e ← condition_at ls
    rest ← sign_at Semicolon e.1
    Some (e.0, rest)

  -- ---- statements without blocks, those with a word behind it

  abbrev pub plain_at : List Lexeme → Reading (PureStatement E S)
  plain_at ls = r.simple_at ls >>= λ c. Some (simple c.0, c.1)

  abbrev pub return_at : List Lexeme → Reading (PureStatement E S)
  return_at ls = value_at ls >>= λ e. Some (return e.0, e.1)

  abbrev pub assert_at : List Lexeme → Reading (PureStatement E S)
  assert_at ls = claim_at ls >>= λ e. Some (assert e.0, e.1)

  abbrev pub assume_at : List Lexeme → Reading (PureStatement E S)
  assume_at ls = claim_at ls >>= λ e. Some (assume e.0, e.1)

  -- what only proofs look at, from the word on
  abbrev pub logic_at : Word → List Lexeme → Reading (PureStatement E S)
  logic_at word ls = logics.logic_at word ls >>= λ l. Some (logic l.0, l.1)

  -- from the word `assert` on
  unfoldable pub asserted_at : List Lexeme → Reading (PureStatement E S)
  asserted_at ls = if is_sign LeftBrace (first_form (behind ls)) then logic_at words.Assert ls else assert_at (behind ls)

  -- ---- statements with blocks, which are read by blocks

  module _ (blocks : List Lexeme → Reading (PureBlock E S)) where
    -- else block
    unfoldable pub else_at : List Lexeme → Reading (PureBlock E S)
    else_at ls = if is_word words.Else (first_form ls) then blocks (behind ls) else Some (no_statements, ls)

    unfoldable pub if_at : List Lexeme → Reading (PureStatement E S)
    if_at ls = do
      e ← condition_at ls
      on ← blocks e.1
      off ← else_at on.1
      Some (if_else e.0 on.0 off.0, off.1)

    unfoldable pub while_at : List Lexeme → Reading (PureStatement E S)
    while_at ls = do
      e ← condition_at ls
      i ← invariant_at e.1
      body ← blocks i.1
      Some (while e.0 i.0 body.0, body.1)

    unfoldable pub try_at : List Lexeme → Reading (PureStatement E S)
    try_at ls = do
      body ← blocks ls
      behind_catch ← word_at words.Catch body.1
      x ← caught_at behind_catch
      handler ← blocks x.1
      Some (try_catch body.0 x.0 handler.0, handler.1)

    -- from the word `try` on
    unfoldable pub tried_at : List Lexeme → Reading (PureStatement E S)
    tried_at ls = if r.has_try then try_at (behind ls) else None

    abbrev pub of_word_at : Word → List Lexeme → Reading (PureStatement E S)
    of_word_at words.Assert ls = asserted_at ls
    of_word_at words.Assume ls = assume_at (behind ls)
    of_word_at words.If ls = if_at (behind ls)
    of_word_at words.While ls = while_at (behind ls)
    of_word_at words.Return ls = return_at (behind ls)
    of_word_at words.Fold ls = logic_at words.Fold ls
    of_word_at words.Unfold ls = logic_at words.Unfold ls
    of_word_at words.Invariant ls = logic_at words.Invariant ls
    of_word_at words.Try ls = tried_at ls
    of_word_at _ ls = plain_at ls

    abbrev pub statement_by : Option Form → List Lexeme → Reading (PureStatement E S)
    statement_by (Some (forms.Word word)) ls = of_word_at word ls
    statement_by _ ls = plain_at ls

    unfoldable pub statement_at : List Lexeme → Reading (PureStatement E S)
    statement_at ls = statement_by (first_form ls) ls

  -- ---- blocks

  module _ (place : ℕ → ℕ) where
    -- a statement, which is read by statements, and the byte at which it begins
    unfoldable pub placed_at : (List Lexeme → Reading (PureStatement E S)) → List Lexeme → Reading (PurePlacedStatement E S)
    placed_at statements ls = statements ls >>= λ c. Some (record { at = place (length ls); statement = c.0 }, c.1)

    -- { statement .. }
    unfoldable pub block_by : (List Lexeme → Reading (PureStatement E S)) → List Lexeme → Reading (PureBlock E S)
    block_by statements ls = do
      inner ← sign_at LeftBrace ls
      body ← each_until (placed_at statements) (length inner) RightBrace inner
      rest ← sign_at RightBrace body.1
      Some (from_placed body.0, rest)

    -- a block in which so many blocks stand within one another at most, this one among them
    unfoldable pub block_at : ℕ → List Lexeme → Reading (PureBlock E S)
    block_at zero ls = None
    block_at (suc n) ls = block_by (statement_at (block_at n)) ls
