-- Reading expressions as statements have them, as functions: what the functions of a reader answer.
use Rattle.std.specs.Prelude.{ℕ, List, length, Some}
use Rattle.gil_lexer.specs.declared.signs.Sign.TheVariants.{LeftParenthesis, RightParenthesis, Comma, Semicolon}
use Rattle.gil_lexemes.specs.declared.standing.Lexeme.{Lexeme}
use Rattle.gil_lexemes.specs.Lists.{separated_at}
use Rattle.gil_lexemes.specs.Reading.{Reading, ◌>>=◌, sign_at}
use Rattle.source_operators.specs.Pure.{PureExpression}
use Rattle.operator_text.specs.Reading.{expression_at}
use Rattle.operator_text.specs.Signs.{Signs}

module _ {P J : Type 0} (g : Signs P J) where
  -- an expression where only operators of at least a strength may stand
  abbrev pub expression_from : ℕ → List Lexeme → Reading (PureExpression P J)
  expression_from k ls = expression_at g (length ls) k ls

  abbrev pub whole_at : List Lexeme → Reading (PureExpression P J)
  whole_at ls = expression_from 0 ls

  -- e;
  unfoldable pub value_at : List Lexeme → Reading (PureExpression P J)
  value_at ls = do
    e ← whole_at ls
    rest ← sign_at Semicolon e.1
    Some (e.0, rest)

  -- (e);
  unfoldable pub argument_at : List Lexeme → Reading (PureExpression P J)
  argument_at ls = do
    inner ← sign_at LeftParenthesis ls
    e ← whole_at inner
    end ← sign_at RightParenthesis e.1
    rest ← sign_at Semicolon end
    Some (e.0, rest)

  -- (d, e);
  unfoldable pub pair_at : List Lexeme → Reading (PureExpression P J × PureExpression P J)
  pair_at ls = do
    inner ← sign_at LeftParenthesis ls
    d ← whole_at inner
    second ← sign_at Comma d.1
    e ← whole_at second
    end ← sign_at RightParenthesis e.1
    rest ← sign_at Semicolon end
    Some ((d.0, e.0), rest)

  -- e, ..);   behind `(`
  unfoldable pub arguments_at : List Lexeme → Reading (List (PureExpression P J))
  arguments_at ls = do
    es ← separated_at whole_at RightParenthesis Comma ls
    end ← sign_at RightParenthesis es.1
    rest ← sign_at Semicolon end
    Some (es.0, rest)
