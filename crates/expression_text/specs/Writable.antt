-- Expressions that some text has: their variables are names that are no reserved word, but for `ret`; logical variables have their `#`;
-- literals are neither symbols nor lists, and a list stands as a list of expressions.
use Rattle.std.specs.Prelude.{◌≡◌, ℕ, List, IsTrue}
use Rattle.gil_lexer.specs.Bytes.{hash}
use Rattle.gil_lexer.specs.Spelling.{IsName, IsMarkedName}
use Rattle.gil_lexer.specs.Words.{word_bytes}
use Rattle.gil_lexer.specs.declared.words.Word.{Word}
use Rattle.gil_lexer.specs.declared.words.Word.TheVariants as words
use Rattle.gil_syntax.specs.Pure.{PureExpr, literal, name, logical, list_of, unary_of, binary_of, PureExprs, no_exprs, expr_and}
use Rattle.gil_syntax.specs.WellMade.{is_spellable}
use Rattle.value_text.specs.Writable.{IsWritableValue}

-- `ret` is the value returned
abbrev pub IsVariable : List ℕ → Type 0
IsVariable x = IsName x × ((word : Word) → word_bytes word ≡ x → word ≡ words.Ret)

abbrev mutual
  pub IsWritableExpr : PureExpr → Type 0
  IsWritableExpr (literal v) = IsWritableValue v × IsTrue (is_spellable v)
  IsWritableExpr (name x) = IsVariable x
  IsWritableExpr (logical x) = IsMarkedName hash x
  IsWritableExpr (list_of es) = AreWritableExprs es
  IsWritableExpr (unary_of op e) = IsWritableExpr e
  IsWritableExpr (binary_of op d e) = IsWritableExpr d × IsWritableExpr e

  pub AreWritableExprs : PureExprs → Type 0
  AreWritableExprs no_exprs = Unit {0}
  AreWritableExprs (expr_and e es) = IsWritableExpr e × AreWritableExprs es
