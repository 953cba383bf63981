-- The syntax of While as pure data. Expressions and assertions are those of GIL.
use Rattle.std.specs.Prelude.{ℕ, List, [], ◌∷◌, Option}
use Rattle.gil_values.specs.declared.kinds.Kind.{Kind}
use Rattle.gil_syntax.specs.Pure.{PureExpr}
use Rattle.source_language.specs.Pure as trees
use Rattle.source_language.specs.Pure.{PureLogic, PureInvariant}

-- a field of a new record and its first value
pub record PureField : Type 0 where
  pub name : List ℕ
  pub value : PureExpr

mutual
  pub data PureStatement : Type 0 where
    assign : List ℕ → PureExpr → PureStatement
    input : List ℕ → Kind → PureStatement
    symbol : List ℕ → PureStatement
    new : List ℕ → List PureField → PureStatement
    lookup : List ℕ → List ℕ → List ℕ → PureStatement
    call : List ℕ → List ℕ → List PureExpr → PureStatement
    mutate : List ℕ → List ℕ → PureExpr → PureStatement
    dispose : PureExpr → PureStatement
    assert : PureExpr → PureStatement
    assume : PureExpr → PureStatement
    if_else : PureExpr → PureBlock → PureBlock → PureStatement
    while : PureExpr → Option PureInvariant → PureBlock → PureStatement
    return : PureExpr → PureStatement
    fail : PureExpr → PureStatement
    logic : PureLogic → PureStatement

  -- statements in order, each with the byte at which it begins
  pub data PureBlock : Type 0 where
    no_statements : PureBlock
    statement_and : ℕ → PureStatement → PureBlock → PureBlock

-- a statement and the byte at which it begins
pub record PurePlacedStatement : Type 0 where
  pub at : ℕ
  pub statement : PureStatement

abbrev pub from_placed : List PurePlacedStatement → PureBlock
from_placed [] = no_statements
from_placed (p ∷ ps) = statement_and p.at p.statement (from_placed ps)

abbrev pub PureFunction : Type 0
PureFunction = trees.PureFunction PureBlock

abbrev pub PureSource : Type 0
PureSource = trees.PureSource PureFunction
