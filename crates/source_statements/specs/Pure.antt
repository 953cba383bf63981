-- Statements as pure data, over the expressions E of a language and its own simple statements S.
use Rattle.std.specs.Prelude.{ℕ, List, [], ◌∷◌, Option}
use Rattle.source_language.specs.Pure.{PureLogic, PureInvariant}

mutual
  pub data PureStatement (E S : Type 0) : Type 0 where
    simple : S → PureStatement E S
    assert : E → PureStatement E S
    assume : E → PureStatement E S
    if_else : E → PureBlock E S → PureBlock E S → PureStatement E S
    while : E → Option PureInvariant → PureBlock E S → PureStatement E S
    return : E → PureStatement E S
    logic : PureLogic → PureStatement E S
    try_catch : PureBlock E S → List ℕ → PureBlock E S → PureStatement E S

  -- statements in order, each with the byte at which it begins
  pub data PureBlock (E S : Type 0) : Type 0 where
    no_statements : PureBlock E S
    statement_and : ℕ → PureStatement E S → PureBlock E S → PureBlock E S

-- a statement and the byte at which it begins
pub record PurePlacedStatement (E S : Type 0) : Type 0 where
  pub at : ℕ
  pub statement : PureStatement E S

abbrev pub from_placed : {E S : Type 0} → List (PurePlacedStatement E S) → PureBlock E S
from_placed [] = no_statements
from_placed (p ∷ ps) = statement_and p.at p.statement (from_placed ps)
