-- The syntax of the C-like language as pure data.
use Rattle.std.specs.Prelude.{ℕ, List, Option}
use Rattle.clike_operators.specs.Pure.{PureExpression}
use Rattle.source_language.specs.Pure as trees
use Rattle.source_statements.specs.Pure as statements

-- a statement without statements in it
pub data PureSimple : Type 0 where
  assign : List ℕ → PureExpression → PureSimple
  input : List ℕ → PureSimple
  malloc : List ℕ → PureExpression → PureSimple
  call : Option (List ℕ) → List ℕ → List PureExpression → PureSimple
  free : PureExpression → PureSimple
  store : PureExpression → PureExpression → PureExpression → PureSimple

abbrev pub PureStatement : Type 0
PureStatement = statements.PureStatement PureExpression PureSimple

abbrev pub PureBlock : Type 0
PureBlock = statements.PureBlock PureExpression PureSimple

abbrev pub PureFunction : Type 0
PureFunction = trees.PureFunction PureBlock

abbrev pub PureSource : Type 0
PureSource = trees.PureSource PureFunction
