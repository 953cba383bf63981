-- The syntax of the object language as pure data.
use Rattle.std.specs.Prelude.{ℕ, List}
use Rattle.gil_values.specs.declared.kinds.Kind.{Kind}
use Rattle.object_operators.specs.Pure.{PureExpression}
use Rattle.source_language.specs.Pure as trees
use Rattle.source_statements.specs.Pure as statements

-- a statement without statements in it
pub data PureSimple : Type 0 where
  assign : List ℕ → PureExpression → PureSimple
  input : List ℕ → Kind → PureSimple
  create : List ℕ → PureExpression → PureSimple
  proto : List ℕ → PureExpression → PureSimple
  has : List ℕ → PureExpression → PureExpression → PureSimple
  call : List ℕ → PureExpression → List PureExpression → PureSimple
  set : PureExpression → PureExpression → PureExpression → PureSimple
  delete : PureExpression → PureExpression → PureSimple
  set_proto : PureExpression → PureExpression → PureSimple
  fail : PureExpression → PureSimple
  throw : PureExpression → PureSimple

abbrev pub PureStatement : Type 0
PureStatement = statements.PureStatement PureExpression PureSimple

abbrev pub PureBlock : Type 0
PureBlock = statements.PureBlock PureExpression PureSimple

abbrev pub PureFunction : Type 0
PureFunction = trees.PureFunction PureBlock

abbrev pub PureSource : Type 0
PureSource = trees.PureSource PureFunction
