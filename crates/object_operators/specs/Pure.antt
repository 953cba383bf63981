-- Expressions of the object language as pure data.
use Rattle.object_operators.specs.declared.trees.Prefix.{Prefix}
use Rattle.object_operators.specs.declared.trees.Joint.{Joint}
use Rattle.source_operators.specs.Pure as trees

abbrev pub PureExpression : Type 0
PureExpression = trees.PureExpression Prefix Joint
