-- The pure data of programs of the object language.
use Rattle.std.specs.Prelude.{map}
use Rattle.source_language.specs.View as trees
use Rattle.source_language.specs.declared.trees.Function.{Function}
use Rattle.source_language.specs.declared.trees.SourceParts.{SourceParts}
use Rattle.source_operators.specs.declared.trees.Expression.{Expression}
use Rattle.source_operators.specs.View as operators
use Rattle.source_statements.specs.declared.tree.Block.{Block}
use Rattle.source_statements.specs.declared.tree.Statement.{Statement}
use Rattle.source_statements.specs.View as statements
use Rattle.object_operators.specs.declared.trees.Prefix.{Prefix}
use Rattle.object_operators.specs.declared.trees.Joint.{Joint}
use Rattle.object_operators.specs.Pure.{PureExpression}
use Rattle.object_lang.specs.Pure.{PureSimple, assign, input, create, proto, has, call, set, delete, set_proto, fail, throw, PureStatement, PureBlock, PureFunction, PureSource}
use Rattle.object_lang.specs.declared.tree.SimpleStatement.{SimpleStatement}

abbrev pub expression_view : Expression Prefix Joint → PureExpression
expression_view = operators.expression_view

abbrev pub simple_view : SimpleStatement → PureSimple
simple_view (SimpleStatement.Assign x e) = assign x (expression_view e)
simple_view (SimpleStatement.Input x k) = input x k
simple_view (SimpleStatement.Create x e) = create x (expression_view e)
simple_view (SimpleStatement.Proto x e) = proto x (expression_view e)
simple_view (SimpleStatement.Has x a b) = has x (expression_view a) (expression_view b)
simple_view (SimpleStatement.Call x f es) = call x (expression_view f) (map expression_view es)
simple_view (SimpleStatement.Set a b c) = set (expression_view a) (expression_view b) (expression_view c)
simple_view (SimpleStatement.Delete a b) = delete (expression_view a) (expression_view b)
simple_view (SimpleStatement.SetProto a b) = set_proto (expression_view a) (expression_view b)
simple_view (SimpleStatement.Fail e) = fail (expression_view e)
simple_view (SimpleStatement.Throw e) = throw (expression_view e)

abbrev pub statement_view : Statement (Expression Prefix Joint) SimpleStatement → PureStatement
statement_view c = statements.statement_view expression_view simple_view c

abbrev pub block_view : Block (Expression Prefix Joint) SimpleStatement → PureBlock
block_view b = statements.block_view expression_view simple_view b

abbrev pub function_view : Function (Block (Expression Prefix Joint) SimpleStatement) → PureFunction
function_view f = trees.function_view block_view f

abbrev pub source_parts_view : SourceParts (Function (Block (Expression Prefix Joint) SimpleStatement)) → PureSource
source_parts_view s = trees.source_parts_view function_view s
