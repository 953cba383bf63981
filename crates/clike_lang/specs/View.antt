-- The pure data of C-like programs.
use Rattle.std.specs.Prelude.{map}
use Rattle.source_language.specs.View as trees
use Rattle.source_language.specs.declared.trees.Function.{Function}
use Rattle.source_language.specs.declared.trees.SourceParts.{SourceParts}
use Rattle.source_operators.specs.declared.trees.Expression.{Expression}
use Rattle.source_operators.specs.View as operators
use Rattle.source_statements.specs.declared.tree.Block.{Block}
use Rattle.source_statements.specs.View as statements
use Rattle.clike_operators.specs.declared.trees.Prefix.{Prefix}
use Rattle.clike_operators.specs.declared.trees.Joint.{Joint}
use Rattle.clike_operators.specs.Pure.{PureExpression}
use Rattle.clike_lang.specs.Pure.{PureSimple, assign, input, malloc, call, free, store, PureBlock, PureFunction, PureSource}
use Rattle.clike_lang.specs.declared.tree.SimpleStatement.{SimpleStatement}

abbrev pub expression_view : Expression Prefix Joint → PureExpression
expression_view = operators.expression_view

abbrev pub simple_view : SimpleStatement → PureSimple
simple_view (SimpleStatement.Assign x e) = assign x (expression_view e)
simple_view (SimpleStatement.Input x) = input x
simple_view (SimpleStatement.Malloc x e) = malloc x (expression_view e)
simple_view (SimpleStatement.Call x f es) = call x f (map expression_view es)
simple_view (SimpleStatement.Free e) = free (expression_view e)
simple_view (SimpleStatement.Store a b c) = store (expression_view a) (expression_view b) (expression_view c)

abbrev pub block_view : Block (Expression Prefix Joint) SimpleStatement → PureBlock
block_view b = statements.block_view expression_view simple_view b

abbrev pub function_view : Function (Block (Expression Prefix Joint) SimpleStatement) → PureFunction
function_view f = trees.function_view block_view f

abbrev pub source_parts_view : SourceParts (Function (Block (Expression Prefix Joint) SimpleStatement)) → PureSource
source_parts_view s = trees.source_parts_view function_view s
