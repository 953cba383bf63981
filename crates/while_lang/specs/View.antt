-- The pure data of While programs.
use Rattle.std.specs.Prelude.{List, map}
use Rattle.gil_syntax.specs.View.{expr_view, exprs_view}
use Rattle.source_language.specs.View as trees
use Rattle.source_language.specs.View.{logic_view, invariants_view}
use Rattle.source_language.specs.declared.trees.Function.{Function}
use Rattle.source_language.specs.declared.trees.SourceParts.{SourceParts}
use Rattle.while_lang.specs.Pure.{PureField, PureStatement, assign, input, symbol, new, lookup, call, mutate, dispose, assert, assume, if_else, while, return, fail, logic, PureBlock, PureFunction, PureSource, PurePlacedStatement, from_placed}
use Rattle.while_lang.specs.declared.tree.Field.{Field}
use Rattle.while_lang.specs.declared.tree.Statement.{Statement, fold-Statement}
use Rattle.while_lang.specs.declared.tree.Block.{Block, fold-Block}
use Rattle.while_lang.specs.declared.tree.PlacedStatement.{PlacedStatement, fold-PlacedStatement}
use Rattle.while_lang.specs.declared.tree.Statement.TheOpen.{Statement-F, PlacedStatement-F, Block-F}

abbrev pub field_view : Field → PureField
field_view f = record { name = f.name; value = expr_view f.value }

-- one level of a statement, with each block already seen as its pure data
abbrev pub statement_step : Statement-F PureStatement (List PurePlacedStatement) PurePlacedStatement → PureStatement
statement_step (Statement-F.Assign x e) = assign x (expr_view e)
statement_step (Statement-F.Input x k) = input x k
statement_step (Statement-F.Symbol x) = symbol x
statement_step (Statement-F.New x fields) = new x (map field_view fields)
statement_step (Statement-F.Lookup x y p) = lookup x y p
statement_step (Statement-F.Call x f es) = call x f (exprs_view es)
statement_step (Statement-F.Mutate y p e) = mutate y p (expr_view e)
statement_step (Statement-F.Dispose e) = dispose (expr_view e)
statement_step (Statement-F.Assert e) = assert (expr_view e)
statement_step (Statement-F.Assume e) = assume (expr_view e)
statement_step (Statement-F.If e body other) = if_else (expr_view e) (from_placed body) (from_placed other)
statement_step (Statement-F.While e invariant body) = while (expr_view e) (invariants_view invariant) (from_placed body)
statement_step (Statement-F.Return e) = return (expr_view e)
statement_step (Statement-F.Fail e) = fail (expr_view e)
statement_step (Statement-F.Logic c) = logic (logic_view c)

abbrev pub placed_step : PlacedStatement-F PureStatement (List PurePlacedStatement) PurePlacedStatement → PurePlacedStatement
placed_step p = record { at = p.at; statement = p.statement }

abbrev pub placed_statements_step : Block-F PureStatement (List PurePlacedStatement) PurePlacedStatement → List PurePlacedStatement
placed_statements_step b = b.items.items

abbrev pub statement_view : Statement → PureStatement
statement_view = fold-Statement PureStatement
    (List PurePlacedStatement) PurePlacedStatement statement_step placed_statements_step placed_step

abbrev pub placed_view : PlacedStatement → PurePlacedStatement
placed_view = fold-PlacedStatement PureStatement
    (List PurePlacedStatement) PurePlacedStatement statement_step placed_statements_step placed_step

-- the statements of a block as a list
abbrev pub placed_statements_view : Block → List PurePlacedStatement
placed_statements_view = fold-Block PureStatement
    (List PurePlacedStatement) PurePlacedStatement statement_step placed_statements_step placed_step

abbrev pub block_view : Block → PureBlock
block_view b = from_placed (placed_statements_view b)

abbrev pub function_view : Function Block → PureFunction
function_view f = trees.function_view block_view f

abbrev pub source_parts_view : SourceParts (Function Block) → PureSource
source_parts_view s = trees.source_parts_view function_view s
