-- The pure data of statements, where that of expressions is seen by e and that of simple statements by s.
use Rattle.std.specs.Prelude.{List}
use Rattle.source_language.specs.View.{logic_view, invariants_view}
use Rattle.source_statements.specs.Pure.{PureStatement, simple, assert, assume, if_else, while, return, logic, try_catch, PureBlock, PurePlacedStatement, from_placed}
use Rattle.source_statements.specs.declared.tree.Statement.{Statement, fold-Statement}
use Rattle.source_statements.specs.declared.tree.Block.{Block, fold-Block}
use Rattle.source_statements.specs.declared.tree.PlacedStatement.{PlacedStatement, fold-PlacedStatement}
use Rattle.source_statements.specs.declared.tree.Statement.TheOpen.{Statement-F, PlacedStatement-F, Block-F}

module _ {E S PE PS : Type 0} (e : E → PE) (s : S → PS) where
  -- one level of a statement, with each block already seen as its pure data
  abbrev pub statement_step : Statement-F E S (PureStatement PE PS) (List (PurePlacedStatement PE PS)) (PurePlacedStatement PE PS) → PureStatement PE PS
  statement_step (Statement-F.Simple x) = simple (s x)
  statement_step (Statement-F.Assert x) = assert (e x)
  statement_step (Statement-F.Assume x) = assume (e x)
  statement_step (Statement-F.If x body other) = if_else (e x) (from_placed body) (from_placed other)
  statement_step (Statement-F.While x invariant body) = while (e x) (invariants_view invariant) (from_placed body)
  statement_step (Statement-F.Return x) = return (e x)
  statement_step (Statement-F.Logic c) = logic (logic_view c)
  statement_step (Statement-F.Try body name handler) = try_catch (from_placed body) name (from_placed handler)

  abbrev pub placed_step : PlacedStatement-F E S (PureStatement PE PS) (List (PurePlacedStatement PE PS)) (PurePlacedStatement PE PS) → PurePlacedStatement PE PS
  placed_step p = record { at = p.at; statement = p.statement }

  abbrev pub placed_statements_step : Block-F E S (PureStatement PE PS) (List (PurePlacedStatement PE PS)) (PurePlacedStatement PE PS) → List (PurePlacedStatement PE PS)
  placed_statements_step b = b.items.items

  abbrev pub statement_view : Statement E S → PureStatement PE PS
  statement_view = fold-Statement E S (PureStatement PE PS) (List (PurePlacedStatement PE PS)) (PurePlacedStatement PE PS) statement_step placed_statements_step placed_step

  abbrev pub placed_view : PlacedStatement E S → PurePlacedStatement PE PS
  placed_view = fold-PlacedStatement E S (PureStatement PE PS) (List (PurePlacedStatement PE PS)) (PurePlacedStatement PE PS) statement_step placed_statements_step placed_step

  -- the statements of a block as a list
  abbrev pub placed_statements_view : Block E S → List (PurePlacedStatement PE PS)
  placed_statements_view = fold-Block E S (PureStatement PE PS) (List (PurePlacedStatement PE PS)) (PurePlacedStatement PE PS) statement_step placed_statements_step placed_step

  abbrev pub block_view : Block E S → PureBlock PE PS
  block_view b = from_placed (placed_statements_view b)
