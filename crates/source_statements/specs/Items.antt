-- The statements of a block as a list.
use Rattle.std.specs.Prelude.{List}
use Rattle.source_statements.specs.declared.tree.Block.{Block, out-Block}
use Rattle.source_statements.specs.declared.tree.PlacedStatement.{PlacedStatement}

abbrev pub statements : {E S : Type 0} → Block E S → List (PlacedStatement E S)
statements {E} {S} b = (out-Block E S b).items.items
