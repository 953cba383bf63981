-- Whether an expression names only what a source text can name: no name has a '$'.
use Rattle.std.specs.Prelude.{Bool, true, ◌&&◌}
use Rattle.source_language.specs.Names.{is_source_name}
use Rattle.source_operators.specs.Pure.{PureExpression, constant, variable, brackets, prefixed, joined, skipping}

module _ {P J : Type 0} where
  abbrev pub is_source_expression : PureExpression P J → Bool
  is_source_expression (constant v) = true
  is_source_expression (variable x) = is_source_name x
  is_source_expression (brackets e) = is_source_expression e
  is_source_expression (prefixed u e) = is_source_expression e
  is_source_expression (joined j d e) = is_source_expression d && is_source_expression e
  is_source_expression (skipping c d e) = is_source_expression d && is_source_expression e
