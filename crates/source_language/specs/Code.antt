-- Commands as pure data, and jumps.
use Rattle.std.specs.Prelude.{ℕ, pos, List, map, true}
use Rattle.gil_values.specs.Pure.{boolean}
use Rattle.gil_syntax.specs.declared.commands.NumberedCommand.{NumberedCommand}
use Rattle.gil_syntax.specs.Pure.{PureExpr, literal, ifgoto, PureNumberedCommand}
use Rattle.gil_syntax.specs.View.{numbered_command_view}
use Rattle.source_language.specs.Procedures.{placed}

abbrev pub code_view : List NumberedCommand → List PureNumberedCommand
code_view code = map numbered_command_view code

abbrev pub truth : PureExpr
truth = literal (boolean true)

-- a jump to a label where the expression is true
abbrev pub jump : ℕ → PureExpr → ℕ → PureNumberedCommand
jump at e label = placed at (ifgoto e (pos label))
