use Rattle.std.proofs.Common.{◌≡◌, ◌++◌, map}
use Rattle.gil_syntax.specs.View.{expr_view}
use Rattle.source_language.specs.Code.{code_view}
use Rattle.source_statements.specs.Codes as codes
use Rattle.source_statements.proofs.control.jumps_to.Given as goal

abbrev pub invariant-loop-condition : goal.invariant-loop-condition
invariant-loop-condition l = code_view l.commands ≡ code_view l.fn.commands ++ codes.jumps_to l.at (map expr_view l.yielded) l.label
