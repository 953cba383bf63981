use Rattle.std.proofs.Common.{◌≡◌, ◌++◌}
use Rattle.source_language.specs.Code.{code_view}
use Rattle.source_language.proofs.pieces.append.Given as goal

abbrev pub invariant-loop-command : goal.invariant-loop-command
invariant-loop-command l = code_view l.commands ≡ code_view l.fn.commands ++ code_view l.yielded
