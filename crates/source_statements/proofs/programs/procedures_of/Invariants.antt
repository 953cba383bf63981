use Rattle.std.proofs.Common.{◌≡◌, map, take}
use Rattle.gil_syntax.specs.View.{proc_view}
use Rattle.source_language.specs.View.{function_view}
use Rattle.source_statements.specs.Compiled.{compiled_function}
use Rattle.source_statements.specs.View.{block_view}
use Rattle.source_statements.proofs.programs.procedures_of.Given as goal

abbrev pub invariant-loop-function : goal.invariant-loop-function
invariant-loop-function g l = map proc_view l.procs ≡ map (compiled_function g.L.Language.codes)
    (map (function_view (block_view g.L.Language.expression_view g.L.Language.simple_view)) (take l.function-index l.functions))
