use Rattle.std.proofs.Common.{◌≡◌, map, take}
use Rattle.gil_syntax.specs.View.{proc_view}
use Rattle.while_lang.specs.View.{function_view}
use Rattle.while_compiler.specs.Compiled.{compiled_function}
use Rattle.while_compiler.proofs.programs.procedures_of.Given as goal

abbrev pub invariant-loop-function : goal.invariant-loop-function
invariant-loop-function l = map proc_view l.procs ≡ map compiled_function (map function_view (take l.function-index l.functions))
