use Rattle.std.proofs.Common.{◌≡◌, map, take}
use Rattle.object_lang.specs.Resolved.{resolved_function}
use Rattle.object_lang.specs.View.{function_view}
use Rattle.object_lang.proofs.resolving.resolved_functions.Given as goal

abbrev pub invariant-loop-function : goal.invariant-loop-function
invariant-loop-function l = map function_view l.list
    ≡ map (resolved_function (map function_view l.functions)) (map function_view (take l.function-index l.functions))
