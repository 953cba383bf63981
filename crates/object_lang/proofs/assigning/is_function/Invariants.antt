use Rattle.std.proofs.Common.{◌≡◌, map, drop}
use Rattle.object_lang.specs.Resolved as resolved
use Rattle.object_lang.specs.View.{function_view}
use Rattle.object_lang.proofs.assigning.is_function.Given as goal

abbrev pub invariant-loop-function : goal.invariant-loop-function
invariant-loop-function l = resolved.is_function (map function_view l.functions) l.name ≡ resolved.is_function (map function_view (drop l.function-index l.functions)) l.name
