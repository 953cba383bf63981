use Rattle.std.proofs.Common.{◌≡◌, ◌+◌, ◌++◌, arith, ap, ◌∙◌}
use Rattle.sweep_text.specs.Made.{function_lines}
use Rattle.sweep_text.proofs.Ranges.{one_more}
use Rattle.sweep_text.proofs.text.push_functions.Goals as goal

pub loop-function-preserved : goal.loop-function-preserved
loop-function-preserved c =
    let at : 0 + c.loop-function.function ≡ c.loop-function.function = omega arith in
    c.in_ok-push_function.ensures ∙ ap (λ bytes. bytes ++ function_lines c.args.size c.loop-function.function) c.loop-function.invariant
    ∙ one_more (function_lines c.args.size) _ 0 c.loop-function.function c.loop-function.function at
