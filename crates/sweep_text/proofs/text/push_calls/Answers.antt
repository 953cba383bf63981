use Rattle.std.proofs.Common.{◌≡◌, ◌+◌, ◌++◌, arith, ap, ◌∙◌}
use Rattle.sweep_text.specs.Made.{call_line}
use Rattle.sweep_text.proofs.Ranges.{one_more}
use Rattle.sweep_text.proofs.text.push_calls.Goals as goal

pub loop-function-preserved : goal.loop-function-preserved
loop-function-preserved c =
    let at : 0 + c.loop-function.function ≡ c.loop-function.function = omega arith in
    c.in_ok-push_call.ensures ∙ ap (λ bytes. bytes ++ call_line c.loop-function.function) c.loop-function.invariant
    ∙ one_more call_line _ 0 c.loop-function.function c.loop-function.function at
