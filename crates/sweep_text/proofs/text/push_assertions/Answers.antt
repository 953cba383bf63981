use Rattle.std.proofs.Common.{◌≡◌, ◌+◌, ◌-◌, ◌++◌, string_bytes, arith, ap, ◌∙◌}
use Rattle.std.specs.List.{flat_map, range_with_len}
use Rattle.sweep_text.specs.Made.{assertion_lines}
use Rattle.sweep_text.proofs.Ranges.{one_more}
use Rattle.sweep_text.proofs.text.push_assertions.Goals as goal

pub loop-number-preserved : goal.loop-number-preserved
loop-number-preserved c =
    let first = c.args.first in
    let number = c.loop-number.number in
    let at : first + (number - first) ≡ number = omega (arith, c.loop-number.auto.number) in
    let len : number - first + 1 ≡ number + 1 - first = omega (arith, c.loop-number.auto.number) in
    c.in_ok-push_assertion.ensures ∙ ap (λ bytes. bytes ++ assertion_lines number) c.loop-number.invariant
    ∙ one_more assertion_lines _ first (number - first) number at
    ∙ ap (λ n. string_bytes c.args.out.now ++ flat_map assertion_lines (range_with_len first n)) len
