use Rattle.std.proofs.Common.{◌≡◌, length, sym, ap, ◌∙◌}
use Rattle.std.specs.List.{list_any}
use Rattle.sym_model.specs.Alternatives.{alternatives_view, is_empty}
use Rattle.sym_model.proofs.Stepping.{found_empty}
use Rattle.sym_model.proofs.combining.is_sure.Goals as goal

pub returns-then-len-eq0 : goal.returns-then-len-eq0
returns-then-len-eq0 c =
    sym (ap (λ items. list_any is_empty (alternatives_view items)) (sym c.as_slice-conditions-items.ensures)
    ∙ found_empty c.as_slice-conditions-items.result.now c.loop-conditions.conditions-index c.conditions-item.result c.loop-conditions-test.true c.conditions-item.is (sym c.len.ensures ∙ c.if-len-eq0.true))
