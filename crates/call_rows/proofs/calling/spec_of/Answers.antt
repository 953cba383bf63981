use Rattle.std.proofs.Common.{◌+◌, map, drop, cond, Some, sym, ap, ◌∙◌}
use Rattle.gil_syntax.specs.Programs.{find_spec}
use Rattle.gil_syntax.specs.View.{spec_view}
use Rattle.assert_logic.proofs.LoopLemmas.{spec_next, spec_none}
use Rattle.call_rows.proofs.calling.spec_of.Goals as goal

pub returns-then-eq : goal.returns-then-eq
returns-then-eq c =
    sym (ap (λ ss. find_spec (map spec_view ss) c.args.name.now) (sym c.as_slice-spec-items.ensures)
    ∙ spec_next c.args.name.now c.as_slice-spec-items.result.now c.loop-spec.spec-index c.spec-item.result c.loop-spec-test.true c.spec-item.is c.loop-spec.invariant
    ∙ ap (λ b. cond b (Some (spec_view c.spec-item.result)) (find_spec (map spec_view (drop (c.loop-spec.spec-index + 1) c.as_slice-spec-items.result.now)) c.args.name.now)) (sym c.eq.ensures ∙ c.if-eq.true))

pub loop-spec-preserved : goal.loop-spec-preserved
loop-spec-preserved c =
    spec_next c.args.name.now c.as_slice-spec-items.result.now c.loop-spec.spec-index c.spec-item.result c.loop-spec-test.true c.spec-item.is c.loop-spec.invariant
    ∙ ap (λ b. cond b (Some (spec_view c.spec-item.result)) (find_spec (map spec_view (drop (c.loop-spec.spec-index + 1) c.as_slice-spec-items.result.now)) c.args.name.now)) (sym c.eq.ensures ∙ c.if-eq.false)

pub returns : goal.returns
returns c =
    sym (ap (λ ss. find_spec (map spec_view ss) c.args.name.now) (sym c.as_slice-spec-items.ensures)
    ∙ spec_none c.args.name.now c.as_slice-spec-items.result.now c.loop-spec.spec-index c.loop-spec-test.false c.loop-spec.invariant)
