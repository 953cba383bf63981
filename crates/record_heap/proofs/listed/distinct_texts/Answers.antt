use Rattle.std.proofs.Common.{arith}
use Rattle.gil_values.specs.View.{value_view}
use Rattle.record_heap.proofs.Distinct.{no_text-here, text_again, still_distinct, texts_more}
use Rattle.record_heap.proofs.listed.distinct_texts.Goals as goal

pub returns-in_default : goal.returns-in_default
returns-in_default c = no_text-here value_view c.args.values.now c.loop-value.value-index c.value-item.result (omega arith) c.value-item.is c.in_default.ensures

pub returns-then-not-branch : goal.returns-then-not-branch
returns-then-not-branch c = text_again value_view c.args.values.now c.loop-value.value-index c.value-item.result (omega arith) c.value-item.is c.in-Some.name c.loop-value.before c.in_ok-insert.field-0 c.in-Some.ensures c.in_ok-insert.ensures.added c.loop-value.invariant.before c.if-not-branch.true

pub loop-value-preserved : goal.loop-value-preserved
loop-value-preserved c = record {
  before = texts_more value_view c.args.values.now c.loop-value.value-index c.value-item.result (omega arith) c.value-item.is c.in-Some.name c.loop-value.before c.in_ok-insert.field-0 c.in-Some.ensures c.in_ok-insert.ensures.added c.loop-value.invariant.before c.insert.new.self c.in_ok-insert.ensures.updates;
  distinct = still_distinct value_view c.args.values.now c.loop-value.value-index c.value-item.result (omega arith) c.value-item.is c.in-Some.name c.loop-value.before c.in_ok-insert.field-0 c.in-Some.ensures c.in_ok-insert.ensures.added c.loop-value.invariant.before c.if-not-branch.false c.loop-value.invariant.distinct;
}
