use Rattle.std.proofs.Common.{arith}
use Rattle.pure_terms.specs.View.{term_view}
use Rattle.record_heap.proofs.Distinct.{no_text-here, text_again, still_distinct, texts_more}
use Rattle.record_sym.specs.LiteralNames.{name_value}
use Rattle.record_sym.proofs.distinct.are_distinct_literals.Goals as goal

pub returns-in_default : goal.returns-in_default
returns-in_default c = no_text-here (λ t. name_value (term_view t)) c.args.names.now c.loop-term.term-index c.term-item.result (omega arith) c.term-item.is c.in_default.ensures

pub returns-then-not-branch : goal.returns-then-not-branch
returns-then-not-branch c = text_again (λ t. name_value (term_view t)) c.args.names.now c.loop-term.term-index c.term-item.result (omega arith) c.term-item.is c.in-Some.name c.loop-term.before c.in_ok-insert.field-0 c.in-Some.ensures c.in_ok-insert.ensures.added c.loop-term.invariant.before c.if-not-branch.true

pub loop-term-preserved : goal.loop-term-preserved
loop-term-preserved c = record {
  before = texts_more (λ t. name_value (term_view t)) c.args.names.now c.loop-term.term-index c.term-item.result (omega arith) c.term-item.is c.in-Some.name c.loop-term.before c.in_ok-insert.field-0 c.in-Some.ensures c.in_ok-insert.ensures.added c.loop-term.invariant.before c.insert.new.self c.in_ok-insert.ensures.updates;
  distinct = still_distinct (λ t. name_value (term_view t)) c.args.names.now c.loop-term.term-index c.term-item.result (omega arith) c.term-item.is c.in-Some.name c.loop-term.before c.in_ok-insert.field-0 c.in-Some.ensures c.in_ok-insert.ensures.added c.loop-term.invariant.before c.if-not-branch.false c.loop-term.invariant.distinct;
}
