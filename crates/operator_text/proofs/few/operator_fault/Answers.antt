use Rattle.std.proofs.Common.{sym, ◌∙◌, arith}
use Rattle.operator_text.proofs.CountingLoop.{counted_more, counted_too_many}
use Rattle.operator_text.proofs.few.operator_fault.Goals as goal

pub returns-then-count-gt-MOST_OPERATORS-clause-some : goal.returns-then-count-gt-MOST_OPERATORS-clause-some
returns-then-count-gt-MOST_OPERATORS-clause-some c =
    rw c.left.ensures
    (counted_too_many c.args.cursor c.loop-form.count c.operators_by-count.result c.in-Some.form c.loop-form.rest (sym c.first.ensures ∙ c.in-Some.is) c.operators_by-count.ensures
    (omega (arith, c.if-count-gt-MOST_OPERATORS.true)) c.loop-form.invariant)

pub loop-form-preserved : goal.loop-form-preserved
loop-form-preserved c =
    rw c.behind-rest.ensures
    (counted_more c.args.cursor c.loop-form.count c.operators_by-count.result c.in-Some.form c.loop-form.rest (sym c.first.ensures ∙ c.in-Some.is) c.operators_by-count.ensures
    (omega (arith, c.if-count-gt-MOST_OPERATORS.false)) c.loop-form.invariant)
