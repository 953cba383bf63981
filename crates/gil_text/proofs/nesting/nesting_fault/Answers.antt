use Rattle.std.proofs.Common.{sym, ◌∙◌, arith}
use Rattle.gil_text.proofs.NestingLoop.{counted_more, counted_too_many}
use Rattle.gil_text.proofs.nesting.nesting_fault.Goals as goal

pub returns-then-count-gt-MOST_OPEN-clause-some : goal.returns-then-count-gt-MOST_OPEN-clause-some
returns-then-count-gt-MOST_OPEN-clause-some c =
    rw c.left.ensures
    (counted_too_many c.args.cursor c.loop-form.count c.open_by-count.result c.in-Some.form c.loop-form.rest (sym c.first.ensures ∙ c.in-Some.is) c.open_by-count.ensures
    (omega (arith, c.if-count-gt-MOST_OPEN.true)) c.loop-form.invariant)

pub loop-form-preserved : goal.loop-form-preserved
loop-form-preserved c =
    rw c.behind-rest.ensures
    (counted_more c.args.cursor c.loop-form.count c.open_by-count.result c.in-Some.form c.loop-form.rest (sym c.first.ensures ∙ c.in-Some.is) c.open_by-count.ensures
    (omega (arith, c.if-count-gt-MOST_OPEN.false)) c.loop-form.invariant)
