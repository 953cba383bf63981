use Rattle.std.specs.Prelude.{codes}
use Rattle.json_parts.specs.Lines.{answer_of}
use Rattle.json_parts.proofs.Followed.{differs}
use Rattle.json_parts.proofs.lines.push_answer_of.Goals as goal

pub returns-in-returned : goal.returns-in-returned
unfolding answer_of
returns-in-returned c = rw c.in-returned.is c.push_line.ensures

pub returns-in-failed : goal.returns-in-failed
unfolding answer_of
returns-in-failed c = rw c.in-failed.is c.push_line-in-failed.ensures

pub returns-in-vanished : goal.returns-in-vanished
unfolding answer_of
returns-in-vanished c = rw c.in-vanished.is c.push_line-in-vanished.ensures

pub returns-in-cut : goal.returns-in-cut
unfolding answer_of
returns-in-cut c = rw c.in-cut.is c.push_line-in-cut.ensures

pub returns-in-text : goal.returns-in-text
unfolding answer_of
returns-in-text c = rw c.in-text.is c.push_line-in-text.ensures

pub returns-in-text-2 : goal.returns-in-text-2
unfolding answer_of
returns-in-text-2 c = rw c.in-text-2.is c.push_line-in-text-2.ensures

pub returns-in-number : goal.returns-in-number
unfolding answer_of
returns-in-number c = rw c.in-number.is c.push_line-in-number.ensures

pub returns-in_default : goal.returns-in_default
unfolding answer_of
returns-in_default c =
    rw (differs (codes "returned") c.args.kind.now c.in_default.not-returned, differs (codes "failed") c.args.kind.now c.in_default.not-failed, differs (codes "vanished") c.args.kind.now c.in_default.not-vanished, differs (codes "cut") c.args.kind.now c.in_default.not-cut, differs (codes "no-input") c.args.kind.now c.in_default.not-text, differs (codes "bad-input") c.args.kind.now c.in_default.not-text-2, differs (codes "number") c.args.kind.now c.in_default.not-number)
    c.push_verdict_of.ensures
