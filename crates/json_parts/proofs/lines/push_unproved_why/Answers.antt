use Rattle.std.specs.Prelude.{codes}
use Rattle.json_parts.specs.Lines.{unproved_why}
use Rattle.json_parts.proofs.Followed.{differs}
use Rattle.json_parts.proofs.lines.push_unproved_why.Goals as goal

pub returns-in-fails : goal.returns-in-fails
unfolding unproved_why
returns-in-fails c = rw c.in-fails.is c.push_line.ensures

pub returns-in-unknown : goal.returns-in-unknown
unfolding unproved_why
returns-in-unknown c = rw c.in-unknown.is c.push_unproved_question.ensures

pub returns-in-depends : goal.returns-in-depends
unfolding unproved_why
returns-in-depends c = rw c.in-depends.is c.push_line-in-depends.ensures

pub returns-in_default : goal.returns-in_default
unfolding unproved_why
returns-in_default c =
    rw (differs (codes "fails") c.args.why.now c.in_default.not-fails, differs (codes "unknown") c.args.why.now c.in_default.not-unknown, differs (codes "depends") c.args.why.now c.in_default.not-depends)
    c.push_line-in_default.ensures
