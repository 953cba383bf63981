use Rattle.std.specs.Prelude.{codes}
use Rattle.json_parts.specs.Lines.{verdict_of}
use Rattle.json_parts.proofs.Followed.{differs}
use Rattle.json_parts.proofs.lines.push_verdict_of.Goals as goal

pub returns-in-clean : goal.returns-in-clean
unfolding verdict_of
returns-in-clean c = rw c.in-clean.is c.push_line.ensures

pub returns-in-bug : goal.returns-in-bug
unfolding verdict_of
returns-in-bug c = rw c.in-bug.is c.push_line-in-bug.ensures

pub returns-in-unknown : goal.returns-in-unknown
unfolding verdict_of
returns-in-unknown c = rw c.in-unknown.is c.push_question.ensures

pub returns-in-sat : goal.returns-in-sat
unfolding verdict_of
returns-in-sat c = rw c.in-sat.is c.push_line-in-sat.ensures

pub returns-in-unsat : goal.returns-in-unsat
unfolding verdict_of
returns-in-unsat c = rw c.in-unsat.is c.push_line-in-unsat.ensures

pub returns-in-text : goal.returns-in-text
unfolding verdict_of
returns-in-text c = rw c.in-text.is c.push_line-in-text.ensures

pub returns-in-bytes : goal.returns-in-bytes
unfolding verdict_of
returns-in-bytes c = rw c.in-bytes.is c.push_line-in-bytes.ensures

pub returns-in_default : goal.returns-in_default
unfolding verdict_of
returns-in_default c =
    rw (differs (codes "clean") c.args.kind.now c.in_default.not-clean, differs (codes "bug") c.args.kind.now c.in_default.not-bug, differs (codes "unknown") c.args.kind.now c.in_default.not-unknown, differs (codes "sat") c.args.kind.now c.in_default.not-sat, differs (codes "unsat") c.args.kind.now c.in_default.not-unsat, differs (codes "unknown-atoms") c.args.kind.now c.in_default.not-text, differs (codes "bytes") c.args.kind.now c.in_default.not-bytes)
    c.push_specification_of.ensures
