use Rattle.std.specs.Prelude.{codes}
use Rattle.json_parts.specs.Lines.{head_of}
use Rattle.json_parts.proofs.Followed.{differs}
use Rattle.json_parts.proofs.lines.push_head_of.Goals as goal

pub returns-in-check : goal.returns-in-check
unfolding head_of
returns-in-check c = rw c.in-check.is c.push_line.ensures

pub returns-in-solve : goal.returns-in-solve
unfolding head_of
returns-in-solve c = rw c.in-solve.is c.push_line-in-solve.ensures

pub returns-in-sweep : goal.returns-in-sweep
unfolding head_of
returns-in-sweep c = rw c.in-sweep.is c.push_line-in-sweep.ensures

pub returns-in_default : goal.returns-in_default
unfolding head_of
returns-in_default c =
    rw (differs (codes "check") c.args.mode.now c.in_default.not-check, differs (codes "solve") c.args.mode.now c.in_default.not-solve, differs (codes "sweep") c.args.mode.now c.in_default.not-sweep)
    c.push_line-in_default.ensures
