use Rattle.gil_report.proofs.head_lines.push_head.Goals as goal

pub returns-in-Sweep : goal.returns-in-Sweep
returns-in-Sweep c = rw c.in-Sweep.is (rw c.from.ensures at c.push_counted.ensures)
