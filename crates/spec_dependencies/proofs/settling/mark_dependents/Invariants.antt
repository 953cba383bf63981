use Rattle.spec_dependencies.proofs.Rounds.{IsMarkedUntil}
use Rattle.spec_dependencies.proofs.settling.mark_dependents.Given as goal

abbrev pub invariant-loop-place : goal.invariant-loop-place
invariant-loop-place l = IsMarkedUntil l.place l.marked l.fn.entries.items l.entries.items
