use Rattle.std.proofs.Common.{◌≡◌, map, take}
use Rattle.solver_rules.specs.Laws.{at_atom}
use Rattle.solver_next.proofs.numbers.at_atoms.Given as goal

abbrev pub invariant-loop-factor : goal.invariant-loop-factor
invariant-loop-factor l = l.atoms ≡ map (at_atom l.places) (take l.factor-index l.rows)
