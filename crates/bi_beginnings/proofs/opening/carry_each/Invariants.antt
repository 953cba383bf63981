use Rattle.std.proofs.Common.{◌≡◌, map}
use Rattle.pure_terms.specs.View.{atoms_view}
use Rattle.sym_states.specs.View.{states_view}
use Rattle.bi_beginnings.specs.Opening.{carrying}
use Rattle.bi_beginnings.proofs.opening.carry_each.Given as goal

abbrev pub invariant-loop-state : goal.invariant-loop-state
invariant-loop-state g l = states_view l.carried ≡ map (carrying (atoms_view l.conds)) (states_view l.yielded)
