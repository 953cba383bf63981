use Rattle.std.proofs.Common.{◌≡◌, take}
use Rattle.sym_states.specs.View.{facts_view}
use Rattle.invariant_rows.proofs.comparing.are_same_facts.Given as goal

abbrev pub invariant-loop-place : goal.invariant-loop-place
invariant-loop-place l = take l.place (facts_view l.left) ≡ take l.place (facts_view l.right)
