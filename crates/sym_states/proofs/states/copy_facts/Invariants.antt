use Rattle.std.proofs.Common.{◌≡◌, take}
use Rattle.sym_states.specs.View.{facts_view}
use Rattle.sym_states.proofs.states.copy_facts.Given as goal

abbrev pub invariant-loop-fact : goal.invariant-loop-fact
invariant-loop-fact l = facts_view l.copied ≡ facts_view (take l.fact-index l.fact-items)
