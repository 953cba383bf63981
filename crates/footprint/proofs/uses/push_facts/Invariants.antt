use Rattle.std.proofs.Common.{◌≡◌, ◌++◌, take}
use Rattle.sym_states.specs.View.{facts_view}
use Rattle.footprint.proofs.uses.push_facts.Given as goal

abbrev pub invariant-loop-fact : goal.invariant-loop-fact
invariant-loop-fact l = facts_view l.facts ≡ facts_view l.fn.facts ++ facts_view (take l.fact-index l.more)
