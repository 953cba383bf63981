use Rattle.std.proofs.Common.{◌≡◌, ◌++◌, map, take}
use Rattle.sym_states.specs.View.{fact_view, facts_view}
use Rattle.sym_unfolding.proofs.taking.copy_facts.Given as goal

abbrev pub invariant-loop-fact : goal.invariant-loop-fact
invariant-loop-fact l = facts_view l.copied ≡ facts_view l.fn.before ++ map fact_view (take l.fact-index l.facts)
