use Rattle.std.proofs.Common.{◌≡◌, take, map}
use Rattle.sym_states.specs.View.{fact_view}
use Rattle.checked_paths.proofs.checking.copy_facts.Given as goal

abbrev pub invariant-loop-fact : goal.invariant-loop-fact
invariant-loop-fact l = map fact_view l.copied ≡ map fact_view (take l.fact-index l.fact-items)
