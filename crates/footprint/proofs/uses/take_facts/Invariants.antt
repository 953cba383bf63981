use Rattle.std.proofs.Common.{take}
use Rattle.gil_syntax.specs.View.{exprs_view}
use Rattle.sym_evaluation.specs.View.{store_view}
use Rattle.sym_states.specs.View.{state_view}
use Rattle.footprint.specs.Spreading.{Gathers}
use Rattle.footprint.specs.Uses.{TakesFact}
use Rattle.footprint.specs.View.{fact_cases_view, leaves_view}
use Rattle.footprint.proofs.uses.take_facts.Given as goal

abbrev pub invariant-loop-case : goal.invariant-loop-case
invariant-loop-case g l =
    Gathers (TakesFact g.M.SymMemory.stands g.M.SymMemory.terms g.M.SymMemory.kept l.number l.scope (exprs_view l.outs) (store_view l.store) (state_view l.state)) (fact_cases_view (take l.case-index l.case-items)) (leaves_view l.leaves)
