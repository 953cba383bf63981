use Rattle.std.proofs.Common.{take}
use Rattle.gil_syntax.specs.View.{assertion_view}
use Rattle.std.proofs.Common.{map}
use Rattle.pure_terms.specs.View.{atoms_view}
use Rattle.sym_evaluation.specs.View.{store_view}
use Rattle.sym_states.specs.View.{state_view}
use Rattle.sym_unfolding.specs.Adding.{AddsCases}
use Rattle.sym_unfolding.specs.View.{cases_view}
use Rattle.sym_unfolding.proofs.adding.add_cases.Given as goal

abbrev pub invariant-loop-number : goal.invariant-loop-number
invariant-loop-number g l =
    AddsCases g.M.Local.LocalMemory.memory g.M.SymMemory.stands g.M.SymMemory.terms g.M.SymMemory.kept l.scope (store_view l.store) (atoms_view l.conds) (map assertion_view (take l.number l.bodies)) (state_view l.state) (cases_view l.cases)
