use Rattle.std.proofs.Common.{take}
use Rattle.sym_model.specs.Alternatives.{alternatives_view}
use Rattle.sym_states.specs.View.{state_view, states_view}
use Rattle.footprint.specs.Uses.{AreCopiesUnder}
use Rattle.footprint.proofs.uses.copies_under.Given as goal

abbrev pub invariant-loop-conds : goal.invariant-loop-conds
invariant-loop-conds g l =
    AreCopiesUnder g.M.SymMemory.stands g.M.SymMemory.terms g.M.SymMemory.kept (state_view l.state) (alternatives_view (take l.conds-index l.conds-items)) (states_view l.copies)
