use Rattle.std.proofs.Common.{take}
use Rattle.gil_syntax.specs.View.{assertion_view}
use Rattle.sym_evaluation.specs.View.{store_view}
use Rattle.sym_states.specs.View.{state_view, production_view}
use Rattle.sym_states.proofs.Produced.{Produces}
use Rattle.sym_states.proofs.producing.produce_items.Given as goal

abbrev pub invariant-loop-item : goal.invariant-loop-item
invariant-loop-item g l =
    Produces g.M.Local.LocalMemory.memory g.M.SymMemory.stands g.M.SymMemory.terms g.M.SymMemory.kept g.M.SymMemory.keeps_plain g.M.SymMemory.keeps_narrow g.met.M.SymMemory.meaning (store_view l.store) (state_view l.fn.state) (assertion_view (take l.item-index l.item-items)) (production_view l.production)
