use Rattle.gil_syntax.specs.View.{item_view}
use Rattle.sym_evaluation.specs.View.{store_view}
use Rattle.sym_states.specs.Producing.{AddsToEach}
use Rattle.sym_states.specs.View.{states_view, production_view}
use Rattle.sym_states.proofs.producing.add_to_each.Given as goal

abbrev pub invariant-loop-state : goal.invariant-loop-state
invariant-loop-state g l =
    AddsToEach g.M.Local.LocalMemory.memory g.M.SymMemory.stands g.M.SymMemory.terms g.M.SymMemory.kept g.M.SymMemory.keeps_plain g.M.SymMemory.keeps_narrow (store_view l.store) (item_view l.item) (states_view l.yielded) (production_view l.production)
