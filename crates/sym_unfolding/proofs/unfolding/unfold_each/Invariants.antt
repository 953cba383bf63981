use Rattle.std.proofs.Common.{◌≡◌, List, length, map, take}
use Rattle.gil_syntax.specs.View.{pred_def_view}
use Rattle.pure_terms.specs.Pure.{PureTerm}
use Rattle.sym_states.specs.View.{state_view}
use Rattle.sym_unfolding.specs.Answering.{UnfoldsEach}
use Rattle.sym_unfolding.specs.View.{cases_view, found_view}
use Rattle.sym_unfolding.proofs.unfolding.unfold_each.Given as goal

abbrev pub invariant-loop-one : goal.invariant-loop-one
invariant-loop-one g l =
    (ins outs : List PureTerm) → length ins ≡ length (pred_def_view l.pred).ins → length outs ≡ length (pred_def_view l.pred).outs
    → UnfoldsEach g.M.Local.LocalMemory.memory g.M.SymMemory.stands g.M.SymMemory.terms g.M.SymMemory.kept (pred_def_view l.pred) ins outs (state_view l.state) (map found_view (take l.one-index l.one-items)) (cases_view l.cases)
