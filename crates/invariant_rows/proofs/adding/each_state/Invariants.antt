use Rattle.std.proofs.Common.{◌≡◌, ◌++◌, length}
use Rattle.std.specs.Vec.Iter.{into_iter_len, into_iter_items}
use Rattle.sym_states.specs.View.{states_view}
use Rattle.checked_paths.specs.Meaning.{EachWith}
use Rattle.checked_paths.specs.View.{checking_view, nexts_view}
use Rattle.checked_rows.specs.Asked.{HasConds}
use Rattle.invariant_rows.specs.Entering.{IsAdditionAnswered}
use Rattle.invariant_rows.proofs.adding.each_state.Given as goal

abbrev pub invariant-loop-state : goal.invariant-loop-state
invariant-loop-state g l = record {
  counted : into_iter_len l.state-iterator ≡ length (into_iter_items l.state-iterator);
  rest : l.fn.states ≡ l.yielded ++ into_iter_items l.state-iterator;
  answered : EachWith (IsAdditionAnswered g.M.SymMemory.stands g.M.SymMemory.terms l.here (checking_view l.checking)) (states_view l.yielded) (nexts_view l.nexts);
  same : EachWith (λ r. HasConds r.conds) (states_view l.yielded) (nexts_view l.nexts);
}
