use Rattle.std.proofs.Common.{refl, subst}
use Rattle.sym_states.specs.View.{state_view, states_view}
use Rattle.sym_beginning.specs.Starting.{IsFirstState}
use Rattle.sym_beginning.proofs.beginning.begin_with.Goals as goal

pub returns-clause-begins : goal.returns-clause-begins
returns-clause-begins g c = record {
  table = refl;
  args = refl;
  variables = refl;
  first = state_view c.in_ok-state.state;
  is_first = subst (λ vars. IsFirstState g.M.SymMemory.stands g.M.SymMemory.terms g.M.SymMemory.kept vars (state_view c.in_ok-state.state)) c.in_ok-table.ensures c.in_ok-state.ensures;
  states = states_view c.in_ok-states.states;
  cover = c.in_ok-states.ensures.cover;
  exact = c.in_ok-states.ensures.exact;
  origin = c.in_ok-states.ensures.origin;
  over = c.in_ok-states.ensures.over;
  still_kept = c.in_ok-states.ensures.kept c.in_ok-state.ensures.still_kept;
  starts = c.in_ok-starts.ensures;
}

pub returns-clause-plain : goal.returns-clause-plain
returns-clause-plain g c keeps = record {
  args = refl;
  variables = refl;
  first = state_view c.in_ok-state.state;
  is_first = subst (λ vars. IsFirstState g.M.SymMemory.stands g.M.SymMemory.terms g.M.SymMemory.kept vars (state_view c.in_ok-state.state)) c.in_ok-table.ensures c.in_ok-state.ensures;
  states = states_view c.in_ok-states.states;
  origin = c.in_ok-states.ensures.origin;
  plain = c.in_ok-states.ensures.plain keeps;
  starts = c.in_ok-starts.ensures;
}
