use Rattle.pure_terms.specs.View.{atoms_view}
use Rattle.sym_model.specs.View.{path_view}
use Rattle.sym_states.specs.View.{state_view}
use Rattle.sym_unfolding.proofs.AddLaws.{over_first}
use Rattle.sym_unfolding.proofs.adding.add_over.Goals as goal

pub returns : goal.returns
returns g c = record {
  first = record (state_view c.in_ok-next.next) { vars = c.args.named.vars; conds = path_view c.require.new.conds };
  is = over_first (state_view c.args.state.now) (state_view c.in_ok-next.next) c.args.named.vars (path_view c.require.new.conds) (atoms_view c.args.conds.now) c.in_ok-next.ensures.is c.in_ok-require.ensures;
  same_memory = c.in_ok-next.ensures.memory;
  cover = c.in_ok-states.ensures.cover;
  exact = c.in_ok-states.ensures.exact;
  origin = c.in_ok-states.ensures.origin;
  over = c.in_ok-states.ensures.over;
  still_kept = c.in_ok-states.ensures.kept;
}
