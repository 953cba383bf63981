use Rattle.sym_states.specs.View.{states_view, production_view}
use Rattle.sym_states.proofs.producing.add_next.Goals as goal

pub returns : goal.returns
returns g c =
    (production_view c.in_ok-next.next, (c.in_ok-next.ensures, λ i. record { whole = states_view c.in_ok-next.next.whole; stopped = c.in_ok-stopped.ensures i }))
