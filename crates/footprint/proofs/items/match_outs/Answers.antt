use Rattle.gil_syntax.specs.View.{exprs_view}
use Rattle.pure_terms.specs.View.{terms_view}
use Rattle.sym_evaluation.specs.View.{store_view}
use Rattle.sym_matching.specs.View.{stores_view}
use Rattle.sym_states.specs.View.{state_view}
use Rattle.sym_states.proofs.Values.{ok_to}
use Rattle.footprint.specs.Items.{SpreadsValues}
use Rattle.footprint.specs.View.{leaves_view}
use Rattle.footprint.proofs.items.match_outs.Goals as goal

pub returns : goal.returns
returns g c =
    ok_to c.spread_split.result _ (λ r. SpreadsValues c.args.number c.args.scope.now (exprs_view c.args.outs.now) (store_view c.args.store.now) (state_view c.args.state) (terms_view c.args.terms.now) (leaves_view r))
    (λ r is. (stores_view c.in_ok-split.split, (c.in_ok-split.ensures.says, c.in_ok-split.ensures.names, c.in_ok-split.ensures.plain, c.in_ok-split.ensures.origin, is))) c.spread_split.ensures
