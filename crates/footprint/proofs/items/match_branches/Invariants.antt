use Rattle.gil_syntax.specs.View.{exprs_view}
use Rattle.sym_evaluation.specs.View.{store_view}
use Rattle.sym_model.specs.View.{branches_view}
use Rattle.sym_states.specs.View.{state_view}
use Rattle.footprint.specs.Items.{MatchesBranch}
use Rattle.footprint.specs.Spreading.{Gathers}
use Rattle.footprint.specs.View.{leaves_view}
use Rattle.footprint.proofs.items.match_branches.Given as goal

abbrev pub invariant-loop-branch : goal.invariant-loop-branch
invariant-loop-branch g l =
    Gathers (MatchesBranch l.number l.scope (exprs_view l.outs) (store_view l.store) (state_view l.state)) (branches_view l.yielded) (leaves_view l.leaves)
