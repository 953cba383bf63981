use Rattle.std.proofs.Common.{◌≡◌, ◌≤◌, length, Some, slice_get, sym, ap, ◌∙◌, arith}
use Rattle.solver_proof.specs.Lists.{list_view, side_view}
use Rattle.solver_proof.proofs.Growing.{past_end}
use Rattle.solver_proof.proofs.WalkLaws.{walk_more, walk_stops}
use Rattle.solver_proof.proofs.chains.walk.Goals as goal
use Rattle.solver_proof.proofs.chains.walk.Goals.{in-Some+in-Some-step, in-None}

pub returns-in-None-step : goal.returns-in-None-step
returns-in-None-step c =
    let here : slice_get c.args.places.now c.loop-index.index ≡ Some c.in-Some.place.now = sym c.in-Some.ensures in
    sym (walk_stops (list_view c.args.list.now) c.args.places.now c.loop-index.index c.in-Some.place.now (side_view c.args.from) (side_view c.loop-index.at) here c.loop-index.invariant (sym c.in-None-step.ensures))

pub loop-index-preserved : goal.loop-index-preserved
loop-index-preserved c = elim c.match-get.branch [
  | in-Some+in-Some-step w ↦
      (let here : slice_get c.args.places.now c.loop-index.index ≡ Some w.in-Some.place.now = sym w.in-Some.ensures in
      walk_more (list_view c.args.list.now) c.args.places.now c.loop-index.index w.in-Some.place.now (side_view c.args.from) (side_view c.loop-index.at) (side_view c.match-get.at) here c.loop-index.invariant (sym w.in-Some-step.ensures ∙ ap (λ s. Some (side_view s)) (sym w.at-is)))
  | in-None w ↦ absurd (
      let past : length c.args.places.now ≤ c.loop-index.index = past_end c.args.places.now c.loop-index.index (sym w.in-None.ensures) in
      omega (arith, past))
]
