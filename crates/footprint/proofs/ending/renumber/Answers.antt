use Rattle.std.proofs.Common.{[], ◌∷◌, ◌++◌, sym, ap, ◌∙◌}
use Rattle.std.proofs.lemmas.List.{map-append}
use Rattle.footprint.specs.Cases.{at_number, renumbered}
use Rattle.footprint.specs.View.{stop_view, stops_view}
use Rattle.footprint.specs.declared.leaves.Stop.{Stop}
use Rattle.footprint.proofs.ending.renumber.Goals as goal

pub loop-stop-preserved : goal.loop-stop-preserved
loop-stop-preserved c =
    let n = c.args.number in
    let stop = c.in-Some.stop in
    let next : Stop = record { item = n; conds = stop.conds } in
    ap stops_view c.in_ok-push.ensures.ok
    ∙ map-append stop_view c.loop-stop.all (next ∷ [])
    ∙ ap (λ xs. xs ++ stop_view next ∷ []) c.loop-stop.invariant
    ∙ sym (ap (renumbered n) (map-append stop_view c.loop-stop.yielded (stop ∷ [])) ∙ map-append (at_number n) (stops_view c.loop-stop.yielded) (stop_view stop ∷ []))
