use Rattle.std.proofs.Common.{◌≡◌, ◌+◌, [], ◌∷◌, ◌++◌, length, sym, ap, subst, ◌∙◌, arith}
use Rattle.std.proofs.lemmas.List.{map-append}
use Rattle.std.specs.Vec.Iter.{into_iter_items}
use Rattle.pure_terms.specs.Meaning.{AreOver}
use Rattle.footprint.specs.Answers.{TellsStops}
use Rattle.footprint.specs.View.{stop_view, stops_view, told_view}
use Rattle.footprint.proofs.AnswerLaws.{tells_more}
use Rattle.footprint.proofs.Loops.{taken_more, taken_has}
use Rattle.footprint.proofs.answering.tell_stops.Goals as goal

pub tell-requires : goal.tell-requires
tell-requires g c =
    taken_has (λ x. AreOver c.args.vars.now x.conds) stop_view c.args.stops c.loop-stop.yielded (into_iter_items c.loop-stop.stop-iterator) (into_iter_items c.next.new.self) c.in-Some.stop c.loop-stop.invariant.rest c.in-Some.ensures.steps.0 c.requires

pub loop-stop-preserved : goal.loop-stop-preserved
loop-stop-preserved g c =
    let vars = c.args.vars.now in
    let before = stops_view c.loop-stop.yielded in
    let stop = stop_view c.in-Some.stop in
    let longer : length (into_iter_items c.loop-stop.stop-iterator) ≡ length (into_iter_items c.next.new.self) + 1 = ap length c.in-Some.ensures.steps.0 ∙ omega arith in
    record {
      counted = omega (arith, longer, c.in-Some.ensures.steps.1, c.loop-stop.invariant.counted);
      rest = taken_more c.args.stops c.loop-stop.yielded (into_iter_items c.loop-stop.stop-iterator) (into_iter_items c.next.new.self) c.in-Some.stop c.loop-stop.invariant.rest c.in-Some.ensures.steps.0;
      tells = subst (λ cs. TellsStops vars cs (told_view c.tell_first-told.result)) (sym (map-append stop_view c.loop-stop.yielded (c.in-Some.stop ∷ [])))
          (subst (TellsStops vars (before ++ stop ∷ [])) (sym c.tell_first-told.ensures)
          (tells_more vars before (stop ∷ []) (told_view c.loop-stop.told) (told_view c.in_ok-next.next) c.loop-stop.invariant.tells c.in_ok-next.ensures));
    }
