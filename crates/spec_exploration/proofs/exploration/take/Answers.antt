use Rattle.std.proofs.Common.{◌≡◌, ◌+◌, [], ◌∷◌, ◌++◌, length, rules, sym, ap, subst, ◌∙◌, arith}
use Rattle.std.specs.Vec.Iter.{into_iter_items}
use Rattle.std.proofs.lemmas.List.{append-nil, map-append, nil_from_length}
use Rattle.sym_engine.proofs.Settled.{rest_more}
use Rattle.checked_paths.specs.View.{next_view, nexts_view}
use Rattle.spec_exploration.specs.Exploring.{AreTaken, exploration_view}
use Rattle.spec_exploration.proofs.Taking.{taken_none, taken_more}
use Rattle.spec_exploration.proofs.exploration.take.Goals as goal

pub loop-next-init : goal.loop-next-init
loop-next-init g c = record {
  counted = search rules;
  rest = search rules;
  taken = taken_none (exploration_view c.args.exploration);
}

pub loop-next-preserved : goal.loop-next-preserved
loop-next-preserved g c =
    let longer : length (into_iter_items c.loop-next.next-iterator) ≡ length (into_iter_items c.next.new.self) + 1 = ap length c.in-Some.ensures.steps.0 ∙ omega arith in
    record {
      counted = omega (arith, longer, c.in-Some.ensures.steps.1, c.loop-next.invariant.counted);
      rest = rest_more c.args.nexts c.loop-next.yielded (into_iter_items c.loop-next.next-iterator) (into_iter_items c.next.new.self) c.in-Some.next c.loop-next.invariant.rest c.in-Some.ensures.steps.0;
      taken = subst (λ ns. AreTaken (exploration_view c.args.exploration) ns (exploration_view c.in_ok-exploration.exploration)) (sym (map-append next_view c.loop-next.yielded (c.in-Some.next ∷ [])))
          (taken_more (exploration_view c.args.exploration) (exploration_view c.loop-next.exploration) (exploration_view c.in_ok-exploration.exploration) (nexts_view c.loop-next.yielded) (next_view c.in-Some.next ∷ []) c.loop-next.invariant.taken c.in_ok-exploration.ensures);
    }

pub returns : goal.returns
returns g c =
    let none : into_iter_items c.loop-next.next-iterator ≡ [] =
    nil_from_length (into_iter_items c.loop-next.next-iterator) (sym c.loop-next.invariant.counted ∙ c.in-None.ensures.steps.0) in
    subst (λ ns. AreTaken (exploration_view c.args.exploration) (nexts_view ns) (exploration_view c.loop-next.exploration))
    (sym (c.loop-next.invariant.rest ∙ ap (λ xs. c.loop-next.yielded ++ xs) none ∙ append-nil c.loop-next.yielded)) c.loop-next.invariant.taken
