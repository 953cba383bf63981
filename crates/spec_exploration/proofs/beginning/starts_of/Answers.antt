use Rattle.std.proofs.Common.{rules, ◌≡◌, ◌+◌, [], ◌∷◌, ◌++◌, length, sym, ap, subst, ◌∙◌, arith}
use Rattle.std.specs.Vec.Iter.{into_iter_items}
use Rattle.std.proofs.lemmas.List.{append-nil, map-append, nil_from_length}
use Rattle.sym_beginning.specs.View.{start_view, starts_view}
use Rattle.sym_engine.proofs.Settled.{rest_more, over_next}
use Rattle.checked_paths.specs.View.{next_view, nexts_view}
use Rattle.checked_paths.proofs.Lists.{with_last}
use Rattle.spec_exploration.specs.Beginning.{AreStartsOf, IsStartOf, IsStartOver}
use Rattle.spec_exploration.proofs.beginning.starts_of.Goals as goal

pub loop-started-init : goal.loop-started-init
loop-started-init g c = record {
  counted = search rules;
  rest = search rules;
  answered = subst (AreStartsOf c.args.here.now []) (sym (ap nexts_view c.new-nexts.ensures)) tt;
}

pub start_of-requires : goal.start_of-requires
start_of-requires g c =
    over_next IsStartOver start_view c.args.starts c.loop-started.yielded (into_iter_items c.loop-started.started-iterator) (into_iter_items c.next.new.self)
    c.in-Some.started c.loop-started.invariant.rest c.in-Some.ensures.steps.0 c.requires

pub loop-started-preserved : goal.loop-started-preserved
loop-started-preserved g c =
    let here = c.args.here.now in
    let n = c.in_ok-start_of.field-0 in
    let longer : length (into_iter_items c.loop-started.started-iterator) ≡ length (into_iter_items c.next.new.self) + 1 = ap length c.in-Some.ensures.steps.0 ∙ omega arith in
    let seen = map-append start_view c.loop-started.yielded (c.in-Some.started ∷ []) in
    let pushed = ap nexts_view c.in_ok-push.ensures.ok ∙ map-append next_view c.loop-started.nexts (n ∷ []) in
    record {
      counted = omega (arith, longer, c.in-Some.ensures.steps.1, c.loop-started.invariant.counted);
      rest = rest_more c.args.starts c.loop-started.yielded (into_iter_items c.loop-started.started-iterator) (into_iter_items c.next.new.self) c.in-Some.started c.loop-started.invariant.rest c.in-Some.ensures.steps.0;
      answered = subst (λ ss. AreStartsOf here ss (nexts_view c.push.new.self)) (sym seen)
          (subst (AreStartsOf here (starts_view c.loop-started.yielded ++ start_view c.in-Some.started ∷ [])) (sym pushed)
          (with_last (IsStartOf here) (starts_view c.loop-started.yielded) (start_view c.in-Some.started) (nexts_view c.loop-started.nexts) (next_view n) c.loop-started.invariant.answered c.in_ok-start_of.ensures));
    }

pub returns : goal.returns
returns g c =
    let none : into_iter_items c.loop-started.started-iterator ≡ [] =
    nil_from_length (into_iter_items c.loop-started.started-iterator) (sym c.loop-started.invariant.counted ∙ c.in-None.ensures.steps.0) in
    subst (λ ss. AreStartsOf c.args.here.now (starts_view ss) (nexts_view c.loop-started.nexts))
    (sym (c.loop-started.invariant.rest ∙ ap (λ xs. c.loop-started.yielded ++ xs) none ∙ append-nil c.loop-started.yielded)) c.loop-started.invariant.answered
