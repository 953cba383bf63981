use Rattle.std.proofs.Common.{rules, ◌≡◌, ◌+◌, [], ◌∷◌, ◌++◌, length, ap, sym, subst, ◌∙◌, arith}
use Rattle.std.specs.Option.{option_map}
use Rattle.std.specs.Vec.Iter.{into_iter_items}
use Rattle.std.proofs.lemmas.List.{append-nil, map-append, nil_from_length}
use Rattle.pure_terms.specs.Meaning.{AreOver}
use Rattle.sym_engine.specs.View.{candidate_view, candidates_view}
use Rattle.sym_engine.proofs.Settled.{SettledSoFar, Settles, one_kept, one_dropped, rest_more, over_next}
use Rattle.sym_engine.proofs.settling.settle.Goals as goal
use Rattle.sym_paths.specs.View.{path_view, paths_view}

pub loop-candidate-init : goal.loop-candidate-init
loop-candidate-init g c = record {
  counted = search rules;
  rest = search rules;
  settled = λ p path stands after. ap paths_view c.new-paths.ensures;
}

pub settle_one-requires : goal.settle_one-requires
settle_one-requires g c =
    over_next (λ k. AreOver k.path.vars k.path.conds) candidate_view c.args.candidates c.loop-candidate.yielded (into_iter_items c.loop-candidate.candidate-iterator) (into_iter_items c.next.new.self)
    c.in-Some.candidate c.loop-candidate.invariant.rest c.in-Some.ensures.steps.0 c.requires

pub loop-candidate-preserved-in-Continue-branch-2 :
    goal.loop-candidate-preserved-in-Continue-branch-2
loop-candidate-preserved-in-Continue-branch-2 g c =
    let longer : length (into_iter_items c.loop-candidate.candidate-iterator) ≡ length (into_iter_items c.next.new.self) + 1 = ap length c.in-Some.ensures.steps.0 ∙ omega arith in
    let seen = map-append candidate_view c.loop-candidate.yielded (c.in-Some.candidate ∷ []) in
    let pushed = ap paths_view c.in_ok-push-in-Some-settled.ensures.ok ∙ map-append path_view c.loop-candidate.paths (c.in-Some-settled.path ∷ []) in
    record {
      counted = omega (arith, longer, c.in-Some.ensures.steps.1, c.loop-candidate.invariant.counted);
      rest = rest_more c.args.candidates c.loop-candidate.yielded (into_iter_items c.loop-candidate.candidate-iterator) (into_iter_items c.next.new.self) c.in-Some.candidate c.loop-candidate.invariant.rest c.in-Some.ensures.steps.0;
      settled = subst (λ cs. SettledSoFar c.args.old c.args.here.now cs (paths_view c.push.new.self)) (sym seen)
          (subst (SettledSoFar c.args.old c.args.here.now (candidates_view c.loop-candidate.yielded ++ candidate_view c.in-Some.candidate ∷ [])) (sym pushed)
          (one_kept c.args.old c.args.here.now (candidates_view c.loop-candidate.yielded) (paths_view c.loop-candidate.paths) (candidate_view c.in-Some.candidate) c.loop-candidate.invariant.settled (path_view c.in-Some-settled.path)
          (subst (λ o. Settles c.args.old c.args.here.now (candidate_view c.in-Some.candidate) (option_map path_view o)) c.in-Some-settled.is c.in_ok-settled.ensures)));
    }

pub loop-candidate-preserved : goal.loop-candidate-preserved
loop-candidate-preserved g c =
    let longer : length (into_iter_items c.loop-candidate.candidate-iterator) ≡ length (into_iter_items c.next.new.self) + 1 = ap length c.in-Some.ensures.steps.0 ∙ omega arith in
    let seen = map-append candidate_view c.loop-candidate.yielded (c.in-Some.candidate ∷ []) in
    record {
      counted = omega (arith, longer, c.in-Some.ensures.steps.1, c.loop-candidate.invariant.counted);
      rest = rest_more c.args.candidates c.loop-candidate.yielded (into_iter_items c.loop-candidate.candidate-iterator) (into_iter_items c.next.new.self) c.in-Some.candidate c.loop-candidate.invariant.rest c.in-Some.ensures.steps.0;
      settled = subst (λ cs. SettledSoFar c.args.old c.args.here.now cs (paths_view c.loop-candidate.paths)) (sym seen)
          (one_dropped c.args.old c.args.here.now (candidates_view c.loop-candidate.yielded) (paths_view c.loop-candidate.paths) (candidate_view c.in-Some.candidate) c.loop-candidate.invariant.settled
          (subst (λ o. Settles c.args.old c.args.here.now (candidate_view c.in-Some.candidate) (option_map path_view o)) c.in-None-settled.is c.in_ok-settled.ensures));
    }

pub returns : goal.returns
returns g c =
    let none : into_iter_items c.loop-candidate.candidate-iterator ≡ [] =
    nil_from_length (into_iter_items c.loop-candidate.candidate-iterator) (sym c.loop-candidate.invariant.counted ∙ c.in-None.ensures.steps.0) in
    subst (λ cs. SettledSoFar c.args.old c.args.here.now (candidates_view cs) (paths_view c.loop-candidate.paths))
    (sym (c.loop-candidate.invariant.rest ∙ ap (λ xs. c.loop-candidate.yielded ++ xs) none ∙ append-nil c.loop-candidate.yielded)) c.loop-candidate.invariant.settled
