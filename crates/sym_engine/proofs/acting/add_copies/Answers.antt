use Rattle.std.proofs.Common.{rules, ◌≡◌, ◌+◌, [], ◌∷◌, ◌++◌, length, refl, ap, sym, subst, ◌∙◌, append_assoc, arith}
use Rattle.std.specs.Vec.Iter.{into_iter_items}
use Rattle.std.proofs.lemmas.List.{append-nil, map-append, nil_from_length}
use Rattle.pure_terms.specs.View.{terms_view}
use Rattle.sym_engine.specs.View.{candidate_view, candidates_view}
use Rattle.sym_engine.proofs.Arguments.{acts_on_copy, acts_more}
use Rattle.sym_engine.proofs.Settled.{rest_more}
use Rattle.sym_engine.proofs.acting.add_copies.Goals as goal
use Rattle.sym_evaluation.specs.View.{good_view}
use Rattle.sym_model.specs.View.{branch_view, branches_view, result_view}
use Rattle.sym_paths.specs.View.{path_view}
use Rattle.sym_paths.specs.Acting.{ActsAsEach}

pub loop-branch-init : goal.loop-branch-init
loop-branch-init g c = record {
  counted = search rules;
  rest = search rules;
  acted = ([], (sym (append-nil (candidates_view c.args.candidates)), refl));
}

pub loop-branch-preserved : goal.loop-branch-preserved
loop-branch-preserved g c =
    let longer : length (into_iter_items c.loop-branch.branch-iterator) ≡ length (into_iter_items c.next.new.self) + 1 = ap length c.in-Some.ensures.steps.0 ∙ omega arith in
    let path = path_view c.args.path.now in
    let good = good_view terms_view c.args.good.now in
    let d = candidate_view c.in_ok-act_to.field-0 in
    let (ds, (is, each)) = c.loop-branch.invariant.acted in
    record {
      counted = omega (arith, longer, c.in-Some.ensures.steps.1, c.loop-branch.invariant.counted);
      rest = rest_more c.args.branches.items c.loop-branch.yielded (into_iter_items c.loop-branch.branch-iterator) (into_iter_items c.next.new.self) c.in-Some.branch c.loop-branch.invariant.rest c.in-Some.ensures.steps.0;
      acted = (
        ds ++ d ∷ [],
        (
          ap candidates_view c.in_ok-push.ensures.ok ∙ map-append candidate_view c.loop-branch.candidates (c.in_ok-act_to.field-0 ∷ []) ∙ ap (λ cs. cs ++ d ∷ []) is ∙ append_assoc (candidates_view c.args.candidates) ds (d ∷ []),
          subst (λ bs. ActsAsEach path c.args.name.now c.args.here.now c.args.takes good bs (ds ++ d ∷ [])) (sym (map-append branch_view c.loop-branch.yielded (c.in-Some.branch ∷ [])))
              (acts_more c.args.name.now c.args.here.now c.args.takes good path (branches_view c.loop-branch.yielded) ds (branch_view c.in-Some.branch) d each
              (acts_on_copy c.args.name.now c.args.here.now c.args.takes good path (path_view c.in_ok-copy.copy) (branch_view c.in-Some.branch) (result_view c.in-Some.branch.result) d c.in_ok-copy.ensures.path c.in_ok-act_to.ensures)),
        ),
      );
    }

pub returns : goal.returns
returns g c =
    let none : into_iter_items c.loop-branch.branch-iterator ≡ [] =
    nil_from_length (into_iter_items c.loop-branch.branch-iterator) (sym c.loop-branch.invariant.counted ∙ c.in-None.ensures.steps.0) in
    let (ds, (is, each)) = c.loop-branch.invariant.acted in (
      ds,
      (
        is,
        subst (λ bs. ActsAsEach (path_view c.args.path.now) c.args.name.now c.args.here.now c.args.takes (good_view terms_view c.args.good.now) (branches_view bs) ds)
            (sym (c.loop-branch.invariant.rest ∙ ap (λ xs. c.loop-branch.yielded ++ xs) none ∙ append-nil c.loop-branch.yielded)) each,
      ),
    )
