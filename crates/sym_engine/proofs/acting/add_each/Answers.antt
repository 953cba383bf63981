use Rattle.std.proofs.Common.{◌≡◌, [], ◌∷◌, ◌++◌, length, refl, ap, sym, subst, ◌∙◌, append_assoc}
use Rattle.std.specs.Prelude.{vec_len}
use Rattle.std.proofs.lemmas.List.{append-nil, map-append, nil_from_length}
use Rattle.pure_terms.specs.View.{terms_view}
use Rattle.sym_engine.specs.View.{candidate_view, candidates_view}
use Rattle.sym_engine.proofs.Arguments.{acts_more}
use Rattle.sym_engine.proofs.acting.add_each.Goals as goal
use Rattle.sym_evaluation.specs.View.{good_view}
use Rattle.sym_model.specs.View.{branch_view, branches_view}
use Rattle.sym_paths.specs.View.{path_view}
use Rattle.sym_paths.specs.Acting.{ActsAsEach}

pub returns-in-None : goal.returns-in-None
returns-in-None g c =
    let count : vec_len c.into_vec-branches.result ≡ length c.into_vec-branches.result.items = c.into_vec-branches.result.ok.0 in
    let empty : vec_len c.into_vec-branches.result ≡ 0 = c.in-None.ensures.cases.0 in
    let none : c.args.branches ≡ [] = sym c.into_vec-branches.ensures ∙ nil_from_length c.into_vec-branches.result.items (sym count ∙ empty) in
    ([], (sym (append-nil (candidates_view c.args.candidates)), subst (λ bs. ActsAsEach (path_view c.args.path) c.args.name.now c.args.here.now c.args.takes (good_view terms_view c.args.good.now) (branches_view bs) []) (sym none) refl))

pub returns-in_ok-push-in-Some : goal.returns-in_ok-push-in-Some
returns-in_ok-push-in-Some g c =
    let path = path_view c.args.path in
    let good = good_view terms_view c.args.good.now in
    let d = candidate_view c.in_ok-act_to-in-Some.field-0 in
    let (ds, (is, each)) = c.in_ok-candidates-in-Some.ensures in
    let whole : c.args.branches ≡ c.pop.new.self.items ++ c.in-Some.last ∷ [] = sym c.into_vec-branches.ensures ∙ c.in-Some.ensures.items in (
      ds ++ d ∷ [],
      (
        ap candidates_view c.in_ok-push-in-Some.ensures.ok ∙ map-append candidate_view c.in_ok-candidates-in-Some.candidates (c.in_ok-act_to-in-Some.field-0 ∷ []) ∙ ap (λ cs. cs ++ d ∷ []) is ∙ append_assoc (candidates_view c.args.candidates) ds (d ∷ []),
        subst (λ bs. ActsAsEach path c.args.name.now c.args.here.now c.args.takes good (branches_view bs) (ds ++ d ∷ [])) (sym whole)
            (subst (λ bs. ActsAsEach path c.args.name.now c.args.here.now c.args.takes good bs (ds ++ d ∷ [])) (sym (map-append branch_view c.pop.new.self.items (c.in-Some.last ∷ [])))
            (acts_more c.args.name.now c.args.here.now c.args.takes good path (branches_view c.pop.new.self.items) ds (branch_view c.in-Some.last) d each c.in_ok-act_to-in-Some.ensures)),
      ),
    )
