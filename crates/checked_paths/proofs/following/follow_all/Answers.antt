use Rattle.std.proofs.Common.{[], ◌∷◌, ◌++◌, sym, ap, subst, ◌∙◌}
use Rattle.std.proofs.lemmas.List.{map-append}
use Rattle.sym_paths.specs.View.{path_view, paths_view}
use Rattle.sym_states.specs.View.{facts_view}
use Rattle.checked_paths.specs.Causes.{EachShowsEnd, ShowsEnd}
use Rattle.checked_paths.specs.Following.{EachIsAnswered, IsAnswered}
use Rattle.checked_paths.specs.View.{next_view, nexts_view, passed_by_view}
use Rattle.checked_paths.proofs.Lists.{with_last}
use Rattle.checked_paths.proofs.following.follow_all.Goals as goal

pub loop-path-preserved : goal.loop-path-preserved
loop-path-preserved g c =
    let M = g.M.SymMemory in
    let facts = facts_view c.args.preds.now in
    let passed = passed_by_view c.args.passed.now in
    let here = c.args.here.now in
    let n = c.in_ok-follow.field-0 in
    let before = paths_view c.loop-path.yielded in
    let answered = nexts_view c.loop-path.nexts in
    let seen = map-append path_view c.loop-path.yielded (c.in-Some.path ∷ []) in
    let pushed = ap nexts_view c.in_ok-push.ensures.ok ∙ map-append next_view c.loop-path.nexts (n ∷ []) in (
      subst (λ ps. EachIsAnswered M.stands M.terms facts passed ps (nexts_view c.push.new.self)) (sym seen)
          (subst (EachIsAnswered M.stands M.terms facts passed (before ++ path_view c.in-Some.path ∷ [])) (sym pushed)
          (with_last (IsAnswered M.stands M.terms facts passed) before (path_view c.in-Some.path) answered (next_view n) c.loop-path.invariant.0 c.in_ok-follow.ensures.answer)),
      subst (λ ps. EachShowsEnd here ps (nexts_view c.push.new.self)) (sym seen)
          (subst (EachShowsEnd here (before ++ path_view c.in-Some.path ∷ [])) (sym pushed)
          (with_last (ShowsEnd here) before (path_view c.in-Some.path) answered (next_view n) c.loop-path.invariant.1 c.in_ok-follow.ensures.shows)),
    )
