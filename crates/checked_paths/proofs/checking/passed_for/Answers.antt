use Rattle.std.proofs.Common.{◌≡◌, ◌++◌, ap, subst, ◌∙◌}
use Rattle.std.proofs.lemmas.Result.{IfOk-weaker}
use Rattle.checked_paths.specs.Meaning.{kept_by, SayTheSame}
use Rattle.checked_paths.specs.View.{all_passed_view, passed_by_view}
use Rattle.checked_paths.proofs.Lists.{kept_later}
use Rattle.checked_paths.proofs.checking.passed_for.Goals as goal

pub returns-else-all-frames : goal.returns-else-all-frames
returns-else-all-frames g c =
    let M = g.M.SymMemory in
    let all = c.as_slice-all.result.now in
    let rest = c.split_at.result.1.now in
    let kept : passed_by_view c.new-kept.result ++ passed_by_view rest ≡ kept_by c.args.frames (passed_by_view c.args.passed.now) =
    ap (λ ks. passed_by_view ks ++ passed_by_view rest) c.new-kept.ensures
    ∙ ap passed_by_view c.split_at.ensures.back
    ∙ kept_later all_passed_view c.args.frames all c.if-all-frames.false
    ∙ ap (λ ps. kept_by c.args.frames (passed_by_view ps)) c.as_slice-all.ensures in
    IfOk-weaker c.push_copies-else-all-frames.result _ _ (λ qs says. subst (λ ps. SayTheSame M.stands M.terms ps (passed_by_view qs)) kept says) c.push_copies-else-all-frames.ensures
