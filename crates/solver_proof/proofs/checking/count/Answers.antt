use Rattle.std.proofs.Common.{◌≡◌, length, min, sym, ap, ◌∙◌}
use Rattle.pure_terms.specs.View.{terms_view}
use Rattle.solver_proof.specs.Lists.{appended_view}
use Rattle.solver_proof.proofs.Growing.{length-disequalities}
use Rattle.solver_proof.proofs.checking.count.Goals as goal

pub returns-in-Differences : goal.returns-in-Differences
returns-in-Differences c =
    let all : length (appended_view c.args.more) ≡ min (length (terms_view c.in-Differences.left.now)) (length (terms_view c.in-Differences.right.now)) = ap (λ more. length (appended_view more)) c.in-Differences.is ∙ length-disequalities _ _ in
    c.min.ensures ∙ ap (λ n. min n c.len-in-Differences.result) c.len.ensures ∙ ap (min _) c.len-in-Differences.ensures ∙ sym all
