use Rattle.std.proofs.Common.{slice_get, sym, ap, ◌∙◌}
use Rattle.pure_terms.specs.View.{terms_view}
use Rattle.solver_proof.specs.Lists.{appended_view}
use Rattle.solver_proof.proofs.Growing.{disequality_found, nothing_left, nothing_right}
use Rattle.solver_proof.proofs.checking.fact_of.Goals as goal

pub returns-in-Some-get-2 : goal.returns-in-Some-get-2
returns-in-Some-get-2 c =
    let found = disequality_found (terms_view c.in-Differences.left.now) (terms_view c.in-Differences.right.now) c.args.place _ _ (sym c.in-Some-get.ensures) (sym c.in-Some-get-2.ensures) in
    sym (ap (λ more. slice_get (appended_view more) c.args.place) c.in-Differences.is ∙ found)

pub returns-in-None-get-2 : goal.returns-in-None-get-2
returns-in-None-get-2 c =
    let found = nothing_right (terms_view c.in-Differences.left.now) (terms_view c.in-Differences.right.now) c.args.place (sym c.in-None-get-2.ensures) in
    sym (ap (λ more. slice_get (appended_view more) c.args.place) c.in-Differences.is ∙ found)

pub returns-in-None-get : goal.returns-in-None-get
returns-in-None-get c =
    let found = nothing_left (terms_view c.in-Differences.left.now) (terms_view c.in-Differences.right.now) c.args.place (sym c.in-None-get.ensures) in
    sym (ap (λ more. slice_get (appended_view more) c.args.place) c.in-Differences.is ∙ found)
