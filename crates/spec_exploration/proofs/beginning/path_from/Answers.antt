use Rattle.std.proofs.Common.{◌≡◌, [], ◌∷◌, ◌++◌, ap, ◌∙◌}
use Rattle.sym_paths.specs.View.{path_view}
use Rattle.sym_states.specs.View.{facts_view}
use Rattle.checked_paths.specs.Pure.{further}
use Rattle.checked_paths.specs.View.{passed_by_view}
use Rattle.spec_exploration.proofs.beginning.path_from.Goals as goal

pub returns : goal.returns
returns g c =
    let one : passed_by_view c.push.new.self ≡ [] ∷ [] =
    ap passed_by_view c.in_ok-push.ensures.ok ∙ ap (λ qs. passed_by_view (qs ++ c.new.result ∷ [])) c.new-passed.ensures ∙ ap (λ q. passed_by_view (q ∷ [])) c.new.ensures in
    ap further (λ i. record { path = path_view c.args.started.path; facts = facts_view c.args.started.preds; passed = one i })
