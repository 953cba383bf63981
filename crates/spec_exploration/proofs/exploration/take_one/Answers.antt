use Rattle.std.proofs.Common.{[], ◌∷◌, sym, subst}
use Rattle.checked_paths.specs.View.{next_view}
use Rattle.spec_exploration.specs.Exploring.{AreTaken, exploration_view}
use Rattle.spec_exploration.proofs.Taking.{taken_cause}
use Rattle.spec_exploration.proofs.exploration.take_one.Goals as goal

pub returns-in-Caused : goal.returns-in-Caused
returns-in-Caused g c =
    let before = exploration_view c.args.exploration in
    let after = exploration_view c.with_cause.result in
    subst (λ n. AreTaken before (next_view n ∷ []) after) (sym c.in-Caused.is)
    (taken_cause before after c.in-Caused.cause c.with_cause.ensures.left c.with_cause.ensures.cause c.with_cause.ensures.uses)
