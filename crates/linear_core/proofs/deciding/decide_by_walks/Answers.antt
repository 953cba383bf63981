use Rattle.std.proofs.Common.{◌≡◌, ◌+◌, None, Some, map, length, sym, ◌∙◌, subst}
use Rattle.linear_core.specs.Answers.{IsSolution}
use Rattle.linear_core.specs.Nodes.{AreNarrow, difference_of}
use Rattle.linear_core.specs.Walks.{HasSettled}
use Rattle.linear_core.proofs.Meeting.{combination}
use Rattle.linear_core.proofs.Valuing.{narrow_differences, solution}
use Rattle.linear_core.proofs.Walking.{moderate}
use Rattle.linear_core.proofs.deciding.decide_by_walks.Goals as goal

pub settle-requires-clause-narrow : goal.settle-requires-clause-narrow
settle-requires-clause-narrow c =
    let is : c.as_slice.result.now ≡ map difference_of c.args.rows.now = c.as_slice.ensures.value ∙ c.in_ok-differences.ensures in
    let count : length c.in_ok-reaches.reaches ≡ length c.args.vars.now + 1 = c.in_ok-reaches.ensures.len ∙ c.in_ok-count.ensures in
    subst (λ ds. AreNarrow (length c.in_ok-reaches.reaches) ds) (sym is) (subst (λ n. AreNarrow n (map difference_of c.args.rows.now)) (sym count) (narrow_differences c.args.vars.now c.args.rows.now c.requires.over c.requires.narrow))

pub returns-in-Some : goal.returns-in-Some
returns-in-Some c =
    let is : c.as_slice.result.now ≡ map difference_of c.args.rows.now = c.as_slice.ensures.value ∙ c.in_ok-differences.ensures in
    let settled : HasSettled (map difference_of c.args.rows.now) c.in_ok-reaches.reaches c.settle.new.reaches (Some c.in-Some.factors) = subst (λ found. HasSettled (map difference_of c.args.rows.now) c.in_ok-reaches.reaches c.settle.new.reaches found) c.in-Some.is (subst (λ ds. HasSettled ds c.in_ok-reaches.reaches c.settle.new.reaches c.in_ok-found.found) is c.in_ok-found.ensures) in
    combination c.args.rows.now c.in-Some.factors c.requires.narrow settled

pub valuation_of-requires-clause-moderate : goal.valuation_of-requires-clause-moderate
valuation_of-requires-clause-moderate c =
    let is : c.as_slice.result.now ≡ map difference_of c.args.rows.now = c.as_slice.ensures.value ∙ c.in_ok-differences.ensures in
    let settled : HasSettled (map difference_of c.args.rows.now) c.in_ok-reaches.reaches c.settle.new.reaches None = subst (λ found. HasSettled (map difference_of c.args.rows.now) c.in_ok-reaches.reaches c.settle.new.reaches found) c.in-None.is (subst (λ ds. HasSettled ds c.in_ok-reaches.reaches c.settle.new.reaches c.in_ok-found.found) is c.in_ok-found.ensures) in
    moderate (map difference_of c.args.rows.now) (length c.args.vars.now + 1) c.settle.new.reaches (narrow_differences c.args.vars.now c.args.rows.now c.requires.over c.requires.narrow) settled.1

pub returns : goal.returns
returns c =
    let is : c.as_slice.result.now ≡ map difference_of c.args.rows.now = c.as_slice.ensures.value ∙ c.in_ok-differences.ensures in
    let settled : HasSettled (map difference_of c.args.rows.now) c.in_ok-reaches.reaches c.settle.new.reaches None = subst (λ found. HasSettled (map difference_of c.args.rows.now) c.in_ok-reaches.reaches c.settle.new.reaches found) c.in-None.is (subst (λ ds. HasSettled ds c.in_ok-reaches.reaches c.settle.new.reaches c.in_ok-found.found) is c.in_ok-found.ensures) in
    let bounded = moderate (map difference_of c.args.rows.now) (length c.args.vars.now + 1) c.settle.new.reaches (narrow_differences c.args.vars.now c.args.rows.now c.requires.over c.requires.narrow) settled.1 in
    subst (IsSolution c.args.vars.now c.args.rows.now) (sym c.in_ok-valuation_of-in-None.ensures) (solution c.settle.new.reaches c.args.vars.now c.args.rows.now c.requires.over c.requires.narrow settled.2 bounded)
