use Rattle.std.proofs.Common.{◌≡◌, map, sym, ◌∙◌, subst}
use Rattle.linear_core.specs.declared.confirming.Confirmed.TheVariants.{Numbers, Cycle}
use Rattle.linear_core.specs.Answers.{IsSolution}
use Rattle.linear_core.specs.Confirmed.{IsConfirmed}
use Rattle.linear_core.specs.Nodes.{AreNarrow, difference_of}
use Rattle.linear_core.proofs.Meeting.{combination}
use Rattle.linear_core.proofs.Valuing.{narrow_differences, solution}
use Rattle.linear_core.proofs.deciding.decide.Goals as goal

pub confirm-requires : goal.confirm-requires
confirm-requires c =
    let is : c.as_slice-2.result.now ≡ map difference_of c.args.rows.now = c.as_slice-2.ensures.value ∙ c.in_ok-differences.ensures in
    subst (λ ds. AreNarrow c.in_ok-count.count ds) (sym is) (subst (λ n. AreNarrow n (map difference_of c.args.rows.now)) (sym c.in_ok-count.ensures) (narrow_differences c.args.vars.now c.args.rows.now c.requires.over c.requires.narrow))

pub returns-in-Numbers : goal.returns-in-Numbers
returns-in-Numbers c =
    let is : c.as_slice-2.result.now ≡ map difference_of c.args.rows.now = c.as_slice-2.ensures.value ∙ c.in_ok-differences.ensures in
    let found : IsConfirmed (map difference_of c.args.rows.now) c.in_ok-count.count (Numbers c.in-Numbers.reaches) =
    subst (IsConfirmed (map difference_of c.args.rows.now) c.in_ok-count.count) c.in-Numbers.is (subst (λ ds. IsConfirmed ds c.in_ok-count.count c.in_ok-reaches.field-0) is c.in_ok-reaches.ensures) in
    subst (IsSolution c.args.vars.now c.args.rows.now) (sym c.in_ok-valuation_of-in-Numbers.ensures) (solution c.in-Numbers.reaches c.args.vars.now c.args.rows.now c.requires.over c.requires.narrow found.2 found.1)

pub returns-in-Cycle : goal.returns-in-Cycle
returns-in-Cycle c =
    let is : c.as_slice-2.result.now ≡ map difference_of c.args.rows.now = c.as_slice-2.ensures.value ∙ c.in_ok-differences.ensures in
    let found : IsConfirmed (map difference_of c.args.rows.now) c.in_ok-count.count (Cycle c.in-Cycle.factors) =
    subst (IsConfirmed (map difference_of c.args.rows.now) c.in_ok-count.count) c.in-Cycle.is (subst (λ ds. IsConfirmed ds c.in_ok-count.count c.in_ok-reaches.field-0) is c.in_ok-reaches.ensures) in
    combination c.args.rows.now c.in-Cycle.factors c.requires.narrow found
