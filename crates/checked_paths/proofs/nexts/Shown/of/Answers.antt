use Rattle.std.proofs.Common.{None, ◌∙◌}
use Rattle.checked_paths.proofs.nexts.Shown.of.Goals as goal

pub returns : goal.returns
returns g c = λ i. record {
  place = c.in_ok-place.ensures i;
  choices = c.in_ok-choices.ensures i;
  vars = c.in_ok-vars.ensures i;
  given = c.in_ok-given.ensures i;
  conds = (c.in_ok-conds.ensures ∙ c.atoms.ensures) i;
  valuation = None;
}
