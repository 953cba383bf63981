use Rattle.std.proofs.Common.{◌≡◌, true, length, sym, ap, ◌∙◌, subst}
use Rattle.linear_core.specs.Walks.{leaves, factors_up_to, IsGrown, IsCycle}
use Rattle.linear_core.proofs.Cycling.{cycle}
use Rattle.linear_core.proofs.confirming.cycle_by.Goals as goal

pub returns : goal.returns
returns c =
    let steps : c.as_slice-steps.result.now ≡ c.args.reach.now.walk = c.as_slice-steps.ensures in
    let grown : IsGrown c.args.differences.now c.args.reaches.now c.args.to c.args.reach.now = c.is_grown.ensures c.if-not-is_grown.false in
    let back : leaves c.args.to c.args.reach.now.walk ≡ true = ap (leaves c.args.to) (sym steps) ∙ sym c.leaves.ensures ∙ c.if-not-leaves.false in
    subst (IsCycle c.args.differences.now) (sym (c.in_ok-factors_up_to.ensures ∙ ap (factors_up_to c.args.to) steps))
    (cycle c.args.differences.now (length c.args.reaches.now) c.requires c.args.to c.args.reaches.now c.args.reach.now grown back)
