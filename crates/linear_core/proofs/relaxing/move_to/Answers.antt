use Rattle.std.proofs.Common.{◌≡◌, ◌<◌, ◌≤◌, ◌^◌, true, false, length, set, sym, ap, ◌∙◌, subst}
use Rattle.std.proofs.lemmas.List.{length-set}
use Rattle.linear_core.specs.Walks.{leaves, IsCycle, factors_up_to, AreReached, height}
use Rattle.linear_core.proofs.Cycling.{cycle}
use Rattle.linear_core.proofs.Walking.{moved, height-set, least}
use Rattle.linear_core.proofs.relaxing.move_to.Goals as goal

pub returns-then-leaves : goal.returns-then-leaves
returns-then-leaves c =
    let returns : leaves c.args.to c.args.reach.walk ≡ true = ap (leaves c.args.to) (sym c.as_slice-steps.ensures) ∙ sym c.leaves.ensures ∙ c.if-leaves.true in
    let is : c.in_ok-factors_up_to.field-0 ≡ factors_up_to c.args.to c.args.reach.walk = c.in_ok-factors_up_to.ensures ∙ ap (factors_up_to c.args.to) c.as_slice-steps.ensures in
    subst (IsCycle c.args.differences.now) (sym is) (cycle c.args.differences.now (length c.args.reaches.now) c.requires.narrow c.args.to c.args.reaches.now c.args.reach c.requires.grown returns)

pub returns : goal.returns
returns c =
    let still : leaves c.args.to c.args.reach.walk ≡ false = ap (leaves c.args.to) (sym c.as_slice-steps.ensures) ∙ sym c.leaves.ensures ∙ c.if-leaves.false in
    let short : length c.args.reach.walk ≤ 2 ^ 40 = subst (λ steps. length steps ≤ 2 ^ 40) c.as_slice-steps.ensures c.if-steps-gt-LONGEST.false in
    let all : AreReached c.args.differences.now (set c.args.reaches.now c.args.to c.args.reach) = moved c.args.differences.now c.args.reaches.now c.args.to c.args.reach c.requires.placed c.requires.grown.lesser c.requires.reached c.requires.grown still short in
    (ap length c.put.ensures ∙ length-set c.args.reaches.now c.args.to c.args.reach, subst (AreReached c.args.differences.now) (sym c.put.ensures) all, subst (λ rs. height rs < height c.args.reaches.now) (sym c.put.ensures) (height-set c.args.reaches.now c.args.to c.args.reach c.requires.placed (least c.args.differences.now (length c.args.reaches.now) c.args.to c.args.reach c.requires.narrow c.requires.grown.walk short) c.requires.grown.lesser))
