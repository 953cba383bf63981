use Rattle.std.proofs.Common.{◌+◌, Bool, arith, sym, subst}
use Rattle.spec_dependencies.specs.Settling.{IsMarking}
use Rattle.spec_dependencies.proofs.Rounds.{IsMarkedUntil, marked_more, left_more, round_done}
use Rattle.spec_dependencies.proofs.settling.mark_dependents.Goals as goal
use Rattle.spec_dependencies.proofs.settling.mark_dependents.Goals.{then-branch, else-branch}

pub loop-place-preserved : goal.loop-place-preserved
loop-place-preserved c =
    let es = c.args.entries.now.items in
    let fs = c.loop-place.entries.items in
    let gs = c.mark.new.entries.items in
    let k = c.loop-place.place in
    elim c.if-branch.branch [
      | then-branch w ↦
          subst (λ (b : Bool). IsMarkedUntil (k + 1) b es gs) (sym w.marked-is)
          (marked_more k c.loop-place.marked es fs gs c.loop-place.invariant (subst (λ (b : Bool). IsMarking k b fs gs) w.if-branch.true c.in_ok-mark.ensures))
      | else-branch w ↦
          subst (λ (b : Bool). IsMarkedUntil (k + 1) b es gs) (sym w.marked-is)
          (left_more k c.loop-place.marked es fs gs c.loop-place.invariant (subst (λ (b : Bool). IsMarking k b fs gs) w.if-branch.false c.in_ok-mark.ensures))
    ]

pub returns : goal.returns
returns c =
    round_done c.loop-place.place c.loop-place.marked c.args.entries.now.items c.loop-place.entries.items
    (omega (arith, c.loop-place.invariant.after_each.as_many, c.len-place-end.ensures)) c.loop-place.invariant
