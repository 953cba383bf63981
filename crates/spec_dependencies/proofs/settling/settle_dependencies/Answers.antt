use Rattle.std.proofs.Common.{List, sym, subst}
use Rattle.std.proofs.lemmas.Result.{IfOk-weaker}
use Rattle.spec_dependencies.specs.declared.entries.Entry.{Entry}
use Rattle.spec_dependencies.specs.Settling.{EndAtCauses, IsSettling}
use Rattle.spec_dependencies.proofs.Rounds.{settling_starts, settling_goes_on, settling_done, starts_after}
use Rattle.spec_dependencies.proofs.settling.settle_dependencies.Goals as goal

pub loop-turn-init : goal.loop-turn-init
loop-turn-init c = record {
  after_each = starts_after c.args.entries c.into_vec-entries.result.items c.into_vec-entries.ensures;
  ends = subst EndAtCauses (sym c.into_vec-entries.ensures) (settling_starts c.args.entries c.requires);
}

pub returns-then-not-branch : goal.returns-then-not-branch
returns-then-not-branch c =
    IfOk-weaker c.in_sequence.result _ _
    (λ settled is. subst (λ (es : List Entry). IsSettling c.args.entries es) (sym is)
    (settling_done c.in_ok-mark_dependents.field-0 c.args.entries c.loop-turn.entries.items c.mark_dependents.new.entries.items c.loop-turn.invariant.after_each
    c.loop-turn.invariant.ends c.in_ok-mark_dependents.ensures c.if-not-branch.true)) c.in_sequence.ensures

pub loop-turn-preserved : goal.loop-turn-preserved
loop-turn-preserved c = record {
  after_each =
      settling_goes_on c.in_ok-mark_dependents.field-0 c.args.entries c.loop-turn.entries.items c.mark_dependents.new.entries.items
      c.loop-turn.invariant.after_each c.in_ok-mark_dependents.ensures;
  ends = let round = c.in_ok-mark_dependents.ensures in round.keeps_ends c.loop-turn.invariant.ends;
}
