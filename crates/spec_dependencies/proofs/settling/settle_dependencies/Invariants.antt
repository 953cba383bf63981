use Rattle.spec_dependencies.specs.Settling.{AreAfter, EndAtCauses}
use Rattle.spec_dependencies.proofs.settling.settle_dependencies.Given as goal

abbrev pub invariant-loop-turn : goal.invariant-loop-turn
invariant-loop-turn l = record {
  after_each : AreAfter l.fn.entries l.entries.items;
  ends : EndAtCauses l.entries.items;
}
