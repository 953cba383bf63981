use Rattle.std.proofs.Common.{◌≡◌, false}
use Rattle.gil_syntax.specs.Valid.{has_twice}
use Rattle.sym_evaluation.specs.View.{store_view}
use Rattle.bi_beginnings.specs.Opening.{HasVariables, AreNamed}
use Rattle.bi_beginnings.proofs.opening.store_of.Given as goal

abbrev pub invariant-loop-number : goal.invariant-loop-number
invariant-loop-number l = record {
  variables : HasVariables l.vars (store_view l.store);
  named : has_twice l.names ≡ false → AreNamed l.names l.vars l.number (store_view l.store);
}
