use Rattle.std.proofs.Common.{refl, arith}
use Rattle.gil_values.proofs.Joined.{item_read}
use Rattle.sym_evaluation.specs.View.{store_view}
use Rattle.bi_beginnings.proofs.Covering.{one_more_named}
use Rattle.bi_beginnings.proofs.opening.store_of.Goals as goal

pub loop-number-preserved : goal.loop-number-preserved
loop-number-preserved c = record {
  variables = c.in_ok-store.ensures.variables;
  named = λ once.
      one_more_named c.as_slice-names.result.now c.args.vars.now c.loop-number.number _ (store_view c.loop-number.store) (store_view c.in_ok-store.store) once
      (item_read c.as_slice-names.result.now c.as_slice-names.result.now c.loop-number.number c.index-names-number.result refl (omega arith) c.index-names-number.is) c.in_ok-store.ensures.named
      (c.loop-number.invariant.named once);
}
