use Rattle.std.proofs.Common.{take, ap, ◌∙◌}
use Rattle.gil_values.specs.View.{value_view}
use Rattle.mem_model.specs.Tables.{without_keys}
use Rattle.mem_model.proofs.Changes.{with_none, with_more, without_new, lacks_front}
use Rattle.mem_model.proofs.stored.StoredHeap.put_all.Goals as goal

pub loop-index-init : goal.loop-index-init
loop-index-init c = with_none (value_view c.args.value.now) _

pub loop-index-preserved : goal.loop-index-preserved
loop-index-preserved c = with_more c.args.keys.now c.loop-index.index c.index-keys-index.result _ _ _ _ c.loop-index-test.true c.index-keys-index.is c.loop-index.invariant c.in_default.ensures.ok

-- what was put is taken back
pub returns-in-Err-clause-err : goal.returns-in-Err-clause-err
returns-in-Err-clause-err c =
    c.remove_all.ensures
    ∙ ap (without_keys (take c.loop-index.index c.args.keys.now)) (c.in-Err.ensures.err ∙ c.loop-index.invariant)
    ∙ without_new _ _ _ (lacks_front c.args.keys.now c.loop-index.index _ c.requires)
