use Rattle.std.proofs.Common.{ap, ◌∙◌}
use Rattle.mem_model.specs.Tables.{without_keys}
use Rattle.mem_model.proofs.Changes.{without_new}
use Rattle.mem_model.proofs.stored.StoredHeap.create.Goals as goal

-- what was put is taken back
pub returns-in-Err-clause-err : goal.returns-in-Err-clause-err
returns-in-Err-clause-err c =
    c.remove_all.ensures
    ∙ ap (without_keys c.args.parts.now) (c.in-Err.ensures.err ∙ c.in_ok-put_all.ensures.ok)
    ∙ without_new _ _ _ c.requires
