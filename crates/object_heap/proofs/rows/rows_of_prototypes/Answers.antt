use Rattle.std.proofs.Common.{◌∷◌, refl, ap, ◌∙◌}
use Rattle.mem_model.specs.declared.keys.Sub.TheVariants.{Proto}
use Rattle.mem_model.specs.Keys.{key}
use Rattle.mem_model.specs.Tables.{does}
use Rattle.mem_model.proofs.EntryLists.{at_entries, same_entries}
use Rattle.object_heap.specs.Rows.{null, fresh_object, rootless, alone}
use Rattle.object_heap.proofs.rows.rows_of_prototypes.Goals as goal

pub returns-clause-told : goal.returns-clause-told
returns-clause-told c = at_entries fresh_object (key 3 Proto) _ _

pub returns-clause-not_known : goal.returns-clause-not_known
returns-clause-not_known c = at_entries alone (key 3 Proto) _ _

pub returns-clause-put : goal.returns-clause-put
returns-clause-put c = at_entries fresh_object (key 3 Proto) _ _ ∙ ap (does null) (same_entries ((key 3 Proto, null) ∷ fresh_object) rootless refl)

pub returns-clause-missing : goal.returns-clause-missing
returns-clause-missing c = at_entries alone (key 3 Proto) _ _
