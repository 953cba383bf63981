use Rattle.std.proofs.Common.{[], ◌∷◌, pos, refl, ap, ◌∙◌}
use Rattle.std.specs.Prelude.{codes}
use Rattle.mem_model.specs.declared.keys.Sub.TheVariants.{Name, Shape, Gone}
use Rattle.mem_model.specs.Keys.{key}
use Rattle.mem_model.specs.Rows.{number}
use Rattle.mem_model.specs.Tables.{does}
use Rattle.mem_model.proofs.EntryLists.{at_entries, same_entries}
use Rattle.record_heap.specs.Rows.{whole, with_five, without_b, gone}
use Rattle.record_heap.proofs.rows.rows_of_mutate.Goals as goal

pub returns-clause-put : goal.returns-clause-put
returns-clause-put c = at_entries whole (key 3 (Name (codes "a"))) _ _ ∙ ap (does (number (pos 5))) (same_entries ((key 3 (Name (codes "a")), number (pos 5)) ∷ whole) with_five refl)

pub returns-clause-at_gone : goal.returns-clause-at_gone
returns-clause-at_gone c = at_entries gone (key 3 (Name (codes "a"))) _ _ ∙ at_entries gone (key 3 Gone) _ _

pub returns-clause-absent : goal.returns-clause-absent
returns-clause-absent c = at_entries whole (key 3 (Name (codes "c"))) _ _ ∙ at_entries whole (key 3 Gone) _ _ ∙ at_entries whole (key 3 Shape) _ _

pub returns-clause-listed_and_missing : goal.returns-clause-listed_and_missing
returns-clause-listed_and_missing c = at_entries without_b (key 3 (Name (codes "b"))) _ _ ∙ at_entries without_b (key 3 Gone) _ _ ∙ at_entries without_b (key 3 Shape) _ _

pub returns-clause-missing : goal.returns-clause-missing
returns-clause-missing c = at_entries [] (key 3 (Name (codes "a"))) _ _ ∙ at_entries [] (key 3 Gone) _ _ ∙ at_entries [] (key 3 Shape) _ _
