use Rattle.std.proofs.Common.{◌∙◌}
use Rattle.std.specs.Prelude.{codes}
use Rattle.mem_model.specs.declared.keys.Sub.TheVariants.{Name, Shape, Gone}
use Rattle.mem_model.specs.Keys.{key}
use Rattle.mem_model.proofs.EntryLists.{at_entries}
use Rattle.record_heap.specs.Rows.{whole, without_b, alone, gone}
use Rattle.record_heap.proofs.rows.rows_of_lookup.Goals as goal

pub returns-clause-found : goal.returns-clause-found
returns-clause-found c = at_entries whole (key 3 (Name (codes "b"))) _ _

pub returns-clause-found_alone : goal.returns-clause-found_alone
returns-clause-found_alone c = at_entries alone (key 3 (Name (codes "a"))) _ _

pub returns-clause-at_gone : goal.returns-clause-at_gone
returns-clause-at_gone c = at_entries gone (key 3 (Name (codes "a"))) _ _ ∙ at_entries gone (key 3 Gone) _ _

pub returns-clause-absent : goal.returns-clause-absent
returns-clause-absent c = at_entries whole (key 3 (Name (codes "c"))) _ _ ∙ at_entries whole (key 3 Gone) _ _ ∙ at_entries whole (key 3 Shape) _ _

pub returns-clause-listed_and_missing : goal.returns-clause-listed_and_missing
returns-clause-listed_and_missing c = at_entries without_b (key 3 (Name (codes "b"))) _ _ ∙ at_entries without_b (key 3 Gone) _ _ ∙ at_entries without_b (key 3 Shape) _ _

pub returns-clause-missing : goal.returns-clause-missing
returns-clause-missing c = at_entries alone (key 3 (Name (codes "b"))) _ _ ∙ at_entries alone (key 3 Gone) _ _ ∙ at_entries alone (key 3 Shape) _ _

pub returns-clause-elsewhere : goal.returns-clause-elsewhere
returns-clause-elsewhere c = at_entries whole (key 4 (Name (codes "a"))) _ _ ∙ at_entries whole (key 4 Gone) _ _ ∙ at_entries whole (key 4 Shape) _ _
