use Rattle.std.proofs.Common.{◌∙◌}
use Rattle.std.specs.Prelude.{codes}
use Rattle.mem_model.specs.declared.keys.Sub.TheVariants.{Name, Dom}
use Rattle.mem_model.specs.Keys.{key}
use Rattle.mem_model.proofs.EntryLists.{at_entries}
use Rattle.object_heap.specs.Rows.{with_both, without_b, alone}
use Rattle.object_heap.proofs.rows.rows_of_has.Goals as goal

pub returns-clause-found : goal.returns-clause-found
returns-clause-found c = at_entries with_both (key 3 (Name (codes "a"))) _ _

pub returns-clause-found_alone : goal.returns-clause-found_alone
returns-clause-found_alone c = at_entries alone (key 3 (Name (codes "a"))) _ _

pub returns-clause-listed_and_missing : goal.returns-clause-listed_and_missing
returns-clause-listed_and_missing c = at_entries without_b (key 3 (Name (codes "b"))) _ _ ∙ at_entries without_b (key 3 Dom) _ _

pub returns-clause-absent : goal.returns-clause-absent
returns-clause-absent c = at_entries without_b (key 3 (Name (codes "c"))) _ _ ∙ at_entries without_b (key 3 Dom) _ _

pub returns-clause-missing : goal.returns-clause-missing
returns-clause-missing c = at_entries alone (key 3 (Name (codes "b"))) _ _ ∙ at_entries alone (key 3 Dom) _ _
