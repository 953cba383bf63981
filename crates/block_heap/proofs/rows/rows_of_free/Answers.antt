use Rattle.std.proofs.Common.{◌∙◌}
use Rattle.mem_model.specs.declared.keys.Sub.TheVariants.{Bound, Gone}
use Rattle.mem_model.specs.Keys.{key}
use Rattle.mem_model.proofs.EntryLists.{at_entries, dispose_whole-entries}
use Rattle.block_heap.specs.Rows.{none, without_one, bare, alone, gone, two}
use Rattle.block_heap.specs.Table.{cell_keys}
use Rattle.block_heap.proofs.rows.rows_of_free.Goals as goal

pub returns-clause-all : goal.returns-clause-all
returns-clause-all c = at_entries two (key 3 Gone) _ _ ∙ at_entries two (key 3 Bound) _ _ ∙ dispose_whole-entries 3 (cell_keys 3 2) two

pub returns-clause-no_cells : goal.returns-clause-no_cells
returns-clause-no_cells c = at_entries none (key 3 Gone) _ _ ∙ at_entries none (key 3 Bound) _ _ ∙ dispose_whole-entries 3 (cell_keys 3 0) none

pub returns-clause-at_gone : goal.returns-clause-at_gone
returns-clause-at_gone c = at_entries gone (key 3 Gone) _ _

pub returns-clause-no_bound : goal.returns-clause-no_bound
returns-clause-no_bound c = at_entries alone (key 3 Gone) _ _ ∙ at_entries alone (key 3 Bound) _ _

pub returns-clause-one_missing : goal.returns-clause-one_missing
returns-clause-one_missing c = at_entries without_one (key 3 Gone) _ _ ∙ at_entries without_one (key 3 Bound) _ _ ∙ dispose_whole-entries 3 (cell_keys 3 2) without_one

pub returns-clause-two_missing : goal.returns-clause-two_missing
returns-clause-two_missing c = at_entries bare (key 3 Gone) _ _ ∙ at_entries bare (key 3 Bound) _ _ ∙ dispose_whole-entries 3 (cell_keys 3 2) bare
