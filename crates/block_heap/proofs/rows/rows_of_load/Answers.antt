use Rattle.std.proofs.Common.{pos, negsuc, ◌∙◌}
use Rattle.mem_model.specs.declared.keys.Sub.TheVariants.{At, Bound, Gone}
use Rattle.mem_model.specs.Keys.{key}
use Rattle.mem_model.proofs.EntryLists.{at_entries}
use Rattle.block_heap.specs.Rows.{whole, without_one, alone, gone}
use Rattle.block_heap.proofs.rows.rows_of_load.Goals as goal

pub returns-clause-found : goal.returns-clause-found
returns-clause-found c = at_entries whole (key 3 Gone) _ _ ∙ at_entries whole (key 3 Bound) _ _ ∙ at_entries whole (key 3 (At (pos 1))) _ _

pub returns-clause-found_alone : goal.returns-clause-found_alone
returns-clause-found_alone c = at_entries alone (key 3 Gone) _ _ ∙ at_entries alone (key 3 Bound) _ _ ∙ at_entries alone (key 3 (At (pos 0))) _ _

pub returns-clause-at_gone : goal.returns-clause-at_gone
returns-clause-at_gone c = at_entries gone (key 3 Gone) _ _

pub returns-clause-at_the_bound : goal.returns-clause-at_the_bound
returns-clause-at_the_bound c = at_entries whole (key 3 Gone) _ _ ∙ at_entries whole (key 3 Bound) _ _

pub returns-clause-below_zero : goal.returns-clause-below_zero
returns-clause-below_zero c = at_entries whole (key 3 Gone) _ _ ∙ at_entries whole (key 3 Bound) _ _

pub returns-clause-within_and_missing : goal.returns-clause-within_and_missing
returns-clause-within_and_missing c = at_entries without_one (key 3 Gone) _ _ ∙ at_entries without_one (key 3 Bound) _ _ ∙ at_entries without_one (key 3 (At (pos 1))) _ _

pub returns-clause-missing : goal.returns-clause-missing
returns-clause-missing c = at_entries alone (key 3 Gone) _ _ ∙ at_entries alone (key 3 Bound) _ _ ∙ at_entries alone (key 3 (At (negsuc 0))) _ _
