use Rattle.std.proofs.Common.{◌∷◌, pos, refl, ap, ◌∙◌}
use Rattle.mem_model.specs.declared.keys.Sub.TheVariants.{At, Bound, Gone}
use Rattle.mem_model.specs.Keys.{key}
use Rattle.mem_model.specs.Rows.{number}
use Rattle.mem_model.specs.Tables.{does}
use Rattle.mem_model.proofs.EntryLists.{at_entries, same_entries}
use Rattle.block_heap.specs.Rows.{whole, with_five, without_one, alone, gone}
use Rattle.block_heap.proofs.rows.rows_of_store.Goals as goal

pub returns-clause-put : goal.returns-clause-put
returns-clause-put c =
    at_entries whole (key 3 Gone) _ _ ∙ at_entries whole (key 3 Bound) _ _ ∙ at_entries whole (key 3 (At (pos 1))) _ _
    ∙ ap (does (number (pos 5))) (same_entries ((key 3 (At (pos 1)), number (pos 5)) ∷ whole) with_five refl)

pub returns-clause-at_gone : goal.returns-clause-at_gone
returns-clause-at_gone c = at_entries gone (key 3 Gone) _ _

pub returns-clause-at_the_bound : goal.returns-clause-at_the_bound
returns-clause-at_the_bound c = at_entries whole (key 3 Gone) _ _ ∙ at_entries whole (key 3 Bound) _ _

pub returns-clause-below_zero : goal.returns-clause-below_zero
returns-clause-below_zero c = at_entries whole (key 3 Gone) _ _ ∙ at_entries whole (key 3 Bound) _ _

pub returns-clause-within_and_missing : goal.returns-clause-within_and_missing
returns-clause-within_and_missing c = at_entries without_one (key 3 Gone) _ _ ∙ at_entries without_one (key 3 Bound) _ _ ∙ at_entries without_one (key 3 (At (pos 1))) _ _

pub returns-clause-missing : goal.returns-clause-missing
returns-clause-missing c = at_entries alone (key 3 Gone) _ _ ∙ at_entries alone (key 3 Bound) _ _ ∙ at_entries alone (key 3 (At (pos 1))) _ _
