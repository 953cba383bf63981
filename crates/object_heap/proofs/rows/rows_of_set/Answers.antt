use Rattle.std.proofs.Common.{[], ◌∷◌, pos, refl, ap, ◌∙◌}
use Rattle.std.specs.Prelude.{codes}
use Rattle.mem_model.specs.declared.keys.Sub.TheVariants.{Name, Dom}
use Rattle.mem_model.specs.Keys.{key}
use Rattle.mem_model.specs.Rows.{a_and_b, number}
use Rattle.mem_model.specs.Tables.{does}
use Rattle.mem_model.proofs.EntryLists.{at_entries, same_entries}
use Rattle.object_heap.specs.Rows.{name, names, fresh_object, with_a, with_both, with_b, b_then_a, with_five, without_b, alone}
use Rattle.object_heap.proofs.rows.rows_of_set.Goals as goal

pub returns-clause-put : goal.returns-clause-put
returns-clause-put c = at_entries with_both (key 3 (Name (codes "a"))) _ _ ∙ ap (does (number (pos 5))) (same_entries ((key 3 (Name (codes "a")), number (pos 5)) ∷ with_both) with_five refl)

pub returns-clause-first : goal.returns-clause-first
returns-clause-first c =
    at_entries fresh_object (key 3 (Name (codes "a"))) _ _ ∙ at_entries fresh_object (key 3 Dom) _ _
    ∙ ap (does (number (pos 1))) (same_entries ((key 3 Dom, names (name (codes "a") ∷ [])) ∷ (key 3 (Name (codes "a")), number (pos 1)) ∷ fresh_object) with_a refl)

pub returns-clause-second : goal.returns-clause-second
returns-clause-second c =
    at_entries with_a (key 3 (Name (codes "b"))) _ _ ∙ at_entries with_a (key 3 Dom) _ _
    ∙ ap (does (number (pos 2))) (same_entries ((key 3 Dom, a_and_b) ∷ (key 3 (Name (codes "b")), number (pos 2)) ∷ with_a) with_both refl)

pub returns-clause-again : goal.returns-clause-again
returns-clause-again c =
    at_entries with_b (key 3 (Name (codes "a"))) _ _ ∙ at_entries with_b (key 3 Dom) _ _
    ∙ ap (does (number (pos 7))) (same_entries ((key 3 Dom, names (name (codes "b") ∷ name (codes "a") ∷ [])) ∷ (key 3 (Name (codes "a")), number (pos 7)) ∷ with_b) b_then_a refl)

pub returns-clause-listed_and_missing : goal.returns-clause-listed_and_missing
returns-clause-listed_and_missing c = at_entries without_b (key 3 (Name (codes "b"))) _ _ ∙ at_entries without_b (key 3 Dom) _ _

pub returns-clause-missing : goal.returns-clause-missing
returns-clause-missing c = at_entries alone (key 3 (Name (codes "b"))) _ _ ∙ at_entries alone (key 3 Dom) _ _
