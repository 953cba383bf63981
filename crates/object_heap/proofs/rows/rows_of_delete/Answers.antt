use Rattle.std.proofs.Common.{◌∷◌, true, refl, ap, ◌∙◌}
use Rattle.std.specs.Prelude.{codes}
use Rattle.mem_model.specs.declared.keys.Sub.TheVariants.{Name, Dom}
use Rattle.mem_model.specs.Keys.{key}
use Rattle.gil_values.specs.Pure.{boolean}
use Rattle.mem_model.specs.Tables.{does}
use Rattle.mem_model.proofs.EntryLists.{at_entries, same_entries, removed-entries, without_key}
use Rattle.object_heap.specs.Rows.{with_both, with_b, without_b, alone}
use Rattle.object_heap.specs.Table.{without_name}
use Rattle.mem_model.specs.Rows.{a_and_b}
use Rattle.std.specs.FinMap.{insert}
use Rattle.object_heap.proofs.rows.rows_of_delete.Goals as goal

pub returns-clause-taken : goal.returns-clause-taken
returns-clause-taken c =
    at_entries with_both (key 3 Dom) _ _ ∙ at_entries with_both (key 3 (Name (codes "a"))) _ _
    ∙ ap (does (boolean true)) (
    ap (λ h. insert h (key 3 Dom) (without_name a_and_b (codes "a"))) (removed-entries (key 3 (Name (codes "a"))) with_both)
    ∙ same_entries ((key 3 Dom, without_name a_and_b (codes "a")) ∷ without_key (key 3 (Name (codes "a"))) with_both) with_b refl)

pub returns-clause-absent : goal.returns-clause-absent
returns-clause-absent c = at_entries with_both (key 3 Dom) _ _

pub returns-clause-listed_and_missing : goal.returns-clause-listed_and_missing
returns-clause-listed_and_missing c = at_entries without_b (key 3 Dom) _ _ ∙ at_entries without_b (key 3 (Name (codes "b"))) _ _

pub returns-clause-no_names : goal.returns-clause-no_names
returns-clause-no_names c = at_entries alone (key 3 Dom) _ _
