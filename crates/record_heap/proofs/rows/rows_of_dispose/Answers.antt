use Rattle.std.proofs.Common.{◌∙◌}
use Rattle.mem_model.specs.declared.keys.Sub.TheVariants.{Shape, Gone}
use Rattle.mem_model.specs.Keys.{key}
use Rattle.mem_model.specs.Rows.{a_and_b}
use Rattle.mem_model.specs.Tables.{name_keys, names_of}
use Rattle.mem_model.proofs.EntryLists.{at_entries, dispose_whole-entries}
use Rattle.record_heap.specs.Rows.{without_b, bare, alone, gone, two}
use Rattle.record_heap.proofs.rows.rows_of_dispose.Goals as goal

pub returns-clause-all : goal.returns-clause-all
returns-clause-all c = at_entries two (key 3 Gone) _ _ ∙ at_entries two (key 3 Shape) _ _ ∙ dispose_whole-entries 3 (name_keys 3 (names_of a_and_b)) two

pub returns-clause-at_gone : goal.returns-clause-at_gone
returns-clause-at_gone c = at_entries gone (key 3 Gone) _ _

pub returns-clause-no_shape : goal.returns-clause-no_shape
returns-clause-no_shape c = at_entries alone (key 3 Gone) _ _ ∙ at_entries alone (key 3 Shape) _ _

pub returns-clause-one_missing : goal.returns-clause-one_missing
returns-clause-one_missing c = at_entries without_b (key 3 Gone) _ _ ∙ at_entries without_b (key 3 Shape) _ _ ∙ dispose_whole-entries 3 (name_keys 3 (names_of a_and_b)) without_b

pub returns-clause-two_missing : goal.returns-clause-two_missing
returns-clause-two_missing c = at_entries bare (key 3 Gone) _ _ ∙ at_entries bare (key 3 Shape) _ _ ∙ dispose_whole-entries 3 (name_keys 3 (names_of a_and_b)) bare
