use Rattle.std.proofs.Common.{[], ap}
use Rattle.gil_values.specs.Pure.{list, no_values}
use Rattle.mem_model.specs.declared.keys.Sub.TheVariants.{Shape}
use Rattle.mem_model.specs.Keys.{key}
use Rattle.mem_model.specs.Rows.{a_and_b}
use Rattle.mem_model.specs.Tables.{does, name_keys, names_of}
use Rattle.mem_model.proofs.EntryLists.{created-entries}
use Rattle.record_heap.specs.Rows.{loc, null}
use Rattle.record_heap.proofs.rows.rows_of_new.Goals as goal

pub returns-clause-names : goal.returns-clause-names
returns-clause-names c = ap (does loc) (created-entries (key 3 Shape) a_and_b (name_keys 3 (names_of a_and_b)) null [])

pub returns-clause-no_names : goal.returns-clause-no_names
returns-clause-no_names c = ap (does loc) (created-entries (key 3 Shape) (list no_values) [] null [])
