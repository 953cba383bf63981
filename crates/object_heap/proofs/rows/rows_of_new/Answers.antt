use Rattle.std.proofs.Common.{[], ◌∷◌, ap}
use Rattle.mem_model.specs.declared.keys.Sub.TheVariants.{Dom, Proto}
use Rattle.mem_model.specs.Keys.{key}
use Rattle.gil_values.specs.Pure.{list, no_values, symbol}
use Rattle.mem_model.specs.Tables.{does}
use Rattle.mem_model.proofs.EntryLists.{created-entries}
use Rattle.object_heap.specs.Rows.{loc, null}
use Rattle.object_heap.proofs.rows.rows_of_new.Goals as goal

pub returns-clause-with_a_prototype : goal.returns-clause-with_a_prototype
returns-clause-with_a_prototype c = ap (does loc) (created-entries (key 3 Dom) (list no_values) (key 3 Proto ∷ []) (symbol 4) [])

pub returns-clause-without_one : goal.returns-clause-without_one
returns-clause-without_one c = ap (does loc) (created-entries (key 3 Dom) (list no_values) (key 3 Proto ∷ []) null [])
