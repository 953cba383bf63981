use Rattle.block_heap.specs.BlockLaws.{block_misses_what_lacks}
use Rattle.object_heap.specs.ObjectLaws.{object_misses_what_lacks}
use Rattle.record_heap.specs.RecordLaws.{record_misses_what_lacks}
use Rattle.gillian_core.proofs.languages.infer_in.Goals as goal

pub inferred-requires-clause-own_keys : goal.inferred-requires-clause-own_keys
inferred-requires-clause-own_keys g c = record_misses_what_lacks

pub inferred-requires-in-GilBlock-clause-own_keys : goal.inferred-requires-in-GilBlock-clause-own_keys
inferred-requires-in-GilBlock-clause-own_keys g c = block_misses_what_lacks

pub inferred-requires-in-GilObject-clause-own_keys : goal.inferred-requires-in-GilObject-clause-own_keys
inferred-requires-in-GilObject-clause-own_keys g c = object_misses_what_lacks

pub inferred-requires-in-While-clause-own_keys : goal.inferred-requires-in-While-clause-own_keys
inferred-requires-in-While-clause-own_keys g c = record_misses_what_lacks

pub inferred-requires-in-Clike-clause-own_keys : goal.inferred-requires-in-Clike-clause-own_keys
inferred-requires-in-Clike-clause-own_keys g c = block_misses_what_lacks

pub inferred-requires-in-Object-clause-own_keys : goal.inferred-requires-in-Object-clause-own_keys
inferred-requires-in-Object-clause-own_keys g c = object_misses_what_lacks

pub returns-in-GilRecord : goal.returns-in-GilRecord
returns-in-GilRecord g c = rw c.in-GilRecord.is c.inferred.ensures

pub returns-in-GilBlock : goal.returns-in-GilBlock
returns-in-GilBlock g c = rw c.in-GilBlock.is c.inferred-in-GilBlock.ensures

pub returns-in-GilObject : goal.returns-in-GilObject
returns-in-GilObject g c = rw c.in-GilObject.is c.inferred-in-GilObject.ensures

pub returns-in-While : goal.returns-in-While
returns-in-While g c = rw c.in-While.is c.inferred-in-While.ensures

pub returns-in-Clike : goal.returns-in-Clike
returns-in-Clike g c = rw c.in-Clike.is c.inferred-in-Clike.ensures

pub returns-in-Object : goal.returns-in-Object
returns-in-Object g c = rw c.in-Object.is c.inferred-in-Object.ensures
