use Rattle.record_heap.specs.RecordLaws.{record_misses_what_lacks}
use Rattle.record_heap.proofs.laws.records_miss_what_they_lack.Goals as goal

pub returns : goal.returns
returns c = record_misses_what_lacks
