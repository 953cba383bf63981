use Rattle.object_heap.specs.ObjectLaws.{object_misses_what_lacks}
use Rattle.object_heap.proofs.laws.objects_miss_what_they_lack.Goals as goal

pub returns : goal.returns
returns c = object_misses_what_lacks
