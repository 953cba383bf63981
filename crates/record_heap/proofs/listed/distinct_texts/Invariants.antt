use Rattle.std.proofs.Common.{◌≡◌, List, ℕ, true, map, take}
use Rattle.std.specs.HashSet.{contains_by}
use Rattle.std.specs.List.{list_any}
use Rattle.std.specs.Str.{bytes_eq}
use Rattle.gil_values.specs.Pure.{text}
use Rattle.gil_values.specs.Equality.{same_value}
use Rattle.gil_values.specs.View.{value_view}
use Rattle.mem_model.specs.Names.{are_distinct_texts}
use Rattle.record_heap.proofs.listed.distinct_texts.Given as goal

abbrev pub invariant-loop-value : goal.invariant-loop-value
invariant-loop-value l = record {
  before : (x : List ℕ) → contains_by (λ k. bytes_eq x k.now) l.before ≡ list_any (same_value (text x)) (map value_view (take l.value-index l.values));
  distinct : are_distinct_texts (map value_view (take l.value-index l.values)) ≡ true;
}
