use Rattle.std.proofs.Common.{◌≡◌, List, ℕ, true, map, take}
use Rattle.std.specs.HashSet.{contains_by}
use Rattle.std.specs.List.{list_any}
use Rattle.std.specs.Str.{bytes_eq}
use Rattle.gil_values.specs.Pure.{text}
use Rattle.gil_values.specs.Equality.{same_value}
use Rattle.mem_model.specs.Names.{are_distinct_texts}
use Rattle.pure_terms.specs.View.{term_view}
use Rattle.record_sym.specs.LiteralNames.{name_value}
use Rattle.record_sym.proofs.distinct.are_distinct_literals.Given as goal

abbrev pub invariant-loop-term : goal.invariant-loop-term
invariant-loop-term l = record {
  before : (x : List ℕ) → contains_by (λ k. bytes_eq x k.now) l.before
      ≡ list_any (same_value (text x)) (map (λ t. name_value (term_view t)) (take l.term-index l.names));
  distinct : are_distinct_texts (map (λ t. name_value (term_view t)) (take l.term-index l.names)) ≡ true;
}
