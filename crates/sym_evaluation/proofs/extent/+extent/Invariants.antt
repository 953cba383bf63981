use Rattle.std.proofs.Common.{◌≡◌, ◌+◌, ◌*◌, drop, map}
use Rattle.std.specs.Prelude.{nat_le}
use Rattle.pure_terms.specs.Pure.{from_list, sizes}
use Rattle.pure_terms.specs.View.{term_view}
use Rattle.sym_evaluation.specs.Extent.{deepest}
use Rattle.sym_evaluation.proofs.extent.+extent.Given as goal

abbrev pub decreases-nodes_left : goal.decreases-nodes_left
decreases-nodes_left l = 2 * l.limit

abbrev pub decreases-nodes_left_of_all : goal.decreases-nodes_left_of_all
decreases-nodes_left_of_all l = 2 * l.limit + 1

abbrev pub invariant-nodes_left_of_all-loop-term : goal.invariant-nodes_left_of_all-loop-term
invariant-nodes_left_of_all-loop-term l = record {
  shallow : nat_le (deepest (from_list (map term_view (drop l.term-index l.term-items)))) l.limit ≡ nat_le (deepest (from_list (map term_view l.term-items))) l.limit;
  small : sizes (from_list (map term_view (drop l.term-index l.term-items))) + l.most ≡ sizes (from_list (map term_view l.term-items)) + l.left;
}
