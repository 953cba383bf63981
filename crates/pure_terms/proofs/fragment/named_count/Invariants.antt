use Rattle.std.proofs.Common.{◌≡◌}
use Rattle.pure_terms.specs.View.{atoms_view}
use Rattle.pure_terms.proofs.Counting.{standing_below}
use Rattle.pure_terms.proofs.FragmentLaws.{numbers_of}
use Rattle.pure_terms.proofs.fragment.named_count.Given as goal

abbrev pub invariant-loop-number : goal.invariant-loop-number
invariant-loop-number l = l.count ≡ standing_below l.number (numbers_of (atoms_view l.atoms))
