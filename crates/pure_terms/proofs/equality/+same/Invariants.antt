use Rattle.std.proofs.Common.{◌≡◌, take}
use Rattle.pure_terms.specs.View.{terms_view}
use Rattle.pure_terms.proofs.equality.+same.Given as goal

abbrev pub invariant-are_equal_lists-loop-index : goal.invariant-are_equal_lists-loop-index
invariant-are_equal_lists-loop-index l = take l.index (terms_view l.ts) ≡ take l.index (terms_view l.us)
