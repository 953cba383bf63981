use Rattle.std.proofs.Common.{◌≡◌, take, true}
use Rattle.gil_values.specs.View.{values_view}
use Rattle.pure_terms.specs.Direct.{are_same}
use Rattle.pure_terms.specs.View.{terms_view}
use Rattle.pure_terms.proofs.PairTests.{pairs_all}
use Rattle.pure_terms.proofs.direct.+alike.Given as goal

abbrev pub invariant-are_same_lists-loop-index : goal.invariant-are_same_lists-loop-index
invariant-are_same_lists-loop-index l =
    pairs_all (are_same (values_view l.valuation)) (take l.index (terms_view l.terms)) (take l.index (terms_view l.others)) ≡ true
