use Rattle.std.proofs.Common.{◌≡◌, take, true}
use Rattle.gil_values.specs.View.{values_view}
use Rattle.pure_terms.specs.Direct.{is_at}
use Rattle.pure_terms.specs.View.{terms_view}
use Rattle.pure_terms.proofs.PairTests.{pairs_all}
use Rattle.pure_terms.proofs.direct.+has.Given as goal

abbrev pub invariant-terms_are-loop-index : goal.invariant-terms_are-loop-index
invariant-terms_are-loop-index l =
    pairs_all (is_at (values_view l.valuation)) (take l.index (terms_view l.terms)) (take l.index (values_view l.values)) ≡ true
