use Rattle.std.proofs.Common.{ap}
use Rattle.assert_logic.proofs.CaseLaws.{assertion_splits}
use Rattle.assert_logic.proofs.FoldedOuts.{whole_meets}
use Rattle.assert_logic.proofs.laws.returns_are_matched.Goals as goal

pub returns : goal.returns
returns c = λ preds scope items t s found h is none r.
    let all = assertion_splits preds scope items t s found h is r in
    record {
      meets = whole_meets preds scope items t s found h is (ap (λ x. x.heap) none) (ap (λ x. x.facts) none) r;
      extends = all.goes.extends;
      sorts = all.goes.sorts;
    }
