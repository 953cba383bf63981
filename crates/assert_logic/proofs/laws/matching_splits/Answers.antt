use Rattle.assert_logic.proofs.CaseLaws.{assertion_splits}
use Rattle.assert_logic.proofs.laws.matching_splits.Goals as goal

pub returns : goal.returns
returns c = λ preds scope items t s found h is r.
    let all = assertion_splits preds scope items t s found h is r in
    (record { part = all.split.part; rest = all.split.rest; union = all.split.union; meets = all.split.taken; realized = all.split.realized; extends = all.goes.extends }, all.goes.sorts)
