use Rattle.assert_logic.proofs.CaseLaws.{fold_splits}
use Rattle.assert_logic.proofs.FoldedOuts.{fold_outs}
use Rattle.assert_logic.proofs.laws.folding_splits.Goals as goal

pub returns : goal.returns
returns c = λ preds name ins outs s found h is r.
    let all = fold_splits preds name ins outs s found h is r in
    record {
      part = all.part;
      rest = all.rest;
      union = all.union;
      holds_there = all.taken;
      outs_are_given = fold_outs preds name ins outs s found h is r;
      realized = all.realized;
    }
