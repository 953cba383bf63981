use Rattle.assert_logic.proofs.MeetLaws as proved
use Rattle.assert_logic.proofs.laws.larger_ranks_keep.Goals as goal

pub returns : goal.returns
returns c = λ preds j k name ins outs h le. proved.larger_ranks_keep preds j k le name ins outs h
