use Rattle.assert_logic.proofs.AddingLaws as proved
use Rattle.assert_logic.proofs.laws.adding_is_complete.Goals as goal

pub returns : goal.returns
returns c = λ preds store items s h part whole. proved.adding_is_complete preds store items s h part whole
