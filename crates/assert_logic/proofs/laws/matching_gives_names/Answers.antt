use Rattle.assert_logic.specs.Matching.{once}
use Rattle.assert_logic.proofs.GivenNames.{items_gain}
use Rattle.assert_logic.proofs.laws.matching_gives_names.Goals as goal

pub returns : goal.returns
returns c = λ preds scope items t s found x v is at. (items_gain scope (once preds) 0 items t s found is).from x v at
