use Rattle.assert_logic.specs.Meets.{HoldsSomewhere}
use Rattle.assert_logic.proofs.MeetLaws.{meets_split, meets_joined, meets_any_order}
use Rattle.assert_logic.proofs.laws.heaps_split_among_items.Goals as goal

pub returns : goal.returns
returns c = λ preds store h. record {
  split = λ xs ys. (meets_split (HoldsSomewhere preds) store xs ys h, λ (a, (b, (union, (first, second)))). meets_joined (HoldsSomewhere preds) store xs ys h a b union first second);
  any_order = λ ws xs ys. meets_any_order (HoldsSomewhere preds) store ws xs ys h;
}
