use Rattle.assert_logic.proofs.InventionLaws as proved
use Rattle.assert_logic.proofs.laws.meeting_invents_nothing.Goals as goal

pub returns : goal.returns
returns c = λ p memory made modes. record {
  by_items = proved.meeting_invents_nothing p memory made modes;
  by_predicates = proved.predicates_invent_nothing p memory made modes;
}
