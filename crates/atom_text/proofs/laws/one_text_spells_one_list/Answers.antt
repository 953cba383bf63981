use Rattle.atom_text.proofs.RefusalLemmas.{one_text}
use Rattle.atom_text.proofs.laws.one_text_spells_one_list.Goals as goal

pub returns : goal.returns
returns c = one_text
