use Rattle.gil_print.proofs.Texts.{printed_texts_spell}
use Rattle.gil_print.proofs.laws.printed_texts_spell.Goals as goal

pub returns : goal.returns
returns c = printed_texts_spell
