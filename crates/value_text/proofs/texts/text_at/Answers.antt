use Rattle.std.proofs.Common.{subst, sym}
use Rattle.gil_values.specs.Characters.{IsText}
use Rattle.value_text.proofs.TextLaws.{characters_say}
use Rattle.value_text.proofs.texts.text_at.Goals as goal

pub text_from-requires : goal.text_from-requires
text_from-requires c = subst IsText (sym c.as_str.ensures.value) (characters_say _ _ _ c.in_ok-characters.ensures)
