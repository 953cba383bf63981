use Rattle.gil_lexemes.proofs.CursorLemmas.{stand_all}
use Rattle.gil_lexemes.proofs.cursor.Cursor.new.Goals as goal

pub returns : goal.returns
returns c = stand_all _ _ c.requires
