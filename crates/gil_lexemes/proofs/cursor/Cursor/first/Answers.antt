use Rattle.std.proofs.Common.{◌∙◌, sym, ap}
use Rattle.gil_lexemes.specs.Reading.{first_form}
use Rattle.gil_lexemes.proofs.CursorLemmas.{first_form_is}
use Rattle.gil_lexemes.proofs.cursor.Cursor.first.Goals as goal

pub returns-in-len1-up : goal.returns-in-len1-up
returns-in-len1-up c = sym (ap first_form (sym c.self.view_is) ∙ first_form_is _ c.self.inside.tokens.now _ c.in-len1-up.len_at_least)
