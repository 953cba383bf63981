use Rattle.std.proofs.Common.{subst}
use Rattle.gil_lexemes.specs.Standing.{FirstStands}
use Rattle.gil_lexemes.proofs.CursorLemmas.{first_stands}
use Rattle.gil_lexemes.proofs.cursor.Cursor.spelling.Goals as goal

pub returns-in-len1-up : goal.returns-in-len1-up
returns-in-len1-up c =
    let stands = first_stands _ c.self.inside.tokens.now _ c.self.invariant c.in-len1-up.len_at_least in
    subst (FirstStands c.text.result.now) c.self.view_is (rw c.text.ensures stands)
