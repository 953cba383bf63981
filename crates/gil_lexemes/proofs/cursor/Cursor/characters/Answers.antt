use Rattle.std.proofs.Common.{◌∙◌, refl, sym, ap, Some}
use Rattle.gil_lexer.specs.declared.forms.Form.TheVariants as forms
use Rattle.gil_lexemes.specs.declared.standing.Lexeme.TheVariants as lexemes
use Rattle.gil_lexemes.specs.Reading.{characters_at}
use Rattle.gil_lexemes.proofs.CursorLemmas.{first_is}
use Rattle.gil_lexemes.proofs.cursor.Cursor.characters.Goals as goal

pub returns-in_ok-characters-in-Some-Text : goal.returns-in_ok-characters-in-Some-Text
returns-in_ok-characters-in-Some-Text c =
    let text = c.in_ok-characters-in-Some-Text.characters in
    let is = first_is forms.Text c.spelling.result.now c.args.self (lexemes.Literal text) (sym (rw c.in-Some-Text.field-0-is at c.in-Some-Text.ensures)) c.spelling.ensures (text, c.in_ok-characters-in-Some-Text.ensures, refl) in
    ap characters_at is ∙ ap (λ rest. Some (text, rest)) (sym c.behind.ensures)
