use Rattle.std.proofs.Common.{sym, ◌∙◌, ◌≡◌, ◌∷◌, [], ◌++◌, length, string_bytes}
use Rattle.std.proofs.lemmas.Result.{err_from_is_err_and}
use Rattle.value_text.specs.Reading.{before_quote, character_at}
use Rattle.value_text.proofs.Many.{goes_on, fails, ends, is_done}
use Rattle.value_text.proofs.texts.characters_at.Goals as goal

pub returns-then-begins_with : goal.returns-then-begins_with
returns-then-begins_with c =
    ends before_quote character_at (string_bytes c.loop.characters) (length c.args.bytes.now) c.loop.counter c.loop.rest.now _
    c.loop-test.true (sym c.begins_with.ensures ∙ c.if-begins_with.true) c.loop.invariant

pub returns-in_err-character : goal.returns-in_err-character
returns-in_err-character c =
    let p = err_from_is_err_and c.from_residual.result c.from_residual.ensures.1 in
    rw (p.1, p.2) (fails before_quote character_at (string_bytes c.loop.characters) (length c.args.bytes.now) c.loop.counter c.loop.rest.now _
    c.in_err-character.field-0.0 c.loop-test.true (sym c.begins_with.ensures ∙ c.if-begins_with.false) c.in_err-character.ensures c.loop.invariant)

pub loop-preserved : goal.loop-preserved
loop-preserved c =
    let e : string_bytes c.push_ascii.new.text ≡ string_bytes c.loop.characters ++ c.in_ok-character.character ∷ [] = c.in_ok-push_ascii.ensures in
    rw e (goes_on before_quote character_at (string_bytes c.loop.characters) (length c.args.bytes.now) c.loop.counter c.loop.rest.now _
    c.in_ok-character.character c.in_ok-character.behind.now c.loop-test.true (sym c.begins_with.ensures ∙ c.if-begins_with.false)
    c.in_ok-character.ensures c.loop.invariant)

pub returns : goal.returns
returns c =
    is_done before_quote character_at (string_bytes c.loop.characters) (length c.args.bytes.now) c.loop.counter c.loop.rest.now _ c.loop-test.false c.loop.invariant
