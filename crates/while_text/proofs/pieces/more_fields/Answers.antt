use Rattle.std.proofs.Common.{sym, ◌∙◌, ◌≡◌, ◌∷◌, [], ◌++◌, map}
use Rattle.std.proofs.lemmas.Result.{err_from_is_err_and}
use Rattle.std.proofs.lemmas.List.{map_push}
use Rattle.gil_lexer.specs.declared.signs.Sign.TheVariants as signs
use Rattle.gil_lexemes.proofs.ListReading.{more_goes_on, more_stops, more_ends, more_is_done}
use Rattle.while_lang.specs.View.{field_view}
use Rattle.while_grammar.specs.Reading.Statements.{field_at}
use Rattle.while_text.proofs.pieces.more_fields.Goals as goal

pub returns-then-not-is_at : goal.returns-then-not-is_at
returns-then-not-is_at c =
    more_ends field_at (map field_view c.loop.list) c.left-most.result c.loop.counter signs.Comma c.loop.rest _
    c.loop-test.true (sym c.is_at.ensures ∙ c.if-not-is_at.true) c.loop.invariant

pub returns-in_err-field : goal.returns-in_err-field
returns-in_err-field c =
    let p = err_from_is_err_and c.from_residual.result c.from_residual.ensures.1 in
    rw (p.1, p.2) (more_stops field_at (map field_view c.loop.list) c.left-most.result c.loop.counter signs.Comma c.loop.rest _
    c.in_err-field.field-0.0 c.loop-test.true (sym c.is_at.ensures ∙ c.if-not-is_at.false) (rw c.behind.ensures at c.in_err-field.ensures) c.loop.invariant)

pub loop-preserved : goal.loop-preserved
loop-preserved c =
    let e : map field_view c.push.new.self ≡ map field_view c.loop.list ++ field_view c.in_ok-field.field ∷ [] = rw c.in_ok-push.ensures.ok (map_push field_view c.loop.list _) in
    rw e (more_goes_on field_at (map field_view c.loop.list) c.left-most.result c.loop.counter signs.Comma c.loop.rest _
    (field_view c.in_ok-field.field) c.in_ok-field.behind c.loop-test.true (sym c.is_at.ensures ∙ c.if-not-is_at.false) (rw c.behind.ensures at c.in_ok-field.ensures) c.loop.invariant)

pub returns : goal.returns
returns c = more_is_done field_at (map field_view c.loop.list) c.left-most.result c.loop.counter signs.Comma c.loop.rest _ c.loop-test.false c.loop.invariant
