use Rattle.std.proofs.Common.{sym, ◌∙◌, ◌≡◌, ◌∷◌, [], ◌++◌, map}
use Rattle.std.proofs.lemmas.Result.{err_from_is_err_and}
use Rattle.std.proofs.lemmas.List.{map_push}
use Rattle.gil_syntax.specs.View.{item_view, assertion_view}
use Rattle.gil_grammar.specs.Reading.Assertions as read
use Rattle.gil_lexer.specs.declared.signs.Sign.TheVariants as signs
use Rattle.gil_lexemes.proofs.ListReading.{more_goes_on, more_stops, more_ends, more_is_done}
use Rattle.gil_text.proofs.assertions.more_items.Goals as goal

pub returns-then-not-is_at : goal.returns-then-not-is_at
returns-then-not-is_at c =
    more_ends read.item_at (assertion_view c.loop.list) c.left-most.result c.loop.counter signs.Star c.loop.rest _
    c.loop-test.true (sym c.is_at.ensures ∙ c.if-not-is_at.true) c.loop.invariant

pub returns-in_err-item : goal.returns-in_err-item
returns-in_err-item c =
    let p = err_from_is_err_and c.from_residual.result c.from_residual.ensures.1 in
    rw (p.1, p.2) (more_stops read.item_at (assertion_view c.loop.list) c.left-most.result c.loop.counter signs.Star c.loop.rest _
    c.in_err-item.field-0.0 c.loop-test.true (sym c.is_at.ensures ∙ c.if-not-is_at.false) (rw c.behind.ensures at c.in_err-item.ensures) c.loop.invariant)

pub loop-preserved : goal.loop-preserved
loop-preserved c =
    let e : (assertion_view c.push.new.self) ≡ (assertion_view c.loop.list) ++ (item_view c.in_ok-item.item) ∷ [] = rw c.in_ok-push.ensures.ok (map_push _ c.loop.list c.in_ok-item.item) in
    rw e (more_goes_on read.item_at (assertion_view c.loop.list) c.left-most.result c.loop.counter signs.Star c.loop.rest _
    (item_view c.in_ok-item.item) c.in_ok-item.behind c.loop-test.true (sym c.is_at.ensures ∙ c.if-not-is_at.false) (rw c.behind.ensures at c.in_ok-item.ensures) c.loop.invariant)

pub returns : goal.returns
returns c = more_is_done read.item_at (assertion_view c.loop.list) c.left-most.result c.loop.counter signs.Star c.loop.rest _ c.loop-test.false c.loop.invariant
