use Rattle.std.proofs.Common.{◌≡◌, ◌<◌, ◌∙◌, ap, arith, length}
use Rattle.std.proofs.lemmas.Result.{err_from_is_err_and}
use Rattle.gil_syntax.specs.View.{proc_view}
use Rattle.gil_grammar.specs.Texts as text
use Rattle.gil_text.specs.Located.{located_view, text_item_view}
use Rattle.gil_text.proofs.ItemLoop.{with_item, item_added, items_go_on, items_stop, items_end, items_are_left}
use Rattle.gil_text.proofs.reading.items_at.Goals as goal

pub returns-then-left-eq0 : goal.returns-then-left-eq0
returns-then-left-eq0 c = items_end c.args.tokens.now _ c.loop.rest (located_view proc_view c.loop.located) _ (omega (arith, c.left-left.ensures, c.if-left-eq0.true)) c.loop.invariant

pub returns-in_err-item : goal.returns-in_err-item
returns-in_err-item c =
    let p = err_from_is_err_and c.from_residual.result c.from_residual.ensures.1 in
    rw (p.1, p.2) (items_stop c.in_err-item.field-0.0 c.args.tokens.now c.left-most.result c.loop.counter c.loop.rest (located_view proc_view c.loop.located) _
    c.loop-test.true (omega (arith, c.left-left.ensures, c.if-left-eq0.false)) c.in_err-item.ensures c.loop.invariant)

pub loop-preserved : goal.loop-preserved
loop-preserved c =
    let some : 0 < length c.loop.rest = omega (arith, c.left-left.ensures, c.if-left-eq0.false) in
    let step = items_go_on c.args.tokens.now c.left-most.result c.loop.counter c.loop.rest c.in_ok-item.behind (text_item_view c.in_ok-item.item) (located_view proc_view c.loop.located) _
    c.loop-test.true some c.in_ok-item.ensures c.loop.invariant in
    let at : c.byte_before.result ≡ text.byte_before c.args.tokens.now (length c.loop.rest) = c.byte_before.ensures ∙ ap (text.byte_before c.args.tokens.now) c.left-left.ensures in
    let e : located_view proc_view c.add.new.self ≡ with_item (located_view proc_view c.loop.located) (record { item = text_item_view c.in_ok-item.item; at = text.byte_before c.args.tokens.now (length c.loop.rest) }) =
    ap (located_view proc_view) c.in_ok-add.ensures ∙ item_added c.loop.located c.in_ok-item.item c.byte_before.result ∙ ap (λ k. with_item (located_view proc_view c.loop.located) (record { item = text_item_view c.in_ok-item.item; at = k })) at in
    rw e step

pub returns-then-unread-gt0 : goal.returns-then-unread-gt0
returns-then-unread-gt0 c = items_are_left c.args.tokens.now c.left-most.result c.loop.counter c.loop.rest (located_view proc_view c.loop.located) _ c.loop-test.false
    (omega (arith, c.left-unread.ensures, c.if-unread-gt0.true)) c.loop.invariant

pub returns : goal.returns
returns c = items_end c.args.tokens.now _ c.loop.rest (located_view proc_view c.loop.located) _ (omega (arith, c.left-unread.ensures, c.if-unread-gt0.false)) c.loop.invariant
