use Rattle.std.proofs.Common.{◌≡◌, ◌<◌, ◌∙◌, ap, arith, length}
use Rattle.std.proofs.lemmas.Result.{err_from_is_err_and}
use Rattle.gil_grammar.specs.Texts as text
use Rattle.gil_text.specs.Located.{located_view}
use Rattle.source_text.specs.Located.{source_item_view}
use Rattle.source_text.proofs.ItemLoop.{with_item, item_added, items_go_on, items_stop, items_end, items_are_left}
use Rattle.source_text.proofs.reading.items_at.Goals as goal

pub returns-then-left-eq0 : goal.returns-then-left-eq0
returns-then-left-eq0 g c = items_end g.L.SourceLanguage.first g.L.SourceLanguage.reads (text.byte_before c.args.tokens.now) _ c.loop.rest (located_view g.L.SourceLanguage.view c.loop.located) _
    (omega (arith, c.left-left.ensures, c.if-left-eq0.true)) c.loop.invariant

pub returns-in_err-item : goal.returns-in_err-item
returns-in_err-item g c =
    let p = err_from_is_err_and c.from_residual.result c.from_residual.ensures.1 in
    rw (p.1, p.2) (items_stop g.L.SourceLanguage.first g.L.SourceLanguage.reads (text.byte_before c.args.tokens.now) c.in_err-item.field-0.0 c.left-most.result c.loop.counter c.loop.rest
    (located_view g.L.SourceLanguage.view c.loop.located) _
    c.loop-test.true (omega (arith, c.left-left.ensures, c.if-left-eq0.false)) c.in_err-item.ensures c.loop.invariant)

pub loop-preserved : goal.loop-preserved
loop-preserved g c =
    let some : 0 < length c.loop.rest = omega (arith, c.left-left.ensures, c.if-left-eq0.false) in
    let view = g.L.SourceLanguage.view in
    let step = items_go_on g.L.SourceLanguage.first g.L.SourceLanguage.reads (text.byte_before c.args.tokens.now) c.left-most.result c.loop.counter c.loop.rest c.in_ok-item.behind (source_item_view view c.in_ok-item.item)
    (located_view view c.loop.located) _
    c.loop-test.true some c.in_ok-item.ensures c.loop.invariant in
    let at : c.byte_before.result ≡ text.byte_before c.args.tokens.now (length c.loop.rest) = c.byte_before.ensures ∙ ap (text.byte_before c.args.tokens.now) c.left-left.ensures in
    let e : located_view view c.add.new.self ≡ with_item (located_view view c.loop.located) (record { item = source_item_view view c.in_ok-item.item; at = text.byte_before c.args.tokens.now (length c.loop.rest) }) =
    ap (located_view view) c.in_ok-add.ensures ∙ item_added view c.loop.located c.in_ok-item.item c.byte_before.result
    ∙ ap (λ k. with_item (located_view view c.loop.located) (record { item = source_item_view view c.in_ok-item.item; at = k })) at in
    rw e step

pub returns-then-unread-gt0 : goal.returns-then-unread-gt0
returns-then-unread-gt0 g c = items_are_left g.L.SourceLanguage.first g.L.SourceLanguage.reads (text.byte_before c.args.tokens.now) c.left-most.result c.loop.counter c.loop.rest
    (located_view g.L.SourceLanguage.view c.loop.located) _ c.loop-test.false
    (omega (arith, c.left-unread.ensures, c.if-unread-gt0.true)) c.loop.invariant

pub returns : goal.returns
returns g c = items_end g.L.SourceLanguage.first g.L.SourceLanguage.reads (text.byte_before c.args.tokens.now) _ c.loop.rest (located_view g.L.SourceLanguage.view c.loop.located) _
    (omega (arith, c.left-unread.ensures, c.if-unread-gt0.false)) c.loop.invariant
