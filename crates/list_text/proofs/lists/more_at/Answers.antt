use Rattle.std.proofs.Common.{sym, ap, ◌∙◌, ◌≡◌, ◌∷◌, [], ◌++◌, length, map}
use Rattle.std.proofs.lemmas.List.{map_push}
use Rattle.std.proofs.lemmas.Result.{err_from_is_err_and}
use Rattle.value_text.proofs.Many.{goes_on, fails, ends, is_done}
use Rattle.value_text.specs.Reading.{before_no_comma, behind_comma}
use Rattle.list_text.proofs.lists.more_at.Goals as goal

pub returns-then-ends_elements : goal.returns-then-ends_elements
returns-then-ends_elements g c =
    ends before_no_comma (behind_comma g.R.Reader.reading) (map g.R.Reader.view c.loop.items) (length c.args.bytes.now) c.loop.counter c.loop.rest.now _
    c.loop-test.true (sym c.ends_elements.ensures ∙ c.if-ends_elements.true) c.loop.invariant

pub returns-in_err-item : goal.returns-in_err-item
returns-in_err-item g c =
    let p = err_from_is_err_and c.from_residual.result c.from_residual.ensures.1 in
    rw (p.1, p.2) (fails before_no_comma (behind_comma g.R.Reader.reading) (map g.R.Reader.view c.loop.items) (length c.args.bytes.now) c.loop.counter c.loop.rest.now _
    c.in_err-item.field-0.0 c.loop-test.true (sym c.ends_elements.ensures ∙ c.if-ends_elements.false) c.in_err-item.ensures c.loop.invariant)

pub loop-preserved : goal.loop-preserved
loop-preserved g c =
    let e : map g.R.Reader.view c.push.new.self ≡ map g.R.Reader.view c.loop.items ++ g.R.Reader.view c.in_ok-item.item ∷ [] =
    ap (map g.R.Reader.view) c.in_ok-push.ensures.ok ∙ map_push g.R.Reader.view c.loop.items c.in_ok-item.item in
    rw e (goes_on before_no_comma (behind_comma g.R.Reader.reading) (map g.R.Reader.view c.loop.items) (length c.args.bytes.now) c.loop.counter c.loop.rest.now _
    (g.R.Reader.view c.in_ok-item.item) c.in_ok-item.behind.now c.loop-test.true (sym c.ends_elements.ensures ∙ c.if-ends_elements.false)
    c.in_ok-item.ensures c.loop.invariant)

pub returns : goal.returns
returns g c =
    is_done before_no_comma (behind_comma g.R.Reader.reading) (map g.R.Reader.view c.loop.items) (length c.args.bytes.now) c.loop.counter c.loop.rest.now _ c.loop-test.false c.loop.invariant
