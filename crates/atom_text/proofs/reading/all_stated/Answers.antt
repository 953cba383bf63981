use Rattle.std.proofs.Common.{◌≡◌, ◌<◌, ◌-◌, ◌++◌, ◌∷◌, [], length, map, ◌∙◌, ap, arith}
use Rattle.std.proofs.lemmas.List.{map_push}
use Rattle.std.proofs.lemmas.Result.{err_from_is_err_and}
use Rattle.atom_text.specs.Reading.{with_read, all_at, stated_at}
use Rattle.atom_text.specs.Sources.{stated_view}
use Rattle.atom_text.proofs.Loops.{nothing_before, all_goes_on, all_stops, all_are_left, all_end}
use Rattle.atom_text.proofs.reading.all_stated.Goals as goal

pub loop-init : goal.loop-init
loop-init c =
    let k : c.left-most.result - 0 ≡ length c.args.cursor = omega (arith, c.left-most.ensures) in
    ap (λ xs. with_read (map stated_view xs) (all_at (stated_at c.args.tokens.now) (c.left-most.result - 0) c.args.cursor)) c.new-list.ensures
    ∙ nothing_before (all_at (stated_at c.args.tokens.now) (c.left-most.result - 0) c.args.cursor)
    ∙ ap (λ n. all_at (stated_at c.args.tokens.now) n c.args.cursor) k

pub returns-then-left-eq0 : goal.returns-then-left-eq0
returns-then-left-eq0 c = all_end (stated_at c.args.tokens.now) (map stated_view c.loop.list) _ c.loop.rest _ (omega (arith, c.left.ensures, c.if-left-eq0.true)) c.loop.invariant

pub returns-in_err-stated : goal.returns-in_err-stated
returns-in_err-stated c =
    let p = err_from_is_err_and c.from_residual.result c.from_residual.ensures.1 in
    rw (p.1, p.2) (all_stops (stated_at c.args.tokens.now) (map stated_view c.loop.list) c.left-most.result c.loop.counter c.in_err-stated.field-0.0 c.loop.rest _
    c.loop-test.true (omega (arith, c.left.ensures, c.if-left-eq0.false)) c.in_err-stated.ensures c.loop.invariant)

pub loop-preserved : goal.loop-preserved
loop-preserved c =
    let some : 0 < length c.loop.rest = omega (arith, c.left.ensures, c.if-left-eq0.false) in
    let e : map stated_view c.push.new.self ≡ map stated_view c.loop.list ++ stated_view c.in_ok-stated.stated ∷ [] = ap (map stated_view) c.in_ok-push.ensures.ok ∙ map_push stated_view c.loop.list c.in_ok-stated.stated in
    rw e (all_goes_on (stated_at c.args.tokens.now) (map stated_view c.loop.list) c.left-most.result c.loop.counter c.loop.rest c.in_ok-stated.behind (stated_view c.in_ok-stated.stated) _
    c.loop-test.true some c.in_ok-stated.ensures c.loop.invariant)

pub returns-then-unread-gt0 : goal.returns-then-unread-gt0
returns-then-unread-gt0 c = all_are_left (stated_at c.args.tokens.now) (map stated_view c.loop.list) c.left-most.result c.loop.counter c.loop.rest _ c.loop-test.false
    (omega (arith, c.left-unread.ensures, c.if-unread-gt0.true)) c.loop.invariant

pub returns : goal.returns
returns c = all_end (stated_at c.args.tokens.now) (map stated_view c.loop.list) _ c.loop.rest _ (omega (arith, c.left-unread.ensures, c.if-unread-gt0.false)) c.loop.invariant
