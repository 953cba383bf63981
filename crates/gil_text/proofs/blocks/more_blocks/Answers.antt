use Rattle.std.proofs.Common.{sym, ◌∙◌, ◌≡◌, ◌∷◌, [], ◌++◌, map}
use Rattle.std.proofs.lemmas.List.{map_push}
use Rattle.gil_syntax.specs.View.{assertion_view}
use Rattle.gil_text.proofs.BlockLoop.{blocks_go_on, blocks_without, blocks_end, blocks_are_done, without_gives}
use Rattle.gil_text.proofs.blocks.more_blocks.Goals as goal

pub returns-then-not-opens : goal.returns-then-not-opens
returns-then-not-opens c =
    blocks_end c.args.opening c.args.extent (map assertion_view c.loop.list) c.left-most.result c.loop.counter c.loop.rest _
    c.loop-test.true (sym c.opens.ensures ∙ c.if-not-opens.true) c.loop.invariant

pub returns-in-Err : goal.returns-in-Err
returns-in-Err c =
    without_gives c.args.opening c.args.extent _ c.without_block.result (map assertion_view c.loop.list) c.loop.rest _ c.without_block.ensures (rw c.copy.ensures at c.in-Err.ensures)
    (λ none. blocks_without c.args.opening c.args.extent (map assertion_view c.loop.list) c.left-most.result c.loop.counter c.loop.rest _
    c.loop-test.true (sym c.opens.ensures ∙ c.if-not-opens.false) none c.loop.invariant)

pub loop-preserved : goal.loop-preserved
loop-preserved c =
    let e : map assertion_view c.push.new.self ≡ map assertion_view c.loop.list ++ assertion_view c.in-Ok.block ∷ [] = rw c.in_ok-push-in-Ok.ensures.ok (map_push _ c.loop.list c.in-Ok.block) in
    rw e (blocks_go_on c.args.opening c.args.extent (map assertion_view c.loop.list) c.left-most.result c.loop.counter c.loop.rest _ (assertion_view c.in-Ok.block) c.in-Ok.behind
    c.loop-test.true (sym c.opens.ensures ∙ c.if-not-opens.false) (rw c.copy.ensures at c.in-Ok.ensures) c.loop.invariant)

pub returns : goal.returns
returns c = blocks_are_done c.args.opening c.args.extent (map assertion_view c.loop.list) c.left-most.result c.loop.counter c.loop.rest _ c.loop-test.false c.loop.invariant
