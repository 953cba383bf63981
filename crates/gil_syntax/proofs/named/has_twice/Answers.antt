use Rattle.std.proofs.Common.{arith}
use Rattle.gil_syntax.proofs.NameLemmas.{names_more, twice_more, twice_here}
use Rattle.gil_syntax.proofs.named.has_twice.Goals as goal

pub returns-then-not-branch : goal.returns-then-not-branch
returns-then-not-branch g c = twice_here g.T.Named.name_of c.args.items.now c.loop-item.item-index c.item-item.result c.name.result c.loop-item.before c.in_ok-insert.field-0 (omega arith) c.item-item.is c.name.ensures c.in_ok-insert.ensures.added c.loop-item.invariant.before c.if-not-branch.true

pub loop-item-preserved : goal.loop-item-preserved
loop-item-preserved g c = record {
  before = names_more g.T.Named.name_of c.args.items.now c.loop-item.item-index c.item-item.result c.name.result c.loop-item.before c.insert.new.self (omega arith) c.item-item.is c.name.ensures c.in_ok-insert.ensures.updates c.loop-item.invariant.before;
  once = twice_more g.T.Named.name_of c.args.items.now c.loop-item.item-index c.item-item.result c.name.result c.loop-item.before c.in_ok-insert.field-0 (omega arith) c.item-item.is c.name.ensures c.in_ok-insert.ensures.added c.loop-item.invariant.before c.if-not-branch.false c.loop-item.invariant.once;
}
