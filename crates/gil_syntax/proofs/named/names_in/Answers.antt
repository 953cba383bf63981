use Rattle.std.proofs.Common.{ap, map, ◌∙◌, arith}
use Rattle.std.proofs.lemmas.List.{take_all}
use Rattle.gil_syntax.specs.Valid.{is_among}
use Rattle.gil_syntax.proofs.NameLemmas.{names_more}
use Rattle.gil_syntax.proofs.named.names_in.Goals as goal

pub loop-item-preserved : goal.loop-item-preserved
loop-item-preserved g c = names_more g.T.Named.name_of c.args.items.now c.loop-item.item-index c.item-item.result c.name.result c.loop-item.names c.insert.new.self (omega arith) c.item-item.is c.name.ensures c.in_ok-insert.ensures.updates c.loop-item.invariant

pub returns : goal.returns
returns g c = λ i x. (c.loop-item.invariant x ∙ ap (λ xs. is_among (map g.T.Named.name_of xs) x) (take_all c.loop-item.item-index c.args.items.now (omega arith))) i
