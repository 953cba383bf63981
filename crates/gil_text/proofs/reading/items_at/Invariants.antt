use Rattle.std.proofs.Common.{◌-◌, length}
use Rattle.gil_syntax.specs.View.{proc_view}
use Rattle.gil_grammar.specs.Reading.Texts as read
use Rattle.gil_text.specs.Located.{located_view}
use Rattle.gil_text.proofs.ItemLoop.{ItemsSoFar}
use Rattle.gil_text.proofs.reading.items_at.Given as goal

abbrev pub invariant-loop : goal.invariant-loop
invariant-loop l = ItemsSoFar l.tokens (l.most - l.counter) l.rest (located_view proc_view l.located) (read.items_at l.tokens (length l.fn.cursor) l.fn.cursor)
