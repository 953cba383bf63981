use Rattle.std.proofs.Common.{◌-◌, length}
use Rattle.gil_grammar.specs.Texts.{byte_before}
use Rattle.gil_text.specs.Located.{located_view}
use Rattle.source_text.specs.Reading as read
use Rattle.source_text.proofs.ItemLoop.{ItemsSoFar}
use Rattle.source_text.proofs.reading.items_at.Given as goal

abbrev pub invariant-loop : goal.invariant-loop
invariant-loop g l =
    ItemsSoFar g.L.SourceLanguage.first g.L.SourceLanguage.reads (byte_before l.tokens) (l.most - l.counter) l.rest (located_view g.L.SourceLanguage.view l.located)
    (read.items_at g.L.SourceLanguage.first g.L.SourceLanguage.reads (byte_before l.tokens) (length l.fn.cursor) l.fn.cursor)
