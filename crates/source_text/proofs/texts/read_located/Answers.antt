use Rattle.gil_text.specs.Located.{located_view}
use Rattle.source_text.proofs.RefusalLemmas.{items_spell, stop_refusal}
use Rattle.source_text.proofs.texts.read_located.Goals as goal

pub returns-in-Ok-clause-ok : goal.returns-in-Ok-clause-ok
returns-in-Ok-clause-ok g c =
    let stand = rw c.as_slice.ensures at c.new-cursor.ensures in
    let nested = rw c.copy.ensures at c.in_default.ensures.none in
    let names = rw (c.copy-2.ensures, c.in-Ok-None.field-0-is) at c.in-Ok-None.ensures.none in
    let read = rw c.as_slice-in-Ok-None.ensures at c.in-Ok.ensures in
    items_spell g.L.SourceLanguage.nested g.L.SourceLanguage.spells c.args.bytes.now c.in_ok-tokens.tokens c.new-cursor.result c.in_ok-tokens.ensures.tokens stand g.met.L.SourceLanguage.bracketed g.L.SourceLanguage.first g.L.SourceLanguage.reads g.met.L.SourceLanguage.reading
    (located_view g.L.SourceLanguage.view c.in-Ok.located) nested names read

pub returns-in-Ok-None-clause-refused : goal.returns-in-Ok-None-clause-refused
returns-in-Ok-None-clause-refused g c =
    let stand = rw c.as_slice.ensures at c.new-cursor.ensures in
    let nested = rw c.copy.ensures at c.in_default.ensures.none in
    let read = rw c.as_slice-in-Ok-None.ensures at c.in-Err-source_at.ensures in
    rw c.stopped.ensures.kind
    (stop_refusal g.L.SourceLanguage.nested g.L.SourceLanguage.spells c.args.bytes.now c.in_ok-tokens.tokens c.new-cursor.result c.in_ok-tokens.ensures.tokens stand g.met.L.SourceLanguage.bracketed g.L.SourceLanguage.first g.L.SourceLanguage.reads g.met.L.SourceLanguage.reading
    c.stopped.result.at c.stopped.ensures.place nested c.in-Err-source_at.stop read)
