use Rattle.source_text.proofs.TextLaws.{one_reading}
use Rattle.source_text.proofs.laws.one_text_has_one_reading.Goals as goal

pub returns : goal.returns
returns g c = one_reading g.L.SourceLanguage.nested g.L.SourceLanguage.spells g.met.L.SourceLanguage.bracketed g.L.SourceLanguage.first g.L.SourceLanguage.reads g.met.L.SourceLanguage.reading
