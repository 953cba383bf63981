use Rattle.std.proofs.Common.{◌∙◌, ap}
use Rattle.gil_lexer.specs.Reading.{word_of}
use Rattle.expression_text.proofs.LeadLaws.{word_is}
use Rattle.writable_reports.proofs.names.word_of.Goals as goal

pub returns : goal.returns
returns c =
    word_is c.as_bytes.result.now c.from_spelling.result c.from_spelling.ensures.some c.from_spelling.ensures.none
    ∙ ap word_of (c.as_bytes.ensures.value ∙ c.as_str.ensures.characters)
