use Rattle.gil_lexemes.proofs.Names.{is_utf8_text}
use Rattle.value_text.proofs.names.text_from_bytes.Goals as goal

pub unreachable-requires : goal.unreachable-requires
unreachable-requires c = c.in-Err.ensures.cases.0 (is_utf8_text _ c.requires)
