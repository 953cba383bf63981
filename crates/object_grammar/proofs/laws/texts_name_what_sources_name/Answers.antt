use Rattle.object_grammar.proofs.TextLaws.{source_named}
use Rattle.object_grammar.proofs.laws.texts_name_what_sources_name.Goals as goal

pub returns : goal.returns
returns c = source_named
