use Rattle.gil_lexer.specs.declared.words.Word.TheVariants.{Func}
use Rattle.gil_grammar.specs.Nesting.{IsNested}
use Rattle.source_text.proofs.TextLaws.{one_reading}
use Rattle.while_grammar.specs.Reading.Statements.{function_at}
use Rattle.while_grammar.specs.Statements.{SpellsFunction}
use Rattle.while_grammar.proofs.TextLaws.{functions_read}
use Rattle.while_grammar.proofs.laws.one_text_has_one_reading.Goals as goal

pub returns : goal.returns
returns c = one_reading IsNested SpellsFunction (λ ls nested. nested) Func function_at functions_read
