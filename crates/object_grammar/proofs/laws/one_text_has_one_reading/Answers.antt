use Rattle.gil_lexer.specs.declared.words.Word.TheVariants.{Function}
use Rattle.operator_text.specs.Few.{IsNestedWithFew}
use Rattle.source_text.proofs.TextLaws.{one_reading}
use Rattle.object_grammar.specs.Functions.{SpellsFunction, function_at}
use Rattle.object_grammar.proofs.FunctionLaws.{functions_read}
use Rattle.object_grammar.proofs.laws.one_text_has_one_reading.Goals as goal

pub returns : goal.returns
returns c = one_reading IsNestedWithFew SpellsFunction (λ ls nested. nested.0) Function function_at functions_read
