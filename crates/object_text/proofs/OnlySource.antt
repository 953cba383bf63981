-- A text of a source is accepted, as that source, by a reader that answers the items of a text or the first refusal that applies.
use Rattle.std.proofs.Common.{◌≡◌, ℕ, List, Result, Ok, Err}
use Rattle.std.specs.Prelude.{IfOk, IfErr, MatchResult}
use Rattle.gil_lexer.specs.declared.words.Word.TheVariants.{Function as a_function}
use Rattle.gil_text.specs.Located.{located_view}
use Rattle.gil_text.specs.declared.located.Located.{Located}
use Rattle.gil_text.specs.declared.refused.Refused.{Refused}
use Rattle.gil_text.specs.declared.refused.RefusedKind.TheVariants.{Memory}
use Rattle.operator_text.specs.Few.{IsNestedWithFew}
use Rattle.source_language.specs.declared.trees.Function.{Function}
use Rattle.source_operators.specs.declared.trees.Expression.{Expression}
use Rattle.source_statements.specs.declared.tree.Block.{Block}
use Rattle.source_text.specs.Located.{located_of}
use Rattle.source_text.specs.Refusals.{IsRefusedTree}
use Rattle.source_text.proofs.RefusalLemmas.{located_source, no_refusal, located_spells, one_source}
use Rattle.object_operators.specs.declared.trees.Joint.{Joint}
use Rattle.object_operators.specs.declared.trees.Prefix.{Prefix}
use Rattle.object_lang.specs.Pure.{PureSource}
use Rattle.object_lang.specs.View.{function_view}
use Rattle.object_lang.specs.declared.tree.SimpleStatement.{SimpleStatement}
use Rattle.object_grammar.specs.Functions.{SpellsFunction, function_at}
use Rattle.object_grammar.specs.Texts.{PlacedItem, SpellItems, SpellSource}
use Rattle.object_grammar.proofs.FunctionLaws.{functions_read}

abbrev Answer : Type 0
Answer = Result (Located (Function (Block (Expression Prefix Joint) SimpleStatement))) Refused

pub only_source : (bytes : List ℕ) (result : Answer)
    → IfOk result (λ located. (items : List PlacedItem) × SpellItems bytes items × (located_view function_view located ≡ located_of items))
    → IfErr result (IsRefusedTree IsNestedWithFew SpellsFunction bytes) → (source : PureSource) → SpellSource bytes source
    → MatchResult result (λ located. located_source (located_view function_view located) ≡ source) (λ refused. refused.kind ≡ Memory)
only_source bytes (Ok located) (items, s, is) refused source spells =
    one_source IsNestedWithFew SpellsFunction (λ ls nested. nested.0) a_function function_at functions_read bytes
    (located_source (located_view function_view located)) source
    (located_spells IsNestedWithFew SpellsFunction bytes (located_view function_view located) items s is) spells
only_source bytes (Err r) ok refused source spells = no_refusal IsNestedWithFew SpellsFunction bytes r.at r.kind source refused spells
