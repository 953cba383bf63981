use Rattle.std.proofs.Common.{sym, [], ◌∷◌, ◌∙◌, length}
use Rattle.std.proofs.lemmas.Result.{err_from_is_err_and}
use Rattle.gil_lexer.specs.declared.words.Word.TheVariants.{Function}
use Rattle.operator_text.specs.Few.{IsNestedWithFew}
use Rattle.gil_text.specs.Located.{located_view}
use Rattle.source_text.proofs.RefusalLemmas.{located_source, no_refusal, located_spells, one_source, located_place, fault_refusal}
use Rattle.object_lang.specs.View.{function_view}
use Rattle.object_grammar.specs.Functions.{SpellsFunction, function_at}
use Rattle.object_grammar.proofs.FunctionLaws.{functions_read}
use Rattle.object_compiler.specs.Compiled.{compiled}
use Rattle.object_text.proofs.Reading.{names_hold, makes_hold, named_is_invalid, counted}
use Rattle.object_text.proofs.texts.read.Goals as goal

pub returns-in_err-functions-clause-only : goal.returns-in_err-functions-clause-only
returns-in_err-functions-clause-only c =
    let p = err_from_is_err_and c.from_residual.result c.from_residual.ensures.1 in
    let refused = c.in_err-functions.field-0.0 in
    rw (p.1, p.2) (λ source spells valid. no_refusal IsNestedWithFew SpellsFunction c.args.bytes.now refused.at refused.kind source c.in_err-functions.ensures.refused spells)

pub new-requires-clause-named : goal.new-requires-clause-named
new-requires-clause-named c =
    let read = c.in_ok-functions.ensures.ok in
    names_hold c.args.bytes.now (located_view function_view c.in_ok-functions.field-0) read.0 read.1 read.2

pub new-requires-clause-well_made : goal.new-requires-clause-well_made
new-requires-clause-well_made c =
    let read = c.in_ok-functions.ensures.ok in
    makes_hold c.args.bytes.now (located_view function_view c.in_ok-functions.field-0) read.0 read.1 read.2

pub returns-in-Ok-clause-only : goal.returns-in-Ok-clause-only
returns-in-Ok-clause-only c =
    let read = c.in_ok-functions.ensures.ok in
    let located = located_view function_view c.in_ok-functions.field-0 in
    let spelled = located_spells IsNestedWithFew SpellsFunction c.args.bytes.now located read.0 read.1 read.2 in
    λ source spells valid. c.in-Ok.ensures.source ∙ one_source IsNestedWithFew SpellsFunction (λ ls nested. nested.0) Function function_at functions_read c.args.bytes.now (located_source located) source spelled spells

pub returns-in-Ok-Some : goal.returns-in-Ok-Some
returns-in-Ok-Some c =
    let read = c.in_ok-functions.ensures.ok in
    let located = located_view function_view c.in_ok-functions.field-0 in
    let spelled = located_spells IsNestedWithFew SpellsFunction c.args.bytes.now located read.0 read.1 read.2 in
    let named = c.in-Err.ensures.invalid c.in_default.not-Memory in
    record {
      ok = tt;
      only = λ source spells valid. absurd (named_is_invalid c.args.bytes.now (located_source located) source c.in-Err.invalid.kind c.in-Err.invalid.item spells
          (one_source IsNestedWithFew SpellsFunction (λ ls nested. nested.0) Function function_at functions_read c.args.bytes.now (located_source located) source spelled spells) named valid);
      refused = fault_refusal compiled (length c.args.bytes.now ∷ []) (counted (length c.args.bytes.now)) located read.0 c.in-Err.invalid.kind c.in-Err.invalid.item read.2 named IsNestedWithFew SpellsFunction c.args.bytes.now c.in-Ok-Some.at read.1 ((rw c.in-Ok-Some.is at c.item_at.ensures) ∙ c.in-Ok-Some.field-0-is);
    }

pub unreachable-requires : goal.unreachable-requires
unreachable-requires c =
    let read = c.in_ok-functions.ensures.ok in
    located_place compiled (length c.args.bytes.now ∷ []) (counted (length c.args.bytes.now)) (located_view function_view c.in_ok-functions.field-0) read.0 c.in-Err.invalid.kind c.in-Err.invalid.item read.2
    (c.in-Err.ensures.invalid c.in_default.not-Memory) ((rw c.in-Ok-None.is at c.item_at.ensures) ∙ c.in-Ok-None.field-0-is)
