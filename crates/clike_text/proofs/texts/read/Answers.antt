use Rattle.std.proofs.Common.{sym, [], ◌∙◌}
use Rattle.std.proofs.lemmas.Result.{err_from_is_err_and}
use Rattle.gil_lexer.specs.declared.words.Word.TheVariants.{Int}
use Rattle.operator_text.specs.Few.{IsNestedWithFew}
use Rattle.gil_text.specs.Located.{located_view}
use Rattle.source_text.proofs.RefusalLemmas.{located_source, no_refusal, located_spells, one_source, located_place, fault_refusal}
use Rattle.clike_lang.specs.View.{function_view}
use Rattle.clike_grammar.specs.Functions.{SpellsFunction, function_at}
use Rattle.clike_grammar.proofs.FunctionLaws.{functions_read}
use Rattle.clike_compiler.specs.Compiled.{compiled}
use Rattle.clike_text.proofs.Reading.{names_hold, makes_hold, named_is_invalid, counted}
use Rattle.clike_text.proofs.texts.read.Goals as goal

pub returns-in_err-functions-clause-only : goal.returns-in_err-functions-clause-only
returns-in_err-functions-clause-only c =
    let p = err_from_is_err_and c.from_residual.result c.from_residual.ensures.1 in
    let refused = c.in_err-functions.field-0.0 in
    rw (p.1, p.2) (λ source spells valid. no_refusal IsNestedWithFew SpellsFunction c.args.bytes.now refused.at refused.kind source c.in_err-functions.ensures.refused spells)

pub new-requires-clause-named : goal.new-requires-clause-named
new-requires-clause-named c =
    let read = c.in_ok-functions.ensures.ok in
    names_hold c.args.bytes.now (located_view function_view c.in_ok-functions.field-0) read.0 read.1 read.2

pub new-requires-clause-well_made : goal.new-requires-clause-well_made
new-requires-clause-well_made c =
    let read = c.in_ok-functions.ensures.ok in
    makes_hold c.args.bytes.now (located_view function_view c.in_ok-functions.field-0) read.0 read.1 read.2

pub returns-in-Ok-clause-only : goal.returns-in-Ok-clause-only
returns-in-Ok-clause-only c =
    let read = c.in_ok-functions.ensures.ok in
    let located = located_view function_view c.in_ok-functions.field-0 in
    let spelled = located_spells IsNestedWithFew SpellsFunction c.args.bytes.now located read.0 read.1 read.2 in
    λ source spells valid. c.in-Ok.ensures.source ∙ one_source IsNestedWithFew SpellsFunction (λ ls nested. nested.0) Int function_at functions_read c.args.bytes.now (located_source located) source spelled spells

pub returns-in-Some : goal.returns-in-Some
returns-in-Some c =
    let read = c.in_ok-functions.ensures.ok in
    let located = located_view function_view c.in_ok-functions.field-0 in
    let spelled = located_spells IsNestedWithFew SpellsFunction c.args.bytes.now located read.0 read.1 read.2 in
    let named = c.in-Err.ensures.invalid c.in_default.not-Memory in
    record {
      ok = tt;
      only = λ source spells valid. absurd (named_is_invalid c.args.bytes.now (located_source located) source c.in-Err.invalid.kind c.in-Err.invalid.item spells
          (one_source IsNestedWithFew SpellsFunction (λ ls nested. nested.0) Int function_at functions_read c.args.bytes.now (located_source located) source spelled spells) named valid);
      refused = fault_refusal compiled [] counted located read.0 c.in-Err.invalid.kind c.in-Err.invalid.item read.2 named IsNestedWithFew SpellsFunction c.args.bytes.now c.in-Some.at read.1 (sym c.place_at.ensures ∙ c.in-Some.is);
    }

pub unreachable-requires : goal.unreachable-requires
unreachable-requires c =
    let read = c.in_ok-functions.ensures.ok in
    located_place compiled [] counted (located_view function_view c.in_ok-functions.field-0) read.0 c.in-Err.invalid.kind c.in-Err.invalid.item read.2
    (c.in-Err.ensures.invalid c.in_default.not-Memory) (sym c.place_at.ensures ∙ c.in-None.is)
