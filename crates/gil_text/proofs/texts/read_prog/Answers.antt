use Rattle.std.proofs.Common.{◌≢◌, sym, ◌∙◌}
use Rattle.std.proofs.lemmas.Result.{err_from_is_err_and}
use denote.Enum.Bare.{same_false}
use Rattle.gil_syntax.specs.contracts.validity.InvalidKind.{the_type}
use Rattle.gil_syntax.specs.declared.validity.InvalidKind.TheVariants.{Memory}
use Rattle.gil_grammar.proofs.TextLaws.{one_program}
use Rattle.gil_syntax.specs.View.{proc_view}
use Rattle.gil_text.specs.Located.{located_view}
use Rattle.gil_text.proofs.RefusalLemmas.{no_refusal, located_makes, located_spells, located_place, fault_refusal, named_is_invalid}
use Rattle.gil_text.proofs.texts.read_prog.Goals as goal

pub returns-in_err-procs-clause-only : goal.returns-in_err-procs-clause-only
returns-in_err-procs-clause-only c =
    let p = err_from_is_err_and c.from_residual.result c.from_residual.ensures.1 in
    let refused = c.in_err-procs.field-0.0 in
    rw (p.1, p.2) (λ program spells valid. no_refusal c.args.bytes.now refused.at refused.kind program c.in_err-procs.ensures.refused spells valid)

pub new-requires : goal.new-requires
new-requires c =
    let read = c.in_ok-procs.ensures.ok in
    located_makes c.args.bytes.now (located_view proc_view c.in_ok-procs.field-0) read.0 read.1 read.2

pub returns-in-Ok-clause-only : goal.returns-in-Ok-clause-only
returns-in-Ok-clause-only c =
    let read = c.in_ok-procs.ensures.ok in
    let spelled = located_spells c.args.bytes.now (located_view proc_view c.in_ok-procs.field-0) read.0 read.1 read.2 in
    λ program spells valid. c.in-Ok.ensures.program ∙ one_program c.args.bytes.now _ program spelled spells

pub unreachable-requires : goal.unreachable-requires
unreachable-requires c =
    let read = c.in_ok-procs.ensures.ok in
    let no_memory : c.in-Err.invalid.kind ≢ Memory = same_false the_type _ _ (sym c.eq.ensures ∙ c.if-eq.false) in
    let named = c.in-Err.ensures.invalid no_memory in
    located_place (located_view proc_view c.in_ok-procs.field-0) read.0 c.in-Err.invalid.kind c.in-Err.invalid.item read.2 named (sym c.place_at.ensures ∙ c.in-None.is)

pub returns-clause-only : goal.returns-clause-only
returns-clause-only c =
    let read = c.in_ok-procs.ensures.ok in
    let spelled = located_spells c.args.bytes.now (located_view proc_view c.in_ok-procs.field-0) read.0 read.1 read.2 in
    let no_memory : c.in-Err.invalid.kind ≢ Memory = same_false the_type _ _ (sym c.eq.ensures ∙ c.if-eq.false) in
    λ program spells valid. absurd (named_is_invalid _ program c.in-Err.invalid.kind c.in-Err.invalid.item (one_program c.args.bytes.now _ program spelled spells) (c.in-Err.ensures.invalid no_memory) valid)

pub returns-clause-refused : goal.returns-clause-refused
returns-clause-refused c =
    let read = c.in_ok-procs.ensures.ok in
    let no_memory : c.in-Err.invalid.kind ≢ Memory = same_false the_type _ _ (sym c.eq.ensures ∙ c.if-eq.false) in
    fault_refusal (located_view proc_view c.in_ok-procs.field-0) read.0 c.in-Err.invalid.kind c.in-Err.invalid.item read.2 (c.in-Err.ensures.invalid no_memory) c.args.bytes.now c.in-Some.at read.1
    (sym c.place_at.ensures ∙ c.in-Some.is)
