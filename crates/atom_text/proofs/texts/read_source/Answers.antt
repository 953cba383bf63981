use Rattle.atom_text.specs.Sources.{source_view}
use Rattle.atom_text.proofs.RefusalLemmas.{source_spells, syntax_refusal}
use Rattle.atom_text.proofs.texts.read_source.Goals as goal

pub returns-in-Ok-clause-ok : goal.returns-in-Ok-clause-ok
returns-in-Ok-clause-ok c =
    let stand = rw c.as_slice.ensures at c.new-cursor.ensures in
    let nested = rw c.copy.ensures at c.in_default.ensures.none in
    let read = rw c.as_slice-2.ensures at c.in-Ok.ensures in
    source_spells c.args.bytes.now c.in_ok-tokens.tokens c.new-cursor.result (source_view c.in-Ok.source) c.in_ok-tokens.ensures.tokens stand nested read

pub returns-in-Err-Syntax-clause-refused : goal.returns-in-Err-Syntax-clause-refused
returns-in-Err-Syntax-clause-refused c =
    let stand = rw c.as_slice.ensures at c.new-cursor.ensures in
    let nested = rw c.copy.ensures at c.in_default.ensures.none in
    let read = rw (c.in-Err-Syntax.field-0-is, c.as_slice-2.ensures) at c.in-Err-Syntax.ensures in
    syntax_refusal c.args.bytes.now c.in_ok-tokens.tokens c.new-cursor.result c.place_of-at-in-Err-Syntax.result c.in_ok-tokens.ensures.tokens stand nested read (rw c.as_slice-in-Err-Syntax.ensures at c.place_of-at-in-Err-Syntax.ensures.token)
