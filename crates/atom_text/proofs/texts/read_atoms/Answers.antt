use Rattle.std.proofs.lemmas.Result.{err_from_is_err_and}
use Rattle.atom_text.specs.Accepted.{text_view}
use Rattle.atom_text.specs.Sources.{source_view}
use Rattle.atom_text.proofs.RefusalLemmas.{no_refusal, one_text, text_over}
use Rattle.atom_text.proofs.texts.read_atoms.Goals as goal

pub returns-in_err-source-clause-only : goal.returns-in_err-source-clause-only
returns-in_err-source-clause-only c =
    let p = err_from_is_err_and c.from_residual.result c.from_residual.ensures.1 in
    let refused = c.in_err-source.field-0.0 in
    rw (p.1, p.2) (λ text spells. no_refusal c.args.bytes.now refused.at refused.kind text c.in_err-source.ensures.refused spells)

pub returns-in-Ok-clause-over : goal.returns-in-Ok-clause-over
returns-in-Ok-clause-over c = text_over c.args.bytes.now (text_view c.in-Ok.text) (source_view c.in_ok-source.source, c.in_ok-source.ensures.ok, c.in-Ok.ensures.ok)

pub returns-in-Ok-clause-only : goal.returns-in-Ok-clause-only
returns-in-Ok-clause-only c = λ text spells.
    one_text c.args.bytes.now (text_view c.in-Ok.text) text (source_view c.in_ok-source.source, c.in_ok-source.ensures.ok, c.in-Ok.ensures.ok) spells

pub returns-clause-only : goal.returns-clause-only
returns-clause-only c = λ text spells.
    no_refusal c.args.bytes.now c.refusal.result.at c.refusal.result.kind text
    (c.refusal.ensures c.args.bytes.now (source_view c.in_ok-source.source) c.in_ok-source.ensures.ok (c.in-Err.ensures.unfit c.args.bytes.now c.in_ok-source.ensures.ok)) spells
