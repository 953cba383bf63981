use Rattle.std.proofs.Common.{sym, ap, ◌∙◌}
use Rattle.pure_terms.specs.View.{term_view}
use Rattle.sym_model.specs.Alternatives.{both, same}
use Rattle.sym_chunks.proofs.Loops.{nothing_left, nothing}
use Rattle.sym_chunks.proofs.places.here_and.Goals as goal

pub returns-then-len-eq0 : goal.returns-then-len-eq0
returns-then-len-eq0 g c =
    c.never.ensures ∙ sym (nothing_left (same (term_view c.args.l.now) (term_view c.args.chunk.now.loc)))
    ∙ ap (both (same (term_view c.args.l.now) (term_view c.args.chunk.now.loc))) (sym (nothing _ (sym c.len.ensures ∙ c.if-len-eq0.true)) ∙ c.in_ok-condition.ensures)
