use Rattle.std.proofs.Common.{◌++◌, ap, ◌∙◌}
use Rattle.pure_terms.specs.View.{term_view}
use Rattle.block_sym.specs.Table.{lacks}
use Rattle.sym_chunks.specs.ByPlace.{all_by_place}
use Rattle.sym_chunks.specs.Cases.{case_of}
use Rattle.sym_chunks.specs.View.{cases_view}
use Rattle.sym_chunks.proofs.Elements.{ok_to}
use Rattle.sym_model.specs.View.{frag_view}
use Rattle.block_sym.proofs.cells.with_missed.Goals as goal

pub returns : goal.returns
returns c =
    let when = c.in_ok-lacking.ensures ∙ ap (λ cs. all_by_place (term_view c.args.l.now) (lacks cs (term_view c.args.offset.now)) cs) c.as_slice.ensures in
    ok_to c.with_case.result _ _ (λ cs is. is ∙ (λ i. cases_view c.args.cases ++ case_of (when i) (frag_view c.args.chunks.now) (c.in_ok-outcome.ensures i))) c.with_case.ensures
