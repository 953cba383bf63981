use Rattle.std.proofs.Common.{◌++◌, ap, ◌∙◌}
use Rattle.pure_terms.specs.View.{term_view}
use Rattle.sym_chunks.specs.ByPlace.{all_by_place}
use Rattle.sym_chunks.specs.Cases.{case_of}
use Rattle.sym_chunks.specs.Keys.{other_sub}
use Rattle.sym_chunks.specs.View.{cases_view}
use Rattle.sym_model.specs.Alternatives.{alternatives_view, both}
use Rattle.sym_model.specs.View.{frag_view, sub_view}
use Rattle.sym_chunks.proofs.Elements.{ok_to}
use Rattle.object_sym.proofs.deleting.with_missing.Goals as goal

pub returns : goal.returns
returns c =
    let others = c.in_ok-others.ensures ∙ (λ i. all_by_place (term_view c.args.loc.now) (λ d. other_sub (sub_view c.args.name.now) d.sub) (c.as_slice.ensures i)) in
    let when = c.in_ok-missing.ensures ∙ ap (both (alternatives_view c.args.when.now)) others in
    ok_to c.with_case.result _ _ (λ cs is. is ∙ (λ i. cases_view c.args.cases ++ case_of (when i) (frag_view c.args.chunks.now) (c.in_ok-outcome.ensures i))) c.with_case.ensures
