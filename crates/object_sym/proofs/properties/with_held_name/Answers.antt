use Rattle.std.proofs.Common.{◌++◌, true, ap, ◌∙◌}
use Rattle.object_sym.specs.Places.{untold}
use Rattle.pure_terms.specs.declared.literals.Literal.{Literal}
use Rattle.pure_terms.specs.View.{term_view}
use Rattle.sym_chunks.specs.ByPlace.{all_by_place, any_at}
use Rattle.sym_chunks.specs.Cases.{case_of}
use Rattle.sym_chunks.specs.Keys.{same_sub}
use Rattle.sym_chunks.specs.View.{cases_view}
use Rattle.sym_model.specs.Alternatives.{both}
use Rattle.sym_model.specs.Pure.{done}
use Rattle.sym_model.specs.View.{frag_view}
use Rattle.sym_chunks.proofs.Elements.{ok_to}
use Rattle.object_sym.proofs.Steps.{term_view-Lit}
use Rattle.object_sym.proofs.properties.with_held_name.Goals as goal

pub returns : goal.returns
returns c =
    let l = term_view c.args.l.now in
    let first = c.in_ok-untold.ensures ∙ ap (all_by_place l untold) c.as_slice.ensures in
    let second = c.in_ok-held.ensures ∙ (λ i. any_at l (λ d. same_sub (c.in_ok-name.ensures i) d.sub) (c.as_slice-2.ensures i)) in
    let when = c.in_ok-when.ensures ∙ (λ i. both (first i) (second i)) in
    ok_to c.with_case.result _ _ (λ cs is. is ∙ (λ i. cases_view c.args.cases ++ case_of (when i) (frag_view c.args.chunks.now) (done (term_view-Lit (Literal.Bool true) i)))) c.with_case.ensures
