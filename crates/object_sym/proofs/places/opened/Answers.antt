use Rattle.std.proofs.Common.{◌∙◌, ap}
use Rattle.pure_terms.specs.View.{term_view}
use Rattle.sym_chunks.specs.ByPlace.{all_by_place}
use Rattle.sym_chunks.specs.Keys.{other_sub}
use Rattle.sym_model.specs.Alternatives.{both}
use Rattle.sym_chunks.proofs.Elements.{ok_to}
use Rattle.sym_model.specs.View.{chunks_view}
use Rattle.object_sym.proofs.places.opened.Goals as goal

pub returns : goal.returns
returns c =
    let others = c.in_ok-others.ensures ∙ ap (λ s. all_by_place (term_view c.args.l.now) (λ d. other_sub s d.sub) (chunks_view c.args.chunks.now)) c.in_ok-name.ensures in
    ok_to c.both.result _ _ (λ x is. is ∙ (λ i. both (c.in_ok-forms.ensures i) (others i))) c.both.ensures
