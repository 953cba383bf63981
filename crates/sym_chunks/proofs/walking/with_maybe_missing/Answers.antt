use Rattle.std.proofs.Common.{◌++◌, ap, ◌∙◌}
use Rattle.pure_terms.specs.View.{term_view}
use Rattle.sym_chunks.specs.ByPlace.{all_by_place}
use Rattle.sym_chunks.specs.Cases.{case_of}
use Rattle.sym_chunks.specs.Keys.{other_sub}
use Rattle.sym_chunks.specs.View.{cases_view}
use Rattle.sym_model.specs.Alternatives.{alternatives_view, both}
use Rattle.sym_model.specs.View.{frag_view, sub_view}
use Rattle.sym_chunks.proofs.Elements.{ok_to}
use Rattle.sym_chunks.proofs.walking.with_maybe_missing.Goals as goal

pub returns : goal.returns
returns c =
    let when = c.in_ok-missing.ensures ∙ ap (both (alternatives_view c.args.way.now.when)) (c.in_ok-others.ensures ∙ ap (all_by_place (term_view c.args.l.now) (λ d. other_sub (sub_view c.args.s.now) d.sub)) c.as_slice.ensures) in
    ok_to c.with_case.result _ _ (λ cs is. is ∙ (λ i. cases_view c.args.cases ++ case_of (when i) (frag_view c.args.chunks.now) (c.in_ok-outcome.ensures i))) c.with_case.ensures
