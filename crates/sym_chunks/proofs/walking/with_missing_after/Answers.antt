use Rattle.std.proofs.Common.{◌++◌, sym, ap, ◌∙◌}
use Rattle.std.proofs.lemmas.List.{append-nil}
use Rattle.pure_terms.specs.View.{term_view}
use Rattle.sym_chunks.specs.View.{cases_view, way_view}
use Rattle.sym_chunks.specs.Walking.{sure_place}
use Rattle.sym_model.specs.View.{frag_view, sub_view}
use Rattle.sym_chunks.proofs.SureLaws.{sure_not_missing}
use Rattle.sym_chunks.proofs.walking.with_missing_after.Goals as goal

pub returns-in-Some : goal.returns-in-Some
returns-in-Some c =
    let l = term_view c.args.l.now in
    let s = sub_view c.args.s.now in
    let found = ap (sure_place l s 0) (sym c.as_slice.ensures) ∙ sym c.in_ok-place.ensures ∙ c.in-Some.is in
    sym (append-nil (cases_view c.args.cases)) ∙ ap (λ x. cases_view c.args.cases ++ x) (sym (sure_not_missing l s (frag_view c.args.chunks.now) (way_view c.args.way.now) _ found))
