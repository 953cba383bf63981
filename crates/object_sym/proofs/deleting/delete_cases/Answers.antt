use Rattle.std.proofs.Common.{◌++◌, sym, ap, ◌∙◌}
use Rattle.object_sym.specs.Table.{deleted_from}
use Rattle.pure_terms.specs.View.{term_view}
use Rattle.sym_chunks.specs.ByPlace.{all_by_place}
use Rattle.sym_chunks.specs.Cases.{case_of, missed_key}
use Rattle.sym_chunks.specs.Keys.{other_sub}
use Rattle.sym_chunks.specs.View.{cases_view}
use Rattle.sym_model.specs.Pure.{dom}
use Rattle.sym_model.specs.View.{frag_view}
use Rattle.sym_chunks.proofs.Elements.{ok_to}
use Rattle.sym_chunks.proofs.Choosing.{first_alike, same_alike}
use Rattle.object_sym.proofs.deleting.delete_cases.Goals as goal

pub returns-then-has_sure_case : goal.returns-then-has_sure_case
returns-then-has_sure_case c =
    let l = term_view c.args.l.now in
    let cs = frag_view c.args.chunks.now in
    let first = deleted_from l (term_view c.args.p.now) cs 0 cs in
    let rest = case_of (all_by_place l (λ d. other_sub dom d.sub) cs) cs (missed_key l dom) in
    first_alike (cases_view c.in_ok-deleted.deleted) rest (first ++ rest) (sym c.has_sure_case.ensures ∙ c.if-has_sure_case.true)
    (ap (λ x. x ++ rest) (c.in_ok-deleted.ensures ∙ (λ i. cases_view (c.new.ensures i) ++ first)))

pub returns : goal.returns
returns c =
    let l = term_view c.args.l.now in
    let cs = frag_view c.args.chunks.now in
    let first = deleted_from l (term_view c.args.p.now) cs 0 cs in
    let rest = case_of (all_by_place l (λ d. other_sub dom d.sub) cs) cs (missed_key l dom) in
    let is_first = c.in_ok-deleted.ensures ∙ (λ i. cases_view (c.new.ensures i) ++ first) in
    let when = c.in_ok-undescribed.ensures ∙ ap (all_by_place l (λ d. other_sub dom d.sub)) c.as_slice.ensures in
    ok_to c.with_case.result _ _ (λ all is. same_alike (cases_view all) (first ++ rest) (is ∙ (λ i. is_first i ++ case_of (when i) cs (c.in_ok-outcome.ensures i)))) c.with_case.ensures
