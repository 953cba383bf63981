use Rattle.std.proofs.Common.{◌++◌, sym, ap, ◌∙◌}
use Rattle.pure_terms.specs.View.{term_view}
use Rattle.sym_chunks.specs.ByPlace.{all_by_place}
use Rattle.sym_chunks.specs.Cases.{case_of, found, missed_key}
use Rattle.sym_chunks.specs.Keys.{other_sub}
use Rattle.sym_chunks.specs.View.{access_view, cases_view}
use Rattle.sym_model.specs.Pure.{proto}
use Rattle.sym_model.specs.View.{frag_view}
use Rattle.sym_chunks.proofs.Elements.{ok_to}
use Rattle.sym_chunks.proofs.Choosing.{first_alike, same_alike}
use Rattle.object_sym.proofs.prototypes.prototype_cases.Goals as goal

pub returns-then-has_sure_case : goal.returns-then-has_sure_case
returns-then-has_sure_case c =
    let l = term_view c.args.l.now in
    let cs = frag_view c.args.chunks.now in
    let first = found (access_view c.args.access.now) l proto cs in
    let rest = case_of (all_by_place l (λ d. other_sub proto d.sub) cs) cs (missed_key l proto) in
    first_alike (cases_view c.in_ok-found.found) rest (first ++ rest) (sym c.has_sure_case.ensures ∙ c.if-has_sure_case.true)
    (ap (λ x. x ++ rest) (c.in_ok-found.ensures ∙ (λ i. cases_view (c.new.ensures i) ++ first)))

pub returns : goal.returns
returns c =
    let l = term_view c.args.l.now in
    let cs = frag_view c.args.chunks.now in
    let first = found (access_view c.args.access.now) l proto cs in
    let rest = case_of (all_by_place l (λ d. other_sub proto d.sub) cs) cs (missed_key l proto) in
    let is_first = c.in_ok-found.ensures ∙ (λ i. cases_view (c.new.ensures i) ++ first) in
    let when = c.in_ok-missing.ensures ∙ ap (all_by_place l (λ d. other_sub proto d.sub)) c.as_slice.ensures in
    ok_to c.with_case.result _ _ (λ all is. same_alike (cases_view all) (first ++ rest) (is ∙ (λ i. is_first i ++ case_of (when i) cs (c.in_ok-outcome.ensures i)))) c.with_case.ensures
