use Rattle.std.proofs.Common.{◌++◌, sym, ap, ◌∙◌}
use Rattle.pure_terms.specs.View.{term_view}
use Rattle.record_sym.specs.Table.{without_name}
use Rattle.sym_chunks.specs.Cases.{found}
use Rattle.sym_chunks.specs.View.{access_view, cases_view}
use Rattle.sym_model.specs.Pure.{named}
use Rattle.sym_model.specs.View.{frag_view}
use Rattle.sym_chunks.proofs.Choosing.{first_alike, same_alike}
use Rattle.sym_chunks.proofs.Elements.{ok_to}
use Rattle.record_sym.proofs.properties.name_cases.Goals as goal

pub returns-then-has_sure_case : goal.returns-then-has_sure_case
returns-then-has_sure_case c =
    let a = access_view c.args.access.now in
    let l = term_view c.args.l.now in
    let p = term_view c.args.p.now in
    let cs = frag_view c.args.chunks.now in
    first_alike (cases_view c.in_ok-found.found) (without_name l p cs) (found a l (named p) cs ++ without_name l p cs) (sym c.has_sure_case.ensures ∙ c.if-has_sure_case.true)
    (ap (λ x. x ++ without_name l p cs) (c.in_ok-found.ensures ∙ (λ i. cases_view (c.new.ensures i) ++ found a l (c.in_ok-name.ensures i) cs)))

pub returns : goal.returns
returns c =
    let a = access_view c.args.access.now in
    let l = term_view c.args.l.now in
    let p = term_view c.args.p.now in
    let cs = frag_view c.args.chunks.now in
    ok_to c.without_name.result _ _ (λ all is. same_alike (cases_view all) (found a l (named p) cs ++ without_name l p cs) (is ∙ ap (λ x. x ++ without_name l p cs) (c.in_ok-found.ensures ∙ (λ i. cases_view (c.new.ensures i) ++ found a l (c.in_ok-name.ensures i) cs)))) c.without_name.ensures
