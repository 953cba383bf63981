use Rattle.std.proofs.Common.{◌++◌, sym, ap, ◌∙◌}
use Rattle.std.proofs.lemmas.List.{append_assoc}
use Rattle.object_sym.specs.Table.{added_from, without_name}
use Rattle.pure_terms.specs.View.{term_view}
use Rattle.sym_chunks.specs.Cases.{writes, found}
use Rattle.sym_chunks.specs.View.{cases_view}
use Rattle.sym_model.specs.Pure.{named}
use Rattle.sym_model.specs.View.{frag_view}
use Rattle.sym_chunks.proofs.Elements.{ok_to}
use Rattle.sym_chunks.proofs.Choosing.{first_alike, same_alike}
use Rattle.object_sym.proofs.setting.set_cases.Goals as goal

pub returns-then-has_sure_case : goal.returns-then-has_sure_case
returns-then-has_sure_case c =
    let l = term_view c.args.l.now in
    let p = term_view c.args.p.now in
    let t = term_view c.args.val.now in
    let cs = frag_view c.args.chunks.now in
    let rest = added_from l p t cs 0 cs ++ without_name l p cs in
    first_alike (cases_view c.in_ok-found.found) rest (found (writes t) l (named p) cs ++ rest) (sym c.has_sure_case.ensures ∙ c.if-has_sure_case.true)
    (ap (λ x. x ++ rest) (c.in_ok-found.ensures ∙ (λ i. cases_view (c.new.ensures i) ++ found (c.in_ok-access.ensures i) l (c.in_ok-name.ensures i) cs)))

pub returns-then-has_sure_case-2 : goal.returns-then-has_sure_case-2
returns-then-has_sure_case-2 c =
    let l = term_view c.args.l.now in
    let p = term_view c.args.p.now in
    let t = term_view c.args.val.now in
    let cs = frag_view c.args.chunks.now in
    let is_found = c.in_ok-found.ensures ∙ (λ i. cases_view (c.new.ensures i) ++ found (c.in_ok-access.ensures i) l (c.in_ok-name.ensures i) cs) in
    first_alike (cases_view c.in_ok-added.added) (without_name l p cs) (found (writes t) l (named p) cs ++ (added_from l p t cs 0 cs ++ without_name l p cs)) (sym c.has_sure_case-2.ensures ∙ c.if-has_sure_case-2.true)
    (ap (λ x. x ++ without_name l p cs) (c.in_ok-added.ensures ∙ ap (λ x. x ++ added_from l p t cs 0 cs) is_found) ∙ append_assoc (found (writes t) l (named p) cs) (added_from l p t cs 0 cs) (without_name l p cs))

pub returns : goal.returns
returns c =
    let l = term_view c.args.l.now in
    let p = term_view c.args.p.now in
    let t = term_view c.args.val.now in
    let cs = frag_view c.args.chunks.now in
    let is_found = c.in_ok-found.ensures ∙ (λ i. cases_view (c.new.ensures i) ++ found (c.in_ok-access.ensures i) l (c.in_ok-name.ensures i) cs) in
    ok_to c.without_name.result _ _ (λ all is. same_alike (cases_view all) (found (writes t) l (named p) cs ++ (added_from l p t cs 0 cs ++ without_name l p cs))
    (is ∙ ap (λ x. x ++ without_name l p cs) (c.in_ok-added.ensures ∙ ap (λ x. x ++ added_from l p t cs 0 cs) is_found) ∙ append_assoc (found (writes t) l (named p) cs) (added_from l p t cs 0 cs) (without_name l p cs))) c.without_name.ensures
