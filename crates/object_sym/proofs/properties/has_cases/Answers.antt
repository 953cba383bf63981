use Rattle.std.proofs.Common.{◌++◌, sym, ap, ◌∙◌}
use Rattle.object_sym.specs.Table.{told_cases, held_case, unknown_cases}
use Rattle.pure_terms.specs.View.{term_view}
use Rattle.sym_chunks.specs.View.{cases_view}
use Rattle.sym_model.specs.View.{frag_view}
use Rattle.sym_chunks.proofs.Elements.{ok_to}
use Rattle.sym_chunks.proofs.Choosing.{first_alike, same_alike, joined_two}
use Rattle.object_sym.proofs.properties.has_cases.Goals as goal

pub returns-then-has_sure_case : goal.returns-then-has_sure_case
returns-then-has_sure_case c =
    let l = term_view c.args.l.now in
    let p = term_view c.args.p.now in
    let cs = frag_view c.args.chunks.now in
    let rest = held_case l p cs ++ unknown_cases l p cs in
    first_alike (cases_view c.in_ok-told.told) rest (told_cases l p cs ++ rest) (sym c.has_sure_case.ensures ∙ c.if-has_sure_case.true) (ap (λ x. x ++ rest) (c.in_ok-told.ensures ∙ (λ i. cases_view (c.new.ensures i) ++ told_cases l p cs)))

pub returns : goal.returns
returns c =
    let l = term_view c.args.l.now in
    let p = term_view c.args.p.now in
    let cs = frag_view c.args.chunks.now in
    let rest = held_case l p cs ++ unknown_cases l p cs in
    ok_to c.with_unknown.result _ _ (λ all is. same_alike (cases_view all) (told_cases l p cs ++ rest)
    (joined_two (cases_view c.in_ok-told.told) (cases_view c.in_ok-held.held) (cases_view all) (held_case l p cs) (unknown_cases l p cs) c.in_ok-held.ensures is
    ∙ ap (λ x. x ++ rest) (c.in_ok-told.ensures ∙ (λ i. cases_view (c.new.ensures i) ++ told_cases l p cs)))) c.with_unknown.ensures
