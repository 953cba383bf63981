use Rattle.std.proofs.Common.{◌++◌, true, false, ap, ◌∙◌}
use Rattle.object_sym.specs.Places.{lists, lists_not}
use Rattle.object_sym.specs.Table.{false_term}
use Rattle.pure_terms.specs.declared.literals.Literal.{Literal}
use Rattle.pure_terms.specs.View.{term_view}
use Rattle.sym_chunks.specs.ByPlace.{any_at}
use Rattle.sym_chunks.specs.Cases.{case_of, true_term}
use Rattle.sym_chunks.specs.View.{cases_view}
use Rattle.sym_model.specs.Pure.{done}
use Rattle.sym_model.specs.View.{frag_view}
use Rattle.sym_chunks.proofs.Elements.{ok_to}
use Rattle.sym_chunks.proofs.Choosing.{joined_two}
use Rattle.object_sym.proofs.Steps.{term_view-Lit}
use Rattle.object_sym.proofs.properties.with_told.Goals as goal

pub returns : goal.returns
returns c =
    let l = term_view c.args.l.now in
    let p = term_view c.args.p.now in
    let cs = frag_view c.args.chunks.now in
    let first = c.in_ok-named.ensures ∙ ap (any_at l (lists p)) c.as_slice.ensures in
    let second = c.in_ok-unnamed.ensures ∙ ap (any_at l (lists_not p)) c.as_slice-2.ensures in
    ok_to c.with_case-2.result _ _ (λ all is.
    joined_two (cases_view c.args.cases) (cases_view c.in_ok-cases.cases) (cases_view all) (case_of (any_at l (lists p) cs) cs (done true_term)) (case_of (any_at l (lists_not p) cs) cs (done false_term))
    (c.in_ok-cases.ensures ∙ (λ i. cases_view c.args.cases ++ case_of (first i) cs (done (term_view-Lit (Literal.Bool true) i))))
    (is ∙ (λ i. cases_view c.in_ok-cases.cases ++ case_of (second i) cs (done (term_view-Lit (Literal.Bool false) i))))) c.with_case-2.ensures
