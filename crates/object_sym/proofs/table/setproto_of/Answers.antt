use Rattle.std.proofs.Common.{◌++◌, ap, ◌∙◌}
use Rattle.gil_values.specs.declared.kinds.Kind.{Kind}
use Rattle.mem_model.specs.declared.failures.Failure.{Failure}
use Rattle.object_sym.specs.Table.{is_prototype, is_no_prototype, prototype_cases}
use Rattle.pure_terms.specs.View.{term_view}
use Rattle.sym_chunks.specs.Cases.{branches_of, choose, failure}
use Rattle.sym_chunks.specs.View.{cases_view}
use Rattle.sym_model.specs.Alternatives.{both, of_kind, not_of_kind}
use Rattle.sym_model.specs.View.{frag_view}
use Rattle.sym_chunks.proofs.Elements.{ok_to}
use Rattle.object_sym.proofs.table.setproto_of.Goals as goal

pub returns : goal.returns
returns c =
    let l = term_view c.args.l.now in
    let v = term_view c.args.val.now in
    let cs = frag_view c.args.chunks.now in
    let wrongly = c.in_ok-wrong.ensures ∙ (λ i. c.in_ok-no_symbol.ensures i ++ c.in_ok-no_prototype.ensures i) in
    let rightly = c.in_ok-right.ensures ∙ (λ i. both (c.in_ok-symbol.ensures i) (c.in_ok-prototype.ensures i)) in
    let right = both (of_kind l Kind.Sym) (is_prototype v) in
    ok_to c.checked.result _ _ (λ bs is.
    is ∙ (λ i. branches_of (wrongly i) cs (failure Failure.Kind) ++ choose (rightly i) (cases_view c.in_ok-cases.cases))
    ∙ ap (λ x. branches_of (not_of_kind l Kind.Sym ++ is_no_prototype v) cs (failure Failure.Kind) ++ x)
    (c.in_ok-cases.ensures right ∙ (λ i. choose right (prototype_cases (c.in_ok-access.ensures i) l cs)))) c.checked.ensures
