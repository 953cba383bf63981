use Rattle.std.proofs.Common.{◌++◌, sym, ap, ◌∙◌}
use Rattle.pure_terms.specs.View.{term_view}
use Rattle.block_sym.specs.Table.{unfound_cases}
use Rattle.sym_chunks.specs.Cases.{choose}
use Rattle.sym_chunks.specs.View.{chunk_branches_view, cases_view}
use Rattle.sym_chunks.proofs.CaseLaws.{choose_sure}
use Rattle.sym_chunks.proofs.Elements.{ok_to}
use Rattle.sym_model.specs.Alternatives.{alternatives_view}
use Rattle.sym_model.specs.View.{frag_view}
use Rattle.block_sym.proofs.cells.act_on_cell.Goals as goal

pub returns-then-has_sure_case : goal.returns-then-has_sure_case
returns-then-has_sure_case c =
    let rest = unfound_cases (term_view c.args.l.now) (term_view c.args.offset.now) (frag_view c.args.chunks.now) in
    ok_to c.choose.result _ _ (λ bs is.
    is ∙ ap (λ x. chunk_branches_view c.args.branches ++ x)
    (sym (choose_sure (alternatives_view c.args.when) (cases_view c.in_ok-found.found) rest (sym c.has_sure_case.ensures ∙ c.if-has_sure_case.true))
    ∙ ap (λ x. choose (alternatives_view c.args.when) (x ++ rest)) c.in_ok-found.ensures)) c.choose.ensures

pub returns : goal.returns
returns c =
    let rest = unfound_cases (term_view c.args.l.now) (term_view c.args.offset.now) (frag_view c.args.chunks.now) in
    ok_to c.choose-2.result _ _ (λ bs is.
    is ∙ ap (λ x. chunk_branches_view c.args.branches ++ choose (alternatives_view c.args.when) x)
    (c.in_ok-cases.ensures ∙ ap (λ x. x ++ rest) c.in_ok-found.ensures)) c.choose-2.ensures
