use Rattle.std.proofs.Common.{sym, ◌∙◌}
use Rattle.std.proofs.lemmas.Result.{IfOk-weaker}
use Rattle.pure_terms.specs.View.{atoms_view, term_view}
use Rattle.biabduce.proofs.Asking.{forms_seen, asked_inside, asked_outside}
use Rattle.biabduce.proofs.queries.ask_end.Goals as goal

pub returns-then-have_forms-clause-query : goal.returns-then-have_forms-clause-query
returns-then-have_forms-clause-query c =
    IfOk-weaker c.ask_form.result _ _
    (λ q is. is ∙ sym (asked_inside (atoms_view c.args.path.conds) (term_view c.args.term) (sym (forms_seen c.args.path.conds) ∙ sym c.have_forms.ensures ∙ c.if-have_forms.true)))
    c.ask_form.ensures.query

pub returns-clause-query : goal.returns-clause-query
returns-clause-query c =
    c.ask_conditions.ensures.query
    ∙ sym (asked_outside (atoms_view c.args.path.conds) (term_view c.args.term) (sym (forms_seen c.args.path.conds) ∙ sym c.have_forms.ensures ∙ c.if-have_forms.false))
