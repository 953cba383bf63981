use Rattle.std.proofs.Common.{sym, ◌∙◌}
use Rattle.pure_terms.specs.View.{term_view}
use Rattle.sym_evaluation.specs.Pure.{term_at}
use Rattle.sym_evaluation.specs.View.{store_view}
use Rattle.sym_states.specs.NamingView.{named_view}
use Rattle.sym_states.proofs.Found.{seen_there, not_there}
use Rattle.sym_states.proofs.NamingLaws.{is_known, no_sort, is_new}
use Rattle.sym_states.proofs.naming.name_next.Goals as goal

pub returns-then-is_some : goal.returns-then-is_some
returns-then-is_some c =
    let (t, at) = seen_there (λ t. term_view t.now) c.get.result (term_at (store_view c.args.named.store) c.args.name.now) c.get.ensures (sym c.is_some.ensures ∙ c.if-is_some.true) in
    is_known c.args.params.now c.args.name.now c.args.named.vars (store_view c.args.named.store) t at

pub returns-in_ok-add_variable-in-Some : goal.returns-in_ok-add_variable-in-Some
returns-in_ok-add_variable-in-Some c =
    let none = not_there (λ t. term_view t.now) c.get.result (term_at (store_view c.args.named.store) c.args.name.now) c.get.ensures (sym c.is_some.ensures ∙ c.if-is_some.false) in
    is_new c.args.params.now c.args.name.now c.args.named.vars (store_view c.args.named.store) none c.in-Some.sort c.in-Some.ensures (named_view c.in_ok-add_variable-in-Some.field-0) c.in_ok-add_variable-in-Some.ensures

pub returns-in-None : goal.returns-in-None
returns-in-None c =
    let none = not_there (λ t. term_view t.now) c.get.result (term_at (store_view c.args.named.store) c.args.name.now) c.get.ensures (sym c.is_some.ensures ∙ c.if-is_some.false) in
    no_sort c.args.params.now c.args.name.now c.args.named.vars (store_view c.args.named.store) none c.in-None.ensures
