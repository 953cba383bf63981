use Rattle.std.proofs.Common.{Option, sym, ap, subst}
use Rattle.std.specs.Option.{option_map}
use Rattle.pure_terms.specs.Pure.{PureTerm}
use Rattle.pure_terms.specs.View.{term_view}
use Rattle.sym_evaluation.specs.View.{store_view}
use Rattle.sym_states.proofs.Values.{ok_to}
use Rattle.sym_matching.specs.Parts.{BindsParam}
use Rattle.sym_matching.specs.View.{stores_view}
use Rattle.sym_matching.proofs.CaseLaws.{binds_param}
use Rattle.sym_matching.proofs.cases.bind_param.Goals as goal

pub returns-in-Some : goal.returns-in-Some
returns-in-Some c =
    let bs = store_view c.args.store in
    ok_to c.bind_term.result _ (λ x. BindsParam c.args.sorts.now c.args.param.now (option_map term_view c.args.term.now) bs (stores_view x))
    (λ x is. subst (λ (k : Option PureTerm). BindsParam c.args.sorts.now c.args.param.now k bs (stores_view x)) (sym (ap (option_map term_view) c.in-Some.is))
    (binds_param c.args.sorts.now c.args.param.now (term_view c.in-Some.term) bs (stores_view x) is)) c.bind_term.ensures
