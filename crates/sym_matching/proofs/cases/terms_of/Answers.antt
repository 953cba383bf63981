use Rattle.std.proofs.Common.{◌++◌, [], ◌∷◌, Option, List, take, sym, subst}
use Rattle.std.specs.Option.{option_map}
use Rattle.gil_syntax.specs.Valid.{param_names}
use Rattle.pure_terms.specs.Pure.{PureTerm}
use Rattle.pure_terms.specs.View.{terms_view}
use Rattle.sym_evaluation.specs.View.{store_view}
use Rattle.sym_matching.proofs.KnownLaws.{AreTerms, terms_step}
use Rattle.sym_matching.proofs.Lists.{taken_next}
use Rattle.sym_matching.proofs.cases.terms_of.Goals as goal

pub loop-param-preserved : goal.loop-param-preserved
loop-param-preserved c =
    let bs = store_view c.args.store.now in
    let items = c.as_slice-param-items.result.now in
    let i = c.loop-param.param-index in
    subst (λ xs. AreTerms bs xs (option_map terms_view c.in_ok-terms.terms)) (sym (taken_next (λ q. q.name) items i c.param-item.result c.loop-param-test.true c.param-item.is))
    (subst (λ (o : Option (List PureTerm)). AreTerms bs (param_names (take i items) ++ c.param-item.result.name ∷ []) o) (sym c.in_ok-terms.ensures)
    (terms_step bs (param_names (take i items)) c.param-item.result.name (option_map terms_view c.loop-param.terms) c.loop-param.invariant))
