use Rattle.std.proofs.Common.{◌≡◌, Option, Some, None, subst}
use Rattle.std.specs.Option.{option_map}
use Rattle.gil_syntax.specs.Valid.{param_names}
use Rattle.gil_syntax.specs.View.{exprs_view}
use Rattle.pure_terms.specs.declared.terms.Terms.{Terms}
use Rattle.pure_terms.specs.View.{terms_view}
use Rattle.sym_evaluation.specs.View.{store_view}
use Rattle.sym_matching.specs.Matching.{AreTermsAt, TermsStayOver}
use Rattle.sym_matching.specs.Origins.{terms_at}
use Rattle.sym_states.proofs.Values.{ok_to}
use Rattle.footprint.specs.Cases.{FinishesMatch}
use Rattle.footprint.specs.View.{match_view, leaves_view}
use Rattle.footprint.proofs.ending.finish_match.Goals as goal

pub returns-in-Some : goal.returns-in-Some
returns-in-Some g c =
    let bs = store_view c.args.found.store in
    let At = λ (o : Option Terms). AreTermsAt bs (param_names c.args.pred.now.outs) (option_map terms_view o) in
    let Stay = λ (o : Option Terms). TermsStayOver bs (option_map terms_view o) in
    let Is = λ (o : Option Terms). option_map terms_view o ≡ terms_at bs (param_names c.args.pred.now.outs) in
    ok_to c.match_outs.result _
    (λ r. FinishesMatch c.args.number c.args.scope.now (exprs_view c.args.outs.now) (store_view c.args.store.now) c.args.pred.now.outs (match_view c.args.found) (leaves_view r))
    (λ r is. (Some (terms_view c.in-Some.terms), (subst At c.in-Some.is c.in_ok-terms.ensures.says, subst Stay c.in-Some.is c.in_ok-terms.ensures.names, subst Is c.in-Some.is c.in_ok-terms.ensures.origin, is))) c.match_outs.ensures

pub returns : goal.returns
returns g c =
    let bs = store_view c.args.found.store in
    let At = λ (o : Option Terms). AreTermsAt bs (param_names c.args.pred.now.outs) (option_map terms_view o) in
    let Stay = λ (o : Option Terms). TermsStayOver bs (option_map terms_view o) in
    let Is = λ (o : Option Terms). option_map terms_view o ≡ terms_at bs (param_names c.args.pred.now.outs) in
    ok_to c.stop_in.result _
    (λ r. FinishesMatch c.args.number c.args.scope.now (exprs_view c.args.outs.now) (store_view c.args.store.now) c.args.pred.now.outs (match_view c.args.found) (leaves_view r))
    (λ r is. (None, (subst At c.in-None.is c.in_ok-terms.ensures.says, subst Stay c.in-None.is c.in_ok-terms.ensures.names, subst Is c.in-None.is c.in_ok-terms.ensures.origin, is))) c.stop_in.ensures
