use Rattle.std.proofs.Common.{Option, Some, None, subst}
use Rattle.std.specs.Option.{option_map}
use Rattle.gil_syntax.specs.Valid.{param_names}
use Rattle.pure_terms.specs.declared.terms.Terms.{Terms}
use Rattle.pure_terms.specs.View.{terms_view}
use Rattle.sym_evaluation.specs.View.{store_view}
use Rattle.sym_matching.specs.Matching.{AreTermsAt}
use Rattle.sym_states.proofs.Values.{ok_to}
use Rattle.footprint.specs.Cases.{EndsMatch}
use Rattle.footprint.specs.View.{match_view, leaves_view}
use Rattle.footprint.proofs.ending.end_match.Goals as goal

pub returns-in-Some : goal.returns-in-Some
returns-in-Some g c =
    let bs = store_view c.args.found.store in
    let At = λ (o : Option Terms). AreTermsAt bs (param_names c.args.outs.now) (option_map terms_view o) in
    ok_to c.of_match.result _ (λ r. EndsMatch c.args.number c.args.outs.now (match_view c.args.found) (leaves_view r))
    (λ r is. (Some (terms_view c.in-Some.field-0), (subst At c.in-Some.is c.in_ok-terms_of.ensures.says, is))) c.of_match.ensures

pub returns-in-None : goal.returns-in-None
returns-in-None g c =
    let bs = store_view c.args.found.store in
    let At = λ (o : Option Terms). AreTermsAt bs (param_names c.args.outs.now) (option_map terms_view o) in
    ok_to c.stop_in.result _ (λ r. EndsMatch c.args.number c.args.outs.now (match_view c.args.found) (leaves_view r))
    (λ r is. (None, (subst At c.in-None.is c.in_ok-terms_of.ensures.says, is))) c.stop_in.ensures
