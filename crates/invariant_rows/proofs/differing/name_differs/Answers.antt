use Rattle.std.proofs.Common.{◌≡◌, [], ◌∷◌, Some, sym, ap, ◌∙◌}
use Rattle.std.specs.Option.{option_map}
use Rattle.pure_terms.specs.View.{term_view}
use Rattle.sym_model.specs.Alternatives.{alternatives_view}
use Rattle.sym_evaluation.specs.Pure.{term_at}
use Rattle.sym_evaluation.specs.View.{store_view}
use Rattle.sym_states.proofs.Values.{ok_to}
use Rattle.invariant_rows.specs.Differing.{TellsName, TellsTerms}
use Rattle.invariant_rows.proofs.DifferenceLaws.{name_in_both}
use Rattle.invariant_rows.proofs.differing.name_differs.Goals as goal

pub returns-in-Some-get-clause-tells : goal.returns-in-Some-get-clause-tells
returns-in-Some-get-clause-tells c =
    let bs = store_view c.args.left.now in
    let cs = store_view c.args.right.now in
    let y = c.args.name.now in
    let s = term_view c.in-Some.first.now in
    let t = term_view c.in-Some-get.second.now in
    let at : term_at bs y ≡ Some s = sym c.get.ensures ∙ ap (option_map (λ k. term_view k.now)) c.in-Some.is in
    let at_too : term_at cs y ≡ Some t = sym c.get-in-Some.ensures ∙ ap (option_map (λ k. term_view k.now)) c.in-Some-get.is in
    ok_to c.value_differs.result (λ x. TellsTerms (s ∷ []) (t ∷ []) (alternatives_view x)) (λ x. TellsName bs cs y (alternatives_view x)) (λ x tells. name_in_both bs cs y s t (alternatives_view x) at at_too tells) c.value_differs.ensures.tells

pub returns-in-Some-get-clause-asked : goal.returns-in-Some-get-clause-asked
returns-in-Some-get-clause-asked c = c.value_differs.ensures.asked
