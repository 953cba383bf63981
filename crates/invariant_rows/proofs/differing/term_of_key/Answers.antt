use Rattle.std.proofs.Common.{◌≡◌, inl, Some, slice_get, sym, ap, ◌∙◌}
use Rattle.std.specs.Option.{option_map}
use Rattle.pure_terms.specs.View.{term_view, terms_view}
use Rattle.sym_model.proofs.ListLaws.{one_at}
use Rattle.sym_model.specs.View.{use_view}
use Rattle.sym_states.proofs.Values.{ok_to}
use Rattle.invariant_rows.specs.Differing.{IsTermOfKey}
use Rattle.invariant_rows.proofs.differing.term_of_key.Goals as goal

pub returns-in-Some : goal.returns-in-Some
returns-in-Some c =
    let first = term_view c.in-Some.term.now in
    let ins = terms_view c.args.used.now.ins in
    let at : slice_get ins 0 ≡ Some first = sym c.get.ensures ∙ ap (option_map (λ t. term_view t.now)) c.in-Some.is in
    ok_to c.copy.result (λ t. term_view t ≡ first) (λ t. IsTermOfKey (use_view c.args.used.now) (term_view t)) (λ t is. inl (one_at (λ s. s ≡ term_view t) ins 0 first at (sym is))) c.copy.ensures
