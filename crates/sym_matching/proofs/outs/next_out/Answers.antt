use Rattle.std.proofs.Common.{[], ◌∷◌, Some, None, sym, ap, subst, ◌∙◌}
use Rattle.std.proofs.lemmas.List.{map-append}
use Rattle.gil_syntax.specs.View.{expr_view}
use Rattle.pure_terms.specs.View.{term_view, atoms_view}
use Rattle.std.specs.Option.{option_map}
use Rattle.sym_model.specs.Alternatives.{Alternatives}
use Rattle.sym_evaluation.specs.View.{store_view}
use Rattle.sym_states.proofs.Values.{ok_to}
use Rattle.sym_matching.specs.Parts.{AddsOut}
use Rattle.sym_matching.specs.View.{split_by, outs_view, known_view}
use Rattle.sym_matching.proofs.KnownLaws.{adds_known, adds_unknown}
use Rattle.sym_matching.proofs.outs.next_out.Goals as goal

pub returns-then-knows_all : goal.returns-then-knows_all
returns-then-knows_all c =
    let bs = store_view c.args.store.now in
    let e = expr_view c.args.expression.now in
    let outs = outs_view c.args.outs in
    ok_to c.add_known.result _ (λ x. AddsOut bs e outs (known_view x))
    (λ x is. subst (AddsOut bs e outs) (sym is) (adds_known bs e outs (sym c.knows_all.ensures ∙ c.if-knows_all.true) (split_by term_view c.in_ok-value.value) c.in_ok-value.ensures)) c.add_known.ensures

pub returns : goal.returns
returns c =
    let bs = store_view c.args.store.now in
    let e = expr_view c.args.expression.now in
    let outs = outs_view c.args.outs in
    subst (λ (x : Alternatives). AddsOut bs e outs (record { found = Some (record { conds = atoms_view c.new.result; result = outs_view c.push.new.self }); none = x })) (sym c.never.ensures)
    (subst (λ xs. AddsOut bs e outs (record { found = Some (record { conds = atoms_view xs; result = outs_view c.push.new.self }); none = [] })) (sym c.new.ensures)
    (subst (λ ys. AddsOut bs e outs (record { found = Some (record { conds = []; result = ys }); none = [] })) (sym (ap outs_view c.in_ok-push.ensures.ok ∙ map-append (option_map term_view) c.args.outs (None ∷ [])))
    (adds_unknown bs e outs (sym c.knows_all.ensures ∙ c.if-knows_all.false))))
