use Rattle.std.proofs.Common.{◌≡◌, ◌++◌, [], ◌∷◌, sym, subst, ◌∙◌, true≢false}
use Rattle.std.proofs.lemmas.Slice.Eq.{bytes_eq-Decides}
use Rattle.sym_model.specs.Alternatives.{alternatives_view}
use Rattle.sym_states.proofs.Values.{ok_to}
use Rattle.sym_states.specs.View.{fact_view}
use Rattle.invariant_rows.specs.Asked.{AreComparisons}
use Rattle.invariant_rows.specs.Differing.{TellsFact}
use Rattle.invariant_rows.proofs.AskedLaws.{joined_comparisons}
use Rattle.invariant_rows.proofs.DifferenceLaws.{facts_of_name, facts_of_others}
use Rattle.invariant_rows.proofs.differing.fact_differs.Goals as goal

pub returns-then-eq-clause-tells : goal.returns-then-eq-clause-tells
returns-then-eq-clause-tells c =
    let left = fact_view c.args.left.now in
    let right = fact_view c.args.right.now in
    let x = alternatives_view c.in_ok-ins.ins in
    let y = alternatives_view c.in_ok-outs.outs in
    let same = (bytes_eq-Decides c.args.left.now.pred c.args.right.now.pred).0 (sym c.eq.ensures ∙ c.if-eq.true) in
    ok_to c.extend.result (λ z. alternatives_view z ≡ x ++ y) (λ z. TellsFact left right (alternatives_view z)) (λ z is. subst (TellsFact left right) (sym is) (facts_of_name left right x y same c.in_ok-ins.ensures.tells c.in_ok-outs.ensures.tells)) c.extend.ensures

pub returns-clause-tells : goal.returns-clause-tells
returns-clause-tells c =
    let left = fact_view c.args.left.now in
    let right = fact_view c.args.right.now in
    let other : ¬ (left.pred ≡ right.pred) = λ same. true≢false (sym ((bytes_eq-Decides c.args.left.now.pred c.args.right.now.pred).1 same) ∙ (sym c.eq.ensures ∙ c.if-eq.false)) in
    ok_to c.always.result (λ z. alternatives_view z ≡ [] ∷ []) (λ z. TellsFact left right (alternatives_view z)) (λ z is. subst (TellsFact left right) (sym is) (facts_of_others left right other)) c.always.ensures

pub returns-then-eq-clause-asked : goal.returns-then-eq-clause-asked
returns-then-eq-clause-asked c =
    let x = alternatives_view c.in_ok-ins.ins in
    let y = alternatives_view c.in_ok-outs.outs in
    ok_to c.extend.result (λ z. alternatives_view z ≡ x ++ y) (λ z. AreComparisons (alternatives_view z)) (λ z is. subst AreComparisons (sym is) (joined_comparisons x y c.in_ok-ins.ensures.asked c.in_ok-outs.ensures.asked)) c.extend.ensures

pub returns-clause-asked : goal.returns-clause-asked
returns-clause-asked c = ok_to c.always.result (λ z. alternatives_view z ≡ [] ∷ []) (λ z. AreComparisons (alternatives_view z)) (λ z is. subst AreComparisons (sym is) (tt, tt)) c.always.ensures
