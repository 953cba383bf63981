use Rattle.std.proofs.Common.{◌≡◌, ◌++◌, sym, subst}
use Rattle.sym_model.specs.Alternatives.{alternatives_view}
use Rattle.sym_evaluation.specs.View.{store_view}
use Rattle.sym_states.proofs.Values.{ok_to}
use Rattle.invariant_rows.specs.Asked.{AreComparisons}
use Rattle.invariant_rows.proofs.AskedLaws.{joined_comparisons}
use Rattle.invariant_rows.specs.Differing.{TellsNames, TellsStores}
use Rattle.invariant_rows.proofs.DifferenceLaws.{all_names}
use Rattle.invariant_rows.proofs.differing.stores_differ.Goals as goal

pub returns-clause-tells : goal.returns-clause-tells
returns-clause-tells c =
    let bs = store_view c.args.left.now in
    let cs = store_view c.args.right.now in
    let x = alternatives_view c.in_ok-now.now in
    let y = alternatives_view c.in_ok-before.before in
    let first : TellsNames bs cs bs x = subst (λ k. TellsNames bs cs k x) c.bindings.ensures c.in_ok-now.ensures.tells in
    let second : TellsNames bs cs cs y = subst (λ k. TellsNames bs cs k y) c.bindings-2.ensures c.in_ok-before.ensures.tells in
    ok_to c.extend.result (λ z. alternatives_view z ≡ x ++ y) (λ z. TellsStores bs cs (alternatives_view z)) (λ z is. subst (TellsStores bs cs) (sym is) (all_names bs cs x y first second)) c.extend.ensures

pub returns-clause-asked : goal.returns-clause-asked
returns-clause-asked c =
    let x = alternatives_view c.in_ok-now.now in
    let y = alternatives_view c.in_ok-before.before in
    ok_to c.extend.result (λ z. alternatives_view z ≡ x ++ y) (λ z. AreComparisons (alternatives_view z)) (λ z is. subst AreComparisons (sym is) (joined_comparisons x y c.in_ok-now.ensures.asked c.in_ok-before.ensures.asked)) c.extend.ensures
