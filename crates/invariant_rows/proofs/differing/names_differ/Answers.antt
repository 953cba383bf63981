use Rattle.std.proofs.Common.{[], ◌+◌, take, sym, subst}
use Rattle.std.proofs.lemmas.List.{take_all}
use Rattle.sym_model.specs.Alternatives.{alternatives_view}
use Rattle.sym_evaluation.specs.View.{bindings_view, store_view}
use Rattle.invariant_rows.specs.Asked.{AreComparisons}
use Rattle.invariant_rows.specs.Differing.{TellsNames}
use Rattle.invariant_rows.proofs.AskedLaws.{joined_comparisons}
use Rattle.invariant_rows.proofs.DifferenceLaws.{no_names, names_from}
use Rattle.invariant_rows.proofs.differing.names_differ.Goals as goal

pub loop-binding-init : goal.loop-binding-init
loop-binding-init c =
    let bs = store_view c.args.left.now in
    let cs = store_view c.args.right.now in
    record { tells = subst (TellsNames bs cs []) (sym c.never-found.ensures) (no_names bs cs); asked = subst AreComparisons (sym c.never-found.ensures) tt }

pub loop-binding-preserved : goal.loop-binding-preserved
loop-binding-preserved c =
    let bs = store_view c.args.left.now in
    let cs = store_view c.args.right.now in
    record {
      tells = subst (TellsNames bs cs (bindings_view (take (c.loop-binding.binding-index + 1) c.args.names.now))) (sym c.in_ok-found.ensures)
          (names_from bs cs c.args.names.now c.loop-binding.binding-index c.binding-item.result (alternatives_view c.loop-binding.found) (alternatives_view c.in_ok-here.here) c.loop-binding-test.true c.binding-item.is c.loop-binding.invariant.tells c.in_ok-here.ensures.tells);
      asked = subst AreComparisons (sym c.in_ok-found.ensures)
          (joined_comparisons (alternatives_view c.loop-binding.found) (alternatives_view c.in_ok-here.here) c.loop-binding.invariant.asked c.in_ok-here.ensures.asked);
    }

pub returns-clause-tells : goal.returns-clause-tells
returns-clause-tells c =
    let bs = store_view c.args.left.now in
    let cs = store_view c.args.right.now in
    subst (λ names. TellsNames bs cs (bindings_view names) (alternatives_view c.loop-binding.found)) (take_all c.loop-binding.binding-index c.args.names.now c.loop-binding-test.false) c.loop-binding.invariant.tells

pub returns-clause-asked : goal.returns-clause-asked
returns-clause-asked c = c.loop-binding.invariant.asked
