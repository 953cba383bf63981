use Rattle.std.proofs.Common.{◌≡◌, take, sym, subst}
use Rattle.std.specs.Option.{option_or}
use Rattle.sym_evaluation.specs.Pure.{term_at}
use Rattle.sym_evaluation.specs.View.{binding_view, bindings_view, store_view}
use Rattle.sym_states.proofs.Found.{map_more, beside_more}
use Rattle.sym_states.proofs.stores.beside.Goals as goal

pub loop-binding-preserved : goal.loop-binding-preserved
loop-binding-preserved c x =
    let xs = c.bindings-binding-items.result.now in
    let i = c.loop-binding.binding-index in
    subst (λ bs. term_at (store_view c.in_ok-both.both) x ≡ option_or (term_at (store_view c.args.first) x) (term_at bs x))
    (sym (map_more binding_view xs i c.binding-item.result c.loop-binding-test.true c.binding-item.is))
    (beside_more (store_view c.loop-binding.both) (store_view c.in_ok-both.both) (store_view c.args.first) (bindings_view (take i xs)) (binding_view c.binding-item.result) x (c.loop-binding.invariant x) (c.in_ok-both.ensures x))
