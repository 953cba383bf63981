use Rattle.std.proofs.Common.{◌≡◌, ◌+◌, ◌-◌, ◌<◌, Some, slice_get, length, drop, subst, arith}
use Rattle.gil_values.proofs.Lists.{slice_get-read}
use Rattle.sym_evaluation.specs.View.{binding_view, bindings_view, store_view}
use Rattle.invariant_rows.specs.Listed.{AreUnlisted}
use Rattle.invariant_rows.proofs.ListedLaws.{keep_more}
use Rattle.invariant_rows.proofs.listed.last_first.Goals as goal

pub loop-place-preserved : goal.loop-place-preserved
loop-place-preserved c =
    let items = c.bindings-bindings.result.now in
    let read = c.index-bindings-place.result in
    let next : c.loop-place.place ≡ c.loop-place.place - 1 + 1 = omega (arith, c.loop-place-test.true) in
    let below : c.loop-place.place - 1 < length items = omega arith in
    let at : slice_get (bindings_view items) (c.loop-place.place - 1) ≡ Some (binding_view read) = slice_get-read binding_view items (c.loop-place.place - 1) read below c.index-bindings-place.is in
    let there : slice_get (store_view c.args.store.now) (c.loop-place.place - 1) ≡ Some (binding_view read) = subst (λ bs. slice_get bs (c.loop-place.place - 1) ≡ Some (binding_view read)) c.bindings-bindings.ensures at in
    keep_more c.args.listed.now (store_view c.args.store.now) (store_view c.loop-place.unlisted) (store_view c.keep_unlisted.new.unlisted) (c.loop-place.place - 1) (binding_view read) there
    (subst (λ k. AreUnlisted c.args.listed.now (drop k (store_view c.args.store.now)) (store_view c.loop-place.unlisted)) next c.loop-place.invariant) c.in_ok-keep_unlisted.ensures
