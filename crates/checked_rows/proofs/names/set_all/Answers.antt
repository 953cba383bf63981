use Rattle.std.proofs.Common.{◌≡◌, ◌+◌, ◌-◌, ◌<◌, ◌++◌, ℕ, List, Some, slice_get, length, drop, subst, arith}
use Rattle.gil_values.proofs.Lists.{slice_get-read}
use Rattle.pure_terms.specs.View.{term_view}
use Rattle.sym_evaluation.specs.Pure.{term_at}
use Rattle.sym_evaluation.specs.View.{binding_view, bindings_view, store_view}
use Rattle.sym_paths.specs.Laws.{IsBound}
use Rattle.checked_rows.proofs.NameLaws.{set_more}
use Rattle.checked_rows.proofs.names.set_all.Goals as goal

pub loop-place-preserved : goal.loop-place-preserved
loop-place-preserved c =
    let items = c.bindings-bindings.result.now in
    let n = c.loop-place.place - 1 in
    let read = c.index-bindings-place.result in
    let old = store_view c.loop-place.names in
    let new = store_view c.set.new.self in
    let next : c.loop-place.place ≡ c.loop-place.place - 1 + 1 = omega (arith, c.loop-place-test.true) in
    let below : c.loop-place.place - 1 < length items = omega arith in
    let at : slice_get (bindings_view items) (c.loop-place.place - 1) ≡ Some (binding_view read) = slice_get-read binding_view items (c.loop-place.place - 1) read below c.index-bindings-place.is in
    let there : slice_get (store_view c.args.store.now) (c.loop-place.place - 1) ≡ Some (binding_view read) = subst (λ bs. slice_get bs (c.loop-place.place - 1) ≡ Some (binding_view read)) c.bindings-bindings.ensures at in
    let named : IsBound old read.name (term_view c.in_ok-term.term) new = subst (λ x. IsBound old x (term_view c.in_ok-term.term) new) c.in_ok-name.ensures c.in_ok-set.ensures.ok in
    let bound : IsBound old read.name (term_view read.term) new = subst (λ t. IsBound old read.name t new) c.in_ok-term.ensures named in
    set_more (store_view c.args.store.now) (store_view c.args.names.now) old new (c.loop-place.place - 1) read.name (term_view read.term) there bound
    (subst (λ k. (y : List ℕ) → term_at old y ≡ term_at (drop k (store_view c.args.store.now) ++ store_view c.args.names.now) y) next c.loop-place.invariant)
