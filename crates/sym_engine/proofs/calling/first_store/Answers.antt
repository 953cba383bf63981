use Rattle.std.proofs.Common.{◌≡◌, ◌+◌, ◌-◌, ◌<◌, Some, slice_get, length, drop, map, refl, sym, ap, subst, ◌∙◌, arith}
use Rattle.std.proofs.lemmas.Option.{slice_get_read}
use Rattle.gil_values.proofs.Lists.{slice_get-read}
use Rattle.pure_terms.specs.View.{term_view}
use Rattle.sym_engine.proofs.Arguments.{first_more}
use Rattle.sym_engine.proofs.calling.first_store.Goals as goal
use Rattle.sym_evaluation.specs.View.{store_view}
use Rattle.sym_paths.specs.Laws.{IsBound}
use Rattle.sym_paths.specs.Calls.{IsFirstStore}

pub loop-place-preserved : goal.loop-place-preserved
loop-place-preserved c =
    let params = c.args.params.now in
    let terms = map term_view c.args.args.now in
    let next : c.loop-place.place - 1 + 1 ≡ c.loop-place.place = omega (arith, c.loop-place-test.true) in
    let below_args : c.loop-place.place - 1 < length c.args.args.now = omega arith in
    let below : c.loop-place.place - 1 < length params = omega (arith, below_args, c.requires) in
    let name : slice_get params (c.loop-place.place - 1) ≡ Some c.index-params-place.result = slice_get_read params (length params) (c.loop-place.place - 1) c.index-params-place.result refl below c.index-params-place.is in
    let value : slice_get terms (c.loop-place.place - 1) ≡ Some (term_view c.in_ok-term.term) = slice_get-read term_view c.args.args.now (c.loop-place.place - 1) c.index-args-place.result below_args c.index-args-place.is ∙ ap Some (sym c.in_ok-term.ensures) in
    first_more params terms (c.loop-place.place - 1) c.index-params-place.result (term_view c.in_ok-term.term) (store_view c.loop-place.store) (store_view c.set.new.self) name value
    (subst (λ y. IsBound (store_view c.loop-place.store) y (term_view c.in_ok-term.term) (store_view c.set.new.self)) c.in_ok-copy.ensures c.in_ok-set.ensures.ok)
    (subst (λ k. IsFirstStore (drop k params) (drop k terms) (store_view c.loop-place.store)) (sym next) c.loop-place.invariant)
