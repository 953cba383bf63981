use Rattle.std.proofs.Common.{◌≡◌, ◌+◌, ◌++◌, ◌∷◌, [], IfNone, IfSome, Some, length, refl, slice_get, take, sym, ap, subst, ◌∙◌}
use Rattle.std.proofs.lemmas.List.{take_more}
use Rattle.std.proofs.lemmas.Option.{slice_get_read}
use Rattle.pure_terms.specs.View.{atoms_view}
use Rattle.sym_evaluation.specs.View.{store_view}
use Rattle.sym_model.proofs.ListLaws.{each_append, one_at}
use Rattle.sym_model.specs.Lists.{OneOf}
use Rattle.checked_rows.specs.View.{doubt_view}
use Rattle.call_rows.specs.Arguments.{FitsParam, FitParams, IsDoubtOver, IsUnfit}
use Rattle.checked_rows.specs.Asked.{DoubtAdds}
use Rattle.call_rows.specs.Asked.{AsksParams}
use Rattle.call_rows.proofs.arguments.arguments_doubt.Goals as goal

pub returns-in-Some-clause-doubt : goal.returns-in-Some-clause-doubt
returns-in-Some-clause-doubt g c =
    let vars = c.args.vars.now in
    let conds = atoms_view c.args.conds.now in
    let bs = store_view c.args.store.now in
    let scope = c.args.params.now in
    let xs = c.as_slice-param-items.result.now in
    let i = c.loop-param.param-index in
    let q = c.param-item.result in
    let d = doubt_view c.in-Some.doubt in
    let at : slice_get xs i ≡ Some q = slice_get_read xs (length xs) i q refl c.loop-param-test.true c.param-item.is in
    let told : IsDoubtOver vars conds (IsUnfit vars conds bs scope q) d = subst (λ o. IfSome o (λ k. IsDoubtOver vars conds (IsUnfit vars conds bs scope q) (doubt_view k))) c.in-Some.is c.in_ok-doubt.ensures.doubt in
    subst (λ ys. OneOf (λ r. IsDoubtOver vars conds (IsUnfit vars conds bs scope r) d) ys) c.as_slice-param-items.ensures (one_at (λ r. IsDoubtOver vars conds (IsUnfit vars conds bs scope r) d) xs i q at told)

pub loop-param-preserved : goal.loop-param-preserved
loop-param-preserved g c =
    let vars = c.args.vars.now in
    let conds = atoms_view c.args.conds.now in
    let bs = store_view c.args.store.now in
    let scope = c.args.params.now in
    let xs = c.as_slice-param-items.result.now in
    let i = c.loop-param.param-index in
    let q = c.param-item.result in
    let grown : take (i + 1) xs ≡ take i xs ++ q ∷ [] = take_more xs i q c.loop-param-test.true ∙ ap (λ r. take i xs ++ r ∷ []) (sym c.param-item.is) in
    subst (FitParams vars conds bs scope) (sym grown)
    (each_append (FitsParam vars conds bs scope) (take i xs) (q ∷ []) c.loop-param.invariant
    (subst (λ o. IfNone o (FitsParam vars conds bs scope q)) c.in_default.is c.in_ok-doubt.ensures.fit, tt))

pub returns-in-Some-clause-asked : goal.returns-in-Some-clause-asked
returns-in-Some-clause-asked g c =
    subst (λ o. IfSome o (λ k. DoubtAdds (AsksParams c.args.params.now (store_view c.args.store.now)) (atoms_view c.args.conds.now) (doubt_view k))) c.in-Some.is c.in_ok-doubt.ensures.asked
