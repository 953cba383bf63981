use Rattle.std.proofs.Common.{◌≡◌, ◌+◌, ◌++◌, [], ◌∷◌, ◌≤◌, map, List, refl, take, length, sym, ap, subst, ◌∙◌}
use Rattle.std.proofs.lemmas.List.{length-map, take_all}
use Rattle.std.specs.Option.{option_map}
use Rattle.pure_terms.specs.View.{term_view}
use Rattle.sym_evaluation.specs.View.{store_view}
use Rattle.sym_states.proofs.Values.{ok_to}
use Rattle.sym_matching.specs.Parts.{BindsParams}
use Rattle.sym_matching.specs.View.{stores_view, outs_view}
use Rattle.sym_matching.proofs.Reading.{seen_next, taken_one, below_other, taken_lengths}
use Rattle.sym_matching.proofs.StoreLaws.{params_step, params_differ}
use Rattle.sym_matching.proofs.cases.bind_params.Goals as goal

map_id : {A : Type 0} (xs : List A) → map (λ x. x) xs ≡ xs
map_id [] = refl
map_id (x ∷ xs) = ap (λ ys. x ∷ ys) (map_id xs)

pub returns-then-len : goal.returns-then-len
returns-then-len c =
    let bs = store_view c.args.store in
    let qs = c.args.params.now in
    let ks = outs_view c.args.terms.now in
    ok_to c.no_store.result _ (λ x. BindsParams c.args.sorts.now qs ks bs (stores_view x))
    (λ x is. subst (BindsParams c.args.sorts.now qs ks bs) (sym is)
    (params_differ c.args.sorts.now bs qs ks (λ same. c.if-len.true (c.len.ensures ∙ same ∙ length-map c.args.terms.now (option_map term_view) ∙ sym c.len-2.ensures)))) c.no_store.ensures

pub loop-index-preserved : goal.loop-index-preserved
loop-index-preserved c =
    let i = c.loop-index.index in
    let sorts = c.args.sorts.now in
    let bs = store_view c.args.store in
    let qs = c.args.params.now in
    let ks = outs_view c.args.terms.now in
    let items = c.as_slice-param-items.result.now in
    let others = c.as_slice-terms.result.now in
    let same : length qs ≡ length ks = sym c.len.ensures ∙ c.if-len.false ∙ c.len-2.ensures ∙ sym (length-map c.args.terms.now (option_map term_view)) in
    let q = c.param-item.result in
    let k = option_map term_view c.index-terms-index.result in
    let first : take (i + 1) qs ≡ take i qs ++ q ∷ []
    = subst (λ xs. take (i + 1) xs ≡ take i xs ++ q ∷ []) c.as_slice-param-items.ensures (taken_one items i q c.loop-index-test.true c.param-item.is) in
    let second : take (i + 1) ks ≡ take i ks ++ k ∷ []
    = seen_next (option_map term_view) others ks (ap outs_view c.as_slice-terms.ensures) i c.index-terms-index.result
    (below_other (λ r. r) (option_map term_view) items others qs ks i (map_id items ∙ c.as_slice-param-items.ensures) (ap outs_view c.as_slice-terms.ensures) same c.loop-index-test.true) c.index-terms-index.is in
    subst (λ xs. BindsParams sorts xs (take (i + 1) ks) bs (stores_view c.in_ok-split.split)) (sym first)
    (subst (λ ys. BindsParams sorts (take i qs ++ q ∷ []) ys bs (stores_view c.in_ok-split.split)) (sym second)
    (params_step sorts bs (take i qs) (take i ks) q k (stores_view c.loop-index.split) (stores_view c.in_ok-split.split) (taken_lengths qs ks i same) c.loop-index.invariant c.in_ok-split.ensures))

pub returns : goal.returns
returns c =
    let i = c.loop-index.index in
    let sorts = c.args.sorts.now in
    let bs = store_view c.args.store in
    let qs = c.args.params.now in
    let ks = outs_view c.args.terms.now in
    let same : length qs ≡ length ks = sym c.len.ensures ∙ c.if-len.false ∙ c.len-2.ensures ∙ sym (length-map c.args.terms.now (option_map term_view)) in
    let past : length qs ≤ i = subst (λ xs. length xs ≤ i) c.as_slice-param-items.ensures c.loop-index-test.false in
    subst (λ xs. BindsParams sorts xs ks bs (stores_view c.loop-index.split)) (take_all i qs past)
    (subst (λ ys. BindsParams sorts (take i qs) ys bs (stores_view c.loop-index.split)) (take_all i ks (subst (λ n. n ≤ i) same past)) c.loop-index.invariant)
