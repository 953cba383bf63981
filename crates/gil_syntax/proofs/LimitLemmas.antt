-- How many items of its own list stand before an item.
use Rattle.std.proofs.Common.{◌≡◌, ℕ, suc, ◌+◌, ◌<◌, List, [], ◌∷◌, ◌++◌, map, take, length, filter, Bool, true, false, cond, ◌||◌, leb, refl, sym, ap, ◌∙◌, arith}
use Rattle.std.proofs.lemmas.List.{length-take}
use Rattle.gil_syntax.specs.Pure.{PureProc, PureSpec, PurePredDef, PureParts}
use Rattle.gil_syntax.specs.Valid.{ProgramItem, a_proc, a_spec, a_pred, same_list, most_items, has_many_names, is_large, has_wide_literal, is_too_many}
use Rattle.gil_syntax.specs.Items.{before_proc, before_spec, before_pred}
use Rattle.gil_syntax.specs.Uncounted.{passes_limit}

module _ (keep : ProgramItem → Bool) where
  abbrev kept : List ProgramItem → ℕ
  kept xs = length (filter keep xs)

  kept-append : (xs ys : List ProgramItem) → kept (xs ++ ys) ≡ kept xs + kept ys
  kept-append [] ys = omega arith
  kept-append (x ∷ xs) ys = by (keep x) (kept-append xs ys)
    where
      by : (b : Bool) → kept (xs ++ ys) ≡ kept xs + kept ys
          → length (cond b (x ∷ filter keep (xs ++ ys)) (filter keep (xs ++ ys))) ≡ length (cond b (x ∷ filter keep xs) (filter keep xs)) + kept ys
      by true rest = omega (arith, rest)
      by false rest = rest

  kept_all : {X : Type 0} (item : X → ProgramItem) → ((y : X) → keep (item y) ≡ true) → (xs : List X) → kept (map item xs) ≡ length xs
  kept_all item all [] = refl
  kept_all item all (x ∷ xs) = ap (λ b. length (cond b (item x ∷ filter keep (map item xs)) (filter keep (map item xs)))) (all x) ∙ ap suc (kept_all item all xs)

  kept_none : {X : Type 0} (item : X → ProgramItem) → ((y : X) → keep (item y) ≡ false) → (xs : List X) → kept (map item xs) ≡ 0
  kept_none item none [] = refl
  kept_none item none (x ∷ xs) = ap (λ b. length (cond b (item x ∷ filter keep (map item xs)) (filter keep (map item xs)))) (none x) ∙ kept_none item none xs

module _ (p : PureParts) (k : ℕ) where
  procs_kept : (q : PureProc) → k < length p.procs → kept (same_list (a_proc q)) (before_proc p k) ≡ k
  procs_kept q below = omega (arith, kept_all (same_list (a_proc q)) a_proc (λ y. refl) (take k p.procs), length-take k p.procs)

  specs_kept : (s : PureSpec) → k < length p.specs → kept (same_list (a_spec s)) (before_spec p k) ≡ k
  specs_kept s below =
      let keep = same_list (a_spec s) in
      omega (arith, kept-append keep (map a_proc p.procs) (map a_spec (take k p.specs)), kept_none keep a_proc (λ y. refl) p.procs, kept_all keep a_spec (λ y. refl) (take k p.specs), length-take k p.specs)

  preds_kept : (d : PurePredDef) → k < length p.preds → kept (same_list (a_pred d)) (before_pred p k) ≡ k
  preds_kept d below =
      let keep = same_list (a_pred d) in
      omega (
        arith,
        kept-append keep (map a_proc p.procs ++ map a_spec p.specs) (map a_pred (take k p.preds)),
        kept-append keep (map a_proc p.procs) (map a_spec p.specs),
        kept_none keep a_proc (λ y. refl) p.procs,
        kept_none keep a_spec (λ y. refl) p.specs,
        kept_all keep a_pred (λ y. refl) (take k p.preds),
        length-take k p.preds,
      )

  pub proc_too_many : (q : PureProc) → k < length p.procs → (leb most_items k || is_large (a_proc q) || has_wide_literal p (a_proc q)) ≡ is_too_many p (before_proc p k) (a_proc q)
  proc_too_many q below = ap (λ n. leb most_items n || is_large (a_proc q) || has_wide_literal p (a_proc q)) (sym (procs_kept q below))

  pub proc_past_limit : (q : PureProc) → k < length p.procs → (leb most_items k || has_many_names (a_proc q) || has_wide_literal p (a_proc q)) ≡ passes_limit p (before_proc p k) (a_proc q)
  proc_past_limit q below = ap (λ n. leb most_items n || has_many_names (a_proc q) || has_wide_literal p (a_proc q)) (sym (procs_kept q below))

  pub spec_too_many : (s : PureSpec) → k < length p.specs → (leb most_items k || is_large (a_spec s) || has_wide_literal p (a_spec s)) ≡ is_too_many p (before_spec p k) (a_spec s)
  spec_too_many s below = ap (λ n. leb most_items n || is_large (a_spec s) || has_wide_literal p (a_spec s)) (sym (specs_kept s below))

  pub pred_too_many : (d : PurePredDef) → k < length p.preds → (leb most_items k || is_large (a_pred d) || has_wide_literal p (a_pred d)) ≡ is_too_many p (before_pred p k) (a_pred d)
  pred_too_many d below = ap (λ n. leb most_items n || is_large (a_pred d) || has_wide_literal p (a_pred d)) (sym (preds_kept d below))
