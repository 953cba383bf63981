-- A list in which each condition stands once says what the list says of which it is made.
use Rattle.std.proofs.Common.{◌≡◌, List, [], ◌∷◌, ◌++◌, Bool, true, false, cond, ◌||◌, append-nil, refl, sym, ap, subst, ◌∙◌}
use Rattle.std.specs.List.{filter}
use Rattle.std.proofs.lemmas.Bool.{and_parts, and_from, false≢true}
use Rattle.gil_values.specs.Pure.{PureValue}
use Rattle.pure_terms.specs.EqualityLaws.{same_term-same}
use Rattle.pure_terms.specs.Meaning.{truth, all_true}
use Rattle.pure_terms.specs.Pure.{PureAtom, positive, negative, opening}
use Rattle.sym_model.specs.Lists.{Each}
use Rattle.sym_model.proofs.ListLaws.{each_append, each_left, each_right}
use Rattle.bi_beginnings.specs.Conditions.{same_atom, stands_among}
use Rattle.bi_specifications.specs.Shape.{with_condition, with_conditions, each_once}
use Rattle.bi_specifications.proofs.Naming.{filter_append}

same_condition : (a b : PureAtom) → same_atom a b ≡ true → a ≡ b
same_condition (positive s) (positive t) same = ap positive (same_term-same s t same)
same_condition (negative s) (negative t) same = ap negative (same_term-same s t same)
same_condition (opening s) (opening t) same = ap opening (same_term-same s t same)
same_condition a b same = absurd (false≢true same)

module _ (P : PureAtom → Type 0) where
  found_among : (kept : List PureAtom) (a : PureAtom) → stands_among kept a ≡ true → Each P kept → P a
  found_among [] a stands each = absurd (false≢true stands)
  found_among (b ∷ kept) a stands each = by (same_atom a b) refl (λ later. found_among kept a later each.1) stands
    where
      by : (is : Bool) → same_atom a b ≡ is → (stands_among kept a ≡ true → P a) → (is || stands_among kept a) ≡ true → P a
      by true same behind any = subst P (sym (same_condition a b same)) each.0
      by false other behind any = behind any

  with_one : (kept : List PureAtom) (a : PureAtom) → Each P kept → P a → Each P (with_condition kept a)
  with_one kept a each here = by (stands_among kept a)
    where
      by : (is : Bool) → Each P (cond is kept (kept ++ a ∷ []))
      by true = each
      by false = each_append P kept (a ∷ []) each (here, tt)

  of_one : (kept : List PureAtom) (a : PureAtom) → Each P (with_condition kept a) → Each P kept × P a
  of_one kept a each = by (stands_among kept a) refl each
    where
      by : (is : Bool) → stands_among kept a ≡ is → Each P (cond is kept (kept ++ a ∷ [])) → Each P kept × P a
      by true stands all = (all, found_among kept a stands all)
      by false lacks all = (each_left P kept (a ∷ []) all, (each_right P kept (a ∷ []) all).0)

  with_all : (kept conds : List PureAtom) → Each P kept → Each P conds → Each P (with_conditions kept conds)
  with_all kept [] first each = first
  with_all kept (a ∷ conds) first each = with_all (with_condition kept a) conds (with_one kept a first each.0) each.1

  of_all : (kept conds : List PureAtom) → Each P (with_conditions kept conds) → Each P kept × Each P conds
  of_all kept [] each = (each, tt)
  of_all kept (a ∷ conds) each =
      let (first, rest) = of_all (with_condition kept a) conds each in
      let (before, here) = of_one kept a first in
      (before, (here, rest))

  -- what holds of each condition of the one holds of each of the other
  pub each_kept : (conds : List PureAtom) → Each P conds → Each P (each_once conds)
  each_kept conds each = with_all [] conds tt each

  pub each_there : (conds : List PureAtom) → Each P (each_once conds) → Each P conds
  each_there conds each = (of_all [] conds each).1

module _ (v : List PureValue) where
  each_true : (conds : List PureAtom) → all_true v conds ≡ true → Each (λ a. truth v a ≡ true) conds
  each_true [] all = tt
  each_true (a ∷ conds) all = let (here, rest) = and_parts (truth v a) (all_true v conds) all in (here, each_true conds rest)

  true_each : (conds : List PureAtom) → Each (λ a. truth v a ≡ true) conds → all_true v conds ≡ true
  true_each [] each = refl
  true_each (a ∷ conds) each = and_from (truth v a) (all_true v conds) each.0 (true_each conds each.1)

  -- where the conditions of one list are true, so are those of the other
  pub kept_true : (conds : List PureAtom) → all_true v conds ≡ true → all_true v (each_once conds) ≡ true
  kept_true conds all = true_each (each_once conds) (each_kept (λ a. truth v a ≡ true) conds (each_true conds all))

  pub true_there : (conds : List PureAtom) → all_true v (each_once conds) ≡ true → all_true v conds ≡ true
  true_there conds all = true_each conds (each_there (λ a. truth v a ≡ true) conds (each_true (each_once conds) all))

-- ---- the step of a loop

with_last : (kept conds : List PureAtom) (a : PureAtom) → with_conditions kept (conds ++ a ∷ []) ≡ with_condition (with_conditions kept conds) a
with_last kept [] a = refl
with_last kept (b ∷ conds) a = with_last (with_condition kept b) conds a

-- a condition more, which passes the test or doesn't
pub passed : (f : PureAtom → Bool) (conds : List PureAtom) (a : PureAtom) → f a ≡ true
    → each_once (filter f (conds ++ a ∷ [])) ≡ with_condition (each_once (filter f conds)) a
passed f conds a passes =
    ap each_once (filter_append f conds (a ∷ []) ∙ ap (λ (b : Bool). filter f conds ++ cond b (a ∷ []) []) passes) ∙ with_last [] (filter f conds) a

pub dropped : (f : PureAtom → Bool) (conds : List PureAtom) (a : PureAtom) → f a ≡ false → each_once (filter f (conds ++ a ∷ [])) ≡ each_once (filter f conds)
dropped f conds a fails =
    ap each_once (filter_append f conds (a ∷ []) ∙ ap (λ (b : Bool). filter f conds ++ cond b (a ∷ []) []) fails ∙ append-nil (filter f conds))

-- a condition that stands already, or doesn't
pub stands_already : (kept : List PureAtom) (a : PureAtom) → stands_among kept a ≡ true → with_condition kept a ≡ kept
stands_already kept a stands = ap (λ (b : Bool). cond b kept (kept ++ a ∷ [])) stands

pub stands_newly : (kept : List PureAtom) (a : PureAtom) → stands_among kept a ≡ false → with_condition kept a ≡ kept ++ a ∷ []
stands_newly kept a lacks = ap (λ (b : Bool). cond b kept (kept ++ a ∷ [])) lacks

-- so is a condition kept that passes the test and doesn't stand yet, and no other
pub one_more : (f : PureAtom → Bool) (conds : List PureAtom) (a : PureAtom) (kept : List PureAtom) → kept ≡ each_once (filter f conds) → f a ≡ true
    → stands_among kept a ≡ false → kept ++ a ∷ [] ≡ each_once (filter f (conds ++ a ∷ []))
one_more f conds a kept is passes lacks = sym (passed f conds a passes ∙ ap (λ ks. with_condition ks a) (sym is) ∙ stands_newly kept a lacks)

pub one_again : (f : PureAtom → Bool) (conds : List PureAtom) (a : PureAtom) (kept : List PureAtom) → kept ≡ each_once (filter f conds) → f a ≡ true
    → stands_among kept a ≡ true → kept ≡ each_once (filter f (conds ++ a ∷ []))
one_again f conds a kept is passes stands = sym (passed f conds a passes ∙ ap (λ ks. with_condition ks a) (sym is) ∙ stands_already kept a stands)

pub one_dropped : (f : PureAtom → Bool) (conds : List PureAtom) (a : PureAtom) (kept : List PureAtom) → kept ≡ each_once (filter f conds) → f a ≡ false
    → kept ≡ each_once (filter f (conds ++ a ∷ []))
one_dropped f conds a kept is fails = is ∙ sym (dropped f conds a fails)
