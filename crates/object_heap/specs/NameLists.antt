-- Lists of names, where a name is added at the end or taken out.
use Rattle.std.proofs.Common.{◌≡◌, ⊎_elim, ℕ, Bool, true, false, not, cond, ◌&&◌, ◌||◌, List, [], ◌∷◌, ◌++◌, IsTrue, refl, sym, ap, subst, ◌∙◌, true≢false}
use Rattle.std.proofs.lemmas.Bool.{and_from, and_parts}
use Rattle.std.proofs.lemmas.List.Folds.{list_any-append}
use Rattle.std.specs.Prelude.{filter}
use Rattle.std.specs.List.{list_any, Contains}
use Rattle.gil_values.specs.Pure.{PureValue, text, list, from_list, to_list, to_list-from_list, from_list-to_list}
use Rattle.gil_values.specs.Symbols.{symbols_of_elements, OccursIn}
use Rattle.gil_values.specs.Equality.{same_value}
use Rattle.gil_values.specs.EqualityLaws.{same_value-Decides, same_value-equivalence}
use Rattle.mem_model.specs.Names.{is_text, are_distinct_texts, is_name_list, lists_name}
use Rattle.mem_model.proofs.NameKeys.{or_first, or_second, or_of}
use Rattle.mem_model.proofs.Cases.{none_contained}
use Rattle.object_heap.specs.Table.{appended, without_name}

-- ---- tests

or_neither : (b c : Bool) → (b || c) ≡ false → (b ≡ false) × (c ≡ false)
or_neither true c is = absurd (true≢false is)
or_neither false c is = (refl, is)

neither_or : (b c : Bool) → b ≡ false → c ≡ false → (b || c) ≡ false
neither_or true c no_b no_c = absurd (true≢false no_b)
neither_or false c no_b no_c = no_c

not_is : (b : Bool) → not b ≡ true → b ≡ false
not_is true is = absurd (true≢false (sym is))
not_is false is = refl

is_not : (b : Bool) → b ≡ false → not b ≡ true
is_not true is = absurd (true≢false is)
is_not false is = refl

not_both : (b : Bool) → ¬ (b ≡ true) → b ≡ false
not_both true other = absurd (other refl)
not_both false other = refl

-- the head of a list of distinct texts is a text that isn't in the tail, which is one too
distinct_parts : (v : PureValue) (vs : List PureValue) → are_distinct_texts (v ∷ vs) ≡ true → (is_text v ≡ true)
    × (list_any (same_value v) vs ≡ false) × (are_distinct_texts vs ≡ true)
distinct_parts v vs is =
    let outer = and_parts (is_text v && not (list_any (same_value v) vs)) (are_distinct_texts vs) is in
    let inner = and_parts (is_text v) (not (list_any (same_value v) vs)) outer.0 in
    (inner.0, not_is (list_any (same_value v) vs) inner.1, outer.1)

distinct_from : (v : PureValue) (vs : List PureValue) → is_text v ≡ true → list_any (same_value v) vs ≡ false
    → are_distinct_texts vs ≡ true → are_distinct_texts (v ∷ vs) ≡ true
distinct_from v vs is_t apart rest = and_from _ _ (and_from _ _ is_t (is_not (list_any (same_value v) vs) apart)) rest

-- ---- a name at the end

appended_distinct : (vs : List PureValue) (p : List ℕ) → are_distinct_texts vs ≡ true → list_any (same_value (text p)) vs ≡ false
    → are_distinct_texts (vs ++ text p ∷ []) ≡ true
appended_distinct [] p is apart = refl
appended_distinct (v ∷ vs) p is apart =
    let parts = distinct_parts v vs is in
    let others = or_neither (same_value (text p) v) (list_any (same_value (text p)) vs) apart in
    let last : (same_value v (text p) || false) ≡ false =
    neither_or (same_value v (text p)) false (same_value-equivalence.symm v (text p) ∙ others.0) refl in
    distinct_from v (vs ++ text p ∷ []) parts.0
    (list_any-append (same_value v) vs (text p ∷ [])
    ∙ neither_or (list_any (same_value v) vs) (same_value v (text p) || false) parts.1 last)
    (appended_distinct vs p parts.2 others.1)

pub appended_names : (d : PureValue) (p : List ℕ) → IsTrue (is_name_list d) → lists_name d p ≡ false → IsTrue (is_name_list (appended d p))
appended_names (list vs) p is apart =
    ap are_distinct_texts (to_list-from_list (to_list vs ++ text p ∷ [])) ∙ appended_distinct (to_list vs) p is apart
appended_names d p is apart = absurd (true≢false (sym is))

itself : (p : List ℕ) → same_value (text p) (text p) ≡ true
itself p = (same_value-Decides (text p) (text p)).1 refl

pub appended_lists_itself : (d : PureValue) (p : List ℕ) → IsTrue (is_name_list d) → IsTrue (lists_name (appended d p) p)
appended_lists_itself (list vs) p is =
    ap (list_any (same_value (text p))) (to_list-from_list (to_list vs ++ text p ∷ []))
    ∙ list_any-append (same_value (text p)) (to_list vs) (text p ∷ [])
    ∙ or_second (list_any (same_value (text p)) (to_list vs)) (same_value (text p) (text p) || false)
    (or_first (same_value (text p) (text p)) false (itself p))
appended_lists_itself d p is = absurd (true≢false (sym is))

pub appended_lists : (d : PureValue) (p q : List ℕ) → IsTrue (lists_name d q) → IsTrue (lists_name (appended d p) q)
appended_lists (list vs) p q is =
    ap (list_any (same_value (text q))) (to_list-from_list (to_list vs ++ text p ∷ []))
    ∙ list_any-append (same_value (text q)) (to_list vs) (text p ∷ [])
    ∙ or_first (list_any (same_value (text q)) (to_list vs)) (same_value (text q) (text p) || false) is
appended_lists d p q is = absurd (true≢false (sym is))

-- ---- a name taken out

abbrev other : List ℕ → PureValue → Bool
other p v = not (same_value (text p) v)

filter_apart : (f : PureValue → Bool) (w : PureValue) (vs : List PureValue) → list_any (same_value w) vs ≡ false
    → list_any (same_value w) (filter f vs) ≡ false
filter_apart f w [] is = refl
filter_apart f w (v ∷ vs) is =
    by_test (f v) (or_neither (same_value w v) (list_any (same_value w) vs) is).0
    (filter_apart f w vs (or_neither (same_value w v) (list_any (same_value w) vs) is).1)
  where
    by_test : (b : Bool) → same_value w v ≡ false → list_any (same_value w) (filter f vs) ≡ false
        → list_any (same_value w) (cond b (v ∷ filter f vs) (filter f vs)) ≡ false
    by_test true head rest = neither_or (same_value w v) (list_any (same_value w) (filter f vs)) head rest
    by_test false head rest = rest

filter_distinct : (f : PureValue → Bool) (vs : List PureValue) → are_distinct_texts vs ≡ true → are_distinct_texts (filter f vs) ≡ true
filter_distinct f [] is = refl
filter_distinct f (v ∷ vs) is = by_test (f v) (filter_distinct f vs (distinct_parts v vs is).2)
  where
    by_test : (b : Bool) → are_distinct_texts (filter f vs) ≡ true → are_distinct_texts (cond b (v ∷ filter f vs) (filter f vs)) ≡ true
    by_test true rest = let parts = distinct_parts v vs is in distinct_from v (filter f vs) parts.0 (filter_apart f v vs parts.1) rest
    by_test false rest = rest

pub without_names : (d : PureValue) (p : List ℕ) → IsTrue (is_name_list d) → IsTrue (is_name_list (without_name d p))
without_names (list vs) p is =
    ap are_distinct_texts (to_list-from_list (filter (other p) (to_list vs))) ∙ filter_distinct (other p) (to_list vs) is
without_names d p is = absurd (true≢false (sym is))

filter_keeps : (p q : List ℕ) (vs : List PureValue) → ¬ (q ≡ p) → list_any (same_value (text q)) vs ≡ true
    → list_any (same_value (text q)) (filter (other p) vs) ≡ true
filter_keeps p q [] differ is = is
filter_keeps p q (v ∷ vs) differ is =
    ⊎_elim here (λ later. by_test (other p v) (filter_keeps p q vs differ later))
    (or_of (same_value (text q) v) (list_any (same_value (text q)) vs) is)
  where
    by_test : (b : Bool) → list_any (same_value (text q)) (filter (other p) vs) ≡ true
        → list_any (same_value (text q)) (cond b (v ∷ filter (other p) vs) (filter (other p) vs)) ≡ true
    by_test true rest = or_second (same_value (text q) v) (list_any (same_value (text q)) (filter (other p) vs)) rest
    by_test false rest = rest

    text_in : PureValue → List ℕ
    text_in (text cs) = cs
    text_in w = []

    here : same_value (text q) v ≡ true
        → list_any (same_value (text q)) (cond (other p v) (v ∷ filter (other p) vs) (filter (other p) vs)) ≡ true
    here same =
        let is_q : text q ≡ v = (same_value-Decides (text q) v).0 same in
        let kept : other p v ≡ true =
        is_not (same_value (text p) v)
        (not_both (same_value (text p) v) (λ is_p. let both : text p ≡ text q = (same_value-Decides (text p) v).0 is_p
        ∙ sym is_q in absurd (differ (sym (let names : p ≡ q = cc in names))))) in
        subst (λ b. list_any (same_value (text q)) (cond b (v ∷ filter (other p) vs) (filter (other p) vs)) ≡ true) (sym kept)
        (or_first (same_value (text q) v) (list_any (same_value (text q)) (filter (other p) vs)) same)

pub without_lists : (d : PureValue) (p q : List ℕ) → ¬ (q ≡ p) → IsTrue (lists_name d q) → IsTrue (lists_name (without_name d p) q)
without_lists (list vs) p q differ is =
    ap (list_any (same_value (text q))) (to_list-from_list (filter (other p) (to_list vs))) ∙ filter_keeps p q (to_list vs) differ is
without_lists d p q differ is = absurd (true≢false (sym is))

-- ---- no symbol occurs in a list of names

texts_without_symbols : (vs : List PureValue) → are_distinct_texts vs ≡ true → symbols_of_elements (from_list vs) ≡ []
texts_without_symbols [] is = refl
texts_without_symbols (text cs ∷ vs) is = texts_without_symbols vs (distinct_parts (text cs) vs is).2
texts_without_symbols (v ∷ vs) is = absurd (true≢false (sym (distinct_parts v vs is).0))

pub no_symbol_in_names : (d : PureValue) → IsTrue (is_name_list d) → (n : ℕ) → ¬ OccursIn n d
no_symbol_in_names (list vs) is n occurs =
    none_contained n (subst (λ ns. Contains ns n) (ap symbols_of_elements (sym (from_list-to_list vs))
    ∙ texts_without_symbols (to_list vs) is) occurs)
no_symbol_in_names d is n occurs = absurd (true≢false (sym is))
