-- Values that are distinct texts, one value more at a time, beside the set of those before.
use Rattle.std.proofs.Common.{◌≡◌, ℕ, ◌+◌, ◌<◌, List, [], ◌∷◌, ◌++◌, map, take, drop, get_or, length, Bool, true, false, cond, not, ◌&&◌, ◌||◌, refl, sym, ap, ◌∙◌, true≢false}
use Rattle.std.proofs.lemmas.List.{take_more, take-append-drop, map-append}
use Rattle.std.proofs.lemmas.Cmp.{nat_list_eq_equiv}
use Rattle.std.proofs.lemmas.List.Folds.{list_any-append}
use Rattle.std.specs.List.{list_any}
use Rattle.std.specs.Str.{bytes_eq}
use Rattle.std.specs.HashSet as bag
use Rattle.std.specs.HashSet.{HashSet, contains_by}
use denote.Ref.{Bor}
use Rattle.gil_values.specs.Equality.{same_value}
use Rattle.gil_values.specs.Pure.{PureValue, integer, boolean, text, symbol, kind, procedure, list}
use Rattle.mem_model.specs.Names.{is_text, are_distinct_texts}

same_text-sym : (x : List ℕ) (w : PureValue) → same_value w (text x) ≡ same_value (text x) w
same_text-sym x (text y) = nat_list_eq_equiv.symm y x
same_text-sym x (integer n) = refl
same_text-sym x (boolean b) = refl
same_text-sym x (symbol n) = refl
same_text-sym x (kind k) = refl
same_text-sym x (procedure f) = refl
same_text-sym x (list vs) = refl

or_false : (a : Bool) → (a || false) ≡ a
or_false true = refl
or_false false = refl

and_false : (a : Bool) → (a && false) ≡ false
and_false true = refl
and_false false = refl

-- one of these or this last one
any-push : (f : PureValue → Bool) (vs : List PureValue) (v : PureValue) → list_any f (vs ++ v ∷ []) ≡ (list_any f vs || f v)
any-push f vs v = list_any-append f vs (v ∷ []) ∙ ap (λ b. list_any f vs || b) (or_false (f v))

-- a last value that is no text
no_text-last : (vs : List PureValue) (v : PureValue) → is_text v ≡ false → are_distinct_texts (vs ++ v ∷ []) ≡ false
no_text-last [] v is = ap (λ b. b && true && true) is
no_text-last (w ∷ ws) v is = ap (λ b. is_text w && not (list_any (same_value w) (ws ++ v ∷ [])) && b) (no_text-last ws v is) ∙ and_false _

-- a last text that stands before it, or doesn't
text-last : (vs : List PureValue) (x : List ℕ) → are_distinct_texts (vs ++ text x ∷ []) ≡ (are_distinct_texts vs && not (list_any (same_value (text x)) vs))
text-last [] x = refl
text-last (w ∷ ws) x =
    ap (λ b. is_text w && not b && are_distinct_texts (ws ++ text x ∷ [])) (any-push (same_value w) ws (text x) ∙ ap (λ b. list_any (same_value w) ws || b) (same_text-sym x w))
    ∙ ap (λ b. is_text w && not (list_any (same_value w) ws || same_value (text x) w) && b) (text-last ws x)
    ∙ shuffle (is_text w) (list_any (same_value w) ws) (same_value (text x) w) (are_distinct_texts ws) (list_any (same_value (text x)) ws)
  where
    shuffle : (t a s d b : Bool) → (t && not (a || s) && (d && not b)) ≡ ((t && not a && d) && not (s || b))
    shuffle false a s d b = refl
    shuffle true true s d b = refl
    shuffle true false true d b = sym (and_false d)
    shuffle true false false d b = refl

-- values of which the first aren't distinct texts
longer : (vs ws : List PureValue) → are_distinct_texts vs ≡ false → are_distinct_texts (vs ++ ws) ≡ false
longer [] ws h = absurd (true≢false h)
longer (v ∷ vs) ws h = by (is_text v) (list_any (same_value v) vs) (are_distinct_texts vs) refl refl h (longer vs ws)
  where
    by : (t a d : Bool) → list_any (same_value v) vs ≡ a → are_distinct_texts vs ≡ d → (t && not a && d) ≡ false
        → (are_distinct_texts vs ≡ false → are_distinct_texts (vs ++ ws) ≡ false)
        → (t && not (list_any (same_value v) (vs ++ ws)) && are_distinct_texts (vs ++ ws)) ≡ false
    by false a d any is h rest = refl
    by true true d any is h rest =
        ap (λ b. not b && are_distinct_texts (vs ++ ws)) (list_any-append (same_value v) vs ws ∙ ap (λ b. b || list_any (same_value v) ws) any)
    by true false true any is h rest = absurd (true≢false h)
    by true false false any is h rest = ap (λ b. not (list_any (same_value v) (vs ++ ws)) && b) (rest is) ∙ and_false _

abbrev same_name : Bor (List ℕ) → Bor (List ℕ) → Bool
same_name x y = bytes_eq x.now y.now

-- a name as a key
abbrev key_of : List ℕ → Bor (List ℕ)
key_of x = record { ref_ptr = (0, 0); now = x }

-- the values up to an index, and the value there
module _ {V : Type 0} (view : V → PureValue) (vs : List V) (i : ℕ) (v : V) (below : i < length vs) (is : v ≡ get_or vs i v) where
  abbrev these : List PureValue
  these = map view (take i vs)

  one_more : map view (take (i + 1) vs) ≡ these ++ view v ∷ []
  one_more = ap (map view) (take_more vs i v below) ∙ map-append view (take i vs) (get_or vs i v ∷ []) ∙ ap (λ w. these ++ view w ∷ []) (sym is)

  not_all : are_distinct_texts (map view (take (i + 1) vs)) ≡ false → false ≡ are_distinct_texts (map view vs)
  not_all h = sym (
      ap (λ ws. are_distinct_texts (map view ws)) (sym (take-append-drop (i + 1) vs))
      ∙ ap are_distinct_texts (map-append view (take (i + 1) vs) (drop (i + 1) vs))
      ∙ longer (map view (take (i + 1) vs)) (map view (drop (i + 1) vs)) h)

  pub no_text-here : is_text (view v) ≡ false → false ≡ are_distinct_texts (map view vs)
  no_text-here h = not_all (ap are_distinct_texts one_more ∙ no_text-last these (view v) h)

  -- a text, which is looked up among those before it and added to them
  module _ {S : Type 0} (k : Bor (List ℕ)) (s : HashSet (Bor (List ℕ)) S) (added : Bool) (named : view v ≡ text k.now)
      (adds : added ≡ not (bag.contains same_name s k))
      (before : (x : List ℕ) → contains_by (λ k. bytes_eq x k.now) s ≡ list_any (same_value (text x)) these) where
    distinct_more : are_distinct_texts (map view (take (i + 1) vs)) ≡ (are_distinct_texts these && added)
    distinct_more =
        ap are_distinct_texts (one_more ∙ ap (λ w. these ++ w ∷ []) named)
        ∙ text-last these k.now
        ∙ ap (λ b. are_distinct_texts these && b) (ap not (sym (before k.now)) ∙ sym adds)

    pub text_again : added ≡ false → false ≡ are_distinct_texts (map view vs)
    text_again old = not_all (distinct_more ∙ ap (λ b. are_distinct_texts these && b) old ∙ and_false _)

    pub still_distinct : added ≡ true → are_distinct_texts these ≡ true → are_distinct_texts (map view (take (i + 1) vs)) ≡ true
    still_distinct new once = distinct_more ∙ (λ j. once j && new j)

    pub texts_more : (n : HashSet (Bor (List ℕ)) S) → bag.Updates same_name s n k true
        → (x : List ℕ) → contains_by (λ k. bytes_eq x k.now) n ≡ list_any (same_value (text x)) (map view (take (i + 1) vs))
    texts_more n updates x =
        updates.0 (key_of x)
        ∙ either (bytes_eq k.now x) (contains_by (λ k. bytes_eq x k.now) s)
        ∙ (λ j. before x j || nat_list_eq_equiv.symm k.now x j)
        ∙ sym (any-push (same_value (text x)) these (text k.now))
        ∙ ap (list_any (same_value (text x))) (sym (one_more ∙ ap (λ w. these ++ w ∷ []) named))
      where
        either : (a b : Bool) → cond a true b ≡ (b || a)
        either true true = refl
        either true false = refl
        either false true = refl
        either false false = refl
