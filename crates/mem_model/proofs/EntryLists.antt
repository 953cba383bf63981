-- Heaps given by their entries, for rows that are computed.
use Rattle.std.proofs.Common.{◌≡◌, ℕ, nat_eq, Bool, true, false, cond, not, ◌&&◌, List, [], ◌∷◌, ◌++◌, map, Option, Some, None, is_some, refl, sym, ap, ◌∙◌, true≢false}
use Rattle.std.proofs.lemmas.Bool.{and_parts}
use Rattle.std.specs.Option.{option_or}
use Rattle.std.specs.List.{list_all, filter, find as find_first}
use Rattle.std.specs.FinMap.{find, get, insert, remove, get-from_entries, get-remove}
use Rattle.gil_values.specs.Pure.{PureValue, boolean}
use Rattle.gil_values.specs.Equality.{same_value}
use Rattle.gil_values.specs.EqualityLaws.{same_value-Decides}
use Rattle.mem_model.specs.declared.keys.Key.{Key}
use Rattle.mem_model.specs.declared.keys.Sub.TheVariants.{Gone}
use Rattle.mem_model.specs.Keys.{key, key_cmp}
use Rattle.mem_model.specs.KeyOrder.{key_cmp-total, key_eq}
use Rattle.mem_model.specs.Heaps.{joined}
use Rattle.mem_model.specs.Rows.{Entries, heap_of}
use Rattle.mem_model.specs.Actions.{ActionResult}
use Rattle.mem_model.specs.Tables.{found_or, at, does, first_missing, missed_or, dispose_whole, disposed, created}
use Rattle.mem_model.proofs.Joins.{same_heap, get-joined, find-append}
use Rattle.mem_model.proofs.Holding.{same_key}
use Rattle.mem_model.proofs.Changes.{get-disposed}

pub listed_at : (es : Entries) (k : Key) → get (heap_of es) k ≡ find key_cmp k es
listed_at es k = get-from_entries key_cmp-total es k

-- a case of a table, computed
pub at_entries : (es : Entries) (k : Key) (f : PureValue → ActionResult) (r : ActionResult) → at (heap_of es) k f r ≡ found_or (find key_cmp k es) f r
at_entries es k f r = ap (λ o. found_or o f r) (listed_at es k)

pub first_missing-entries : (es : Entries) (ks : List Key) → first_missing (heap_of es) ks ≡ find_first (λ k. not (is_some (find key_cmp k es))) ks
first_missing-entries es ks = λ i. find_first (λ k. not (is_some (listed_at es k i))) ks

-- ---- two lists that find the same make one heap

abbrev pub same_option : Option PureValue → Option PureValue → Bool
same_option None None = true
same_option (Some v) (Some w) = same_value v w
same_option o p = false

same_option-is : (o p : Option PureValue) → same_option o p ≡ true → o ≡ p
same_option-is None None is = refl
same_option-is (Some v) (Some w) is = ap Some ((same_value-Decides v w).0 is)
same_option-is (Some v) None is = absurd (true≢false (sym is))
same_option-is None (Some v) is = absurd (true≢false (sym is))

abbrev pub finds_same : Entries → Entries → Key → Bool
finds_same es fs k = same_option (find key_cmp k es) (find key_cmp k fs)

abbrev pub agree : Entries → Entries → Bool
agree es fs = list_all (λ e. finds_same es fs e.0) es && list_all (λ e. finds_same es fs e.0) fs

-- a key that is among the entries of either
at_entry : (P : Key → Bool) (gs : Entries) → list_all (λ e. P e.0) gs ≡ true → (k : Key) → is_some (find key_cmp k gs) ≡ true → P k ≡ true
at_entry P [] all k is = absurd (true≢false (sym is))
at_entry P (g ∷ gs) all k is =
    let both = and_parts (P g.0) (list_all (λ e. P e.0) gs) all in
    by_tie (key_eq k g.0) refl is (λ tied. ap P (same_key k g.0 tied) ∙ both.0) (at_entry P gs both.1 k)
  where
    by_tie : (b : Bool) → key_eq k g.0 ≡ b → is_some (cond b (Some g.1) (find key_cmp k gs)) ≡ true → (key_eq k g.0 ≡ true → P k ≡ true) → (is_some (find key_cmp k gs) ≡ true → P k ≡ true) → P k ≡ true
    by_tie true tied found here there = here tied
    by_tie false apart found here there = there found

none_both : (o p : Option PureValue) → (is_some o ≡ true → o ≡ p) → (is_some p ≡ true → o ≡ p) → o ≡ p
none_both (Some v) p here there = here refl
none_both None (Some w) here there = there refl
none_both None None here there = refl

pub same_entries : (es fs : Entries) → agree es fs ≡ true → heap_of es ≡ heap_of fs
same_entries es fs is =
    let both = and_parts (list_all (λ e. finds_same es fs e.0) es) (list_all (λ e. finds_same es fs e.0) fs) is in
    same_heap _ _ (λ k.
    listed_at es k
    ∙ none_both (find key_cmp k es) (find key_cmp k fs)
    (λ found. same_option-is _ _ (at_entry (finds_same es fs) es both.0 k found))
    (λ found. same_option-is _ _ (at_entry (finds_same es fs) fs both.1 k found))
    ∙ sym (listed_at fs k))

-- ---- changes of lists

pub joined-entries : (es fs : Entries) → joined (heap_of es) (heap_of fs) ≡ heap_of (es ++ fs)
joined-entries es fs = same_heap _ _ (λ k.
    get-joined (heap_of es) (heap_of fs) k
    ∙ (λ i. option_or (listed_at es k i) (listed_at fs k i))
    ∙ sym (listed_at (es ++ fs) k ∙ find-append k es fs))

-- the entries whose keys pass a test
abbrev pub kept : (Key → Bool) → Entries → Entries
kept p es = filter (λ e. p e.0) es

find-kept : (p : Key → Bool) (es : Entries) (q : Key) → find key_cmp q (kept p es) ≡ cond (p q) (find key_cmp q es) None
find-kept p [] q = none (p q)
  where
    none : (b : Bool) → ◌≡◌ {A = Option PureValue} None (cond b None None)
    none true = refl
    none false = refl
find-kept p (e ∷ es) q = step (p e.0) refl (key_eq q e.0) refl (find-kept p es q)
  where
    step : (b : Bool) → p e.0 ≡ b → (c : Bool) → key_eq q e.0 ≡ c → find key_cmp q (kept p es) ≡ cond (p q) (find key_cmp q es) None → find key_cmp q (cond b (e ∷ kept p es) (kept p es)) ≡ cond (p q) (cond c (Some e.1) (find key_cmp q es)) None
    step true passes true tied later =
        ap (λ c. cond c (Some e.1) (find key_cmp q (kept p es))) tied
        ∙ ap (λ d. cond d (Some e.1) None) (sym (ap p (same_key q e.0 tied) ∙ passes))
    step true passes false apart later = ap (λ c. cond c (Some e.1) (find key_cmp q (kept p es))) apart ∙ later
    step false fails true tied later =
        let out : p q ≡ false = ap p (same_key q e.0 tied) ∙ fails in
        later ∙ ap (λ d. cond d (find key_cmp q es) None) out ∙ ap (λ d. cond d (Some e.1) None) (sym out)
    step false fails false apart later = later

turned : (b : Bool) (o : Option PureValue) → cond (not b) o None ≡ cond b None o
turned true o = refl
turned false o = refl

abbrev pub elsewhere : ℕ → Entries → Entries
elsewhere l es = kept (λ k. not (nat_eq k.loc l)) es

find-elsewhere : (l : ℕ) (es : Entries) (k : Key) → find key_cmp k (elsewhere l es) ≡ cond (nat_eq k.loc l) None (find key_cmp k es)
find-elsewhere l es k = find-kept (λ q. not (nat_eq q.loc l)) es k ∙ turned (nat_eq k.loc l) (find key_cmp k es)

pub disposed-entries : (l : ℕ) (es : Entries) → disposed l (heap_of es) ≡ heap_of ((key l Gone, boolean true) ∷ elsewhere l es)
disposed-entries l es = same_heap _ _ (λ k.
    get-disposed l (heap_of es) k
    ∙ ap (λ o. cond (key_eq k (key l Gone)) (Some (boolean true)) (cond (nat_eq k.loc l) None o)) (listed_at es k)
    ∙ ap (cond (key_eq k (key l Gone)) (Some (boolean true))) (sym (find-elsewhere l es k))
    ∙ sym (listed_at ((key l Gone, boolean true) ∷ elsewhere l es) k))

pub created-entries : (k : Key) (d : PureValue) (parts : List Key) (v : PureValue) (es : Entries) → created k d parts v (heap_of es) ≡ heap_of ((k, d) ∷ map (λ q. (q, v)) parts ++ es)
created-entries k d parts v es = ap (λ h. insert h k d) (joined-entries (map (λ q. (q, v)) parts) es)

pub dispose_whole-entries : (l : ℕ) (parts : List Key) (es : Entries) → dispose_whole l parts (heap_of es) ≡ missed_or (find_first (λ k. not (is_some (find key_cmp k es))) parts) (heap_of es) (does (boolean true) (heap_of ((key l Gone, boolean true) ∷ elsewhere l es)))
dispose_whole-entries l parts es = λ i. missed_or (first_missing-entries es parts i) (heap_of es) (does (boolean true) (disposed-entries l es i))

abbrev pub without_key : Key → Entries → Entries
without_key k es = kept (λ q. not (key_eq q k)) es

pub removed-entries : (k : Key) (es : Entries) → remove (heap_of es) k ≡ heap_of (without_key k es)
removed-entries k es = same_heap _ _ (λ q.
    get-remove key_cmp-total (heap_of es) k q
    ∙ ap (cond (key_eq q k) None) (listed_at es q)
    ∙ sym (find-kept (λ m. not (key_eq m k)) es q ∙ turned (key_eq q k) (find key_cmp q es))
    ∙ sym (listed_at (without_key k es) q))
