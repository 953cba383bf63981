-- The names of variables by their numbers, and the stores that give them values.
use Rattle.std.proofs.Common.{◌≡◌, ◌⊎◌, ⊎_elim, inl, inr, ℕ, zero, suc, ◌+◌, ◌<◌, List, [], ◌∷◌, ◌++◌, length, drop, slice_get, Bool, true, false, cond, not, ◌&&◌, ◌||◌, if◌then◌else◌, Some, None, refl, sym, ap, ◌∙◌, true≢false, arith}
use Rattle.std.specs.List.{filter}
use Rattle.std.specs.Str.{bytes_eq}
use Rattle.std.specs.Str.Parse.{digits_value}
use Rattle.std.proofs.lemmas.Slice.Eq.{bytes_eq-Decides}
use Rattle.gil_values.specs.Pure.{PureValue, symbol}
use Rattle.gil_values.proofs.Numerals.{numerals_tell}
use Rattle.gil_syntax.specs.Evaluation.{value_of}
use Rattle.gil_syntax.specs.Valid.{is_among, param_names}
use Rattle.assert_logic.specs.Sorts.{has_sort, fits_sorts}
use Rattle.assertion_terms.specs.Named.{numbered, numbered_from}
use Rattle.inferred_specs.specs.Inferred.{new_symbols}
use Rattle.pure_terms.specs.declared.variables.Sort.{Sort}
use Rattle.bi_specifications.specs.Shape.{name_sort, any_params, numbered_params}
use Rattle.bi_specifications.proofs.RunsAlong.{symbols_from}

-- ---- names

pub same_number : (n m : ℕ) → numbered n ≡ numbered m → n ≡ m
same_number n m is = sym (numerals_tell.value n) ∙ ap (λ xs. digits_value 10 (drop 2 xs)) is ∙ numerals_tell.value m

pub same_name : (x : List ℕ) → bytes_eq x x ≡ true
same_name x = (bytes_eq-Decides x x).1 refl

pub other_name : (x y : List ℕ) → ¬ (x ≡ y) → bytes_eq x y ≡ false
other_name x y other = by (bytes_eq x y) refl
  where
    by : (b : Bool) → bytes_eq x y ≡ b → b ≡ false
    by true same = absurd (other ((bytes_eq-Decides x y).0 same))
    by false isnt = refl

pub other_number : (n m : ℕ) → ¬ (n ≡ m) → bytes_eq (numbered n) (numbered m) ≡ false
other_number n m other = other_name (numbered n) (numbered m) (λ same. other (same_number n m same))

pub numbered_length : (n count : ℕ) → length (numbered_from n count) ≡ count
numbered_length n zero = refl
numbered_length n (suc count) = ap suc (numbered_length (suc n) count)

pub numbered_at : (n count i : ℕ) → i < count → slice_get (numbered_from n count) i ≡ Some (numbered (n + i))
numbered_at n zero i less = absurd (omega (arith, less))
numbered_at n (suc count) zero less = ap (λ k. Some (numbered k)) (omega arith)
numbered_at n (suc count) (suc i) less =
    let next : suc n + i ≡ n + suc i = omega arith in
    numbered_at (suc n) count i (omega (arith, less)) ∙ ap (λ k. Some (numbered k)) next

pub numbered_split : (n a b : ℕ) → numbered_from n (a + b) ≡ numbered_from n a ++ numbered_from (n + a) b
numbered_split n zero b =
    let first : zero + b ≡ b = omega arith in
    let second : n ≡ n + zero = omega arith in
    ap (λ k. numbered_from n k) first ∙ ap (λ k. numbered_from k b) second
numbered_split n (suc a) b =
    let next : suc n + a ≡ n + suc a = omega arith in
    let longer : suc a + b ≡ suc (a + b) = omega arith in
    ap (λ k. numbered_from n k) longer ∙ ap (λ xs. numbered n ∷ xs) (numbered_split (suc n) a b ∙ ap (λ k. numbered_from (suc n) a ++ numbered_from k b) next)

-- ---- elements

pub at_left : {A : Type 0} (xs ys : List A) (i : ℕ) → i < length xs → slice_get (xs ++ ys) i ≡ slice_get xs i
at_left [] ys i less = absurd (omega (arith, less))
at_left (x ∷ xs) ys zero less = refl
at_left (x ∷ xs) ys (suc i) less = at_left xs ys i (omega (arith, less))

pub at_right : {A : Type 0} (xs ys : List A) (i : ℕ) → slice_get (xs ++ ys) (length xs + i) ≡ slice_get ys i
at_right [] ys i = let none : zero + i ≡ i = omega arith in ap (slice_get ys) none
at_right (x ∷ xs) ys i =
    let next : suc (length xs) + i ≡ suc (length xs + i) = omega arith in
    ap (slice_get (x ∷ (xs ++ ys))) next ∙ at_right xs ys i

-- an element is one of the first list, or of the second one
pub at_either : {A : Type 0} (xs ys : List A) (i : ℕ) → (i < length xs) ⊎ ((j : ℕ) × (i ≡ length xs + j))
at_either [] ys i = inr (i, omega arith)
at_either (x ∷ xs) ys zero = inl (omega arith)
at_either (x ∷ xs) ys (suc i) = ⊎_elim (λ less. inl (omega (arith, less))) (λ (right : (j : ℕ) × (i ≡ length xs + j)). let is : i ≡ length xs + right.0 = right.1 in inr (right.0, omega (arith, is))) (at_either xs ys i)

pub symbols_length : (c count : ℕ) → length (symbols_from c count) ≡ count
symbols_length c zero = refl
symbols_length c (suc count) = ap suc (symbols_length (suc c) count)

pub symbols_at : (c count i : ℕ) → i < count → slice_get (symbols_from c count) i ≡ Some (symbol (c + i))
symbols_at c zero i less = absurd (omega (arith, less))
symbols_at c (suc count) zero less = ap (λ k. Some (symbol k)) (omega arith)
symbols_at c (suc count) (suc i) less =
    let next : suc c + i ≡ c + suc i = omega arith in
    symbols_at (suc c) count i (omega (arith, less)) ∙ ap (λ k. Some (symbol k)) next

-- ---- stores of new symbols

choose_false : {A : Type 0} (b : Bool) (x y : A) → b ≡ false → (if b then x else y) ≡ y
choose_false true x y is = absurd (true≢false is)
choose_false false x y is = refl

choose_true : {A : Type 0} (b : Bool) (x y : A) → b ≡ true → (if b then x else y) ≡ x
choose_true true x y is = refl
choose_true false x y is = absurd (true≢false (sym is))

pub symbol_there : (c n count i : ℕ) → i < count → value_of (new_symbols c (numbered_from n count)) (numbered (n + i)) ≡ Some (symbol (c + i))
symbol_there c n zero i less = absurd (omega (arith, less))
symbol_there c n (suc count) zero less =
    let same : n ≡ n + zero = omega arith in
    choose_true (bytes_eq (numbered n) (numbered (n + zero))) (Some (symbol c)) (value_of (new_symbols (suc c) (numbered_from (suc n) count)) (numbered (n + zero)))
    ((bytes_eq-Decides (numbered n) (numbered (n + zero))).1 (ap numbered same))
    ∙ ap (λ k. Some (symbol k)) (omega arith)
symbol_there c n (suc count) (suc i) less =
    let next : suc n + i ≡ n + suc i = omega arith in
    let counted : suc c + i ≡ c + suc i = omega arith in
    choose_false (bytes_eq (numbered n) (numbered (n + suc i))) (Some (symbol c)) (value_of (new_symbols (suc c) (numbered_from (suc n) count)) (numbered (n + suc i)))
    (other_number n (n + suc i) (λ same. let is : n ≡ n + suc i = same in omega (arith, is)))
    ∙ ap (λ k. value_of (new_symbols (suc c) (numbered_from (suc n) count)) (numbered k)) (sym next)
    ∙ symbol_there (suc c) (suc n) count i (omega (arith, less))
    ∙ ap (λ k. Some (symbol k)) counted

or_none : (a b : Bool) → (a || b) ≡ false → (a ≡ false) × (b ≡ false)
or_none true b is = absurd (true≢false is)
or_none false b is = (refl, is)

turned : (x y : List ℕ) → bytes_eq x y ≡ false → bytes_eq y x ≡ false
turned x y isnt = other_name y x (λ same. true≢false (sym ((bytes_eq-Decides x y).1 (sym same)) ∙ isnt))

pub no_symbol : (c : ℕ) (xs : List (List ℕ)) (x : List ℕ) → is_among xs x ≡ false → value_of (new_symbols c xs) x ≡ None
no_symbol c [] x lacks = refl
no_symbol c (y ∷ ys) x lacks =
    let (here, later) = or_none (bytes_eq x y) (is_among ys x) lacks in
    choose_false (bytes_eq y x) (Some (symbol c)) (value_of (new_symbols (suc c) ys) x) (turned x y here) ∙ no_symbol (suc c) ys x later

-- ---- which names a precondition leaves

pub filter_append : {A : Type 0} (f : A → Bool) (xs ys : List A) → filter f (xs ++ ys) ≡ filter f xs ++ filter f ys
filter_append f [] ys = refl
filter_append f (x ∷ xs) ys = by (f x) (filter_append f xs ys)
  where
    by : (b : Bool) → filter f (xs ++ ys) ≡ filter f xs ++ filter f ys
        → cond b (x ∷ filter f (xs ++ ys)) (filter f (xs ++ ys)) ≡ cond b (x ∷ filter f xs) (filter f xs) ++ filter f ys
    by true later = ap (λ zs. x ∷ zs) later
    by false later = later

cond_is : {A : Type 0} (b c : Bool) (x y : A) → b ≡ c → cond b x y ≡ cond c x y
cond_is b c x y is = ap (λ (a : Bool). cond a x y) is

pub none_left : (f : List ℕ → Bool) (n count : ℕ) → ((i : ℕ) → i < count → f (numbered (n + i)) ≡ false) → filter f (numbered_from n count) ≡ []
none_left f n zero each = refl
none_left f n (suc count) each =
    let first : f (numbered n) ≡ false = ap (λ k. f (numbered k)) (omega arith) ∙ each zero (omega arith) in
    cond_is (f (numbered n)) false (numbered n ∷ filter f (numbered_from (suc n) count)) (filter f (numbered_from (suc n) count)) first
    ∙ none_left f (suc n) count (λ i less. let next : suc n + i ≡ n + suc i = omega arith in ap (λ k. f (numbered k)) next ∙ each (suc i) (omega (arith, less)))

pub all_left : (f : List ℕ → Bool) (n count : ℕ) → ((i : ℕ) → i < count → f (numbered (n + i)) ≡ true) → filter f (numbered_from n count) ≡ numbered_from n count
all_left f n zero each = refl
all_left f n (suc count) each =
    let first : f (numbered n) ≡ true = ap (λ k. f (numbered k)) (omega arith) ∙ each zero (omega arith) in
    cond_is (f (numbered n)) true (numbered n ∷ filter f (numbered_from (suc n) count)) (filter f (numbered_from (suc n) count)) first
    ∙ ap (λ xs. numbered n ∷ xs)
    (all_left f (suc n) count (λ i less. let next : suc n + i ≡ n + suc i = omega arith in ap (λ k. f (numbered k)) next ∙ each (suc i) (omega (arith, less))))

-- ---- declarations

pub any_names : (xs : List (List ℕ)) → param_names (any_params xs) ≡ xs
any_names [] = refl
any_names (x ∷ xs) = ap (λ ys. x ∷ ys) (any_names xs)

pub numbered_names : (n : ℕ) (sorts : List Sort) → param_names (numbered_params n sorts) ≡ numbered_from n (length sorts)
numbered_names n [] = refl
numbered_names n (sort ∷ sorts) = ap (λ xs. numbered n ∷ xs) (numbered_names (suc n) sorts)

both_true : (a b : Bool) → a ≡ true → b ≡ true → (a && b) ≡ true
both_true a b first second = ap (λ c. c && b) first ∙ second

or_fits : (b c : Bool) → (b ≡ true → c ≡ true) → (not b || c) ≡ true
or_fits true c is = is refl
or_fits false c is = refl

pub any_fits : (xs : List (List ℕ)) (x : List ℕ) (w : PureValue) → fits_sorts (any_params xs) x w ≡ true
any_fits [] x w = refl
any_fits (y ∷ xs) x w = both_true (not (bytes_eq y x) || true) (fits_sorts (any_params xs) x w) (or_fits (bytes_eq y x) true (λ same. refl)) (any_fits xs x w)

pub numbered_fits : (n : ℕ) (sorts : List Sort) (x : List ℕ) (w : PureValue)
    → ((i : ℕ) (sort : Sort) → slice_get sorts i ≡ Some sort → numbered (n + i) ≡ x → has_sort (name_sort sort) w ≡ true)
    → fits_sorts (numbered_params n sorts) x w ≡ true
numbered_fits n [] x w each = refl
numbered_fits n (sort ∷ sorts) x w each =
    both_true (not (bytes_eq (numbered n) x) || has_sort (name_sort sort) w) (fits_sorts (numbered_params (suc n) sorts) x w)
    (or_fits (bytes_eq (numbered n) x) (has_sort (name_sort sort) w) (λ same. each zero sort refl (ap numbered (omega arith) ∙ (bytes_eq-Decides (numbered n) x).0 same)))
    (numbered_fits (suc n) sorts x w (λ i s at is. let next : n + suc i ≡ suc n + i = omega arith in each (suc i) s at (ap numbered next ∙ is)))
