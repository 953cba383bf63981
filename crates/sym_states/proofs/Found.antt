-- Terms that were found in a store, and loops over lists.
use Rattle.std.proofs.Common.{◌≡◌, ℕ, ◌+◌, ◌<◌, List, [], ◌∷◌, ◌++◌, map, take, get_or, length, true, false, if◌then◌else◌, Bool, Option, Some, None, is_some, Result, Ok, Err, IfOk, refl, sym, ap, ◌∙◌, true≢false, append_assoc}
use Rattle.std.specs.List.{flat_map}
use Rattle.std.specs.Option.{option_map, option_or}
use Rattle.std.specs.Str.{bytes_eq}
use Rattle.std.proofs.lemmas.List.{append-nil, take_more, map-append}
use Rattle.sym_evaluation.specs.Pure.{PureBinding, PureStore, term_at}

pub seen_there : {A B : Type 0} (f : A → B) (o : Option A) (p : Option B) → option_map f o ≡ p → is_some o ≡ true → (b : B) × (p ≡ Some b)
seen_there f (Some a) p seen there = (f a, sym seen)
seen_there f None p seen there = absurd (true≢false (sym there))

pub not_there : {A B : Type 0} (f : A → B) (o : Option A) (p : Option B) → option_map f o ≡ p → is_some o ≡ false → p ≡ None
not_there f (Some a) p seen none = absurd (true≢false none)
not_there f None p seen none = sym seen

-- an element that was read is behind those before it
pub map_more : {A B : Type 0} (f : A → B) (xs : List A) (i : ℕ) (x : A) → i < length xs → x ≡ get_or xs i x → map f (take (i + 1) xs) ≡ map f (take i xs) ++ f x ∷ []
map_more f xs i x below is = ap (map f) (take_more xs i x below ∙ ap (λ y. take i xs ++ y ∷ []) (sym is)) ∙ map-append f (take i xs) (x ∷ [])

pub flat_more : {A B : Type 0} (f : A → List B) (xs : List A) (x : A) → flat_map f (xs ++ x ∷ []) ≡ flat_map f xs ++ f x
flat_more f [] x = append-nil (f x)
flat_more f (y ∷ xs) x = ap (λ zs. f y ++ zs) (flat_more f xs x) ∙ sym (append_assoc (f y) (flat_map f xs) (f x))

-- ---- stores beside each other

or_or : {A : Type 0} (o p q : Option A) → option_or (option_or o p) q ≡ option_or o (option_or p q)
or_or (Some a) p q = refl
or_or None p q = refl

or_none : {A : Type 0} (o : Option A) → option_or o None ≡ o
or_none (Some a) = refl
or_none None = refl

term_last : (bs : PureStore) (b : PureBinding) (x : List ℕ) → term_at (bs ++ b ∷ []) x ≡ option_or (term_at bs x) (if bytes_eq b.name x then Some b.term else None)
term_last [] b x = refl
term_last (c ∷ bs) b x = by (bytes_eq c.name x) (term_last bs b x)
  where
    by : (e : Bool) → term_at (bs ++ b ∷ []) x ≡ option_or (term_at bs x) (if bytes_eq b.name x then Some b.term else None)
        → (if e then Some c.term else term_at (bs ++ b ∷ []) x) ≡ option_or (if e then Some c.term else term_at bs x) (if bytes_eq b.name x then Some b.term else None)
    by true later = refl
    by false later = later

pub beside_more : (before after first bs : PureStore) (b : PureBinding) (x : List ℕ) → term_at before x ≡ option_or (term_at first x) (term_at bs x)
    → term_at after x ≡ option_or (term_at before x) (if bytes_eq b.name x then Some b.term else None) → term_at after x ≡ option_or (term_at first x) (term_at (bs ++ b ∷ []) x)
beside_more before after first bs b x so_far adds =
    adds ∙ ap (λ o. option_or o (if bytes_eq b.name x then Some b.term else None)) so_far ∙ or_or (term_at first x) (term_at bs x) (if bytes_eq b.name x then Some b.term else None)
    ∙ ap (option_or (term_at first x)) (sym (term_last bs b x))

-- ---- results

pub ok_to : {A E : Type 0} (r : Result A E) (P Q : A → Type 0) → ((a : A) → P a → Q a) → IfOk r P → IfOk r Q
ok_to (Ok a) P Q f is = f a is
ok_to (Err e) P Q f is = tt
