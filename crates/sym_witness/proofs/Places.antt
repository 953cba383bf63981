-- Places of numbers in lists.
use Rattle.std.proofs.Common.{◌≡◌, ◌⊎◌, ⊎_elim, inl, inr, add-one, drop, ℕ, zero, suc, ◌+◌, ◌<◌, ◌≤◌, List, [], ◌∷◌, ◌++◌, map, length, Bool, true, false, ◌==◌, if◌then◌else◌, slice_get, Some, refl, sym, ap, subst, ◌∙◌, arith, true≢false}
use Rattle.std.specs.List.{Contains}
use Rattle.std.proofs.lemmas.Bool.{eqb-true, eq-eqb}
use Rattle.std.proofs.lemmas.List.{drop_all}
use Rattle.gil_values.proofs.OperatorSymbols.{none_contained}
use Rattle.sym_witness.specs.Numbering.{numbers_from, place_in, AreDifferent}

-- ---- what a list contains

pub cons_cases : (y : ℕ) (ys : List ℕ) (n : ℕ) → Contains (y ∷ ys) n → (y ≡ n) ⊎ Contains ys n
cons_cases y ys n (zero, within, is) = inl is
cons_cases y ys n (suc k, within, is) = inr (k, omega (arith, within), is)

pub contains_head : (y : ℕ) (ys : List ℕ) → Contains (y ∷ ys) y
contains_head y ys = (0, omega arith, refl)

pub contains_tail : (y : ℕ) (ys : List ℕ) (n : ℕ) → Contains ys n → Contains (y ∷ ys) n
contains_tail y ys n (k, within, is) = (suc k, omega (arith, within), is)

pub contains_mapped : (f : ℕ → ℕ) (ns : List ℕ) (n : ℕ) → Contains ns n → Contains (map f ns) (f n)
contains_mapped f [] n has = absurd (none_contained n has)
contains_mapped f (m ∷ ns) n has =
    ⊎_elim (λ same. subst (λ k. Contains (f m ∷ map f ns) k) (ap f same) (contains_head (f m) (map f ns))) (λ later. contains_tail (f m) (map f ns) (f n) (contains_mapped f ns n later)) (cons_cases m ns n has)

pub unmapped : (f : ℕ → ℕ) (ns : List ℕ) (k : ℕ) → Contains (map f ns) k → (n : ℕ) × (Contains ns n × (f n ≡ k))
unmapped f [] k has = absurd (none_contained k has)
unmapped f (m ∷ ns) k has =
    ⊎_elim (λ same. (m, (contains_head m ns, same))) (λ later. let (n, (there, is)) = unmapped f ns k later in (n, (contains_tail m ns n there, is))) (cons_cases (f m) (map f ns) k has)

-- ---- the place of one

same_cases : (m n : ℕ) → ((m ≡ n) × ((m == n) ≡ true)) ⊎ ((¬ (m ≡ n)) × ((m == n) ≡ false))
same_cases m n = by (m == n) refl where
  by : (b : Bool) → (m == n) ≡ b → ((m ≡ n) × ((m == n) ≡ true)) ⊎ ((¬ (m ≡ n)) × ((m == n) ≡ false))
  by true is = inl (eqb-true m n is, is)
  by false is = inr (λ same. true≢false (sym (eq-eqb m n same) ∙ is), is)

at_first : (m : ℕ) (ms : List ℕ) (n : ℕ) → m ≡ n → place_in (m ∷ ms) n ≡ 0
at_first m ms n same = ap (λ b. if b then 0 else suc (place_in ms n)) (eq-eqb m n same)

pub at_later : (m : ℕ) (ms : List ℕ) (n : ℕ) → ¬ (m ≡ n) → place_in (m ∷ ms) n ≡ suc (place_in ms n)
at_later m ms n other =
    ⊎_elim (λ same. absurd (other same.0)) (λ no. ap (λ b. if b then 0 else suc (place_in ms n)) no.1) (same_cases m n)

-- different numbers of a list have different places
pub one_place : (ns : List ℕ) (m n : ℕ) → Contains ns m → Contains ns n → place_in ns m ≡ place_in ns n → m ≡ n
one_place [] m n has there same = absurd (none_contained m has)
one_place (k ∷ ks) m n has there same =
    ⊎_elim
    (λ (first : (k ≡ m) × ((k == m) ≡ true)). ⊎_elim
    (λ (second : (k ≡ n) × ((k == n) ≡ true)). sym first.0 ∙ second.0)
    (λ (other : (¬ (k ≡ n)) × ((k == n) ≡ false)).
    let zero_is : 0 ≡ suc (place_in ks n) = sym (at_first k ks m first.0) ∙ same ∙ at_later k ks n other.0 in
    absurd (omega (arith, zero_is)))
    (same_cases k n))
    (λ (before : (¬ (k ≡ m)) × ((k == m) ≡ false)). ⊎_elim
    (λ (second : (k ≡ n) × ((k == n) ≡ true)).
    let zero_is : suc (place_in ks m) ≡ 0 = sym (at_later k ks m before.0) ∙ same ∙ at_first k ks n second.0 in
    absurd (omega (arith, zero_is)))
    (λ (other : (¬ (k ≡ n)) × ((k == n) ≡ false)).
    let both : suc (place_in ks m) ≡ suc (place_in ks n) = sym (at_later k ks m before.0) ∙ same ∙ at_later k ks n other.0 in
    one_place ks m n
    (⊎_elim (λ is. absurd (before.0 is)) (λ later. later) (cons_cases k ks m has))
    (⊎_elim (λ is. absurd (other.0 is)) (λ later. later) (cons_cases k ks n there))
    (omega (arith, both)))
    (same_cases k n))
    (same_cases k m)

-- a number of the first part has its place there
pub early_place : (xs ys : List ℕ) (n : ℕ) → Contains xs n → place_in (xs ++ ys) n < length xs
early_place [] ys n has = absurd (none_contained n has)
early_place (x ∷ xs) ys n has =
    ⊎_elim
    (λ (same : (x ≡ n) × ((x == n) ≡ true)). let first : place_in (x ∷ (xs ++ ys)) n ≡ 0 = at_first x (xs ++ ys) n same.0 in omega (arith, first))
    (λ (other : (¬ (x ≡ n)) × ((x == n) ≡ false)).
    let later : place_in (xs ++ ys) n < length xs = early_place xs ys n (⊎_elim (λ is. absurd (other.0 is)) (λ there. there) (cons_cases x xs n has)) in
    let next : place_in (x ∷ (xs ++ ys)) n ≡ suc (place_in (xs ++ ys) n) = at_later x (xs ++ ys) n other.0 in
    omega (arith, later, next))
    (same_cases x n)

-- one that isn't in the first part has its place after it
pub late_place : (xs ys : List ℕ) (n : ℕ) → ¬ Contains xs n → place_in (xs ++ ys) n ≡ length xs + place_in ys n
late_place [] ys n none = omega arith
late_place (x ∷ xs) ys n none =
    let other : ¬ (x ≡ n) = λ same. none (subst (Contains (x ∷ xs)) same (contains_head x xs)) in
    let next : place_in (x ∷ (xs ++ ys)) n ≡ suc (place_in (xs ++ ys) n) = at_later x (xs ++ ys) n other in
    let rest : place_in (xs ++ ys) n ≡ length xs + place_in ys n = late_place xs ys n (λ has. none (contains_tail x xs n has)) in
    omega (arith, next, rest)

pub got_at : (zs : List ℕ) (j k : ℕ) → slice_get zs j ≡ Some k → Contains zs k
got_at [] j k is = cc
got_at (z ∷ zs) zero k is = let same : z ≡ k = cc in subst (Contains (z ∷ zs)) same (contains_head z zs)
got_at (z ∷ zs) (suc j) k is = contains_tail z zs k (got_at zs j k is)

-- where all differ, each has its own place
pub own_place : (xs ys : List ℕ) (i n : ℕ) → AreDifferent xs → slice_get xs i ≡ Some n → place_in (xs ++ ys) n ≡ i
own_place [] ys i n different at = cc
own_place (x ∷ xs) ys zero n different at = let same : x ≡ n = cc in at_first x (xs ++ ys) n same
own_place (x ∷ xs) ys (suc i) n different at =
    let later : place_in (xs ++ ys) n ≡ i = own_place xs ys i n different.1 at in
    let other : ¬ (x ≡ n) = λ same. different.0 (subst (Contains xs) (sym same) (got_at xs i n at)) in
    let next : place_in (x ∷ (xs ++ ys)) n ≡ suc (place_in (xs ++ ys) n) = at_later x (xs ++ ys) n other in
    omega (arith, later, next)

map_same : (f g : ℕ → ℕ) (ns : List ℕ) → ((n : ℕ) → Contains ns n → f n ≡ g n) → map f ns ≡ map g ns
map_same f g [] same = refl
map_same f g (n ∷ ns) same = λ i. same n (contains_head n ns) i ∷ map_same f g ns (λ m has. same m (contains_tail n ns m has)) i

-- the places of numbers that all differ follow each other
places_follow : (ns : List ℕ) (from : ℕ) → AreDifferent ns → map (λ n. from + place_in ns n) ns ≡ numbers_from from (length ns)
places_follow [] from different = refl
places_follow (n ∷ ns) from different =
    let first : place_in (n ∷ ns) n ≡ 0 = at_first n ns n refl in
    let head : from + place_in (n ∷ ns) n ≡ from = omega (arith, first) in
    let rest : map (λ m. from + place_in (n ∷ ns) m) ns ≡ map (λ m. suc from + place_in ns m) ns =
    map_same (λ m. from + place_in (n ∷ ns) m) (λ m. suc from + place_in ns m) ns (λ m has.
    let next : place_in (n ∷ ns) m ≡ suc (place_in ns m) = at_later n ns m (λ same. different.0 (subst (Contains ns) (sym same) has)) in
    omega (arith, next)) in
    λ i. head i ∷ (rest ∙ places_follow ns (suc from) different.1) i

pub places_after : (xs ys : List ℕ) → ((n : ℕ) → Contains ys n → ¬ Contains xs n) → AreDifferent ys → map (place_in (xs ++ ys)) ys ≡ numbers_from (length xs) (length ys)
places_after xs ys apart different =
    map_same (place_in (xs ++ ys)) (λ n. length xs + place_in ys n) ys (λ n has. late_place xs ys n (apart n has)) ∙ places_follow ys (length xs) different

-- ---- looking for one from the front

drop_found : (xs : List ℕ) (i x : ℕ) → slice_get xs i ≡ Some x → drop i xs ≡ x ∷ drop (i + 1) xs
drop_found xs i x is = from xs i is ∙ ap (λ n. x ∷ drop n xs) (sym (add-one i)) where
  from : (ys : List ℕ) (j : ℕ) → slice_get ys j ≡ Some x → drop j ys ≡ x ∷ drop (suc j) ys
  from [] j is = absurd (cc)
  from (y ∷ ys) zero is = let here : y ≡ x = cc in ap (λ z. z ∷ ys) here
  from (y ∷ ys) (suc j) is = from ys j is

pub found_here : (ns : List ℕ) (i m n : ℕ) → slice_get ns i ≡ Some m → m ≡ n → place_in ns n ≡ i + place_in (drop i ns) n → i ≡ place_in ns n
found_here ns i m n at same so_far =
    let first : place_in (drop i ns) n ≡ 0 = ap (λ ms. place_in ms n) (drop_found ns i m at) ∙ at_first m (drop (i + 1) ns) n same in
    omega (arith, so_far, first)

pub not_here : (ns : List ℕ) (i m n : ℕ) → slice_get ns i ≡ Some m → ¬ (m ≡ n) → place_in ns n ≡ i + place_in (drop i ns) n → place_in ns n ≡ (i + 1) + place_in (drop (i + 1) ns) n
not_here ns i m n at other so_far =
    let next : place_in (drop i ns) n ≡ suc (place_in (drop (i + 1) ns) n) = ap (λ ms. place_in ms n) (drop_found ns i m at) ∙ at_later m (drop (i + 1) ns) n other in
    omega (arith, so_far, next)

pub nowhere : (ns : List ℕ) (i n : ℕ) → length ns ≤ i → place_in ns n ≡ i + place_in (drop i ns) n → i ≡ place_in ns n
nowhere ns i n past so_far =
    let none : place_in (drop i ns) n ≡ 0 = ap (λ ms. place_in ms n) (drop_all i ns past) in
    omega (arith, so_far, none)
