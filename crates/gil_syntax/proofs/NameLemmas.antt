-- Sets of names and tables of places, name by name.
use Rattle.std.proofs.Common.{◌≡◌, ℕ, zero, suc, ◌+◌, ◌<◌, List, [], ◌∷◌, ◌++◌, map, take, drop, get_or, length, Bool, true, false, cond, not, ◌||◌, if◌then◌else◌, Option, Some, None, is_some, refl, sym, ap, ◌∙◌, arith, ltb, true≢false}
use Rattle.std.proofs.lemmas.List.{take_more, length-map, length-take, take-append-drop, map-append}
use Rattle.std.proofs.lemmas.Bool.{le-ltb, lt-ltb}
use Rattle.std.proofs.lemmas.Bool.Decides.{nat_tests}
use Rattle.std.proofs.lemmas.Slice.Eq.{bytes_eq-Decides}
use Rattle.std.proofs.lemmas.Cmp.{nat_list_eq_equiv}
use Rattle.std.proofs.lemmas.List.Folds.{list_any-append}
use Rattle.std.specs.Option.{option_map, option_or, option_map_or}
use Rattle.std.specs.Str.{bytes_eq}
use Rattle.gil_syntax.specs.Valid.{is_among, has_twice}
use Rattle.std.specs.HashSet as bag
use Rattle.std.specs.HashMap as hash
use Rattle.std.specs.HashSet.{HashSet}
use Rattle.std.specs.HashMap.{HashMap}
use denote.Ref.{Bor}
use Rattle.gil_syntax.specs.Names.{has_name, place_of, first_place}

pub bytes_eq-sym : (x y : List ℕ) → bytes_eq x y ≡ bytes_eq y x
bytes_eq-sym = nat_list_eq_equiv.symm

pub bytes_eq-refl : (x : List ℕ) → bytes_eq x x ≡ true
bytes_eq-refl = nat_list_eq_equiv.refl

or_assoc : (a b c : Bool) → (a || (b || c)) ≡ ((a || b) || c)
or_assoc true b c = refl
or_assoc false b c = refl

or_false : (a : Bool) → (a || false) ≡ a
or_false true = refl
or_false false = refl

pub or_comm : (a b : Bool) → (a || b) ≡ (b || a)
or_comm true true = refl
or_comm true false = refl
or_comm false true = refl
or_comm false false = refl

-- the names of one item more
pub map-take_more : {X Y : Type 0} (f : X → Y) (xs : List X) (i : ℕ) (d : X) → i < length xs → map f (take (i + 1) xs) ≡ map f (take i xs) ++ f (get_or xs i d) ∷ []
map-take_more f xs i d below = ap (map f) (take_more xs i d below) ∙ map-push f (take i xs) (get_or xs i d)
  where
    map-push : {X Y : Type 0} (f : X → Y) (xs : List X) (x : X) → map f (xs ++ x ∷ []) ≡ map f xs ++ f x ∷ []
    map-push f [] x = refl
    map-push f (y ∷ ys) x = ap (λ zs. f y ∷ zs) (map-push f ys x)

-- the names of one item more, where that item was read
pub map-take_read : {X Y : Type 0} (f : X → Y) (xs : List X) (i : ℕ) (x : X) → i < length xs → x ≡ get_or xs i x → map f (take (i + 1) xs) ≡ map f (take i xs) ++ f x ∷ []
map-take_read f xs i x below is = map-take_more f xs i x below ∙ ap (λ z. map f (take i xs) ++ f z ∷ []) (sym is)

pub is_among-push : (xs : List (List ℕ)) (y x : List ℕ) → is_among (xs ++ y ∷ []) x ≡ (bytes_eq y x || is_among xs x)
is_among-push xs y x = list_any-append (bytes_eq x) xs (y ∷ []) ∙ ap (λ b. is_among xs x || b) (or_false (bytes_eq x y) ∙ bytes_eq-sym x y) ∙ or_comm (is_among xs x) (bytes_eq y x)

pub is_among-append : (xs ys : List (List ℕ)) (x : List ℕ) → is_among (xs ++ ys) x ≡ (is_among xs x || is_among ys x)
is_among-append xs ys x = list_any-append (bytes_eq x) xs ys

pub has_twice-push : (xs : List (List ℕ)) (y : List ℕ) → has_twice (xs ++ y ∷ []) ≡ (is_among xs y || has_twice xs)
has_twice-push [] y = refl
has_twice-push (x ∷ xs) y =
    ap (λ b. b || has_twice (xs ++ y ∷ [])) (is_among-push xs y x)
    ∙ ap (λ b. (bytes_eq y x || is_among xs x) || b) (has_twice-push xs y)
    ∙ shuffle (bytes_eq y x) (is_among xs x) (is_among xs y) (has_twice xs)
  where
    shuffle : (a b c d : Bool) → ((a || b) || (c || d)) ≡ ((a || c) || (b || d))
    shuffle true b c d = refl
    shuffle false true true d = refl
    shuffle false true false d = refl
    shuffle false false c d = refl

-- a name that stands twice in a first part stands twice
pub has_twice-longer : (xs ys : List (List ℕ)) → has_twice xs ≡ true → has_twice (xs ++ ys) ≡ true
has_twice-longer [] ys h = absurd (cc)
has_twice-longer (x ∷ xs) ys h = by (is_among xs x) (has_twice xs) refl refl h (has_twice-longer xs ys)
  where
    by : (a b : Bool) → is_among xs x ≡ a → has_twice xs ≡ b → (a || b) ≡ true → (has_twice xs ≡ true → has_twice (xs ++ ys) ≡ true) → has_twice (x ∷ (xs ++ ys)) ≡ true
    by true b e f h rest = ap (λ c. c || has_twice (xs ++ ys)) (is_among-append xs ys x ∙ ap (λ c. c || is_among ys x) e)
    by false true e f h rest = ap (λ c. is_among (xs ++ ys) x || c) (rest f) ∙ or_comm (is_among (xs ++ ys) x) true
    by false false e f h rest = absurd (cc)

pub first_place-push : (xs : List (List ℕ)) (y x : List ℕ) → first_place (xs ++ y ∷ []) x ≡ option_or (first_place xs x) (cond (bytes_eq x y) (Some (length xs)) None)
first_place-push [] y x = by (bytes_eq x y)
  where
    here : Option ℕ
    here = Some zero

    by : (b : Bool) → cond b here None ≡ cond b here None
    by b = refl
first_place-push (z ∷ zs) y x = by (bytes_eq x z) (first_place-push zs y x)
  where
    more : (o : Option ℕ) (b : Bool) → option_map suc (option_or o (cond b (Some (length zs)) None)) ≡ option_or (option_map suc o) (cond b (Some (length (z ∷ zs))) None)
    more None true = refl
    more None false = refl
    more (Some n) b = refl

    by : (b : Bool) → first_place (zs ++ y ∷ []) x ≡ option_or (first_place zs x) (cond (bytes_eq x y) (Some (length zs)) None)
        → (if b then Some 0 else option_map suc (first_place (zs ++ y ∷ []) x)) ≡ option_or (if b then Some 0 else option_map suc (first_place zs x)) (cond (bytes_eq x y) (Some (length (z ∷ zs))) None)
    by true rest = refl
    by false rest = ap (option_map suc) rest ∙ more (first_place zs x) (bytes_eq x y)

-- a name is among the first of a list where its first place is one of theirs
pub is_among-take : (xs : List (List ℕ)) (k : ℕ) (x : List ℕ) → is_among (take k xs) x ≡ option_map_or (λ j. ltb j k) (first_place xs x) false
is_among-take [] zero x = refl
is_among-take [] (suc k) x = refl
is_among-take (y ∷ ys) zero x = by (if bytes_eq x y then Some 0 else option_map suc (first_place ys x))
  where
    by : (o : Option ℕ) → false ≡ option_map_or (λ j. ltb j zero) o false
    by None = refl
    by (Some j) = sym (le-ltb j zero (omega arith))
is_among-take (y ∷ ys) (suc k) x = by (bytes_eq x y) (is_among-take ys k x)
  where
    further : (o : Option ℕ) → option_map_or (λ j. ltb j k) o false ≡ option_map_or (λ j. ltb j (suc k)) (option_map suc o) false
    further None = refl
    further (Some j) = grind (arith, nat_tests)

    by : (b : Bool) → is_among (take k ys) x ≡ option_map_or (λ j. ltb j k) (first_place ys x) false
        → (b || is_among (take k ys) x) ≡ option_map_or (λ j. ltb j (suc k)) (if b then Some 0 else option_map suc (first_place ys x)) false
    by true rest = sym (lt-ltb zero (suc k) (omega arith))
    by false rest = rest ∙ further (first_place ys x)

option_or-none : (o : Option ℕ) → o ≡ option_or o None
option_or-none None = refl
option_or-none (Some n) = refl

-- ---- one item more in a set of names, and in a table of places

abbrev pub same_text : Bor (List ℕ) → Bor (List ℕ) → Bool
same_text x y = bytes_eq x.now y.now

-- a name as a key
abbrev key_of : List ℕ → Bor (List ℕ)
key_of x = record { ref_ptr = (0, 0); now = x }

pub names_more : {X S : Type 0} (f : X → List ℕ) (xs : List X) (i : ℕ) (x : X) (k : Bor (List ℕ)) (s n : HashSet (Bor (List ℕ)) S)
    → i < length xs → x ≡ get_or xs i x → k.now ≡ f x → bag.Updates same_text s n k true
    → ((y : List ℕ) → has_name s y ≡ is_among (map f (take i xs)) y)
    → (y : List ℕ) → has_name n y ≡ is_among (map f (take (i + 1) xs)) y
names_more f xs i x k s n below is named updates before y =
    updates.0 (key_of y)
    ∙ either (bytes_eq k.now y) (has_name s y)
    ∙ ap (λ b. bytes_eq k.now y || b) (before y)
    ∙ ap (λ z. bytes_eq z y || is_among (map f (take i xs)) y) named
    ∙ sym (is_among-push (map f (take i xs)) (f x) y)
    ∙ ap (λ ys. is_among ys y) (sym (map-take_read f xs i x below is))
  where
    either : (a b : Bool) → cond a true b ≡ (a || b)
    either true b = refl
    either false b = refl

pub places_more : {X S : Type 0} (f : X → List ℕ) (xs : List X) (i : ℕ) (x : X) (k : Bor (List ℕ)) (m n : HashMap (Bor (List ℕ)) ℕ S)
    → i < length xs → x ≡ get_or xs i x → k.now ≡ f x → place_of m (f x) ≡ None → hash.Updates same_text m n k (Some i)
    → ((y : List ℕ) → place_of m y ≡ first_place (map f (take i xs)) y)
    → (y : List ℕ) → place_of n y ≡ first_place (map f (take (i + 1) xs)) y
places_more f xs i x k m n below is named new updates before y =
    let names = map f (take i xs) in
    let long : length names ≡ i = length-map (take i xs) f ∙ length-take-all i xs below in
    updates.0 (key_of y)
    ∙ ap (λ z. cond (bytes_eq z y) (Some i) (place_of m y)) named
    ∙ ap (λ o. cond (bytes_eq (f x) y) (Some i) o) (before y)
    ∙ by names i (f x) y (bytes_eq (f x) y) refl long (sym (before (f x)) ∙ new)
    ∙ sym (first_place-push names (f x) y)
    ∙ ap (λ zs. first_place zs y) (sym (map-take_read f xs i x below is))
  where
    length-take-all : {X : Type 0} (i : ℕ) (xs : List X) → i < length xs → length (take i xs) ≡ i
    length-take-all i xs below = omega (arith, length-take i xs)

    by : (names : List (List ℕ)) (i : ℕ) (x y : List ℕ) (b : Bool) → bytes_eq x y ≡ b → length names ≡ i → first_place names x ≡ None
        → cond b (Some i) (first_place names y) ≡ option_or (first_place names y) (cond (bytes_eq y x) (Some (length names)) None)
    by names i x y true e long new =
        let same : x ≡ y = (bytes_eq-Decides x y).0 e in
        let none : first_place names y ≡ None = ap (first_place names) (sym same) ∙ new in
        ap Some (sym long)
        ∙ ap (λ c. cond c (Some (length names)) None) (sym e ∙ bytes_eq-sym x y)
        ∙ ap (λ o. option_or o (cond (bytes_eq y x) (Some (length names)) None)) (sym none)
    by names i x y false e long new =
        option_or-none (first_place names y)
        ∙ ap (λ c. option_or (first_place names y) (cond c (Some (length names)) None)) (sym e ∙ bytes_eq-sym x y)

-- a name that has its place keeps it
pub places_same : {X S : Type 0} (f : X → List ℕ) (xs : List X) (i : ℕ) (x : X) (m : HashMap (Bor (List ℕ)) ℕ S)
    → i < length xs → x ≡ get_or xs i x → is_some (place_of m (f x)) ≡ true
    → ((y : List ℕ) → place_of m y ≡ first_place (map f (take i xs)) y)
    → (y : List ℕ) → place_of m y ≡ first_place (map f (take (i + 1) xs)) y
places_same f xs i x m below is old before y =
    let names = map f (take i xs) in
    before y
    ∙ by names (f x) y (bytes_eq y (f x)) refl (ap is_some (sym (before (f x))) ∙ old)
    ∙ sym (first_place-push names (f x) y)
    ∙ ap (λ zs. first_place zs y) (sym (map-take_read f xs i x below is))
  where
    stays : (o : Option ℕ) (r : Option ℕ) → is_some o ≡ true → o ≡ option_or o r
    stays None r h = absurd (true≢false (sym h))
    stays (Some n) r h = refl

    by : (names : List (List ℕ)) (x y : List ℕ) (b : Bool) → bytes_eq y x ≡ b → is_some (first_place names x) ≡ true
        → first_place names y ≡ option_or (first_place names y) (cond (bytes_eq y x) (Some (length names)) None)
    by names x y true e old =
        let same : y ≡ x = (bytes_eq-Decides y x).0 e in
        stays (first_place names y) _ (ap (λ z. is_some (first_place names z)) same ∙ old)
    by names x y false e old = option_or-none (first_place names y) ∙ ap (λ c. option_or (first_place names y) (cond c (Some (length names)) None)) (sym e)

pub none_there : {A : Type 0} (o : Option A) → is_some o ≡ false → o ≡ None
none_there None h = refl
none_there (Some x) h = absurd (true≢false h)

-- ---- a name that was there when it was added, or not

module _ {X S : Type 0} (f : X → List ℕ) (xs : List X) (i : ℕ) (x : X) (k : Bor (List ℕ)) (s : HashSet (Bor (List ℕ)) S) (added : Bool)
    (below : i < length xs) (is : x ≡ get_or xs i x) (named : k.now ≡ f x) (adds : added ≡ not (bag.contains same_text s k))
    (before : (y : List ℕ) → has_name s y ≡ is_among (map f (take i xs)) y) where
  was_there : added ≡ not (is_among (map f (take i xs)) (f x))
  was_there = adds ∙ ap not (before k.now ∙ ap (is_among (map f (take i xs))) named)

  one_more : has_twice (map f (take (i + 1) xs)) ≡ (is_among (map f (take i xs)) (f x) || has_twice (map f (take i xs)))
  one_more = ap has_twice (map-take_read f xs i x below is) ∙ has_twice-push (map f (take i xs)) (f x)

  not_back : (a b : Bool) → a ≡ not b → not a ≡ b
  not_back a true e = ap not e
  not_back a false e = ap not e

  pub twice_more : added ≡ true → has_twice (map f (take i xs)) ≡ false → has_twice (map f (take (i + 1) xs)) ≡ false
  twice_more new once = one_more ∙ (λ j. sym (not_back added _ was_there) j || once j) ∙ ap (λ a. not a || false) new

  pub twice_here : added ≡ false → true ≡ has_twice (map f xs)
  twice_here old =
      let first : has_twice (map f (take (i + 1) xs)) ≡ true = one_more ∙ ap (λ b. b || has_twice (map f (take i xs))) (sym (not_back added _ was_there) ∙ ap not old) in
      sym (ap (λ ys. has_twice (map f ys)) (sym (take-append-drop (i + 1) xs)) ∙ ap has_twice (map-append f (take (i + 1) xs) (drop (i + 1) xs)) ∙ has_twice-longer (map f (take (i + 1) xs)) (map f (drop (i + 1) xs)) first)
