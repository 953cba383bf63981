-- Finding by name in a list, by the first place of the name.
use Rattle.std.proofs.Common.{◌≡◌, ℕ, suc, List, [], ◌∷◌, ◌++◌, map, length, Bool, true, false, cond, ◌||◌, if◌then◌else◌, Option, Some, None, is_some, slice_get, refl, sym, ap, ◌∙◌, Bor}
use Rattle.std.specs.Option.{option_map, option_or}
use Rattle.std.specs.List.{find}
use Rattle.std.specs.Str.{bytes_eq}
use Rattle.std.proofs.lemmas.Option.{slice_get-map}
use Rattle.std.proofs.lemmas.List.Folds.{find-append}
use Rattle.gil_syntax.specs.Pure.{PureProc, PureSpec, PurePredDef}
use Rattle.gil_syntax.specs.Programs.{find_proc, find_spec, find_pred}
use Rattle.gil_syntax.specs.Valid.{Signature, signature_of, is_named}
use Rattle.gil_syntax.specs.Names.{first_place}
use Rattle.gil_syntax.specs.ByName.{find_signature, shape}
use Rattle.gil_syntax.proofs.NameLemmas.{bytes_eq-sym}

-- the element at a place, if there is a place
abbrev at : {Y : Type 0} → List Y → Option ℕ → Option Y
at ys None = None
at ys (Some j) = slice_get ys j

at-next : {Y : Type 0} (y : Y) (ys : List Y) (o : Option ℕ) → at (y ∷ ys) (option_map suc o) ≡ at ys o
at-next y ys None = refl
at-next y ys (Some j) = refl

find-at : {Y : Type 0} (name : Y → List ℕ) (ys : List Y) (x : List ℕ) → find (λ y. bytes_eq (name y) x) ys ≡ at ys (first_place (map name ys) x)
find-at name [] x = refl
find-at name (y ∷ ys) x =
    ap (λ b. cond b (Some y) (find (λ z. bytes_eq (name z) x) ys)) (bytes_eq-sym (name y) x)
    ∙ by (bytes_eq x (name y)) (find-at name ys x)
  where
    by : (b : Bool) → find (λ z. bytes_eq (name z) x) ys ≡ at ys (first_place (map name ys) x)
        → cond b (Some y) (find (λ z. bytes_eq (name z) x) ys) ≡ at (y ∷ ys) (if b then Some 0 else option_map suc (first_place (map name ys) x))
    by true rest = refl
    by false rest = rest ∙ sym (at-next y ys (first_place (map name ys) x))

find_proc-find : (qs : List PureProc) (f : List ℕ) → find_proc qs f ≡ find (λ q. bytes_eq q.name f) qs
find_proc-find [] f = refl
find_proc-find (q ∷ qs) f = ap (λ o. cond (bytes_eq q.name f) (Some q) o) (find_proc-find qs f)

find_spec-find : (ss : List PureSpec) (f : List ℕ) → find_spec ss f ≡ find (λ s. bytes_eq s.name f) ss
find_spec-find [] f = refl
find_spec-find (s ∷ ss) f = ap (λ o. cond (bytes_eq s.name f) (Some s) o) (find_spec-find ss f)

-- where the name has no place, nothing is found
pub not_found : {Y : Type 0} (name : Y → List ℕ) (ys : List Y) (x : List ℕ) → first_place (map name ys) x ≡ None → find (λ y. bytes_eq (name y) x) ys ≡ None
not_found name ys x none = find-at name ys x ∙ ap (at ys) none

seen-map : {X Y : Type 0} (view : X → Y) (r : Option (Bor X)) → option_map (λ q. view q.now) r ≡ option_map view (option_map (λ q. q.now) r)
seen-map view None = refl
seen-map view (Some q) = refl

-- and else what stands there
pub found : {X Y : Type 0} (view : X → Y) (name : Y → List ℕ) (xs : List X) (x : List ℕ) (j : ℕ) (r : Option (Bor X))
    → first_place (map name (map view xs)) x ≡ Some j → option_map (λ q. q.now) r ≡ slice_get xs j
    → option_map (λ q. view q.now) r ≡ find (λ y. bytes_eq (name y) x) (map view xs)
found view name xs x j r place got =
    seen-map view r ∙ ap (option_map view) got ∙ sym (slice_get-map view xs j) ∙ sym (find-at name (map view xs) x ∙ ap (at (map view xs)) place)

pub found_proc : (qs : List PureProc) (f : List ℕ) (o : Option PureProc) → o ≡ find (λ q. bytes_eq q.name f) qs → o ≡ find_proc qs f
found_proc qs f o is = is ∙ sym (find_proc-find qs f)

pub found_spec : (ss : List PureSpec) (f : List ℕ) (o : Option PureSpec) → o ≡ find (λ s. bytes_eq s.name f) ss → o ≡ find_spec ss f
found_spec ss f o is = is ∙ sym (find_spec-find ss f)

-- the names of a list, seen or not
pub map-seen : {X Y Z : Type 0} (view : X → Y) (name : Y → Z) (xs : List X) → map name (map view xs) ≡ map (λ x. name (view x)) xs
map-seen view name [] = refl
map-seen view name (x ∷ xs) = ap (λ ys. name (view x) ∷ ys) (map-seen view name xs)

pub is_named-find : (gs : List Signature) (x : List ℕ) → is_named gs x ≡ is_some (find_signature gs x)
is_named-find [] x = refl
is_named-find (g ∷ gs) x = by (bytes_eq g.name x) (is_named-find gs x)
  where
    by : (b : Bool) → is_named gs x ≡ is_some (find_signature gs x) → (b || is_named gs x) ≡ is_some (cond b (Some g) (find_signature gs x))
    by true rest = refl
    by false rest = rest

pub is_some-map : {X Y : Type 0} (f : X → Y) (o : Option X) → is_some (option_map f o) ≡ is_some o
is_some-map f None = refl
is_some-map f (Some x) = refl

find_pred-find : (ds : List PurePredDef) (x : List ℕ) → find_pred ds x ≡ find (λ d. bytes_eq d.name x) ds
find_pred-find [] x = refl
find_pred-find (d ∷ ds) x = ap (λ o. cond (bytes_eq d.name x) (Some d) o) (find_pred-find ds x)

pub found_pred : (ds : List PurePredDef) (x : List ℕ) (o : Option PurePredDef) → o ≡ find (λ d. bytes_eq d.name x) ds → o ≡ find_pred ds x
found_pred ds x o is = is ∙ sym (find_pred-find ds x)

find_own : (ds : List PurePredDef) (x : List ℕ) → find_signature (map signature_of ds) x ≡ option_map signature_of (find_pred ds x)
find_own [] x = refl
find_own (d ∷ ds) x = by (bytes_eq d.name x) (find_own ds x)
  where
    by : (b : Bool) → find_signature (map signature_of ds) x ≡ option_map signature_of (find_pred ds x)
        → cond b (Some (signature_of d)) (find_signature (map signature_of ds) x) ≡ option_map signature_of (if b then Some d else find_pred ds x)
    by true rest = refl
    by false rest = rest

-- the arity of a predicate that isn't core
pub own_shape : (gs : List Signature) (ds : List PurePredDef) (x : List ℕ) → find_signature gs x ≡ None
    → option_map shape (find_signature (gs ++ map signature_of ds) x) ≡ option_map (λ d. (length d.ins, length d.outs)) (find_pred ds x)
own_shape gs ds x none =
    ap (option_map shape) (find-append (λ g. bytes_eq g.name x) gs (map signature_of ds) ∙ ap (λ o. option_or o (find_signature (map signature_of ds) x)) none ∙ find_own ds x)
    ∙ by (find_pred ds x)
  where
    by : (o : Option PurePredDef) → option_map shape (option_map signature_of o) ≡ option_map (λ d. (length d.ins, length d.outs)) o
    by None = refl
    by (Some d) = refl

-- the arity of one that is
pub first_shape : (gs hs : List Signature) (x : List ℕ) (a : ℕ × ℕ) → Some a ≡ option_map shape (find_signature gs x) → Some a ≡ option_map shape (find_signature (gs ++ hs) x)
first_shape gs hs x a is = by (find_signature gs x) is ∙ ap (option_map shape) (sym (find-append (λ g. bytes_eq g.name x) gs hs))
  where
    by : (o : Option Signature) → Some a ≡ option_map shape o → Some a ≡ option_map shape (option_or o (find_signature hs x))
    by None is = absurd (cc)
    by (Some g) is = is

pub no_shape : (o : Option Signature) → None ≡ option_map shape o → o ≡ None
no_shape None is = refl
no_shape (Some g) is = absurd (cc)
