-- In a valid program a specification is found by its name.
use Rattle.std.proofs.Common.{◌≡◌, ◌⊎◌, inl, inr, ⊎_elim, ℕ, zero, suc, ◌+◌, ◌<◌, List, [], ◌∷◌, ◌++◌, map, take, length, slice_get, get_or, Bool, true, false, ◌||◌, if◌then◌else◌, Some, None, bytes_eq, refl, sym, ap, subst, ◌∙◌, arith, true≢false}
use Rattle.std.specs.List.{list_any}
use Rattle.std.proofs.lemmas.Slice.Eq.{bytes_eq-Decides}
use Rattle.gil_values.proofs.Lists.{slice_get-read}
use Rattle.gil_syntax.specs.declared.parts.Spec.{Spec}
use Rattle.gil_syntax.specs.View.{spec_view}
use Rattle.gil_syntax.specs.declared.validity.InvalidKind.TheVariants.{Duplicate}
use Rattle.gil_syntax.specs.Programs.{find_spec}
use Rattle.gil_syntax.specs.Pure.{PureProc, PureSpec, PurePredDef, PureParts}
use Rattle.gil_syntax.specs.Valid.{ProgramItem, a_proc, a_spec, a_pred, items_of, same_name, is_core_name, some_has_twice, name_lists, has_fault_if_there, IsAtFault, IsValid}

same_some : {A : Type 0} {x y : A} → Some x ≡ Some y → x ≡ y
same_some is = cc

-- ---- places

at_map : {X Y : Type 0} (f : X → Y) (xs : List X) (i : ℕ) (x : X) → slice_get xs i ≡ Some x → slice_get (map f xs) i ≡ Some (f x)
at_map f [] i x at = cc
at_map f (y ∷ ys) zero x at = ap (λ z. Some (f z)) (same_some at)
at_map f (y ∷ ys) (suc i) x at = at_map f ys i x at

at_left : {X : Type 0} (xs ys : List X) (i : ℕ) (x : X) → slice_get xs i ≡ Some x → slice_get (xs ++ ys) i ≡ Some x
at_left [] ys i x at = cc
at_left (z ∷ zs) ys zero x at = at
at_left (z ∷ zs) ys (suc i) x at = at_left zs ys i x at

at_behind : {X : Type 0} (xs ys : List X) (i : ℕ) → slice_get (xs ++ ys) (length xs + i) ≡ slice_get ys i
at_behind [] ys i = let none : 0 + i ≡ i = omega arith in ap (slice_get ys) none
at_behind (z ∷ zs) ys i =
    let one : suc (length zs) + i ≡ suc (length zs + i) = omega arith in ap (slice_get (z ∷ zs ++ ys)) one ∙ at_behind zs ys i

at_taken : {X : Type 0} (xs : List X) (n i : ℕ) (x : X) → slice_get xs i ≡ Some x → i < n → slice_get (take n xs) i ≡ Some x
at_taken [] n i x at below = cc
at_taken (y ∷ ys) zero i x at below = absurd (omega arith)
at_taken (y ∷ ys) (suc n) zero x at below = at
at_taken (y ∷ ys) (suc n) (suc i) x at below = at_taken ys n i x at (omega arith)

any_at : {A : Type 0} (f : A → Bool) (xs : List A) (k : ℕ) (x : A) → slice_get xs k ≡ Some x → f x ≡ true → list_any f xs ≡ true
any_at f [] k x is holds = cc
any_at f (y ∷ ys) zero x is holds = ap (λ b. b || list_any f ys) (ap f (same_some is) ∙ holds)
any_at f (y ∷ ys) (suc k) x is holds = or_right (f y) (any_at f ys k x is holds) where
  or_right : (b : Bool) {c : Bool} → c ≡ true → (b || c) ≡ true
  or_right true is = refl
  or_right false is = is

-- ---- the first of a name

-- a specification of the same name that stands before a place
pub record StandsBefore (ss : List PureSpec) (i : ℕ) (s : PureSpec) : Type 0 where
  pub place : ℕ
  pub other : PureSpec
  pub earlier : place < i
  pub there : slice_get ss place ≡ Some other
  pub same : other.name ≡ s.name

first_or_before : (ss : List PureSpec) (i : ℕ) (s : PureSpec) → slice_get ss i ≡ Some s → (find_spec ss s.name ≡ Some s) ⊎ StandsBefore ss i s
first_or_before [] i s at = cc
first_or_before (t ∷ ts) zero s at =
    inl (ap (λ b. if b then Some t else find_spec ts s.name) ((bytes_eq-Decides t.name s.name).1 (ap (λ (r : PureSpec). r.name) (same_some at))) ∙ at)
first_or_before (t ∷ ts) (suc i) s at = by (bytes_eq t.name s.name) refl (first_or_before ts i s at) where
  by : (b : Bool) → bytes_eq t.name s.name ≡ b → (find_spec ts s.name ≡ Some s) ⊎ StandsBefore ts i s
      → ((if b then Some t else find_spec ts s.name) ≡ Some s) ⊎ StandsBefore (t ∷ ts) (suc i) s
  by true named later = inr (record { place = 0; other = t; earlier = omega arith; there = refl; same = (bytes_eq-Decides t.name s.name).0 named })
  by false named (inl found) = inl found
  by false named (inr before) =
      let below : before.place < i = before.earlier in
      inr (record { place = suc before.place; other = before.other; earlier = omega (arith, below); there = before.there; same = before.same })

module _ (p : PureParts) (valid : IsValid p) where
  spec_item : (i : ℕ) (s : PureSpec) → slice_get p.specs i ≡ Some s → slice_get (items_of p) (length (map a_proc p.procs) + i) ≡ Some (a_spec s)
  spec_item i s at =
      at_left (map a_proc p.procs ++ map a_spec p.specs) (map a_pred p.preds) (length (map a_proc p.procs) + i) (a_spec s)
      (at_behind (map a_proc p.procs) (map a_spec p.specs) i ∙ at_map a_spec p.specs i s at)

  none_before : (i : ℕ) (s : PureSpec) → slice_get p.specs i ≡ Some s → StandsBefore p.specs i s → ⊥
  none_before i s at before =
      let k : ℕ = length (map a_proc p.procs) + i in
      let j : ℕ = length (map a_proc p.procs) + before.place in
      let earlier : before.place < i = before.earlier in
      let taken : slice_get (take k (items_of p)) j ≡ Some (a_spec before.other) =
      at_taken (items_of p) k j (a_spec before.other) (spec_item before.place before.other before.there) (omega (arith, earlier)) in
      let twice : list_any (same_name (a_spec s)) (take k (items_of p)) ≡ true =
      any_at (same_name (a_spec s)) (take k (items_of p)) j (a_spec before.other) taken ((bytes_eq-Decides s.name before.other.name).1 (sym before.same)) in
      valid Duplicate k
      (ap (has_fault_if_there Duplicate p (take k (items_of p))) (spec_item i s at)
      ∙ ap (λ b. b || is_core_name (a_spec s) || some_has_twice (name_lists (a_spec s))) twice)

  pub found_at : (i : ℕ) (s : PureSpec) → slice_get p.specs i ≡ Some s → find_spec p.specs s.name ≡ Some s
  found_at i s at = ⊎_elim (λ found. found) (λ before. absurd (none_before i s at before)) (first_or_before p.specs i s at)

-- the specification that was read from a list
pub spec_read : (items : List Spec) (ss : List PureSpec) (i : ℕ) (item : Spec) → map spec_view items ≡ ss → i < length items → item ≡ get_or items i item
    → slice_get ss i ≡ Some (spec_view item)
spec_read items ss i item seen below is = subst (λ (rs : List PureSpec). slice_get rs i ≡ Some (spec_view item)) seen (slice_get-read spec_view items i item below is)
