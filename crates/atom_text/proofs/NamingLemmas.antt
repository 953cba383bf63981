-- Variables by their names, one declaration after another.
use Rattle.std.proofs.Common.{◌≡◌, ℕ, ◌+◌, ◌<◌, List, length, slice_get, Bool, true, false, cond, Option, Some, None, is_some, refl, sym, ap, ◌∙◌, subst, arith, below_more}
use Rattle.std.proofs.lemmas.Option.{slice_get-map, slice_get_within}
use Rattle.std.proofs.lemmas.Slice.Eq.{bytes_eq-Decides}
use Rattle.std.specs.HashMap as hash
use Rattle.std.specs.HashMap.{HashMap}
use Rattle.std.specs.Option.{option_map}
use Rattle.std.specs.Str.{bytes_eq}
use denote.Ref.{Bor}
use Rattle.gil_syntax.proofs.NameLemmas.{same_text, bytes_eq-refl}
use Rattle.pure_terms.specs.declared.variables.Var.{Var}
use Rattle.atom_text.specs.declared.sources.Declaration.{Declaration}
use Rattle.atom_text.specs.Naming.{IsDistinct}
use Rattle.atom_text.specs.Refusals.{IsDuplicate}
use Rattle.atom_text.specs.Resolving.{variable_in, FindsFirst, FindsAll}
use Rattle.atom_text.specs.Sources.{names_of}

pub same_some : {A : Type 0} (x y : A) → Some x ≡ Some y → x ≡ y
same_some x y e = cc

-- the element that a function sees so
pub seen_so : {X Y : Type 0} (f : X → Y) (o : Option X) (y : Y) → option_map f o ≡ Some y → (x : X) × (o ≡ Some x) × (f x ≡ y)
seen_so f (Some x) y e = (x, refl, cc)
seen_so f None y e = absurd cc

-- the declaration of a name at a place
pub declared_at : (ds : List Declaration) (i : ℕ) (x : List ℕ) → slice_get (names_of ds) i ≡ Some x → (d : Declaration) × (slice_get ds i ≡ Some d) × (d.name ≡ x)
declared_at ds i x e = seen_so (λ (d : Declaration). d.name) (slice_get ds i) x (sym (slice_get-map (λ (d : Declaration). d.name) ds i) ∙ e)

pub name_at : (ds : List Declaration) (i : ℕ) (d : Declaration) → slice_get ds i ≡ Some d → slice_get (names_of ds) i ≡ Some d.name
name_at ds i d e = slice_get-map (λ (d : Declaration). d.name) ds i ∙ ap (option_map (λ (d : Declaration). d.name)) e

-- names that are found are at one place
one_place : (ds : List Declaration) (n : ℕ) (find : List ℕ → Option Var) → FindsFirst ds n find → (i j : ℕ) (x : List ℕ) → i < n → j < n
    → slice_get (names_of ds) i ≡ Some x → slice_get (names_of ds) j ≡ Some x → i ≡ j
one_place ds n find finds i j x below beside here there =
    let d = declared_at ds i x here in
    let e = declared_at ds j x there in
    let first : find x ≡ Some (record { number = i; sort = d.0.sort }) = ap find (sym d.2) ∙ finds.complete i d.0 d.1 below in
    let second : find x ≡ Some (record { number = j; sort = e.0.sort }) = ap find (sym e.2) ∙ finds.complete j e.0 e.1 beside in
    let v : Var = record { number = i; sort = d.0.sort } in
    let w : Var = record { number = j; sort = e.0.sort } in
    ap (λ (u : Var). u.number) (same_some v w (sym first ∙ second))

pub found_distinct : (ds : List Declaration) (find : List ℕ → Option Var) → FindsAll ds find → IsDistinct (names_of ds)
found_distinct ds find finds i j x here there =
    let d = declared_at ds i x here in
    let e = declared_at ds j x there in
    one_place ds (length ds) find finds i j x (slice_get_within ds i d.0 d.1) (slice_get_within ds j e.0 e.1) here there

-- a name as a key
abbrev key_of : List ℕ → Bor (List ℕ)
key_of x = record { ref_ptr = (0, 0); now = x }

module _ {S : Type 0} (ds : List Declaration) (i : ℕ) (d : Declaration) (k : Bor (List ℕ)) (m n : HashMap (Bor (List ℕ)) Var S)
    (here : slice_get ds i ≡ Some d) (named : k.now ≡ d.name)
    (finds : FindsFirst ds i (variable_in m)) where
  -- one declaration more
  pub finds_more : variable_in m d.name ≡ None → hash.Updates same_text m n k (Some (record { number = i; sort = d.sort })) → FindsFirst ds (i + 1) (variable_in n)
  finds_more new updates = record {
    sound = λ x w e. sound_by x w (bytes_eq d.name x) refl (sym (updated x) ∙ e);
    complete = λ j e there below. below_more
        (λ (l : ℕ). (c : Declaration) → slice_get ds l ≡ Some c → variable_in n c.name ≡ Some (record { number = l; sort = c.sort })) i older newest j below e there;
  }
    where
      one : Var
      one = record { number = i; sort = d.sort }

      updated : (x : List ℕ) → variable_in n x ≡ cond (bytes_eq d.name x) (Some one) (variable_in m x)
      updated x = updates.0 (key_of x) ∙ ap (λ y. cond (bytes_eq y x) (Some one) (variable_in m x)) named

      sound_by : (x : List ℕ) (w : Var) (b : Bool) → bytes_eq d.name x ≡ b → cond b (Some one) (variable_in m x) ≡ Some w
          → (c : Declaration) × (slice_get ds w.number ≡ Some c) × (w.number < i + 1) × (c.name ≡ x) × (c.sort ≡ w.sort)
      sound_by x w true same e =
          let is : one ≡ w = same_some one w e in
          subst (λ (v : Var). (c : Declaration) × (slice_get ds v.number ≡ Some c) × (v.number < i + 1) × (c.name ≡ x) × (c.sort ≡ v.sort)) is
          (d, here, omega arith, (bytes_eq-Decides d.name x).0 same, refl)
      sound_by x w false same e = let old = finds.sound x w e in (old.0, old.1, omega (arith, old.2), old.3, old.4)

      older_by : (l : ℕ) (c : Declaration) → variable_in m c.name ≡ Some (record { number = l; sort = c.sort }) → (b : Bool) → bytes_eq d.name c.name ≡ b
          → cond b (Some one) (variable_in m c.name) ≡ Some (record { number = l; sort = c.sort })
      older_by l c found true same =
          let names : d.name ≡ c.name = (bytes_eq-Decides d.name c.name).0 same in
          let none : variable_in m c.name ≡ None = ap (variable_in m) (sym names) ∙ new in
          absurd (cc (found, none))
      older_by l c found false same = found

      older : (l : ℕ) → l < i → (c : Declaration) → slice_get ds l ≡ Some c → variable_in n c.name ≡ Some (record { number = l; sort = c.sort })
      older l below c there = updated c.name ∙ older_by l c (finds.complete l c there below) (bytes_eq d.name c.name) refl

      newest : (c : Declaration) → slice_get ds i ≡ Some c → variable_in n c.name ≡ Some (record { number = i; sort = c.sort })
      newest c there =
          let is : d ≡ c = same_some d c (sym here ∙ there) in
          updated c.name
          ∙ ap (λ b. cond b (Some one) (variable_in m c.name)) (ap (λ (e : Declaration). bytes_eq d.name e.name) (sym is) ∙ bytes_eq-refl d.name)
          ∙ ap (λ (e : Declaration). Some (record { number = i; sort = e.sort })) is

  -- a name that was found stands before
  pub found_again : (w : Var) → variable_in m k.now ≡ Some w → IsDuplicate ds d.at
  found_again w e = record {
    place = i;
    declaration = d;
    there = here;
    byte = refl;
    before =
        let old = finds.sound d.name w (ap (variable_in m) (sym named) ∙ e) in
        record { name = d.name; first = w.number; before = old.2; there = name_at ds w.number old.0 old.1 ∙ ap Some old.3; again = name_at ds i d here };
    first = λ j below s.
        let same : s.first ≡ j = one_place ds i (variable_in m) finds s.first j s.name (let b = s.before in omega arith) below s.there s.again in
        let b = s.before in omega (arith, same, b);
  }

-- an option that isn't none
pub some_there : {A : Type 0} (o : Option A) → is_some o ≡ true → (x : A) × (o ≡ Some x)
some_there (Some x) h = (x, refl)
some_there None h = absurd (cc h)
