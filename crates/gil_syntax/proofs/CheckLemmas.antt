-- What follows where no item has a fault of some kind.
use Rattle.std.proofs.Common.{◌≡◌, ℕ, zero, suc, ◌+◌, ◌≤◌, List, [], ◌∷◌, ◌++◌, map, take, length, Bool, true, false, ◌||◌, Option, Some, None, slice_get, IsTrue, refl, sym, ap, ◌∙◌, true≢false, append_assoc, get_or, Result, Ok, Err, OnOk, arith}
use Rattle.std.specs.List.{list_any}
use Rattle.std.specs.Option.{option_map}
use Rattle.std.specs.Str.{bytes_eq}
use Rattle.std.proofs.lemmas.List.{take_all, take_more, append-nil, map-append}
use Rattle.std.proofs.lemmas.Option.{slice_get-get_or, slice_get-map}
use Rattle.gil_syntax.specs.declared.validity.InvalidKind.{InvalidKind}
use Rattle.gil_syntax.specs.declared.validity.InvalidKind.TheVariants.{Duplicate, BadLabel, NoEnd, UnknownName, Arity, TooMany, Memory}
use Rattle.gil_syntax.specs.Pure.{PureParts}
use Rattle.gil_syntax.specs.Valid.{is_among, has_twice, Signature, core_predicates, signature_of, is_named, ProgramItem, a_proc, a_pred, items_of, has_fault, has_fault_if_there, fault_at, IsValid}
use Rattle.gil_syntax.specs.ByName.{AreDistinct}
use Rattle.gil_syntax.specs.First.{HasNone}
use Rattle.gil_syntax.specs.Items.{before_proc, before_pred, items_before, item_of, StandsAt}
use Rattle.gil_syntax.specs.Uncounted.{passes_limit, has_fault_but_length_if_there, fault_but_length_at}
use Rattle.gil_syntax.specs.declared.items.ItemRef.{ItemRef}
use Rattle.gil_syntax.proofs.BodyLemmas.{list_any-map}
use Rattle.gil_syntax.proofs.ByNameLemmas.{map-seen}
use Rattle.gil_syntax.proofs.DuplicateLemmas.{procs_before_among, preds_before_among}
use Rattle.gil_syntax.proofs.ItemLemmas.{proc_stands, pred_stands}
use Rattle.gil_syntax.proofs.NameLemmas.{bytes_eq-sym, is_among-append, has_twice-push}
use Rattle.gil_syntax.proofs.PieceLemmas.{either_false}

-- the fault of the item that has this number
pub fault_here : (p : PureParts) (kind : InvalidKind) (i : ℕ) (r : ItemRef) → StandsAt p i r → fault_at p kind i ≡ has_fault kind p (items_before p r) (item_of r)
fault_here p kind i r stands j = has_fault_if_there kind p (stands.before j) (stands.item j)

isnt_true : (b : Bool) → (IsTrue b → ⊥) → b ≡ false
isnt_true true no_fault = absurd (no_fault refl)
isnt_true false no_fault = refl

-- ---- names that stand once

-- each name of the second list is none of the first, and none before it
abbrev AreApart : List (List ℕ) → List (List ℕ) → Type 0
AreApart base names = (j : ℕ) (x : List ℕ) → slice_get names j ≡ Some x → (is_among base x ≡ false) × (is_among (take j names) x ≡ false)

first_once : (base names : List (List ℕ)) → has_twice base ≡ false → AreApart base names → (j : ℕ) → j ≤ length names → has_twice (base ++ take j names) ≡ false
first_once base names once apart zero within = ap has_twice (append-nil base) ∙ once
first_once base names once apart (suc j) within =
    let x = get_or names j [] in
    let alone = apart j x (slice_get-get_or names j [] (omega (arith, within))) in
    let more : suc j ≡ j + 1 = omega arith in
    ap (λ n. has_twice (base ++ take n names)) more
    ∙ ap (λ ys. has_twice (base ++ ys)) (take_more names j [] (omega (arith, within)))
    ∙ ap has_twice (sym (append_assoc base (take j names) (x ∷ [])))
    ∙ has_twice-push (base ++ take j names) x
    ∙ (λ k. (is_among-append base (take j names) x ∙ (λ l. alone.0 l || alone.1 l)) k || first_once base names once apart j (omega (arith, within)) k)

all_once : (base names : List (List ℕ)) → has_twice base ≡ false → AreApart base names → has_twice (base ++ names) ≡ false
all_once base names once apart = ap (λ ys. has_twice (base ++ ys)) (sym (take_all (length names) names (omega arith))) ∙ first_once base names once apart (length names) (omega arith)

-- the element that has the name at a place
element_of : {X : Type 0} (named : X → List ℕ) (xs : List X) (j : ℕ) (x : List ℕ) → slice_get (map named xs) j ≡ Some x → (e : X) × (slice_get xs j ≡ Some e) × (named e ≡ x)
element_of {X = X} named xs j x is = by (slice_get xs j) refl (sym (slice_get-map named xs j) ∙ is)
  where
    by : (o : Option X) → slice_get xs j ≡ o → option_map named o ≡ Some x → (e : X) × (slice_get xs j ≡ Some e) × (named e ≡ x)
    by None at is = absurd (cc)
    by (Some e) at is = let same : named e ≡ x = cc in (e, at, same)

module _ (p : PureParts) where
  -- a valid program is one without each of the kinds
  no_memory : HasNone p Memory
  no_memory i is = true≢false (sym is ∙ by (slice_get (items_of p) i))
    where
      by : (o : Option ProgramItem) → has_fault_if_there Memory p (take i (items_of p)) o ≡ false
      by None = refl
      by (Some item) = refl

  pub valid : HasNone p Duplicate → HasNone p BadLabel → HasNone p NoEnd → HasNone p UnknownName → HasNone p Arity → HasNone p TooMany → IsValid p
  valid a b c d e f Duplicate = a
  valid a b c d e f BadLabel = b
  valid a b c d e f NoEnd = c
  valid a b c d e f UnknownName = d
  valid a b c d e f Arity = e
  valid a b c d e f TooMany = f
  valid a b c d e f Memory = no_memory

  -- ---- names of predicates

  abbrev core_names : List (List ℕ)
  core_names = map (λ g. g.name) core_predicates

  abbrev own_names : List (List ℕ)
  own_names = map (λ d. d.name) p.preds

  among_core : (gs : List Signature) (x : List ℕ) → is_among (map (λ g. g.name) gs) x ≡ is_named gs x
  among_core gs x = list_any-map (bytes_eq x) (λ g. g.name) gs ∙ (λ j. list_any (λ g. bytes_eq-sym x g.name j) gs)

  module _ (none : HasNone p Duplicate) where
    -- no predicate has the name of one before it, or of a core predicate
    preds_apart : AreApart core_names own_names
    preds_apart j x is =
        let d = (element_of (λ r. r.name) p.preds j x is).0 in
        let at : slice_get p.preds j ≡ Some d = (element_of (λ r. r.name) p.preds j x is).1 in
        let named : d.name ≡ x = (element_of (λ r. r.name) p.preds j x is).2 in
        let i = length p.procs + length p.specs + j in
        let stands = pred_stands p i d j at refl in
        let fault : has_fault Duplicate p (before_pred p j) (a_pred d) ≡ false =
        (λ k. has_fault_if_there Duplicate p (sym stands.1 k) (sym stands.0 k)) ∙ isnt_true (fault_at p Duplicate i) (none i) in
        let first = either_false _ _ (either_false _ _ fault).0 in
        (ap (is_among core_names) (sym named) ∙ among_core core_predicates d.name ∙ first.1, ap (is_among (take j own_names)) (sym named) ∙ preds_before_among p d j ∙ first.0)

    -- no procedure has the name of one before it
    procs_apart : AreApart [] (map (λ q. q.name) p.procs)
    procs_apart j x is =
        let q = (element_of (λ r. r.name) p.procs j x is).0 in
        let at : slice_get p.procs j ≡ Some q = (element_of (λ r. r.name) p.procs j x is).1 in
        let named : q.name ≡ x = (element_of (λ r. r.name) p.procs j x is).2 in
        let stands = proc_stands p j q at in
        let fault : has_fault Duplicate p (before_proc p j) (a_proc q) ≡ false =
        (λ k. has_fault_if_there Duplicate p (sym stands.1 k) (sym stands.0 k)) ∙ isnt_true (fault_at p Duplicate j) (none j) in
        let first = either_false _ _ (either_false _ _ fault).0 in
        (refl, ap (is_among (take j (map (λ r. r.name) p.procs))) (sym named) ∙ procs_before_among p q j ∙ first.0)

    pub distinct : AreDistinct p
    distinct =
        ap has_twice (map-append (λ g. g.name) core_predicates (map signature_of p.preds) ∙ ap (λ ys. core_names ++ ys) (map-seen signature_of (λ g. g.name) p.preds))
        ∙ all_once core_names own_names refl preds_apart

    pub procs_distinct : has_twice (map (λ q. q.name) p.procs) ≡ false
    procs_distinct = all_once [] (map (λ q. q.name) p.procs) refl procs_apart

pub on_ok : {X E : Type 0} (r : Result X E) (P Q : Type 0) → (P → Q) → OnOk r P → OnOk r Q
on_ok (Ok x) P Q f h = f h
on_ok (Err e) P Q f h = h

-- the limits that the item with this number passes
pub past_limit_here : (p : PureParts) (i : ℕ) (r : ItemRef) → StandsAt p i r → fault_but_length_at p TooMany i ≡ passes_limit p (items_before p r) (item_of r)
past_limit_here p i r stands j = has_fault_but_length_if_there TooMany p (stands.before j) (stands.item j)
