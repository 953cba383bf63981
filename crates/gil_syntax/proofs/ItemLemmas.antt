-- The items of a program by their numbers.
use Rattle.std.proofs.Common.{◌≡◌, ℕ, zero, suc, ◌+◌, ◌<◌, ◌≤◌, ⊎_elim, List, [], ◌∷◌, ◌++◌, map, take, length, Some, None, slice_get, sym, ap, ◌∙◌, arith}
use Rattle.std.specs.Option.{option_map}
use Rattle.std.proofs.Math.Seq.{take-append-add}
use Rattle.std.proofs.lemmas.List.{take-append-le, length-map, length-append, take-map}
use Rattle.std.proofs.lemmas.Option.{slice_get_past, slice_get_within, slice_get_cases, slice_get-map}
use Rattle.gil_syntax.specs.Pure.{PureProc, PureSpec, PurePredDef, PureParts}
use Rattle.gil_syntax.specs.Valid.{ProgramItem, a_proc, a_spec, a_pred, items_of}
use Rattle.gil_syntax.specs.Items.{before_proc, before_spec, before_pred}

pub slice_get_none : {X : Type 0} (xs : List X) (i : ℕ) → slice_get xs i ≡ None → length xs ≤ i
slice_get_none xs i none = ⊎_elim (λ there. absurd (let e : None ≡ Some there.0 = sym none ∙ there.2 in cc)) (λ past. past.0) ((slice_get_cases xs i).1)

slice_get-left : {X : Type 0} (xs ys : List X) (i : ℕ) (x : X) → slice_get xs i ≡ Some x → slice_get (xs ++ ys) i ≡ Some x
slice_get-left [] ys i x is = absurd (cc)
slice_get-left (z ∷ zs) ys zero x is = is
slice_get-left (z ∷ zs) ys (suc i) x is = slice_get-left zs ys i x is

slice_get-right : {X : Type 0} (xs ys : List X) (i : ℕ) → slice_get (xs ++ ys) (length xs + i) ≡ slice_get ys i
slice_get-right [] ys i = ap (slice_get ys) (let e : zero + i ≡ i = omega arith in e)
slice_get-right (x ∷ xs) ys i = ap (slice_get (x ∷ (xs ++ ys))) (let e : length (x ∷ xs) + i ≡ suc (length xs + i) = omega arith in e) ∙ slice_get-right xs ys i

-- an item of the first list, and one of the second
module _ {X Y : Type 0} (item : X → Y) (ys : List Y) where
  at_left : (xs : List X) (i : ℕ) (x : X) → slice_get xs i ≡ Some x → slice_get (map item xs ++ ys) i ≡ Some (item x)
  at_left xs i x is = slice_get-left (map item xs) ys i (item x) (slice_get-map item xs i ∙ ap (option_map item) is)

  before_left : (xs : List X) (i : ℕ) (x : X) → slice_get xs i ≡ Some x → take i (map item xs ++ ys) ≡ map item (take i xs)
  before_left xs i x is =
      let below = slice_get_within xs i x is in
      take-append-le i (map item xs) ys (omega (arith, below, length-map xs item)) ∙ take-map item i xs

  at_right : (xs : List X) (i j : ℕ) (x : X) → slice_get xs j ≡ Some x → i ≡ length ys + j → slice_get (ys ++ map item xs) i ≡ Some (item x)
  at_right xs i j x is place = ap (slice_get (ys ++ map item xs)) place ∙ slice_get-right ys (map item xs) j ∙ slice_get-map item xs j ∙ ap (option_map item) is

  before_right : (xs : List X) (i j : ℕ) → i ≡ length ys + j → take i (ys ++ map item xs) ≡ ys ++ map item (take j xs)
  before_right xs i j place = ap (λ n. take n (ys ++ map item xs)) place ∙ take-append-add ys (map item xs) j ∙ ap (λ zs. ys ++ zs) (take-map item j xs)

module _ (p : PureParts) (i : ℕ) where
  abbrev procs : List ProgramItem
  procs = map a_proc p.procs

  abbrev specs : List ProgramItem
  specs = map a_spec p.specs

  abbrev preds : List ProgramItem
  preds = map a_pred p.preds

  pub proc_stands : (q : PureProc) → slice_get p.procs i ≡ Some q → (slice_get (items_of p) i ≡ Some (a_proc q)) × (take i (items_of p) ≡ before_proc p i)
  proc_stands q is =
      let inner = at_left a_proc specs p.procs i q is in
      let below : i < length (procs ++ specs) = slice_get_within (procs ++ specs) i (a_proc q) inner in (
        slice_get-left (procs ++ specs) preds i (a_proc q) inner,
        take-append-le i (procs ++ specs) preds (omega (arith, below)) ∙ before_left a_proc specs p.procs i q is,
      )

  pub spec_stands : (s : PureSpec) (j : ℕ) → slice_get p.specs j ≡ Some s → i ≡ length p.procs + j → (slice_get (items_of p) i ≡ Some (a_spec s)) × (take i (items_of p) ≡ before_spec p j)
  spec_stands s j is place =
      let counted : i ≡ length procs + j = omega (arith, place, length-map p.procs a_proc) in
      let inner = at_right a_spec procs p.specs i j s is counted in
      let below : i < length (procs ++ specs) = slice_get_within (procs ++ specs) i (a_spec s) inner in (
        slice_get-left (procs ++ specs) preds i (a_spec s) inner,
        take-append-le i (procs ++ specs) preds (omega (arith, below)) ∙ before_right a_spec procs p.specs i j counted,
      )

  pub pred_stands : (d : PurePredDef) (j : ℕ) → slice_get p.preds j ≡ Some d → i ≡ length p.procs + length p.specs + j → (slice_get (items_of p) i ≡ Some (a_pred d)) × (take i (items_of p) ≡ before_pred p j)
  pred_stands d j is place =
      let counted : i ≡ length (procs ++ specs) + j = omega (arith, place, length-append procs specs, length-map p.procs a_proc, length-map p.specs a_spec) in
      (at_right a_pred (procs ++ specs) p.preds i j d is counted, before_right a_pred (procs ++ specs) p.preds i j counted)

  pub no_item : length p.procs + length p.specs + length p.preds ≤ i → slice_get (items_of p) i ≡ None
  no_item past = slice_get_past (items_of p) i (omega (arith, past, length-append (procs ++ specs) preds, length-append procs specs, length-map p.procs a_proc, length-map p.specs a_spec, length-map p.preds a_pred))
