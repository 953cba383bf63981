-- The stores in which assertions of specifications are read.
use Rattle.std.proofs.Common.{◌≡◌, ◌⊎◌, ⊎_elim, inl, inr, ℕ, zero, suc, List, [], ◌∷◌, ◌++◌, map, length, Bool, true, false, not, ◌&&◌, ◌||◌, cond, Option, Some, None, slice_get, take, refl, sym, ap, ◌∙◌, true≢false, arith}
use Rattle.std.specs.List.{list_all, list_any}
use Rattle.std.specs.Option.{option_and_then}
use Rattle.std.specs.Str.{bytes_eq}
use Rattle.std.proofs.lemmas.Bool.{and_parts}
use Rattle.std.proofs.lemmas.List.Folds.{list_all-append}
use Rattle.std.proofs.lemmas.Slice.Eq.{bytes_eq-Decides}
use Rattle.gil_values.specs.Pure.{PureValue}
use Rattle.gil_syntax.specs.declared.assertions.Param.{Param}
use Rattle.gil_syntax.specs.declared.validity.InvalidKind.TheVariants.{Duplicate}
use Rattle.gil_syntax.specs.Evaluation.{Store, value_of, Agrees}
use Rattle.gil_syntax.specs.Programs.{find_spec}
use Rattle.gil_syntax.specs.Pure.{PureSpec, PureParts}
use Rattle.gil_syntax.specs.Subexpressions.{assertions_of}
use Rattle.gil_syntax.specs.Valid.{a_proc, a_spec, a_pred, items_of, param_names, is_among, has_twice, name_lists, some_has_twice, same_name, is_core_name, has_fault_if_there, IsAtFault, IsValid}
use Rattle.gil_syntax.specs.WellMade.{has_hash, is_program_name, are_logical, are_program_names, is_well_made_assertion, is_well_made_proc, is_well_made_spec, is_well_made_pred, is_well_made}
use Rattle.gil_machine.specs.Step.{bind_all}
use Rattle.mem_model.specs.declared.keys.MemoryName.{MemoryName}
use Rattle.assert_logic.specs.declared.checking.ModeItem.TheVariants.{Spec}
use Rattle.assert_logic.specs.Modes.{HasModes, spec_fault}
use Rattle.assert_logic.specs.Sorts.{has_sort, fits_sorts, HasSorts}
use Rattle.checked_runs.specs.Specifications.{fit_params}

pub same_some : {X : Type 0} {x y : X} → Some x ≡ Some y → x ≡ y
same_some is = cc

pub no_value : {X : Type 0} {P : Type 0} (x : X) → None ≡ Some x → P
no_value x is = absurd (cc)

pub isnt_both : {P : Type 0} (b : Bool) → b ≡ true → b ≡ false → P
isnt_both true is isnt = absurd (true≢false isnt)
isnt_both false is isnt = absurd (true≢false (sym is))

-- ---- two stores, one before the other

pub first_value : (s t : Store) (x : List ℕ) (v : PureValue) → value_of s x ≡ Some v → value_of (s ++ t) x ≡ Some v
first_value [] t x v is = no_value v is
first_value (b ∷ s) t x v is = by (bytes_eq b.name x) (first_value s t x v) is
  where
    by : (e : Bool) → (value_of s x ≡ Some v → value_of (s ++ t) x ≡ Some v) → cond e (Some b.value) (value_of s x) ≡ Some v → cond e (Some b.value) (value_of (s ++ t) x) ≡ Some v
    by true later at = at
    by false later at = later at

pub second_value : (s t : Store) (x : List ℕ) → value_of s x ≡ None → value_of (s ++ t) x ≡ value_of t x
second_value [] t x none = refl
second_value (b ∷ s) t x none = by (bytes_eq b.name x) (second_value s t x) none
  where
    by : (e : Bool) → (value_of s x ≡ None → value_of (s ++ t) x ≡ value_of t x) → cond e (Some b.value) (value_of s x) ≡ None → cond e (Some b.value) (value_of (s ++ t) x) ≡ value_of t x
    by true later at = no_value b.value (sym at)
    by false later at = later at

pub either_value : (s t : Store) (x : List ℕ) (v : PureValue) → value_of (s ++ t) x ≡ Some v → (value_of s x ≡ Some v) ⊎ ((value_of s x ≡ None) × (value_of t x ≡ Some v))
either_value s t x v is = by (value_of s x) refl
  where
    by : (o : Option PureValue) → value_of s x ≡ o → (value_of s x ≡ Some v) ⊎ ((value_of s x ≡ None) × (value_of t x ≡ Some v))
    by None none = inr (none, sym (second_value s t x none) ∙ is)
    by (Some w) at = inl (at ∙ (sym (first_value s t x w at) ∙ is))

-- ---- names of a list

pub among_at : (xs : List (List ℕ)) (i : ℕ) (x : List ℕ) → slice_get xs i ≡ Some x → is_among xs x ≡ true
among_at [] i x at = no_value x at
among_at (y ∷ ys) zero x at = ap (λ b. b || is_among ys x) ((bytes_eq-Decides x y).1 (sym (same_some at)))
among_at (y ∷ ys) (suc i) x at = by (bytes_eq x y) (among_at ys i x at)
  where
    by : (b : Bool) → is_among ys x ≡ true → (b || is_among ys x) ≡ true
    by true is = refl
    by false is = is

none_of_two : (a b : Bool) → (a || b) ≡ false → (a ≡ false) × (b ≡ false)
none_of_two true b is = absurd (true≢false is)
none_of_two false b is = (refl, is)

pub one_of_two : (a b : Bool) → (a || b) ≡ true → (a ≡ true) ⊎ (b ≡ true)
one_of_two true b is = inl refl
one_of_two false b is = inr is

-- a name that isn't among others differs from each
pub other_name : (xs : List (List ℕ)) (x y : List ℕ) → is_among xs x ≡ false → is_among xs y ≡ true → bytes_eq x y ≡ false
other_name xs x y lacks has = by (bytes_eq x y) refl
  where
    by : (b : Bool) → bytes_eq x y ≡ b → b ≡ false
    by true same = isnt_both (is_among xs x) (ap (is_among xs) ((bytes_eq-Decides x y).0 same) ∙ has) lacks
    by false other = refl

-- ---- parameters with their arguments

pub bound_at : (xs : List (List ℕ)) (vs : List PureValue) (x : List ℕ) (v : PureValue) → value_of (bind_all xs vs) x ≡ Some v → (i : ℕ) × ((slice_get xs i ≡ Some x) × (slice_get vs i ≡ Some v))
bound_at [] vs x v is = no_value v is
bound_at (y ∷ ys) [] x v is = no_value v is
bound_at (y ∷ ys) (w ∷ ws) x v is = by (bound_at ys ws x v) (bytes_eq y x) refl is
  where
    by : (value_of (bind_all ys ws) x ≡ Some v → (i : ℕ) × ((slice_get ys i ≡ Some x) × (slice_get ws i ≡ Some v))) → (b : Bool) → bytes_eq y x ≡ b → cond b (Some w) (value_of (bind_all ys ws) x) ≡ Some v → (i : ℕ) × ((slice_get (y ∷ ys) i ≡ Some x) × (slice_get (w ∷ ws) i ≡ Some v))
    by later true same at = (0, (ap Some ((bytes_eq-Decides y x).0 same), at))
    by later false other at = let (i, found) = later at in (suc i, found)

pub args_agree : (xs : List (List ℕ)) (vs : List PureValue) → has_twice xs ≡ false → Agrees (bind_all xs vs) xs vs
args_agree [] vs once i x v name value = no_value x name
args_agree (y ∷ ys) [] once i x v name value = no_value v value
args_agree (y ∷ ys) (w ∷ ws) once zero x v name value = ap (λ b. cond b (Some w) (value_of (bind_all ys ws) x)) ((bytes_eq-Decides y x).1 (same_some name)) ∙ value
args_agree (y ∷ ys) (w ∷ ws) once (suc i) x v name value =
    let (lacks, later) = none_of_two (is_among ys y) (has_twice ys) once in
    ap (λ b. cond b (Some w) (value_of (bind_all ys ws) x)) (other_name ys y x lacks (among_at ys i x name)) ∙ args_agree ys ws later i x v name value

-- where each parameter has an argument, a name without a value is none of them
pub no_param : (xs : List (List ℕ)) (vs : List PureValue) (x : List ℕ) → length xs ≡ length vs → value_of (bind_all xs vs) x ≡ None → is_among xs x ≡ false
no_param [] vs x as_many none = refl
no_param (y ∷ ys) [] x as_many none = absurd (cc)
no_param (y ∷ ys) (w ∷ ws) x as_many none = by (no_param ys ws x (omega (arith, as_many))) (bytes_eq y x) refl none
  where
    differs : (b : Bool) → bytes_eq x y ≡ b → bytes_eq y x ≡ false → b ≡ false
    differs true same other = isnt_both (bytes_eq y x) ((bytes_eq-Decides y x).1 (sym ((bytes_eq-Decides x y).0 same))) other
    differs false is other = refl

    by : (value_of (bind_all ys ws) x ≡ None → is_among ys x ≡ false) → (b : Bool) → bytes_eq y x ≡ b → cond b (Some w) (value_of (bind_all ys ws) x) ≡ None → is_among (y ∷ ys) x ≡ false
    by later true same at = no_value w (sym at)
    by later false other at = ap (λ b. b || is_among ys x) (differs (bytes_eq x y) refl other) ∙ later at

-- ---- sorts

pub undeclared_fits : (ps : List Param) (x : List ℕ) (v : PureValue) → is_among (param_names ps) x ≡ false → fits_sorts ps x v ≡ true
undeclared_fits [] x v lacks = refl
undeclared_fits (q ∷ qs) x v lacks =
    let (other, later) = none_of_two (bytes_eq x q.name) (is_among (param_names qs) x) lacks in
    by (bytes_eq q.name x) refl other (undeclared_fits qs x v later)
  where
    by : (b : Bool) → bytes_eq q.name x ≡ b → bytes_eq x q.name ≡ false → fits_sorts qs x v ≡ true → ((not b || has_sort q.sort v) && fits_sorts qs x v) ≡ true
    by true same other is = isnt_both (bytes_eq x q.name) ((bytes_eq-Decides x q.name).1 (sym ((bytes_eq-Decides q.name x).0 same))) other
    by false differs other is = is

pub fits_both : (ps qs : List Param) (x : List ℕ) (v : PureValue) → fits_sorts ps x v ≡ true → fits_sorts qs x v ≡ true → fits_sorts (ps ++ qs) x v ≡ true
fits_both ps qs x v h k = list_all-append (λ q. not (bytes_eq q.name x) || has_sort q.sort v) ps qs ∙ ap (λ b. b && fits_sorts qs x v) h ∙ k

pub fit_length : (ps : List Param) (vs : List PureValue) → fit_params ps vs ≡ true → length (param_names ps) ≡ length vs
fit_length [] [] fit = refl
fit_length [] (v ∷ vs) fit = absurd (true≢false (sym fit))
fit_length (q ∷ qs) [] fit = absurd (true≢false (sym fit))
fit_length (q ∷ qs) (v ∷ vs) fit = ap suc (fit_length qs vs (and_parts (has_sort q.sort v) (fit_params qs vs) fit).1)

pub args_sorted : (ps : List Param) (vs : List PureValue) → fit_params ps vs ≡ true → has_twice (param_names ps) ≡ false → HasSorts ps (bind_all (param_names ps) vs)
args_sorted [] vs fit once x v is = no_value v is
args_sorted (q ∷ qs) [] fit once x v is = no_value v is
args_sorted (q ∷ qs) (w ∷ ws) fit once x v is =
    let (here, there) = and_parts (has_sort q.sort w) (fit_params qs ws) fit in
    let (lacks, later) = none_of_two (is_among (param_names qs) q.name) (has_twice (param_names qs)) once in
    by (bytes_eq q.name x) refl here lacks (args_sorted qs ws there later x v) is
  where
    by : (b : Bool) → bytes_eq q.name x ≡ b → has_sort q.sort w ≡ true → is_among (param_names qs) q.name ≡ false → (value_of (bind_all (param_names qs) ws) x ≡ Some v → fits_sorts qs x v ≡ true) → cond b (Some w) (value_of (bind_all (param_names qs) ws) x) ≡ Some v
        → ((not b || has_sort q.sort v) && fits_sorts qs x v) ≡ true
    by true same here lacks each at =
        let lacks_x : is_among (param_names qs) x ≡ false = ap (is_among (param_names qs)) (sym ((bytes_eq-Decides q.name x).0 same)) ∙ lacks in
        ap (λ b. b && fits_sorts qs x v) (ap (has_sort q.sort) (sym (same_some at)) ∙ here) ∙ undeclared_fits qs x v lacks_x
    by false other here lacks each at = each at

-- ---- names with and without '#'

pub program_name : (ps : List Param) (x : List ℕ) → are_program_names ps ≡ true → is_among (param_names ps) x ≡ true → has_hash x ≡ false
program_name [] x all is = absurd (true≢false (sym is))
program_name (q ∷ qs) x all is =
    let (here, there) = and_parts (is_program_name q.name) (are_program_names qs) all in
    ⊎_elim (λ same. first (has_hash q.name) refl here same) (program_name qs x there) (one_of_two (bytes_eq x q.name) (is_among (param_names qs) x) is)
  where
    first : (b : Bool) → has_hash q.name ≡ b → not b ≡ true → bytes_eq x q.name ≡ true → has_hash x ≡ false
    first true hash isnt same = absurd (true≢false (sym isnt))
    first false hash isnt same = ap has_hash ((bytes_eq-Decides x q.name).0 same) ∙ hash

pub logical_name : (ps : List Param) (x : List ℕ) → are_logical ps ≡ true → is_among (param_names ps) x ≡ true → has_hash x ≡ true
logical_name [] x all is = absurd (true≢false (sym is))
logical_name (q ∷ qs) x all is =
    let (here, there) = and_parts (has_hash q.name) (are_logical qs) all in
    ⊎_elim (λ same. ap has_hash ((bytes_eq-Decides x q.name).0 same) ∙ here) (logical_name qs x there) (one_of_two (bytes_eq x q.name) (is_among (param_names qs) x) is)

pub among_both : (ps qs : List Param) (x : List ℕ) → is_among (param_names (ps ++ qs)) x ≡ true → (is_among (param_names ps) x ≡ true) ⊎ (is_among (param_names qs) x ≡ true)
among_both [] qs x is = inr is
among_both (p ∷ ps) qs x is =
    ⊎_elim (λ here. inl (ap (λ b. b || is_among (param_names ps) x) here)) (λ there. ⊎_elim (λ in_ps. inl (later (bytes_eq x p.name) in_ps)) inr (among_both ps qs x there))
    (one_of_two (bytes_eq x p.name) (is_among (param_names (ps ++ qs)) x) is)
  where
    later : (b : Bool) → is_among (param_names ps) x ≡ true → (b || is_among (param_names ps) x) ≡ true
    later true is = refl
    later false is = is

-- ---- specifications of a program

pub record IsGoodSpec (memory : MemoryName) (f : List ℕ) (s : PureSpec) : Type 0 where
  pub named : s.name ≡ f
  pub program_names : are_program_names s.params ≡ true
  pub logical : are_logical s.logicals ≡ true
  pub made : list_all is_well_made_assertion (assertions_of s) ≡ true
  pub distinct : has_twice (param_names s.params) ≡ false
  pub reads : spec_fault memory s ≡ None

pub spec_at : (ss : List PureSpec) (f : List ℕ) (s : PureSpec) → find_spec ss f ≡ Some s → (s.name ≡ f) × ((i : ℕ) × (slice_get ss i ≡ Some s))
spec_at [] f s is = no_value s is
spec_at (t ∷ ts) f s is = by (spec_at ts f s) (bytes_eq t.name f) refl is
  where
    by : (find_spec ts f ≡ Some s → (s.name ≡ f) × ((i : ℕ) × (slice_get ts i ≡ Some s))) → (b : Bool) → bytes_eq t.name f ≡ b → cond b (Some t) (find_spec ts f) ≡ Some s → (s.name ≡ f) × ((i : ℕ) × (slice_get (t ∷ ts) i ≡ Some s))
    by later true same found = (ap (λ x. x.name) (sym (same_some found)) ∙ (bytes_eq-Decides t.name f).0 same, (0, found))
    by later false other found = let (name, (i, at)) = later found in (name, (suc i, at))

pub all_at : {X : Type 0} (f : X → Bool) (xs : List X) (i : ℕ) (x : X) → slice_get xs i ≡ Some x → list_all f xs ≡ true → f x ≡ true
all_at f [] i x at all = no_value x at
all_at f (y ∷ ys) zero x at all = ap f (sym (same_some at)) ∙ (and_parts (f y) (list_all f ys) all).0
all_at f (y ∷ ys) (suc i) x at all = all_at f ys i x at (and_parts (f y) (list_all f ys) all).1

at_map : {X Y : Type 0} (f : X → Y) (xs : List X) (i : ℕ) (x : X) → slice_get xs i ≡ Some x → slice_get (map f xs) i ≡ Some (f x)
at_map f [] i x at = no_value x at
at_map f (y ∷ ys) zero x at = ap (λ z. Some (f z)) (same_some at)
at_map f (y ∷ ys) (suc i) x at = at_map f ys i x at

at_left : {X : Type 0} (xs ys : List X) (i : ℕ) (x : X) → slice_get xs i ≡ Some x → slice_get (xs ++ ys) i ≡ Some x
at_left [] ys i x at = no_value x at
at_left (z ∷ zs) ys zero x at = at
at_left (z ∷ zs) ys (suc i) x at = at_left zs ys i x at

at_right : {X : Type 0} (xs ys : List X) (i : ℕ) (x : X) → slice_get ys i ≡ Some x → (j : ℕ) × (slice_get (xs ++ ys) j ≡ Some x)
at_right [] ys i x at = (i, at)
at_right (z ∷ zs) ys i x at = let (j, there) = at_right zs ys i x at in (suc j, there)

isnt_true : (b : Bool) → ¬ (b ≡ true) → b ≡ false
isnt_true true isnt = absurd (isnt refl)
isnt_true false isnt = refl

params_once : (p : PureParts) (i : ℕ) (s : PureSpec) → IsValid p → slice_get p.specs i ≡ Some s → has_twice (param_names s.params) ≡ false
params_once p i s valid at =
    let (j, there) = at_right (map a_proc p.procs) (map a_spec p.specs) i (a_spec s) (at_map a_spec p.specs i s at) in
    isnt_true (has_twice (param_names s.params)) (λ is. valid Duplicate j (faulty j (at_left (map a_proc p.procs ++ map a_spec p.specs) (map a_pred p.preds) j (a_spec s) there) is))
  where
    or_last : (a b c : Bool) → c ≡ true → (a || b || c) ≡ true
    or_last true b c is = refl
    or_last false true c is = refl
    or_last false false c is = is

    faulty : (j : ℕ) → slice_get (items_of p) j ≡ Some (a_spec s) → has_twice (param_names s.params) ≡ true → IsAtFault p Duplicate j
    faulty j there is =
        ap (has_fault_if_there Duplicate p (take j (items_of p))) there
        ∙ or_last (list_any (same_name (a_spec s)) (take j (items_of p))) (is_core_name (a_spec s)) (some_has_twice (name_lists (a_spec s))) (ap (λ b. b || (has_twice (param_names s.logicals) || false)) is)

pub good_spec : (p : PureParts) (memory : MemoryName) (f : List ℕ) (s : PureSpec) → is_well_made p ≡ true → IsValid p → HasModes p memory → find_spec p.specs f ≡ Some s → IsGoodSpec memory f s
good_spec p memory f s made valid modes is =
    let (name, (i, at)) = spec_at p.specs f s is in
    let specs_made = (and_parts (list_all is_well_made_proc p.procs) (list_all is_well_made_spec p.specs) (and_parts (list_all is_well_made_proc p.procs && list_all is_well_made_spec p.specs) (list_all is_well_made_pred p.preds) made).0).1 in
    let spec_made = all_at is_well_made_spec p.specs i s at specs_made in
    let (names, assertions) = and_parts (are_program_names s.params && are_logical s.logicals) (list_all is_well_made_assertion (assertions_of s)) spec_made in
    let (program, logical) = and_parts (are_program_names s.params) (are_logical s.logicals) names in
    record {
      named = name;
      program_names = program;
      logical = logical;
      made = assertions;
      distinct = params_once p i s valid at;
      reads = sym (ap (option_and_then (spec_fault memory)) at) ∙ modes (Spec i);
    }
