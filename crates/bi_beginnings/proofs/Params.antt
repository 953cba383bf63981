-- The parameters of a procedure of a program.
use Rattle.std.proofs.Common.{◌≡◌, ℕ, zero, suc, List, [], ◌∷◌, ◌++◌, map, take, slice_get, Bool, true, false, ◌&&◌, ◌||◌, cond, Some, refl, sym, ap, ◌∙◌}
use Rattle.std.specs.List.{list_all, list_any, flat_map}
use Rattle.std.specs.Str.{bytes_eq}
use Rattle.std.proofs.lemmas.Bool.{and_parts}
use Rattle.std.proofs.lemmas.Option.{slice_get_within}
use Rattle.gil_syntax.specs.declared.validity.InvalidKind.TheVariants.{Duplicate}
use Rattle.gil_syntax.specs.Programs.{find_proc}
use Rattle.gil_syntax.specs.Pure.{PureProc, PureParts}
use Rattle.gil_syntax.specs.Valid.{a_proc, a_spec, a_pred, items_of, has_twice, lists_in_command, name_lists, some_has_twice, same_name, is_core_name, has_fault_if_there, IsAtFault, IsValid}
use Rattle.gil_syntax.specs.WellMade.{is_program_name, is_well_made_proc, is_well_made_command, is_well_made_spec, is_well_made_pred, is_well_made}
use Rattle.pure_terms.proofs.VariableLaws.{slice_get-append}
use Rattle.sym_model.proofs.ListLaws.{same_some, not_none}

pub all_at : {X : Type 0} (f : X → Bool) (xs : List X) (i : ℕ) (x : X) → slice_get xs i ≡ Some x → list_all f xs ≡ true → f x ≡ true
all_at f [] i x at all = not_none at
all_at f (y ∷ ys) zero x at all = ap f (sym (same_some at)) ∙ (and_parts (f y) (list_all f ys) all).0
all_at f (y ∷ ys) (suc i) x at all = all_at f ys i x at (and_parts (f y) (list_all f ys) all).1

pub proc_at : (qs : List PureProc) (f : List ℕ) (q : PureProc) → find_proc qs f ≡ Some q → (i : ℕ) × (slice_get qs i ≡ Some q)
proc_at [] f q is = not_none is
proc_at (r ∷ qs) f q is = by (bytes_eq r.name f) (proc_at qs f q) is
  where
    by : (b : Bool) → (find_proc qs f ≡ Some q → (i : ℕ) × (slice_get qs i ≡ Some q)) → cond b (Some r) (find_proc qs f) ≡ Some q → (i : ℕ) × (slice_get (r ∷ qs) i ≡ Some q)
    by true later found = (0, found)
    by false later found = let (i, at) = later found in (suc i, at)

item_at : {X Y : Type 0} (f : X → Y) (xs : List X) (ys : List Y) (i : ℕ) (x : X) → slice_get xs i ≡ Some x → slice_get (map f xs ++ ys) i ≡ Some (f x)
item_at f [] ys i x at = not_none at
item_at f (z ∷ xs) ys zero x at = ap (λ w. Some (f w)) (same_some at)
item_at f (z ∷ xs) ys (suc i) x at = item_at f xs ys i x at

isnt_true : (b : Bool) → ¬ (b ≡ true) → b ≡ false
isnt_true true isnt = absurd (isnt refl)
isnt_true false isnt = refl

or_last : (a b c : Bool) → c ≡ true → (a || b || c) ≡ true
or_last true b c is = refl
or_last false true c is = refl
or_last false false c is = is

-- no two parameters of a procedure have one name
pub params_once : (p : PureParts) (f : List ℕ) (q : PureProc) → IsValid p → find_proc p.procs f ≡ Some q → has_twice q.params ≡ false
params_once p f q valid found =
    let (i, at) = proc_at p.procs f q found in
    let first : slice_get (map a_proc p.procs ++ map a_spec p.specs) i ≡ Some (a_proc q) = item_at a_proc p.procs (map a_spec p.specs) i q at in
    let item : slice_get (items_of p) i ≡ Some (a_proc q) = slice_get-append (map a_proc p.procs ++ map a_spec p.specs) (map a_pred p.preds) i (slice_get_within (map a_proc p.procs ++ map a_spec p.specs) i (a_proc q) first) ∙ first in
    isnt_true (has_twice q.params) (λ is. valid Duplicate i (faulty i item is))
  where
    faulty : (i : ℕ) → slice_get (items_of p) i ≡ Some (a_proc q) → has_twice q.params ≡ true → IsAtFault p Duplicate i
    faulty i item is =
        ap (has_fault_if_there Duplicate p (take i (items_of p))) item
        ∙ or_last (list_any (same_name (a_proc q)) (take i (items_of p))) (is_core_name (a_proc q)) (some_has_twice (name_lists (a_proc q))) (first_of is)
      where
        first_of : has_twice q.params ≡ true → some_has_twice (name_lists (a_proc q)) ≡ true
        first_of is = ap (λ b. b || list_any has_twice (flat_map (λ c. lists_in_command c.command) q.body)) is

-- and each is the name of a program
pub params_named : (p : PureParts) (f : List ℕ) (q : PureProc) → is_well_made p ≡ true → find_proc p.procs f ≡ Some q → list_all is_program_name q.params ≡ true
params_named p f q made found =
    let (i, at) = proc_at p.procs f q found in
    let procs = (and_parts (list_all is_well_made_proc p.procs) (list_all is_well_made_spec p.specs) (and_parts (list_all is_well_made_proc p.procs && list_all is_well_made_spec p.specs) (list_all is_well_made_pred p.preds) made).0).0 in
    (and_parts (list_all is_program_name q.params) (list_all (λ c. is_well_made_command c.command) q.body) (all_at is_well_made_proc p.procs i q at procs)).0
