-- The first function that is too long, from the first procedure that is.
use Rattle.std.proofs.Common.{◌≡◌, ℕ, zero, suc, ◌+◌, ◌<◌, ◌≤◌, List, [], ◌∷◌, map, take, get_or, length, Bool, true, false, cond, Option, Some, None, slice_get, refl, sym, ap, subst, ◌∙◌, arith}
use Rattle.std.specs.Option.{option_map}
use Rattle.std.proofs.lemmas.Bool.Decides.{nat_tests}
use Rattle.gil_values.proofs.Lists.{slice_get-read}
use Rattle.gil_syntax.specs.declared.parts.Proc.{Proc}
use Rattle.gil_syntax.specs.Pure.{PureProc}
use Rattle.gil_syntax.specs.View.{proc_view}
use Rattle.source_language.specs.Code.{code_view}
use Rattle.source_language.specs.Limits.{is_too_long, first_long, first_too_long}

none_choice : (b : Bool) (o : Option ℕ) → cond b (Some 0) (option_map suc o) ≡ None → (b ≡ false) × (o ≡ None)
none_choice true o e = absurd (cc)
none_choice false None e = (refl, refl)
none_choice false (Some i) e = absurd (cc)

-- ---- procedures, one after another

pub first_here : (qs : List PureProc) (i : ℕ) (q : PureProc) → slice_get qs i ≡ Some q → first_long (take i qs) ≡ None
    → is_too_long q ≡ true → first_long qs ≡ Some i
first_here [] i q there short here = absurd (cc)
first_here (r ∷ qs) zero q there short here =
    let same : r ≡ q = cc in
    ap (λ b. cond b (Some 0) (option_map suc (first_long qs))) (ap is_too_long same ∙ here)
first_here (r ∷ qs) (suc i) q there short here =
    let parts = none_choice (is_too_long r) (first_long (take i qs)) short in
    ap (λ b. cond b (Some 0) (option_map suc (first_long qs))) parts.0
    ∙ ap (option_map suc) (first_here qs i q there parts.1 here)

pub short_next : (qs : List PureProc) (i : ℕ) (q : PureProc) → slice_get qs i ≡ Some q → first_long (take i qs) ≡ None
    → is_too_long q ≡ false → first_long (take (suc i) qs) ≡ None
short_next [] i q there short here = absurd (cc)
short_next (r ∷ qs) zero q there short here =
    let same : r ≡ q = cc in
    ap (λ b. cond b (Some 0) None) (ap is_too_long same ∙ here)
short_next (r ∷ qs) (suc i) q there short here =
    let parts = none_choice (is_too_long r) (first_long (take i qs)) short in
    ap (λ b. cond b (Some 0) (option_map suc (first_long (take (suc i) qs)))) parts.0
    ∙ ap (option_map suc) (short_next qs i q there parts.1 here)

module _ (procs : List Proc) (i : ℕ) (x : Proc) (below : i < length procs) (is : x ≡ get_or procs i x) (count : ℕ)
    (counted : count ≡ length (code_view (get_or procs i x).body)) (short : first_long (take i (map proc_view procs)) ≡ None) where
  there : slice_get (map proc_view procs) i ≡ Some (proc_view x)
  there = slice_get-read proc_view procs i x below is

  commands : length (proc_view x).body ≡ count
  commands = ap (λ (p : Proc). length (code_view p.body)) is ∙ sym counted

  pub long_read : 1000 < count → Some i ≡ first_long (map proc_view procs)
  long_read above = sym (first_here (map proc_view procs) i (proc_view x) there short (let e = commands in grind (arith, nat_tests)))

  pub short_read : count ≤ 1000 → first_long (take (i + 1) (map proc_view procs)) ≡ None
  short_read within =
      let next : suc i ≡ i + 1 = omega arith in
      subst (λ k. first_long (take k (map proc_view procs)) ≡ None) next
      (short_next (map proc_view procs) i (proc_view x) there short (let e = commands in grind (arith, nat_tests)))

-- ---- functions and their procedures

module _ {F : Type 0} (begins : F → ℕ) (compiled : F → PureProc) where
  -- the function with this number is the first that is too long
  pub record IsFirstTooLong (fs : List F) (i : ℕ) : Type 0 where
    pub function : F
    pub there : slice_get fs i ≡ Some function
    pub first : first_too_long begins compiled fs ≡ Some (begins function)

  pub none_long : (fs : List F) → first_long (map compiled fs) ≡ None → first_too_long begins compiled fs ≡ None
  none_long [] e = refl
  none_long (f ∷ fs) e =
      let parts = none_choice (is_too_long (compiled f)) (first_long (map compiled fs)) e in
      ap (λ b. cond b (Some (begins f)) (first_too_long begins compiled fs)) parts.0 ∙ none_long fs parts.1

  module _ (f : F) (fs : List F) (later : (j : ℕ) → first_long (map compiled fs) ≡ Some j → IsFirstTooLong fs j) where
    one_more : (i : ℕ) (b : Bool) (o : Option ℕ) → is_too_long (compiled f) ≡ b → first_long (map compiled fs) ≡ o
        → cond b (Some 0) (option_map suc o) ≡ Some i → IsFirstTooLong (f ∷ fs) i
    one_more i true o here rest is =
        let same : 0 ≡ i = cc in
        subst (IsFirstTooLong (f ∷ fs)) same
        (record { function = f; there = refl; first = ap (λ b. cond b (Some (begins f)) (first_too_long begins compiled fs)) here })
    one_more i false None here rest is = absurd (cc)
    one_more i false (Some j) here rest is =
        let same : suc j ≡ i = cc in
        let found = later j rest in
        subst (IsFirstTooLong (f ∷ fs)) same
        (record {
          function = found.function;
          there = found.there;
          first = ap (λ b. cond b (Some (begins f)) (first_too_long begins compiled fs)) here ∙ found.first;
        })

  pub one_long : (fs : List F) (i : ℕ) → first_long (map compiled fs) ≡ Some i → IsFirstTooLong fs i
  one_long [] i e = absurd (cc)
  one_long (f ∷ fs) i e = one_more f fs (one_long fs) i (is_too_long (compiled f)) (first_long (map compiled fs)) refl refl e
