-- A compiled program is valid, but for the number of its commands, where its source is.
use Rattle.std.proofs.Common.{◌≡◌, ◌≢◌, ℕ, zero, suc, List, [], ◌∷◌, ◌++◌, map, take, Bool, true, false, cond, Option, Some, None, slice_get, is_some, IsTrue, refl, sym, ap, subst, ◌∙◌, true≢false}
use Rattle.std.specs.Prelude.{◌||◌}
use Rattle.std.specs.List.{list_any, list_all}
use Rattle.std.proofs.lemmas.Bool.{and_parts}
use Rattle.std.proofs.lemmas.List.Folds.{list_any-append}
use Rattle.gil_syntax.specs.declared.validity.InvalidKind.{InvalidKind}
use Rattle.gil_syntax.specs.declared.validity.InvalidKind.TheVariants.{Duplicate, BadLabel, NoEnd, UnknownName, Arity, TooMany, Memory}
use Rattle.gil_syntax.specs.Pure.{PureProc, PureSpec, PurePredDef, PureParts}
use Rattle.gil_syntax.specs.Valid.{ProgramItem, a_proc, a_spec, a_pred, items_of, has_bad_label, has_no_end, has_many_commands, has_many_names, has_wide_literal, has_fault, has_fault_if_there, IsValid, IsNamedFault}
use Rattle.gil_syntax.specs.Uncounted.{has_fault_but_length_if_there, IsValidButLength}
use Rattle.source_language.specs.Limits.{is_too_long, first_too_long}
use Rattle.source_language.specs.Valid.{has_source_fault, has_source_fault_if_there, source_fault_at, HasNoSourceFault}
use Rattle.source_language.proofs.Labels.{neither}

-- ---- items

-- what holds of every procedure, and of every specification and predicate, holds of every item
module _ (test : ProgramItem → Bool) (of_spec : (s : PureSpec) → test (a_spec s) ≡ false)
    (of_pred : (d : PurePredDef) → test (a_pred d) ≡ false) where
  none_of_specs : (ss : List PureSpec) → list_any test (map a_spec ss) ≡ false
  none_of_specs [] = refl
  none_of_specs (s ∷ ss) = neither _ _ (of_spec s) (none_of_specs ss)

  none_of_preds : (ds : List PurePredDef) → list_any test (map a_pred ds) ≡ false
  none_of_preds [] = refl
  none_of_preds (d ∷ ds) = neither _ _ (of_pred d) (none_of_preds ds)

  none_of_items : (p : PureParts) → list_any test (map a_proc p.procs) ≡ false → list_any test (items_of p) ≡ false
  none_of_items p of_procs =
      list_any-append test (map a_proc p.procs ++ map a_spec p.specs) (map a_pred p.preds)
      ∙ neither _ _ (list_any-append test (map a_proc p.procs) (map a_spec p.specs) ∙ neither _ _ of_procs (none_of_specs p.specs))
      (none_of_preds p.preds)

either_of : (a b : Bool) → (a || b) ≡ false → (a ≡ false) × (b ≡ false)
either_of true b e = absurd (true≢false e)
either_of false b e = (refl, e)

passes_none : (test : ProgramItem → Bool) (items : List ProgramItem) (i : ℕ) (item : ProgramItem) → list_any test items ≡ false
    → slice_get items i ≡ Some item → test item ≡ false
passes_none test [] i item none is = absurd (true≢false (sym (ap is_some is)))
passes_none test (x ∷ items) zero item none is = let same : x ≡ item = cc in subst (λ y. test y ≡ false) same (either_of _ _ none).0
passes_none test (x ∷ items) (suc i) item none is = passes_none test items i item (either_of (test x) _ none).1 is

-- ---- the procedures of functions

module _ {F : Type 0} (compiled : F → PureProc) where
  -- what no function's procedure has, none of the procedures has
  pub no_function : (test : ProgramItem → Bool) (functions : List F) → ((f : F) → test (a_proc (compiled f)) ≡ false)
      → list_any test (map a_proc (map compiled functions)) ≡ false
  no_function test [] fails = refl
  no_function test (f ∷ fs) fails = neither _ _ (fails f) (no_function test fs fails)

  -- the same of functions that all pass
  pub no_passing_function : (test : ProgramItem → Bool) (passes : F → Bool) (functions : List F) → list_all passes functions ≡ true
      → ((f : F) → passes f ≡ true → test (a_proc (compiled f)) ≡ false) → list_any test (map a_proc (map compiled functions)) ≡ false
  no_passing_function test passes [] pass fails = refl
  no_passing_function test passes (f ∷ fs) pass fails =
      let parts = and_parts (passes f) (list_all passes fs) pass in
      neither _ _ (fails f parts.0) (no_passing_function test passes fs parts.1 fails)

  module _ (begins : F → ℕ) where
    short_choice : (b : Bool) (f : F) (o : Option ℕ) → cond b (Some (begins f)) o ≡ None → (b ≡ false) × (o ≡ None)
    short_choice true f o is = absurd (cc)
    short_choice false f o is = (refl, is)

    pub short_functions : (functions : List F) → first_too_long begins compiled functions ≡ None
        → list_any has_many_commands (map a_proc (map compiled functions)) ≡ false
    short_functions [] short = refl
    short_functions (f ∷ fs) short = let parts = short_choice (is_too_long (compiled f)) f (first_too_long begins compiled fs) short in
        neither _ _ parts.0 (short_functions fs parts.1)

-- ---- faults

-- a program whose labels are within, and whose bodies end
module _ (p : PureParts) (labels : list_any has_bad_label (map a_proc p.procs) ≡ false)
    (endings : list_any has_no_end (map a_proc p.procs) ≡ false) where
  label_within : (i : ℕ) (item : ProgramItem) → slice_get (items_of p) i ≡ Some item → has_bad_label item ≡ false
  label_within i item is = passes_none has_bad_label (items_of p) i item (none_of_items has_bad_label (λ s. refl) (λ d. refl) p labels) is

  body_ends : (i : ℕ) (item : ProgramItem) → slice_get (items_of p) i ≡ Some item → has_no_end item ≡ false
  body_ends i item is = passes_none has_no_end (items_of p) i item (none_of_items has_no_end (λ s. refl) (λ d. refl) p endings) is

  module _ (valid : HasNoSourceFault p) (short : list_any has_many_commands (map a_proc p.procs) ≡ false) where
    no_fault : (kind : InvalidKind) (i : ℕ) (before : List ProgramItem) (item : ProgramItem) → slice_get (items_of p) i ≡ Some item
        → has_source_fault kind p before item ≡ false → has_fault kind p before item ≡ false
    no_fault Duplicate i before item is none = none
    no_fault BadLabel i before item is none = label_within i item is
    no_fault NoEnd i before item is none = body_ends i item is
    no_fault UnknownName i before item is none = none
    no_fault Arity i before item is none = none
    no_fault TooMany i before item is none =
        let few = passes_none has_many_commands (items_of p) i item (none_of_items has_many_commands (λ s. refl) (λ d. refl) p short) is in
        let all = either_of _ (has_wide_literal p item) none in
        let two = either_of _ (has_many_names item) all.0 in
        neither _ _ (neither _ _ two.0 (neither _ _ few two.1)) all.1
    no_fault Memory i before item is none = refl

    not_true : (b : Bool) → (IsTrue b → ⊥) → b ≡ false
    not_true true no_proof = absurd (no_proof refl)
    not_true false no_proof = refl

    no_fault_there : (kind : InvalidKind) (i : ℕ) (o : Option ProgramItem) → slice_get (items_of p) i ≡ o
        → has_source_fault_if_there kind p (take i (items_of p)) o ≡ false → has_fault_if_there kind p (take i (items_of p)) o ≡ false
    no_fault_there kind i None is none = refl
    no_fault_there kind i (Some item) is none = no_fault kind i _ item is none

    pub compiled_is_valid : IsValid p
    compiled_is_valid kind i fault = true≢false (sym fault ∙ no_fault_there kind i (slice_get (items_of p) i) refl
        (not_true (source_fault_at p kind i) (valid kind i)))

    -- so no fault of it is named
    pub none_named : (kind : InvalidKind) (i : ℕ) → IsNamedFault p kind i → ⊥
    none_named kind i named = compiled_is_valid kind i named.at_fault

  -- ---- from the program to the source

  fault_back : (kind : InvalidKind) (before : List ProgramItem) (o : Option ProgramItem) → kind ≢ BadLabel → kind ≢ NoEnd
      → IsTrue (has_fault_but_length_if_there kind p before o) → IsTrue (has_source_fault_if_there kind p before o)
  fault_back kind before None a b h = absurd (cc)
  fault_back Duplicate before (Some item) a b h = h
  fault_back BadLabel before (Some item) a b h = absurd (a refl)
  fault_back NoEnd before (Some item) a b h = absurd (b refl)
  fault_back UnknownName before (Some item) a b h = h
  fault_back Arity before (Some item) a b h = h
  fault_back TooMany before (Some item) a b h = h
  fault_back Memory before (Some item) a b h = absurd (cc)

  labelled : (i : ℕ) (o : Option ProgramItem) → slice_get (items_of p) i ≡ o
      → IsTrue (has_fault_but_length_if_there BadLabel p (take i (items_of p)) o) → ⊥
  labelled i None is h = absurd (cc)
  labelled i (Some item) is h = true≢false (sym h ∙ label_within i item is)

  ended : (i : ℕ) (o : Option ProgramItem) → slice_get (items_of p) i ≡ o
      → IsTrue (has_fault_but_length_if_there NoEnd p (take i (items_of p)) o) → ⊥
  ended i None is h = absurd (cc)
  ended i (Some item) is h = true≢false (sym h ∙ body_ends i item is)

  -- a source without a fault has a program without one, but for the number of commands
  pub program_is_valid : HasNoSourceFault p → IsValidButLength p
  program_is_valid valid Duplicate i h = valid Duplicate i (fault_back Duplicate (take i (items_of p)) (slice_get (items_of p) i) (λ e. cc) (λ e. cc) h)
  program_is_valid valid BadLabel i h = labelled i (slice_get (items_of p) i) refl h
  program_is_valid valid NoEnd i h = ended i (slice_get (items_of p) i) refl h
  program_is_valid valid UnknownName i h = valid UnknownName i (fault_back UnknownName (take i (items_of p)) (slice_get (items_of p) i) (λ e. cc) (λ e. cc) h)
  program_is_valid valid Arity i h = valid Arity i (fault_back Arity (take i (items_of p)) (slice_get (items_of p) i) (λ e. cc) (λ e. cc) h)
  program_is_valid valid TooMany i h = valid TooMany i (fault_back TooMany (take i (items_of p)) (slice_get (items_of p) i) (λ e. cc) (λ e. cc) h)
  program_is_valid valid Memory i h = valid Memory i (fault_back Memory (take i (items_of p)) (slice_get (items_of p) i) (λ e. cc) (λ e. cc) h)

-- a source whose program has no fault but for the number of commands has none
module _ (p : PureParts) where
  fault_there : (kind : InvalidKind) (before : List ProgramItem) (o : Option ProgramItem) → IsTrue (has_source_fault_if_there kind p before o)
      → IsTrue (has_fault_but_length_if_there kind p before o)
  fault_there kind before None h = absurd (cc)
  fault_there Duplicate before (Some item) h = h
  fault_there BadLabel before (Some item) h = absurd (cc)
  fault_there NoEnd before (Some item) h = absurd (cc)
  fault_there UnknownName before (Some item) h = h
  fault_there Arity before (Some item) h = h
  fault_there TooMany before (Some item) h = h
  fault_there Memory before (Some item) h = absurd (cc)

  pub source_is_valid : IsValidButLength p → HasNoSourceFault p
  source_is_valid valid kind i h = valid kind i (fault_there kind (take i (items_of p)) (slice_get (items_of p) i) h)
