-- Which names stand in a precondition, and which names a specification leaves to new symbols.
use Rattle.std.proofs.Common.{◌≡◌, ◌⊎◌, ⊎_elim, inl, inr, ℕ, zero, suc, ◌+◌, ◌-◌, ◌<◌, ◌≤◌, List, [], ◌∷◌, ◌++◌, length, drop, slice_get, Bool, true, false, cond, not, ◌||◌, eqb, Option, Some, IsSome, is_some, append_assoc, length-append, refl, sym, ap, subst, ◌∙◌, true≢false, arith}
use Rattle.std.specs.List.{filter, list_all, list_any}
use Rattle.std.proofs.lemmas.Bool.{eqb-true, and_parts}
use Rattle.std.proofs.lemmas.List.{length-drop}
use Rattle.std.proofs.lemmas.List.Folds.{Any-from_list_any}
use Rattle.std.proofs.lemmas.Option.{slice_get_within}
use Rattle.gil_values.specs.Pure.{PureValue}
use Rattle.gil_syntax.specs.Pure.{PureItem, PureProc}
use Rattle.gil_syntax.specs.Valid.{param_names}
use Rattle.gil_syntax.specs.WellMade.{is_program_name}
use Rattle.mem_model.specs.CoreNames.{core_of}
use Rattle.mem_model.specs.declared.keys.MemoryName.{MemoryName}
use Rattle.mem_model.specs.Heaps.{Heap}
use Rattle.assert_logic.specs.Names.{named_by_items}
use Rattle.assertion_terms.specs.Laws.{AreUsesOver, AreAtomsOver, IsNameIn, IsNameAmong}
use Rattle.assertion_terms.specs.Named.{numbered, numbered_from}
use Rattle.assertion_terms.proofs.Stands.{names_are_of_variables}
use Rattle.inferred_specs.specs.Inferred.{later_names}
use Rattle.pure_terms.specs.declared.variables.Sort.{Sort}
use Rattle.pure_terms.specs.declared.variables.Var.{Var}
use Rattle.pure_terms.specs.Meaning.{IsOver}
use Rattle.pure_terms.specs.Naming.{names_number, names_only_below}
use Rattle.pure_terms.specs.Pure.{PureTerm, term_of, variables}
use Rattle.sym_model.specs.Cores.{TakesBoth}
use Rattle.sym_model.specs.Lists.{Each, OneOf, IsAmong}
use Rattle.sym_model.specs.Terms.{StateTerms, AreEachOver}
use Rattle.sym_model.proofs.Asking.{below_all}
use Rattle.sym_model.proofs.ListLaws.{same_some, not_none, each_to, one_with}
use Rattle.sym_paths.specs.Meaning.{IsOverTable}
use Rattle.sym_paths.specs.Pure.{PurePath}
use Rattle.bi_beginnings.specs.Beginnings.{is_named_by}
use Rattle.bi_specifications.specs.Shape.{early_conds, is_early, early_names, all_names, pre_of, spec_of, numbered_params, MayBeTold}
use Rattle.bi_specifications.specs.Specified.{PureEntry, IsEntryOf}
use Rattle.bi_specifications.proofs.Naming.{same_number, numbered_length, numbered_at, numbered_split, numbered_names, at_left, at_right, at_either, filter_append, none_left, all_left}
use Rattle.bi_specifications.proofs.Once.{each_kept}

-- ---- lists

one_of_two : (a b : Bool) → (a || b) ≡ true → (a ≡ true) ⊎ (b ≡ true)
one_of_two true b is = inl refl
one_of_two false b is = inr is

any_one : {A : Type 0} (f : A → Bool) (P : A → Type 0) (xs : List A) → list_any f xs ≡ true → ((x : A) → f x ≡ true → P x) → OneOf P xs
any_one f P [] any to = absurd (true≢false (sym any))
any_one f P (x ∷ xs) any to = ⊎_elim (λ here. inl (to x here)) (λ later. inr (any_one f P xs later to)) (one_of_two (f x) (list_any f xs) any)

one_any : {A C : Type 0} (P : A → Type 0) (xs : List A) → OneOf P xs → ((x : A) → P x → C) → C
one_any P [] one to = absurd one
one_any P (x ∷ xs) one to = ⊎_elim (λ here. to x here) (λ later. one_any P xs later to) one

pub each_filtered : {A : Type 0} (f : A → Bool) (P Q : A → Type 0) (xs : List A) → Each P xs → ((x : A) → f x ≡ true → P x → Q x) → Each Q (filter f xs)
each_filtered f P Q [] all to = tt
each_filtered f P Q (x ∷ xs) all to = by (f x) refl (each_filtered f P Q xs all.1 to)
  where
    by : (b : Bool) → f x ≡ b → Each Q (filter f xs) → Each Q (cond b (x ∷ filter f xs) (filter f xs))
    by true is later = (to x is all.0, later)
    by false is later = later

pub each_among : {A : Type 0} (P : A → Type 0) (ts xs : List A) → Each P xs → Each (λ t. IsAmong t xs) ts → Each P ts
each_among P [] xs all among = tt
each_among P (t ∷ ts) xs all among =
    (one_with P (λ y. y ≡ t) xs all among.0 (λ y has same. subst P same has), each_among P ts xs all among.1)

-- a term over a longer table that names lower variables alone
pub early_over : (vars more : List Sort) (t : PureTerm) → IsOver (vars ++ more) t → names_only_below (length vars) t ≡ true → IsOver vars t
early_over vars more t over below x has =
    sym (at_left vars more x.number (below_all (length vars) (variables t) x below has)) ∙ over x has

no_hash_named : (xs : List (List ℕ)) (i j : ℕ) → list_all is_program_name xs ≡ true → slice_get xs i ≡ Some (numbered j) → ⊥
no_hash_named [] i j all at = not_none at
no_hash_named (x ∷ xs) zero j all at =
    true≢false (sym (and_parts (is_program_name x) (list_all is_program_name xs) all).0 ∙ ap is_program_name (same_some at))
no_hash_named (x ∷ xs) (suc i) j all at = no_hash_named xs i j (and_parts (is_program_name x) (list_all is_program_name xs) all).1 at

pub is_not : (b : Bool) → ¬ (b ≡ true) → b ≡ false
is_not true isnt = absurd (isnt refl)
is_not false isnt = refl

core_known : {A : Type 0} (o : Option A) (x : A) → o ≡ Some x → IsSome o
core_known o x is = ap is_some is

module _ {S : Type 0} (memory : MemoryName) (stands : S → List PureValue → Heap → Type 0) (terms : S → StateTerms)
    (q : PureProc) (e : PureEntry) (start path : PurePath S) (told : MayBeTold q e path) (entry : IsEntryOf memory stands q.params start e)
    (split : path.vars ≡ start.vars ++ drop e.count path.vars) (path_over : IsOverTable terms path)
    (programs : list_all is_program_name q.params ≡ true) where
  -- ---- numbers

  abbrev pub new_count : ℕ
  new_count = length (drop e.count path.vars)

  abbrev pub out_count : ℕ
  out_count = e.count - length q.params

  pub whole_length : length path.vars ≡ e.count + new_count
  whole_length = ap length split ∙ length-append start.vars (drop e.count path.vars) ∙ ap (λ n. n + new_count) (sym entry.count)

  pub others_are : length path.vars - length q.params ≡ out_count + new_count
  others_are = let whole : length path.vars ≡ e.count + new_count = whole_length in omega (arith, told.params_first, whole)

  pub early_length : length (early_names q e path) ≡ length start.vars
  early_length =
      let outs = numbered_length (length q.params) out_count in
      let joined = length-append q.params (numbered_from (length q.params) out_count) in
      let same : length start.vars ≡ e.count = sym entry.count in
      omega (arith, outs, joined, same, told.params_first)

  pub names_split : all_names q e path ≡ early_names q e path ++ numbered_from e.count new_count
  names_split =
      let from : length q.params + out_count ≡ e.count = omega (arith, told.params_first) in
      ap (λ n. q.params ++ numbered_from (length q.params) n) others_are
      ∙ ap (λ xs. q.params ++ xs) (numbered_split (length q.params) out_count new_count)
      ∙ sym (append_assoc q.params (numbered_from (length q.params) out_count) (numbered_from (length q.params + out_count) new_count))
      ∙ ap (λ n. (q.params ++ numbered_from (length q.params) out_count) ++ numbered_from n new_count) from

  -- ---- over tables

  pub early_uses_over : AreUsesOver start.vars e.uses
  early_uses_over =
      each_to (λ u. TakesBoth memory u.core u.ins u.outs × AreEachOver start.vars (u.ins ++ u.outs)) (λ u. IsSome (core_of u.core) × AreEachOver start.vars (u.ins ++ u.outs)) e.uses
      (λ u is. (core_known (core_of u.core) is.0.core is.0.of_memory.named, is.1)) entry.uses

  pub early_atoms_over : AreAtomsOver start.vars (early_conds e.count path.conds)
  early_atoms_over =
      each_kept (λ a. IsOver start.vars (term_of a)) (filter (is_early e.count) path.conds)
      (each_filtered (is_early e.count) (λ a. IsOver path.vars (term_of a)) (λ a. IsOver start.vars (term_of a)) path.conds path_over.conds
      (λ a below over. early_over start.vars (drop e.count path.vars) (term_of a) (subst (λ vars. IsOver vars (term_of a)) split over)
      (ap (λ n. names_only_below n (term_of a)) (sym entry.count) ∙ below)))

  -- ---- which names stand in the precondition

  number_named : (j : ℕ) → slice_get (early_names q e path) j ≡ Some (numbered j) → (t : PureTerm) → names_number j t ≡ true → IsNameIn (early_names q e path) (numbered j) t
  number_named j at t named =
      let (k, x, below, is, same) = Any-from_list_any (λ (y : Var). eqb j y.number) (variables t) named in
      (x, ((k, below, is), ap (slice_get (early_names q e path)) (sym (eqb-true j x.number same)) ∙ at))

  out_at : (i : ℕ) → i < out_count → slice_get (early_names q e path) (length q.params + i) ≡ Some (numbered (length q.params + i))
  out_at i less = at_right q.params (numbered_from (length q.params) out_count) i ∙ numbered_at (length q.params) out_count i less

  named_among_early : (j : ℕ) → slice_get (early_names q e path) j ≡ Some (numbered j) → is_named_by e.uses j ≡ true
      → IsNameAmong (early_names q e path) (numbered j) e.uses (early_conds e.count path.conds)
  named_among_early j at named =
      inl (any_one (λ u. list_any (names_number j) (u.ins ++ u.outs)) (λ u. OneOf (IsNameIn (early_names q e path) (numbered j)) (u.ins ++ u.outs)) e.uses named
      (λ u any. any_one (names_number j) (IsNameIn (early_names q e path) (numbered j)) (u.ins ++ u.outs) any (number_named j at)))

  stands_iff : (x : List ℕ) → (named_by_items (pre_of q e path) x ≡ true → IsNameAmong (early_names q e path) x e.uses (early_conds e.count path.conds))
      × (IsNameAmong (early_names q e path) x e.uses (early_conds e.count path.conds) → named_by_items (pre_of q e path) x ≡ true)
  stands_iff x = names_are_of_variables start.vars (early_names q e path) e.uses (early_conds e.count path.conds) x early_length early_uses_over early_atoms_over

  pub out_stands : (i : ℕ) → i < out_count → named_by_items (pre_of q e path) (numbered (length q.params + i)) ≡ true
  out_stands i less =
      (stands_iff (numbered (length q.params + i))).1
      (named_among_early (length q.params + i) (out_at i less) (told.outs_named (length q.params + i) (omega arith) (omega (arith, less, told.params_first))))

  -- a name that stands there is one of the beginning
  pub stands_at : (x : List ℕ) → named_by_items (pre_of q e path) x ≡ true → (i : ℕ) × (slice_get (early_names q e path) i ≡ Some x)
  stands_at x named =
      ⊎_elim
      (λ in_uses. one_any (λ u. OneOf (IsNameIn (early_names q e path) x) (u.ins ++ u.outs)) e.uses in_uses
      (λ u one. one_any (IsNameIn (early_names q e path) x) (u.ins ++ u.outs) one (λ t (is : IsNameIn (early_names q e path) x t). (is.0.number, is.1.1))))
      (λ in_conds. one_any (λ a. IsNameIn (early_names q e path) x (term_of a)) (early_conds e.count path.conds) in_conds (λ a (is : IsNameIn (early_names q e path) x (term_of a)). (is.0.number, is.1.1)))
      ((stands_iff x).0 named)

  -- a name of the beginning with a number is that of a variable of the beginning
  pub early_number : (n j : ℕ) → slice_get (early_names q e path) n ≡ Some (numbered j) → (n ≡ j) × (n < e.count)
  early_number n j at =
      let within : n < length (early_names q e path) = slice_get_within (early_names q e path) n (numbered j) at in
      let many : length (early_names q e path) ≡ length start.vars = early_length in
      let count : e.count ≡ length start.vars = entry.count in
      ⊎_elim
      (λ (param : n < length q.params). absurd (no_hash_named q.params n j programs (sym (at_left q.params (numbered_from (length q.params) out_count) n param) ∙ at)))
      (λ (right : (i : ℕ) × (n ≡ length q.params + i)).
      let (i, is) = right in
      let less : i < out_count = omega (arith, is, within, many, count) in
      let there : Some (numbered (length q.params + i)) ≡ Some (numbered j) = sym (ap (slice_get (early_names q e path)) is ∙ out_at i less) ∙ at in
      let same : length q.params + i ≡ j = same_number (length q.params + i) j (same_some there) in
      (omega (arith, is, same), omega (arith, within, many, count)))
      (at_either q.params (numbered_from (length q.params) out_count) n)

  in_term : (j : ℕ) → e.count ≤ j → (t : PureTerm) → IsOver start.vars t → IsNameIn (early_names q e path) (numbered j) t → ⊥
  in_term j late t over (y, (has, at)) =
      let (same, less) = early_number y.number j at in
      absurd (omega (arith, same, less, late))

  in_terms : (j : ℕ) → e.count ≤ j → (ts : List PureTerm) → AreEachOver start.vars ts → OneOf (IsNameIn (early_names q e path) (numbered j)) ts → ⊥
  in_terms j late ts over one = one_with (IsOver start.vars) (IsNameIn (early_names q e path) (numbered j)) ts over one (λ t is named. in_term j late t is named)

  pub new_stands_not : (j : ℕ) → e.count ≤ j → named_by_items (pre_of q e path) (numbered j) ≡ false
  new_stands_not j late = is_not (named_by_items (pre_of q e path) (numbered j)) (λ stands_there.
      ⊎_elim
      (λ in_uses. one_with (λ u. IsSome (core_of u.core) × AreEachOver start.vars (u.ins ++ u.outs)) (λ u. OneOf (IsNameIn (early_names q e path) (numbered j)) (u.ins ++ u.outs)) e.uses early_uses_over in_uses
      (λ u over one. in_terms j late (u.ins ++ u.outs) over.1 one))
      (λ in_conds. one_with (λ a. IsOver start.vars (term_of a)) (λ a. IsNameIn (early_names q e path) (numbered j) (term_of a)) (early_conds e.count path.conds) early_atoms_over in_conds
      (λ a over named. in_term j late (term_of a) over named))
      ((stands_iff (numbered j)).0 stands_there))

  -- ---- the names that are left to new symbols

  not_true : (b : Bool) → b ≡ true → not b ≡ false
  not_true b is = ap not is

  not_false : (b : Bool) → b ≡ false → not b ≡ true
  not_false b is = ap not is

  logical_count : length (drop (length q.params) path.vars) ≡ out_count + new_count
  logical_count = length-drop (length q.params) path.vars ∙ others_are

  pub later_are : (posts errors : List (List PureItem)) → later_names (spec_of q e path posts errors) ≡ numbered_from e.count new_count
  later_are posts errors =
      let leaves : List ℕ → Bool = λ x. not (named_by_items (pre_of q e path) x) in
      let from : length q.params + out_count ≡ e.count = omega (arith, told.params_first) in
      let names : param_names (numbered_params (length q.params) (drop (length q.params) path.vars)) ≡ numbered_from (length q.params) out_count ++ numbered_from e.count new_count =
      numbered_names (length q.params) (drop (length q.params) path.vars) ∙ ap (numbered_from (length q.params)) logical_count ∙ numbered_split (length q.params) out_count new_count
      ∙ ap (λ n. numbered_from (length q.params) out_count ++ numbered_from n new_count) from in
      ap (filter leaves) names ∙ filter_append leaves (numbered_from (length q.params) out_count) (numbered_from e.count new_count)
      ∙ ap (λ xs. xs ++ filter leaves (numbered_from e.count new_count)) (none_left leaves (length q.params) out_count (λ i less. not_true (named_by_items (pre_of q e path) (numbered (length q.params + i))) (out_stands i less)))
      ∙ all_left leaves e.count new_count (λ i less. not_false (named_by_items (pre_of q e path) (numbered (e.count + i))) (new_stands_not (e.count + i) (omega arith)))
