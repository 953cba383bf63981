-- Where a run of a path's specification starts, its arguments and variables are values of the table of the beginning, which meet what is
-- said there.
use Rattle.std.proofs.Common.{◌≡◌, ◌⊎◌, ⊎_elim, inl, inr, ℕ, zero, suc, ◌+◌, ◌-◌, ◌<◌, ◌≤◌, List, [], ◌∷◌, ◌++◌, length, drop, slice_get, Bool, true, false, not, ◌||◌, Option, Some, None, is_some, IsSome, refl, sym, ap, subst, ◌∙◌, true≢false, arith}
use Rattle.std.specs.FinMap.{empty}
use Rattle.std.specs.List.{list_all}
use Rattle.std.specs.Str.{bytes_eq}
use Rattle.std.proofs.lemmas.Bool.{and_parts, cases_lt}
use Rattle.std.proofs.lemmas.List.{length-map}
use Rattle.std.proofs.lemmas.List.Folds.{list_all-append}
use Rattle.std.proofs.lemmas.Option.{slice_get_within}
use Rattle.std.proofs.lemmas.Slice.Eq.{bytes_eq-Decides}
use Rattle.gil_values.specs.Pure.{PureValue, integer, boolean, text, symbol, kind, procedure, list}
use Rattle.gil_values.specs.Symbols.{IsBelow, AreBelow}
use Rattle.gil_syntax.specs.declared.assertions.SpecSort.{SpecSort}
use Rattle.gil_syntax.specs.Evaluation.{Store, value_of, Agrees}
use Rattle.gil_syntax.specs.Pure.{PureItem, PureProc, PureSpec, PureParts}
use Rattle.gil_syntax.specs.Valid.{param_names, has_twice}
use Rattle.gil_syntax.specs.WellMade.{is_program_name}
use Rattle.gil_machine.specs.Step.{bind_all}
use Rattle.mem_model.specs.declared.keys.MemoryName.{MemoryName}
use Rattle.mem_model.specs.Actions.{Actions}
use Rattle.mem_model.specs.Heaps.{Heap}
use Rattle.assert_logic.specs.LogicStates.{nothing}
use Rattle.assert_logic.specs.Names.{named_by_items}
use Rattle.assert_logic.specs.Sorts.{has_sort, fits_sorts}
use Rattle.assert_logic.proofs.AddingLaws.{adding_is_complete}
use Rattle.assert_logic.proofs.UnionLaws.{union_with_none, union_after_none}
use Rattle.checked_runs.specs.Specifications.{entry_store}
use Rattle.checked_runs.proofs.Stores.{first_value, either_value, bound_at, args_agree, fit_length, all_at}
use Rattle.inferred_specs.specs.Inferred.{StartsAlone}
use Rattle.fresh_atoms.specs.Laws.{is_any_or_list}
use Rattle.pure_terms.specs.declared.variables.Sort.{Sort}
use Rattle.pure_terms.specs.Kinds.{has_sort as is_of_sort}
use Rattle.pure_terms.specs.Meaning.{all_true, IsProper, IsOver}
use Rattle.pure_terms.specs.Pure.{PureAtom, term_of}
use Rattle.sym_evaluation.specs.Meaning.{HaveValues}
use Rattle.sym_model.specs.Listing.{AreUnion}
use Rattle.sym_model.specs.Terms.{StateTerms}
use Rattle.sym_model.proofs.ListLaws.{same_some, not_none, each_to, each_by_place}
use Rattle.sym_states.proofs.AddedNames.{added_known}
use Rattle.sym_paths.specs.Meaning.{IsOverTable}
use Rattle.sym_paths.specs.Pure.{PurePath}
use Rattle.assertion_terms.specs.Laws.{NamesValues}
use Rattle.assertion_terms.specs.Named.{numbered, numbered_from}
use Rattle.assertion_terms.proofs.Evaluated.{there_is}
use Rattle.assertion_terms.proofs.Forms.{named_forms_are_right}
use Rattle.bi_beginnings.specs.Beginnings.{any_for_each, variables_from, IsOpening}
use Rattle.bi_specifications.specs.Shape.{name_sort, numbered_params, is_early, early_conds, early_names, pre_of, spec_of, MayBeTold}
use Rattle.bi_specifications.specs.Specified.{PureEntry, IsEntryOf}
use Rattle.bi_specifications.proofs.Naming.{any_names, numbered_at, at_left, at_right}
use Rattle.bi_specifications.proofs.Valuing.{all_below, each_below, over_is_early, first_true, have_from}
use Rattle.bi_specifications.proofs.Words.{early_length, early_uses_over, early_atoms_over, out_stands}

-- ---- lists

there : {X : Type 0} (o : Option X) → IsSome o → (x : X) × (o ≡ Some x)
there (Some x) is = (x, refl)
there None is = absurd (true≢false (sym is))

past_drop : {X : Type 0} (n : ℕ) (xs : List X) (i : ℕ) → slice_get (drop n xs) i ≡ slice_get xs (n + i)
past_drop zero xs i = let same : i ≡ zero + i = omega arith in ap (slice_get xs) same
past_drop (suc n) [] i = refl
past_drop (suc n) (x ∷ xs) i = let same : suc (n + i) ≡ suc n + i = omega arith in past_drop n xs i ∙ ap (slice_get (x ∷ xs)) same

-- ---- names

param_at : (n : ℕ) (sorts : List Sort) (i : ℕ) (s : Sort) → slice_get sorts i ≡ Some s → slice_get (numbered_params n sorts) i ≡ Some (record { name = numbered (n + i); sort = name_sort s })
param_at n [] i s at = not_none at
param_at n (t ∷ sorts) zero s at =
    let e : n ≡ n + 0 = omega arith in
    λ j. Some (record { name = numbered (e j); sort = name_sort (same_some at j) })
param_at n (t ∷ sorts) (suc i) s at =
    let e : suc n + i ≡ n + suc i = omega arith in
    param_at (suc n) sorts i s at ∙ ap (λ k. Some (record { name = numbered k; sort = name_sort s })) e

-- the values that a store has for names
values_at : (t : Store) (xs : List (List ℕ)) → ((i : ℕ) (x : List ℕ) → slice_get xs i ≡ Some x → IsSome (value_of t x)) → (vs : List PureValue) × ((length vs ≡ length xs) × Agrees t xs vs)
values_at t [] known = ([], (refl, λ i x v name at. not_none name))
values_at t (x ∷ xs) known =
    let (w, is) = there (value_of t x) (known 0 x refl) in
    let (ws, (as_many, agree)) = values_at t xs (λ i y at. known (suc i) y at) in
    (w ∷ ws, (ap suc as_many, more w ws is agree))
  where
    more : (w : PureValue) (ws : List PureValue) → value_of t x ≡ Some w → Agrees t xs ws → Agrees t (x ∷ xs) (w ∷ ws)
    more w ws is agree zero y v name at = ap (value_of t) (sym (same_some name)) ∙ is ∙ at
    more w ws is agree (suc i) y v name at = agree i y v name at

-- ---- sorts

any_at : (params : List (List ℕ)) (i : ℕ) (s : Sort) → slice_get (any_for_each params) i ≡ Some s → s ≡ Sort.Any
any_at [] i s at = not_none at
any_at (x ∷ params) zero s at = sym (same_some at)
any_at (x ∷ params) (suc i) s at = any_at params i s at

any_or_list : (s : Sort) → is_any_or_list s ≡ true → (s ≡ Sort.Any) ⊎ (s ≡ Sort.List)
any_or_list Sort.Any is = inl refl
any_or_list Sort.List is = inr refl
any_or_list Sort.Int is = absurd (true≢false (sym is))
any_or_list Sort.Bool is = absurd (true≢false (sym is))
any_or_list Sort.Str is = absurd (true≢false (sym is))
any_or_list Sort.Sym is = absurd (true≢false (sym is))
any_or_list Sort.Fresh is = absurd (true≢false (sym is))

-- a variable of an entry's table is of sort any, or of sort list and no parameter
entry_sort : (params : List (List ℕ)) (others : List Sort) (i : ℕ) (s : Sort) → list_all is_any_or_list others ≡ true → slice_get (any_for_each params ++ others) i ≡ Some s → (s ≡ Sort.Any) ⊎ ((s ≡ Sort.List) × (length params ≤ i))
entry_sort [] others i s all at = ⊎_elim inl (λ is. inr (is, omega arith)) (any_or_list s (all_at is_any_or_list others i s at all))
entry_sort (x ∷ params) others zero s all at = inl (sym (same_some at))
entry_sort (x ∷ params) others (suc i) s all at =
    ⊎_elim inl (λ (is : (s ≡ Sort.List) × (length params ≤ i)). let past = is.1 in inr (is.0, omega (arith, past))) (entry_sort params others i s all at)

pub entry_given : (params : List (List ℕ)) (others : List Sort) → list_all is_any_or_list others ≡ true → list_all is_any_or_list (any_for_each params ++ others) ≡ true
entry_given [] others all = all
entry_given (x ∷ params) others all = entry_given params others all

list_sort : (w : PureValue) → has_sort SpecSort.List w ≡ true → is_of_sort Sort.List w ≡ true
list_sort (list vs) is = refl
list_sort (integer n) is = absurd (true≢false (sym is))
list_sort (boolean b) is = absurd (true≢false (sym is))
list_sort (text cs) is = absurd (true≢false (sym is))
list_sort (symbol n) is = absurd (true≢false (sym is))
list_sort (kind k) is = absurd (true≢false (sym is))
list_sort (procedure name) is = absurd (true≢false (sym is))

true_of : (b c : Bool) → b ≡ true → (not b || c) ≡ true → c ≡ true
true_of true c is holds = holds
true_of false c is holds = absurd (true≢false (sym is))

-- ---- starts

module _ {S : Type 0} (p : PureParts) (memory : MemoryName) (m : Actions) (stands : S → List PureValue → Heap → Type 0) (terms : S → StateTerms) (kept : S → Type 0) (q : PureProc)
    (e : PureEntry) (start path : PurePath S) (told : MayBeTold q e path) (opening : IsOpening stands terms kept q start) (entry : IsEntryOf memory stands q.params start e)
    (split : path.vars ≡ start.vars ++ drop e.count path.vars) (path_over : IsOverTable terms path) (programs : list_all is_program_name q.params ≡ true) (once : has_twice q.params ≡ false)
    (later : List PureAtom) (conds_split : path.conds ≡ start.conds ++ later) (posts errors : List (List PureItem)) where
  abbrev s : PureSpec
  s = spec_of q e path posts errors

  abbrev early : List PureAtom
  early = early_conds e.count path.conds

  abbrev names : List (List ℕ)
  names = early_names q e path

  names_each : length names ≡ length start.vars
  names_each = early_length memory stands terms q e start path told entry split path_over programs

  param_name : (i : ℕ) (x : List ℕ) → slice_get q.params i ≡ Some x → slice_get names i ≡ Some x
  param_name i x at = at_left q.params (numbered_from (length q.params) (e.count - length q.params)) i (slice_get_within q.params i x at) ∙ at

  other_name : (i : ℕ) → length q.params ≤ i → i < e.count → slice_get names i ≡ Some (numbered i)
  other_name i past within =
      let k : ℕ = i - length q.params in
      let is : length q.params + k ≡ i = omega (arith, past) in
      let less : k < e.count - length q.params = omega (arith, past, within) in
      ap (slice_get names) (sym is) ∙ at_right q.params (numbered_from (length q.params) (e.count - length q.params)) k ∙ numbered_at (length q.params) (e.count - length q.params) k less ∙ ap (λ n. Some (numbered n)) is

  -- each name behind the parameters stands in the precondition
  other_named : (i : ℕ) (x : List ℕ) → slice_get names i ≡ Some x → length q.params ≤ i → i < e.count → named_by_items (pre_of q e path) x ≡ true
  other_named i x name past within =
      let k : ℕ = i - length q.params in
      let is : length q.params + k ≡ i = omega (arith, past) in
      let same : numbered (length q.params + k) ≡ x = ap numbered is ∙ same_some (sym (other_name i past within) ∙ name) in
      subst (λ y. named_by_items (pre_of q e path) y ≡ true) same (out_stands memory stands terms q e start path told entry split path_over programs k (omega (arith, past, within)))

  module _ (args : List PureValue) (variables : Store) (own : Heap) (counter : ℕ) (starts : StartsAlone p memory m s args variables own counter) where
    abbrev store : Store
    store = entry_store s args variables

    as_many : length q.params ≡ length args
    as_many = sym (ap length (any_names q.params)) ∙ fit_length s.params args starts.entered.arguments_fit

    argument_is : (i : ℕ) (x : List ℕ) (w : PureValue) → slice_get q.params i ≡ Some x → slice_get args i ≡ Some w → value_of store x ≡ Some w
    argument_is i x w name at =
        first_value (bind_all (param_names s.params) args) variables x w
        (subst (λ xs. value_of (bind_all xs args) x ≡ Some w) (sym (any_names q.params)) (args_agree q.params args once i x w name at))

    known : (i : ℕ) (x : List ℕ) → slice_get names i ≡ Some x → IsSome (value_of store x)
    known i x name = ⊎_elim (λ within. of_param within) (λ past. of_other past) (cases_lt i (length q.params))
      where
        of_param : i < length q.params → IsSome (value_of store x)
        of_param within =
            let (y, at) = there_is q.params i within in
            let (w, value) = there_is args i (let len : length q.params ≡ length args = as_many in omega (arith, within, len)) in
            let same : y ≡ x = same_some (sym (param_name i y at) ∙ name) in
            ap is_some (ap (value_of store) (sym same) ∙ argument_is i y w at value)

        of_other : length q.params ≤ i → IsSome (value_of store x)
        of_other past =
            let inside : i < length names = slice_get_within names i x name in
            let long : length names ≡ length start.vars = names_each in
            let many : e.count ≡ length start.vars = entry.count in
            let added = adding_is_complete p.preds store (pre_of q e path) nothing empty own own (record { own = empty; union = union_with_none empty; facts = refl }) (union_after_none own) starts.meets in
            added_known store (pre_of q e path) nothing added.0 added.1.0 x (other_named i x name past (omega (arith, inside, long, many)))

    found_values : (vs : List PureValue) × ((length vs ≡ length names) × Agrees store names vs)
    found_values = values_at store names known

    abbrev v : List PureValue
    v = found_values.0

    one_each : length v ≡ length start.vars
    one_each = found_values.1.0 ∙ names_each

    is_named : NamesValues start.vars names v store
    is_named = record { names_each = names_each; values_each = one_each; agrees = found_values.1.1 }

    -- the arguments come first
    argument_first : (i : ℕ) (w : PureValue) → slice_get args i ≡ Some w → slice_get v (0 + i) ≡ Some w
    argument_first i w at =
        let within : i < length args = slice_get_within args i w at in
        let many : length q.params ≡ length args = as_many in
        let (x, name) = there_is q.params i (omega (arith, within, many)) in
        let among : i < length names = slice_get_within names i x (param_name i x name) in
        let long : length v ≡ length names = found_values.1.0 in
        let (u, value) = there_is v i (omega (arith, among, long)) in
        let same : u ≡ w = same_some (sym (found_values.1.1 i x u (param_name i x name) value) ∙ argument_is i x w name at) in
        let here : 0 + i ≡ i = omega arith in
        ap (slice_get v) here ∙ value ∙ ap Some same

    have : HaveValues v (variables_from 0 (any_for_each q.params)) args
    have = have_from v args 0 (any_for_each q.params) (sym as_many ∙ sym (length-map q.params (λ x. Sort.Any))) argument_first

    -- ---- sorts

    in_entry : (i : ℕ) (sort : Sort) → slice_get start.vars i ≡ Some sort → (sort ≡ Sort.Any) ⊎ ((sort ≡ Sort.List) × (length q.params ≤ i))
    in_entry i sort at = entry_sort q.params opening.table.others i sort opening.table.sorts (ap (λ vars. slice_get vars i) (sym opening.table.table) ∙ at)

    -- the value of a name behind the parameters is that of a variable
    no_param : (i : ℕ) (w : PureValue) → value_of store (numbered i) ≡ Some w → value_of variables (numbered i) ≡ Some w
    no_param i w is =
        ⊎_elim
        (λ first. let (j, (name, at)) = bound_at (param_names s.params) args (numbered i) w first in
        absurd (true≢false (sym (all_at is_program_name q.params j (numbered i) (subst (λ xs. slice_get xs j ≡ Some (numbered i)) (any_names q.params) name) programs))))
        (λ later. later.1) (either_value (bind_all (param_names s.params) args) variables (numbered i) w is)

    list_there : (i : ℕ) (w : PureValue) → length q.params ≤ i → slice_get start.vars i ≡ Some Sort.List → value_of store (numbered i) ≡ Some w → is_of_sort Sort.List w ≡ true
    list_there i w past at is =
        let k : ℕ = i - length q.params in
        let same : length q.params + k ≡ i = omega (arith, past) in
        let in_path : slice_get path.vars i ≡ Some Sort.List = ap (λ vars. slice_get vars i) split ∙ at_left start.vars (drop e.count path.vars) i (slice_get_within start.vars i Sort.List at) ∙ at in
        let dropped : slice_get (drop (length q.params) path.vars) k ≡ Some Sort.List = past_drop (length q.params) path.vars k ∙ ap (slice_get path.vars) same ∙ in_path in
        let declared = param_at (length q.params) (drop (length q.params) path.vars) k Sort.List dropped ∙ ap (λ n. Some (record { name = numbered n; sort = SpecSort.List })) same in
        let fits = starts.entered.sorts (numbered i) w (no_param i w is) in
        let logical = (and_parts (fits_sorts s.params (numbered i) w) (fits_sorts s.logicals (numbered i) w) (sym (list_all-append (λ q. not (bytes_eq q.name (numbered i)) || has_sort q.sort w) s.params s.logicals) ∙ fits)).1 in
        let here = all_at (λ q. not (bytes_eq q.name (numbered i)) || has_sort q.sort w) s.logicals k (record { name = numbered i; sort = SpecSort.List }) declared logical in
        list_sort w (true_of (bytes_eq (numbered i) (numbered i)) (has_sort SpecSort.List w) ((bytes_eq-Decides (numbered i) (numbered i)).1 refl) here)

    sorted : (i : ℕ) (sort : Sort) (w : PureValue) → slice_get start.vars i ≡ Some sort → slice_get v i ≡ Some w → is_of_sort sort w ≡ true
    sorted i sort w in_table at =
        ⊎_elim (λ any. subst (λ x. is_of_sort x w ≡ true) (sym any) refl)
        (λ (is : (sort ≡ Sort.List) × (length q.params ≤ i)).
        let within : i < length start.vars = slice_get_within start.vars i sort in_table in
        let many : e.count ≡ length start.vars = entry.count in
        let value = found_values.1.1 i (numbered i) w (other_name i is.1 (omega (arith, within, many))) at in
        subst (λ x. is_of_sort x w ≡ true) (sym is.0) (list_there i w is.1 (in_table ∙ ap Some is.0) value))
        (in_entry i sort in_table)

    never_fresh : {P : Type 0} (i : ℕ) → slice_get start.vars i ≡ Some Sort.Fresh → P
    never_fresh i at = ⊎_elim (λ any. absurd (cc)) (λ is. let no : Sort.Fresh ≡ Sort.List = is.0 in absurd (cc)) (in_entry i Sort.Fresh at)

    proper : IsProper start.vars v
    proper = record { one_each = one_each; sorts = sorted; fresh = λ x y n w in_table at less at_y. never_fresh x in_table }

    -- ---- symbols

    below : AreBelow counter v
    below = all_below counter v (each_by_place (IsBelow counter) v one_below)
      where
        one_below : (i : ℕ) (w : PureValue) → slice_get v i ≡ Some w → IsBelow counter w
        one_below i w at =
            let within : i < length v = slice_get_within v i w at in
            let long : length v ≡ length names = found_values.1.0 in
            let (x, name) = there_is names i (omega (arith, within, long)) in
            ⊎_elim (λ first. let (j, (param, value)) = bound_at (param_names s.params) args x w first in each_below counter args j w starts.proper.arguments_below value) (λ later. starts.variables_below x w later.1)
            (either_value (bind_all (param_names s.params) args) variables x w (found_values.1.1 i x w name at))

    -- ---- what is met

    is_met : AreUnion v e.uses own × (all_true v early ≡ true)
    is_met = ((named_forms_are_right start.vars names v store is_named).meets p.preds e.uses early own
        (early_uses_over memory stands terms q e start path told entry split path_over programs) (early_atoms_over memory stands terms q e start path told entry split path_over programs)).0 starts.meets

    early_true : all_true v (early_conds (length start.vars) path.conds) ≡ true
    early_true = subst (λ k. all_true v (early_conds k path.conds) ≡ true) entry.count is_met.1

    start_true : all_true v start.conds ≡ true
    start_true =
        first_true (length start.vars) v start.conds later (each_to (λ a. IsOver start.vars (term_of a)) (λ a. is_early (length start.vars) a ≡ true) start.conds (λ a. over_is_early start.vars a) opening.over.conds)
        (subst (λ conds. all_true v (early_conds (length start.vars) conds) ≡ true) conds_split early_true)

    own_is : stands start.memory v own
    own_is = entry.back v own (record { proper = proper; true_there = start_true }) is_met.0

    -- what is known of a start
    pub record Entered : Type 0 where
      pub values : List PureValue
      pub named : NamesValues start.vars (early_names q e path) values (entry_store s args variables)
      pub proper : IsProper start.vars values
      pub below : AreBelow counter values
      pub have : HaveValues values (variables_from 0 (any_for_each q.params)) args
      pub own_is : stands start.memory values own
      pub early_true : all_true values (early_conds (length start.vars) path.conds) ≡ true
      pub start_true : all_true values start.conds ≡ true

    pub entered : Entered
    entered = record { values = v; named = is_named; proper = proper; below = below; have = have; own_is = own_is; early_true = early_true; start_true = start_true }
