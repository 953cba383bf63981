-- What a run leaves that goes along a path meets the postcondition, and nothing else does.
use Rattle.std.proofs.Common.{◌≡◌, ◌⊎◌, ⊎_elim, inl, inr, ℕ, zero, suc, ◌+◌, ◌-◌, ◌<◌, List, [], ◌∷◌, ◌++◌, length, drop, slice_get, Bool, true, false, cond, not, ◌&&◌, ◌||◌, if◌then◌else◌, Some, length-append, refl, sym, ap, subst, ◌∙◌, true≢false, arith}
use Rattle.std.specs.FinMap.{empty}
use Rattle.std.specs.List.{list_all, filter}
use Rattle.std.specs.Option.{option_and_then}
use Rattle.std.specs.Result.{result_ok}
use Rattle.std.specs.Str.{bytes_eq}
use Rattle.std.proofs.lemmas.Bool.{and_parts}
use Rattle.std.proofs.lemmas.Option.{slice_get_within}
use Rattle.std.proofs.lemmas.List.Elements.{Contains-append_cases, Contains-append_left, Contains-push_cases}
use Rattle.std.proofs.lemmas.Slice.Eq.{bytes_eq-Decides}
use Rattle.gil_values.specs.declared.operators.BinOp.TheVariants.{Equal}
use Rattle.gil_values.specs.Equality.{same_value}
use Rattle.gil_values.specs.EqualityLaws.{same_value-refl, same_value-same}
use Rattle.gil_values.specs.Operators.{binary}
use Rattle.gil_values.specs.Pure.{PureValue, symbol}
use Rattle.gil_values.proofs.OperatorSymbols.{none_contained}
use Rattle.gil_syntax.specs.Evaluation.{Store, value_of}
use Rattle.gil_syntax.specs.Pure.{PureItem, PureProc, PurePredDef, PureParts}
use Rattle.gil_syntax.specs.Valid.{is_among}
use Rattle.gil_syntax.specs.WellMade.{is_program_name}
use Rattle.mem_model.specs.declared.keys.MemoryName.{MemoryName}
use Rattle.mem_model.specs.Actions.{Actions}
use Rattle.mem_model.specs.Heaps.{Heap}
use Rattle.assert_logic.specs.Meets.{Meets, HoldsSomewhere}
use Rattle.assert_logic.specs.Unions.{IsUnion}
use Rattle.assert_logic.proofs.UnionLaws.{union_after_none, only_second}
use Rattle.assertion_terms.specs.Laws.{NamesValues, AreUsesOver, AreAtomsOver}
use Rattle.assertion_terms.specs.Named.{numbered, numbered_from}
use Rattle.assertion_terms.proofs.Forms.{named_forms_are_right}
use Rattle.checked_runs.specs.Specifications.{entry_store, result_name}
use Rattle.checked_runs.proofs.Stores.{first_value, second_value}
use Rattle.inferred_specs.specs.Inferred.{new_symbols, later_names, exact_store}
use Rattle.pure_terms.specs.declared.variables.Sort.{Sort}
use Rattle.pure_terms.specs.declared.variables.Var.{Var}
use Rattle.pure_terms.specs.Fragment.{is_variable_of}
use Rattle.pure_terms.specs.Laws.{AgreeOn}
use Rattle.pure_terms.specs.Meaning.{value, all_true, truth, is_that_boolean, IsOver}
use Rattle.pure_terms.specs.Pure.{PureTerm, variable, PureAtom, term_of, variables}
use Rattle.pure_terms.proofs.VariableLaws.{stay_when_tables_grow}
use Rattle.sym_model.specs.Laws.{IsMeaning}
use Rattle.sym_model.specs.Listing.{AreUnion, IsListing}
use Rattle.sym_model.specs.Lists.{Each, IsAmong}
use Rattle.sym_model.specs.Pure.{PureUse}
use Rattle.sym_model.specs.Terms.{StateTerms, all_of, AreEachOver}
use Rattle.sym_model.proofs.ListLaws.{same_some, not_none, each_to}
use Rattle.sym_paths.specs.Meaning.{IsOverTable}
use Rattle.sym_paths.specs.Pure.{PureEnd, PurePath}
use Rattle.sym_paths.proofs.Growing.{all_true-more}
use Rattle.bi_beginnings.proofs.Unions.{one_heap}
use Rattle.bi_specifications.specs.Shape.{late_conds, is_early, early_names, all_names, result_atom, told_atom, ending_of, post_of, spec_of, MayBeTold}
use Rattle.bi_specifications.specs.Specified.{PureEntry, IsEntryOf}
use Rattle.bi_specifications.proofs.Naming.{numbered_length, numbered_at, at_left, at_right, at_either, symbols_at, symbol_there, no_symbol}
use Rattle.bi_specifications.proofs.Once.{each_kept, kept_true}
use Rattle.bi_specifications.proofs.RunsAlong.{symbols_from, RunsAlong}
use Rattle.bi_specifications.proofs.Unions.{union_uses}
use Rattle.bi_specifications.proofs.Words.{early_length, names_split, whole_length, early_number, later_are, is_not, each_among, each_filtered}

one_of_two : (a b : Bool) → (a || b) ≡ true → (a ≡ true) ⊎ (b ≡ true)
one_of_two true b is = inl refl
one_of_two false b is = inr is

none_of_two : (a b : Bool) → (a || b) ≡ false → (a ≡ false) × (b ≡ false)
none_of_two true b is = absurd (true≢false is)
none_of_two false b is = (refl, is)

-- a name among others that aren't numbered so
numbered_among : (n count : ℕ) (x : List ℕ) → is_among (numbered_from n count) x ≡ true → (j : ℕ) × ((j < count) × (x ≡ numbered (n + j)))
numbered_among n zero x among = absurd (true≢false (sym among))
numbered_among n (suc count) x among =
    ⊎_elim
    (λ here. (zero, (omega arith, (bytes_eq-Decides x (numbered n)).0 here ∙ ap numbered (omega arith))))
    (λ later. let (j, (less, is)) = numbered_among (suc n) count x later in let next : suc n + j ≡ n + suc j = omega arith in (suc j, (omega (arith, less), is ∙ ap numbered next)))
    (one_of_two (bytes_eq x (numbered n)) (is_among (numbered_from (suc n) count) x) among)

lacks_at : (x : List ℕ) (xs : List (List ℕ)) (i : ℕ) (y : List ℕ) → is_among xs x ≡ false → slice_get xs i ≡ Some y → bytes_eq x y ≡ false
lacks_at x [] i y lacks at = not_none at
lacks_at x (z ∷ xs) zero y lacks at = subst (λ n. bytes_eq x n ≡ false) (same_some at) (none_of_two (bytes_eq x z) (is_among xs x) lacks).0
lacks_at x (z ∷ xs) (suc i) y lacks at = lacks_at x xs i y (none_of_two (bytes_eq x z) (is_among xs x) lacks).1 at

no_number : (n : ℕ) → bytes_eq result_name (numbered n) ≡ false
no_number n = refl

choose_false : {A : Type 0} (b : Bool) (x y : A) → b ≡ false → (if b then x else y) ≡ y
choose_false true x y is = absurd (true≢false is)
choose_false false x y is = refl

only_one : {A : Type 0} (x y : A) (j : ℕ) → slice_get (x ∷ []) j ≡ Some y → (j ≡ zero) × (x ≡ y)
only_one x y zero at = (refl, same_some at)
only_one x y (suc j) at = not_none at

-- those of true atoms that pass a test are true
pub all_filtered : (v : List PureValue) (f : PureAtom → Bool) (conds : List PureAtom) → all_true v conds ≡ true → all_true v (filter f conds) ≡ true
all_filtered v f [] all = refl
all_filtered v f (a ∷ conds) all =
    let (here, there) = and_parts (truth v a) (all_true v conds) all in
    by (f a) here (all_filtered v f conds there)
  where
    by : (b : Bool) → truth v a ≡ true → all_true v (filter f conds) ≡ true → all_true v (cond b (a ∷ filter f conds) (filter f conds)) ≡ true
    by true here later = ap (λ c. c && all_true v (filter f conds)) here ∙ later
    by false here later = later

module _ {S : Type 0} (p : PureParts) (memory : MemoryName) (m : Actions) (stands : S → List PureValue → Heap → Type 0) (terms : S → StateTerms) (kept : S → Type 0)
    (meaning : IsMeaning memory stands terms) (q : PureProc) (e : PureEntry) (start path : PurePath S) (how : PureEnd) (n : ℕ) (posts errors : List (List PureItem))
    (told : MayBeTold q e path) (entry : IsEntryOf memory stands q.params start e)
    (split : path.vars ≡ start.vars ++ drop e.count path.vars) (path_over : IsOverTable terms path) (programs : list_all is_program_name q.params ≡ true)
    (args : List PureValue) (variables_given : Store) (own : Heap) (counter : ℕ) (along : RunsAlong p memory m stands q e start path how n posts errors args variables_given own counter) where
  abbrev pub fresh : ℕ
  fresh = length (drop e.count path.vars)

  abbrev pub whole : List PureValue
  whole = along.early ++ symbols_from counter fresh

  abbrev pub after_entry : Store
  after_entry = new_symbols counter (later_names (spec_of q e path posts errors)) ++ entry_store (spec_of q e path posts errors) args variables_given

  early_count : length along.early ≡ e.count
  early_count = along.named.values_each ∙ sym entry.count

  names_count : length (early_names q e path) ≡ e.count
  names_count = early_length memory stands terms q e start path told entry split path_over programs ∙ sym entry.count

  names_are : all_names q e path ≡ early_names q e path ++ numbered_from e.count fresh
  names_are = names_split memory stands terms q e start path told entry split path_over programs

  later : later_names (spec_of q e path posts errors) ≡ numbered_from e.count fresh
  later = later_are memory stands terms q e start path told entry split path_over programs posts errors

  pub all_count : length path.vars ≡ e.count + fresh
  all_count = whole_length memory stands terms q e start path told entry split path_over programs

  pub all_names_count : length (all_names q e path) ≡ length path.vars
  all_names_count =
      let joined = length-append (early_names q e path) (numbered_from e.count fresh) in
      let numbers = numbered_length e.count fresh in
      let is = ap length names_are in
      let early : length (early_names q e path) ≡ e.count = names_count in
      let all : length path.vars ≡ e.count + fresh = all_count in
      omega (arith, joined, numbers, is, early, all)

  pub whole_count : length whole ≡ length path.vars
  whole_count = along.proper.one_each

  -- ---- the values of names

  early_not_later : (i : ℕ) (x : List ℕ) → i < e.count → slice_get (early_names q e path) i ≡ Some x → is_among (numbered_from e.count fresh) x ≡ false
  early_not_later i x less at = is_not (is_among (numbered_from e.count fresh) x) (λ among.
      let (j, (within, is)) = numbered_among e.count fresh x among in
      let (same, below) = early_number memory stands terms q e start path told entry split path_over programs i (e.count + j) (at ∙ ap Some is) in
      absurd (omega (arith, same, less)))

  early_value : (i : ℕ) (x : List ℕ) (w : PureValue) → i < e.count → slice_get (early_names q e path) i ≡ Some x → slice_get along.early i ≡ Some w → value_of after_entry x ≡ Some w
  early_value i x w less at_x at_w =
      second_value (new_symbols counter (later_names (spec_of q e path posts errors))) (entry_store (spec_of q e path posts errors) args variables_given) x
      (no_symbol counter (later_names (spec_of q e path posts errors)) x (ap (λ xs. is_among xs x) later ∙ early_not_later i x less at_x))
      ∙ along.named.agrees i x w at_x at_w

  new_value : (j : ℕ) (x : List ℕ) (w : PureValue) → slice_get (numbered_from e.count fresh) j ≡ Some x → slice_get (symbols_from counter fresh) j ≡ Some w → value_of after_entry x ≡ Some w
  new_value j x w at_x at_w =
      let within : j < length (numbered_from e.count fresh) = slice_get_within (numbered_from e.count fresh) j x at_x in
      let many : length (numbered_from e.count fresh) ≡ fresh = numbered_length e.count fresh in
      let less : j < fresh = omega (arith, within, many) in
      let x_is : numbered (e.count + j) ≡ x = same_some (sym (numbered_at e.count fresh j less) ∙ at_x) in
      let w_is : symbol (counter + j) ≡ w = same_some (sym (symbols_at counter fresh j less) ∙ at_w) in
      first_value (new_symbols counter (later_names (spec_of q e path posts errors))) (entry_store (spec_of q e path posts errors) args variables_given) x w
      (ap (λ xs. value_of (new_symbols counter xs) x) later ∙ ap (value_of (new_symbols counter (numbered_from e.count fresh))) (sym x_is) ∙ symbol_there counter e.count fresh j less ∙ ap Some w_is)

  pub value_there : (i : ℕ) (x : List ℕ) (w : PureValue) → slice_get (all_names q e path) i ≡ Some x → slice_get whole i ≡ Some w → value_of after_entry x ≡ Some w
  value_there i x w at_x at_w =
      let at_names : slice_get (early_names q e path ++ numbered_from e.count fresh) i ≡ Some x = ap (λ xs. slice_get xs i) (sym names_are) ∙ at_x in
      let early : length along.early ≡ e.count = early_count in
      let names : length (early_names q e path) ≡ e.count = names_count in
      ⊎_elim
      (λ (less : i < length (early_names q e path)).
      early_value i x w (omega (arith, less, names)) (sym (at_left (early_names q e path) (numbered_from e.count fresh) i less) ∙ at_names)
      (sym (at_left along.early (symbols_from counter fresh) i (omega (arith, less, names, early))) ∙ at_w))
      (λ (right : (j : ℕ) × (i ≡ length (early_names q e path) + j)).
      let (j, is) = right in
      let also : i ≡ length along.early + j = omega (arith, is, names, early) in
      new_value j x w (sym (at_right (early_names q e path) (numbered_from e.count fresh) j) ∙ ap (slice_get (early_names q e path ++ numbered_from e.count fresh)) (sym is) ∙ at_names)
      (sym (at_right along.early (symbols_from counter fresh) j) ∙ ap (slice_get whole) (sym also) ∙ at_w))
      (at_either (early_names q e path) (numbered_from e.count fresh) i)

  pub not_result : (i : ℕ) (x : List ℕ) → slice_get (all_names q e path) i ≡ Some x → bytes_eq result_name x ≡ false
  not_result i x at =
      ⊎_elim
      (λ (less : i < length q.params). lacks_at result_name q.params i x told.no_result (sym (at_left q.params (numbered_from (length q.params) (length path.vars - length q.params)) i less) ∙ at))
      (λ (right : (j : ℕ) × (i ≡ length q.params + j)).
      let (j, is) = right in
      let there : slice_get (numbered_from (length q.params) (length path.vars - length q.params)) j ≡ Some x =
      sym (at_right q.params (numbered_from (length q.params) (length path.vars - length q.params)) j) ∙ ap (slice_get (all_names q e path)) (sym is) ∙ at in
      let within : j < length (numbered_from (length q.params) (length path.vars - length q.params)) = slice_get_within (numbered_from (length q.params) (length path.vars - length q.params)) j x there in
      let many : length (numbered_from (length q.params) (length path.vars - length q.params)) ≡ length path.vars - length q.params = numbered_length (length q.params) (length path.vars - length q.params) in
      let less : j < length path.vars - length q.params = omega (arith, within, many) in
      let x_is : numbered (length q.params + j) ≡ x = same_some (sym (numbered_at (length q.params) (length path.vars - length q.params) j less) ∙ there) in
      subst (λ y. bytes_eq result_name y ≡ false) x_is (no_number (length q.params + j)))
      (at_either q.params (numbered_from (length q.params) (length path.vars - length q.params)) i)

  -- ---- the names at the end, with the result

  abbrev pub exact : PureValue → Store
  exact result = exact_store (spec_of q e path posts errors) args variables_given counter result

  pub exact_value : (result : PureValue) (i : ℕ) (x : List ℕ) (w : PureValue) → slice_get (all_names q e path) i ≡ Some x → slice_get whole i ≡ Some w → value_of (exact result) x ≡ Some w
  exact_value result i x w at_x at_w = choose_false (bytes_eq result_name x) (Some result) (value_of after_entry x) (not_result i x at_x) ∙ value_there i x w at_x at_w

  -- what was there keeps its value
  pub early_exact : (result : PureValue) (i : ℕ) (x : List ℕ) → i < e.count → slice_get (early_names q e path) i ≡ Some x
      → value_of (exact result) x ≡ value_of (entry_store (spec_of q e path posts errors) args variables_given) x
  early_exact result i x less at =
      let names : length (early_names q e path) ≡ e.count = names_count in
      choose_false (bytes_eq result_name x) (Some result) (value_of after_entry x)
      (not_result i x (ap (λ xs. slice_get xs i) names_are ∙ at_left (early_names q e path) (numbered_from e.count fresh) i (omega (arith, less, names)) ∙ at))
      ∙ second_value (new_symbols counter (later_names (spec_of q e path posts errors))) (entry_store (spec_of q e path posts errors) args variables_given) x
      (no_symbol counter (later_names (spec_of q e path posts errors)) x (ap (λ xs. is_among xs x) later ∙ early_not_later i x less at))

  pub named_at_end : (result : PureValue) → NamesValues (path.vars ++ Sort.Any ∷ []) (all_names q e path ++ result_name ∷ []) (whole ++ result ∷ []) (exact result)
  named_at_end result =
      let names : length (all_names q e path) ≡ length path.vars = all_names_count in
      let values : length whole ≡ length path.vars = whole_count in
      let names_joined = length-append (all_names q e path) (result_name ∷ []) in
      let values_joined = length-append whole (result ∷ []) in
      let vars_joined = length-append path.vars (Sort.Any ∷ []) in
      record {
        names_each = names_joined ∙ ap (λ k. k + 1) names ∙ sym vars_joined;
        values_each = values_joined ∙ ap (λ k. k + 1) values ∙ sym vars_joined;
        agrees = λ i x w at_x at_w.
            ⊎_elim
            (λ (less : i < length (all_names q e path)).
            exact_value result i x w (sym (at_left (all_names q e path) (result_name ∷ []) i less) ∙ at_x) (sym (at_left whole (result ∷ []) i (omega (arith, less, names, values))) ∙ at_w))
            (λ (right : (j : ℕ) × (i ≡ length (all_names q e path) + j)).
            let (j, is) = right in
            let also : i ≡ length whole + j = omega (arith, is, names, values) in
            let (x_first, x_is) = only_one result_name x j (sym (at_right (all_names q e path) (result_name ∷ []) j) ∙ ap (slice_get (all_names q e path ++ result_name ∷ [])) (sym is) ∙ at_x) in
            let (w_first, w_is) = only_one result w j (sym (at_right whole (result ∷ []) j) ∙ ap (slice_get (whole ++ result ∷ [])) (sym also) ∙ at_w) in
            ap (value_of (exact result)) (sym x_is) ∙ ap Some w_is)
            (at_either (all_names q e path) (result_name ∷ []) i);
      }

  -- ---- the postcondition

  module _ (us : List PureUse) (listed : IsListing memory stands terms kept path.memory us) (t : PureTerm) (t_over : IsOver path.vars t) (w : PureValue) (t_is : value whole t ≡ Some w)
      (left : Heap) (left_is : stands path.memory whole left) where
    abbrev vars_end : List Sort
    vars_end = path.vars ++ Sort.Any ∷ []

    more : (u : PureTerm) → IsOver path.vars u → IsOver vars_end u
    more u over = stay_when_tables_grow.over u path.vars (Sort.Any ∷ []) over

    agree_more : (result : PureValue) (u : PureTerm) → IsOver path.vars u → AgreeOn (variables u) whole (whole ++ result ∷ [])
    agree_more result u over x has =
        let within : x.number < length path.vars = slice_get_within path.vars x.number x.sort (over x has) in
        let values : length whole ≡ length path.vars = whole_count in
        sym (at_left whole (result ∷ []) x.number (omega (arith, within, values)))

    -- with the result behind them, the values still give the memory this heap
    left_with : (result : PureValue) → AreUnion (whole ++ result ∷ []) us left
    left_with result =
        listed.lists (whole ++ result ∷ []) left
        (meaning.local path.memory whole (whole ++ result ∷ []) left
        (each_to (IsOver path.vars) (λ u. AgreeOn (variables u) whole (whole ++ result ∷ [])) (all_of (terms path.memory)) (agree_more result) path_over.memory) left_is)

    uses_over : AreUsesOver vars_end us
    uses_over =
        union_uses (whole ++ w ∷ []) vars_end us left (left_with w)
        (each_to (λ u. Each (λ s. IsAmong s (all_of (terms path.memory))) (u.ins ++ u.outs)) (λ u. AreEachOver vars_end (u.ins ++ u.outs)) us
        (λ u among. each_to (IsOver path.vars) (IsOver vars_end) (u.ins ++ u.outs) more (each_among (IsOver path.vars) (u.ins ++ u.outs) (all_of (terms path.memory)) path_over.memory among)) listed.among)

    late_over : Each (λ a. IsOver path.vars (term_of a)) (late_conds e.count path.conds)
    late_over =
        each_kept (λ a. IsOver path.vars (term_of a)) (filter (λ a. not (is_early e.count a)) path.conds)
        (each_filtered (λ a. not (is_early e.count a)) (λ a. IsOver path.vars (term_of a)) (λ a. IsOver path.vars (term_of a)) path.conds path_over.conds (λ a is over. over))

    result_at : slice_get vars_end (length path.vars) ≡ Some Sort.Any
    result_at = ap (slice_get vars_end) (omega arith) ∙ at_right path.vars (Sort.Any ∷ []) zero

    atoms_over : AreAtomsOver vars_end (result_atom (length path.vars) t ∷ late_conds e.count path.conds)
    atoms_over = (result_over, each_to (λ a. IsOver path.vars (term_of a)) (λ a. IsOver vars_end (term_of a)) (late_conds e.count path.conds) (λ a. more (term_of a)) late_over)
      where
        result_over : IsOver vars_end (term_of (result_atom (length path.vars) t))
        result_over x has =
            ⊎_elim
            (λ here. ⊎_elim (λ none. absurd (none_contained x none)) (λ (is : record { number = length path.vars; sort = Sort.Any } ≡ x). subst (λ (y : Var). slice_get vars_end y.number ≡ Some y.sort) is result_at) (Contains-push_cases [] (record { number = length path.vars; sort = Sort.Any }) x here))
            (λ later. more t t_over x later)
            (Contains-append_cases (variables (variable (record { number = length path.vars; sort = Sort.Any }))) (variables t) x has)

    result_read : (result : PureValue) → slice_get (whole ++ result ∷ []) (length path.vars) ≡ Some result
    result_read result =
        let values : length whole ≡ length path.vars = whole_count in
        let is : length path.vars ≡ length whole + zero = omega (arith, values) in
        ap (slice_get (whole ++ result ∷ [])) is ∙ at_right whole (result ∷ []) zero

    term_read : (result : PureValue) → value (whole ++ result ∷ []) t ≡ Some w
    term_read result = stay_when_tables_grow.values t path.vars whole (result ∷ []) t_over whole_count ∙ t_is

    result_truth : (result : PureValue) → truth (whole ++ result ∷ []) (result_atom (length path.vars) t) ≡ same_value result w
    result_truth result =
        ap (λ o. is_that_boolean true (option_and_then (λ a. option_and_then (λ b. result_ok (binary Equal a b)) (value (whole ++ result ∷ []) t)) o)) (result_read result)
        ∙ ap (λ o. is_that_boolean true (option_and_then (λ b. result_ok (binary Equal result b)) o)) (term_read result)

    late_truth : (result : PureValue) → all_true (whole ++ result ∷ []) (late_conds e.count path.conds) ≡ true
    late_truth result = all_true-more path.vars whole (result ∷ []) whole_count (late_conds e.count path.conds) late_over
        ∙ kept_true whole (filter (λ a. not (is_early e.count a)) path.conds) (all_filtered whole (λ a. not (is_early e.count a)) path.conds along.meets)

    -- ---- the result, told first

    abbrev names_end : List (List ℕ)
    names_end = all_names q e path ++ result_name ∷ []

    abbrev late : List PureAtom
    late = late_conds e.count path.conds

    told_over : AreAtomsOver vars_end (told_atom (length path.vars) t ∷ [])
    told_over = (over, tt)
      where
        over : IsOver vars_end (term_of (told_atom (length path.vars) t))
        over x has =
            ⊎_elim (λ here. more t t_over x here)
            (λ there. atoms_over.0 x (Contains-append_left (variables (variable (record { number = length path.vars; sort = Sort.Any }))) (variables t) x there))
            (Contains-append_cases (variables t) (variables (variable (record { number = length path.vars; sort = Sort.Any }))) x has)

    told_truth : (result : PureValue) → truth (whole ++ result ∷ []) (told_atom (length path.vars) t) ≡ same_value w result
    told_truth result =
        ap (λ o. is_that_boolean true (option_and_then (λ a. option_and_then (λ b. result_ok (binary Equal a b)) (slice_get (whole ++ result ∷ []) (length path.vars))) o)) (term_read result)
        ∙ ap (λ o. is_that_boolean true (option_and_then (λ b. result_ok (binary Equal w b)) o)) (result_read result)

    told_met : (preds : List PurePredDef) → Meets (HoldsSomewhere preds) (exact w) (ending_of names_end true us (length path.vars) t late) left
    told_met preds =
        let laws = named_forms_are_right vars_end names_end (whole ++ w ∷ []) (exact w) (named_at_end w) in
        let (part, (rest, (union, (is, none)))) =
        (laws.meets preds [] (told_atom (length path.vars) t ∷ []) empty tt told_over).1 (refl, ap (λ b. b && true) (told_truth w ∙ same_value-refl w)) in
        (part, (left, (subst (λ g. IsUnion left g left) (sym is.1) (union_after_none left), (is, (laws.meets preds us late left uses_over atoms_over.1).1 (left_with w, late_truth w)))))

    told_only : (preds : List PurePredDef) (result : PureValue) (h : Heap) → Meets (HoldsSomewhere preds) (exact result) (ending_of names_end true us (length path.vars) t late) h
        → (result ≡ w) × (h ≡ left)
    told_only preds result h (part, (rest, (union, (is, others)))) =
        let laws = named_forms_are_right vars_end names_end (whole ++ result ∷ []) (exact result) (named_at_end result) in
        let (none, one) =
        (laws.meets preds [] (told_atom (length path.vars) t ∷ []) empty tt told_over).0 (part, (empty, (subst (λ g. IsUnion empty g empty) (sym is.1) (union_after_none empty), (is, refl)))) in
        let first : truth (whole ++ result ∷ []) (told_atom (length path.vars) t) ≡ true = (and_parts (truth (whole ++ result ∷ []) (told_atom (length path.vars) t)) true one).0 in
        let (held, all) = (laws.meets preds us late rest uses_over atoms_over.1).0 others in
        (sym (same_value-same w result (sym (told_truth result) ∙ first)), only_second h part rest union is.1 ∙ one_heap (whole ++ result ∷ []) us rest left held (left_with result))

    -- ---- the result, behind the uses

    in_place_met : (preds : List PurePredDef) → Meets (HoldsSomewhere preds) (exact w) (ending_of names_end false us (length path.vars) t late) left
    in_place_met preds =
        ((named_forms_are_right vars_end (all_names q e path ++ result_name ∷ []) (whole ++ w ∷ []) (exact w) (named_at_end w)).meets preds us (result_atom (length path.vars) t ∷ late_conds e.count path.conds) left uses_over atoms_over).1
        (left_with w, ap (λ b. b && all_true (whole ++ w ∷ []) (late_conds e.count path.conds)) (result_truth w ∙ same_value-refl w) ∙ late_truth w)

    in_place_only : (preds : List PurePredDef) (result : PureValue) (h : Heap) → Meets (HoldsSomewhere preds) (exact result) (ending_of names_end false us (length path.vars) t late) h
        → (result ≡ w) × (h ≡ left)
    in_place_only preds result h meets =
        let (union, all) =
        ((named_forms_are_right vars_end (all_names q e path ++ result_name ∷ []) (whole ++ result ∷ []) (exact result) (named_at_end result)).meets preds us (result_atom (length path.vars) t ∷ late_conds e.count path.conds) h uses_over atoms_over).0 meets in
        let first : truth (whole ++ result ∷ []) (result_atom (length path.vars) t) ≡ true = (and_parts (truth (whole ++ result ∷ []) (result_atom (length path.vars) t)) (all_true (whole ++ result ∷ []) (late_conds e.count path.conds)) all).0 in
        (same_value-same result w (sym (result_truth result) ∙ first), one_heap (whole ++ result ∷ []) us h left union (left_with result))

    -- what the run leaves meets it
    pub post_met : (preds : List PurePredDef) → Meets (HoldsSomewhere preds) (exact w) (post_of q e path us t) left
    post_met preds = by (is_variable_of Sort.Fresh t)
      where
        by : (b : Bool) → Meets (HoldsSomewhere preds) (exact w) (ending_of names_end b us (length path.vars) t late) left
        by true = told_met preds
        by false = in_place_met preds

    -- and what meets it is that
    pub post_only : (preds : List PurePredDef) (result : PureValue) (h : Heap) → Meets (HoldsSomewhere preds) (exact result) (post_of q e path us t) h → (result ≡ w) × (h ≡ left)
    post_only preds result h meets = by (is_variable_of Sort.Fresh t) meets
      where
        by : (b : Bool) → Meets (HoldsSomewhere preds) (exact result) (ending_of names_end b us (length path.vars) t late) h → (result ≡ w) × (h ≡ left)
        by true there = told_only preds result h there
        by false there = in_place_only preds result h there
