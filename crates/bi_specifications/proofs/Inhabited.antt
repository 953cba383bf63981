-- Some heap meets the precondition: that of the path's beginning, under a valuation that meets all conditions of the path.
use Rattle.std.proofs.Common.{◌≡◌, ⊎_elim, inl, inr, ℕ, zero, suc, ◌+◌, ◌-◌, ◌<◌, ◌≤◌, List, [], ◌∷◌, ◌++◌, length, take, drop, slice_get, Bool, true, false, ◌&&◌, Some, IsTrue, refl, sym, ap, subst, ◌∙◌, true≢false, arith}
use Rattle.std.specs.List.{filter, list_all}
use Rattle.std.proofs.lemmas.Bool.{and_parts}
use Rattle.std.proofs.lemmas.List.{length-map, length-take-le, take-append-drop}
use Rattle.std.proofs.lemmas.List.Elements.{Contains-append_left, Contains-append_right, Contains-append_cases}
use Rattle.std.proofs.lemmas.Option.{slice_get_within}
use Rattle.gil_values.specs.Pure.{PureValue, integer, boolean, text, symbol, kind, procedure, list}
use Rattle.gil_values.specs.Symbols.{OccursIn, OccursAmong, AreBelow, symbols, symbols_of_all}
use Rattle.gil_values.proofs.OperatorSymbols.{none_contained}
use Rattle.gil_syntax.specs.Evaluation.{Store, value_of, Agrees}
use Rattle.gil_syntax.specs.Programs.{find_proc}
use Rattle.gil_syntax.specs.Pure.{PureItem, PureProc, PureParts}
use Rattle.gil_syntax.specs.Valid.{has_twice}
use Rattle.gil_syntax.specs.WellMade.{is_program_name}
use Rattle.gil_machine.specs.Step.{bind_all}
use Rattle.mem_model.specs.declared.keys.MemoryName.{MemoryName}
use Rattle.mem_model.specs.Actions.{Actions}
use Rattle.mem_model.specs.Heaps.{Heap, OccursInHeap}
use Rattle.assert_logic.specs.Meets.{HoldsSomewhere, Meets}
use Rattle.assert_logic.specs.Modes.{is_variable_of}
use Rattle.assert_logic.specs.Sorts.{fits_sorts, has_sort as spec_has_sort}
use Rattle.assert_logic.proofs.UnionLaws.{union_with_none}
use Rattle.assertion_terms.specs.Laws.{NamesValues}
use Rattle.assertion_terms.specs.Named.{numbered, numbered_from}
use Rattle.assertion_terms.proofs.Forms.{named_forms_are_right}
use Rattle.assertion_terms.proofs.Tables.{tables_are_named}
use Rattle.checked_runs.specs.Specifications.{fit_params, IsEntry, entry_store}
use Rattle.checked_runs.proofs.Stores.{bound_at, args_agree, fits_both}
use Rattle.inferred_specs.specs.Inferred.{IsMet}
use Rattle.pure_terms.specs.declared.variables.Sort.{Sort}
use Rattle.pure_terms.specs.Kinds.{has_sort}
use Rattle.pure_terms.specs.Meaning.{all_true, truth, IsProper, Satisfies}
use Rattle.pure_terms.specs.Pure.{PureTerm, PureAtom}
use Rattle.sym_evaluation.specs.Meaning.{HaveValues}
use Rattle.sym_step.proofs.ExplorationSteps.{proper_part}
use Rattle.sym_model.specs.Laws.{IsMeaning, ComesFrom}
use Rattle.sym_model.specs.Lists.{OneOf}
use Rattle.sym_model.specs.Terms.{StateTerms, all_of}
use Rattle.sym_model.proofs.ListLaws.{same_some, not_none}
use Rattle.sym_paths.specs.Meaning.{IsOverTable}
use Rattle.sym_paths.specs.Pure.{PurePath}
use Rattle.sym_paths.proofs.Growing.{all_true-more}
use Rattle.sym_paths.proofs.Moving.{above}
use Rattle.bi_beginnings.specs.Beginnings.{any_for_each, variables_from, IsOpening}
use Rattle.bi_specifications.specs.Shape.{name_sort, any_params, numbered_params, is_early, early_conds, early_names, pre_of, spec_of, MayBeTold}
use Rattle.bi_specifications.specs.Specified.{PureEntry, IsEntryOf}
use Rattle.bi_specifications.proofs.Ends.{all_filtered}
use Rattle.bi_specifications.proofs.Naming.{same_number, numbered_length, numbered_at, any_names, any_fits, numbered_fits, at_left, at_right}
use Rattle.bi_specifications.proofs.Once.{kept_true}
use Rattle.bi_specifications.proofs.Valuing.{have_from}
use Rattle.bi_specifications.proofs.Words.{early_length, early_uses_over, early_atoms_over, out_stands}

-- ---- sorts

-- a value of a variable's sort is one of its name's
pub sort_kept : (sort : Sort) (w : PureValue) → has_sort sort w ≡ true → spec_has_sort (name_sort sort) w ≡ true
sort_kept Sort.Int (integer n) is = refl
sort_kept Sort.Int (boolean b) is = absurd (true≢false (sym is))
sort_kept Sort.Int (text s) is = absurd (true≢false (sym is))
sort_kept Sort.Int (symbol n) is = absurd (true≢false (sym is))
sort_kept Sort.Int (kind k) is = absurd (true≢false (sym is))
sort_kept Sort.Int (procedure f) is = absurd (true≢false (sym is))
sort_kept Sort.Int (list vs) is = absurd (true≢false (sym is))
sort_kept Sort.Bool (integer n) is = absurd (true≢false (sym is))
sort_kept Sort.Bool (boolean b) is = refl
sort_kept Sort.Bool (text s) is = absurd (true≢false (sym is))
sort_kept Sort.Bool (symbol n) is = absurd (true≢false (sym is))
sort_kept Sort.Bool (kind k) is = absurd (true≢false (sym is))
sort_kept Sort.Bool (procedure f) is = absurd (true≢false (sym is))
sort_kept Sort.Bool (list vs) is = absurd (true≢false (sym is))
sort_kept Sort.Str (integer n) is = absurd (true≢false (sym is))
sort_kept Sort.Str (boolean b) is = absurd (true≢false (sym is))
sort_kept Sort.Str (text s) is = refl
sort_kept Sort.Str (symbol n) is = absurd (true≢false (sym is))
sort_kept Sort.Str (kind k) is = absurd (true≢false (sym is))
sort_kept Sort.Str (procedure f) is = absurd (true≢false (sym is))
sort_kept Sort.Str (list vs) is = absurd (true≢false (sym is))
sort_kept Sort.Sym (integer n) is = absurd (true≢false (sym is))
sort_kept Sort.Sym (boolean b) is = absurd (true≢false (sym is))
sort_kept Sort.Sym (text s) is = absurd (true≢false (sym is))
sort_kept Sort.Sym (symbol n) is = refl
sort_kept Sort.Sym (kind k) is = absurd (true≢false (sym is))
sort_kept Sort.Sym (procedure f) is = absurd (true≢false (sym is))
sort_kept Sort.Sym (list vs) is = absurd (true≢false (sym is))
sort_kept Sort.Fresh (integer n) is = absurd (true≢false (sym is))
sort_kept Sort.Fresh (boolean b) is = absurd (true≢false (sym is))
sort_kept Sort.Fresh (text s) is = absurd (true≢false (sym is))
sort_kept Sort.Fresh (symbol n) is = refl
sort_kept Sort.Fresh (kind k) is = absurd (true≢false (sym is))
sort_kept Sort.Fresh (procedure f) is = absurd (true≢false (sym is))
sort_kept Sort.Fresh (list vs) is = absurd (true≢false (sym is))
sort_kept Sort.List (integer n) is = absurd (true≢false (sym is))
sort_kept Sort.List (boolean b) is = absurd (true≢false (sym is))
sort_kept Sort.List (text s) is = absurd (true≢false (sym is))
sort_kept Sort.List (symbol n) is = absurd (true≢false (sym is))
sort_kept Sort.List (kind k) is = absurd (true≢false (sym is))
sort_kept Sort.List (procedure f) is = absurd (true≢false (sym is))
sort_kept Sort.List (list vs) is = refl
sort_kept Sort.Any w is = refl

all_fit : (xs : List (List ℕ)) (ws : List PureValue) → length xs ≡ length ws → fit_params (any_params xs) ws ≡ true
all_fit [] [] many = refl
all_fit [] (w ∷ ws) many = absurd (omega (arith, many))
all_fit (x ∷ xs) [] many = absurd (omega (arith, many))
all_fit (x ∷ xs) (w ∷ ws) many = all_fit xs ws (omega (arith, many))

-- ---- symbols

occurs_at : (v : List PureValue) (i : ℕ) (w : PureValue) (n : ℕ) → slice_get v i ≡ Some w → OccursIn n w → OccursAmong n v
occurs_at [] i w n at occurs = not_none at
occurs_at (u ∷ v) zero w n at occurs = Contains-append_left (symbols u) (symbols_of_all v) n (subst (OccursIn n) (sym (same_some at)) occurs)
occurs_at (u ∷ v) (suc i) w n at occurs = Contains-append_right (symbols u) (symbols_of_all v) n (occurs_at v i w n at occurs)

occurs_left : (v u : List PureValue) (n : ℕ) → OccursAmong n v → OccursAmong n (v ++ u)
occurs_left [] u n occurs = absurd (none_contained n occurs)
occurs_left (w ∷ v) u n occurs =
    ⊎_elim (λ here. Contains-append_left (symbols w) (symbols_of_all (v ++ u)) n here) (λ later. Contains-append_right (symbols w) (symbols_of_all (v ++ u)) n (occurs_left v u n later))
    (Contains-append_cases (symbols w) (symbols_of_all v) n occurs)

-- ---- stores

bind_both : (xs ys : List (List ℕ)) (vs ws : List PureValue) → length xs ≡ length vs → bind_all (xs ++ ys) (vs ++ ws) ≡ bind_all xs vs ++ bind_all ys ws
bind_both [] ys [] ws many = refl
bind_both [] ys (v ∷ vs) ws many = absurd (omega (arith, many))
bind_both (x ∷ xs) ys [] ws many = absurd (omega (arith, many))
bind_both (x ∷ xs) ys (v ∷ vs) ws many = ap (λ s. record { name = x; value = v } ∷ s) (bind_both xs ys vs ws (omega (arith, many)))

both_true : (a b : Bool) → a ≡ true → b ≡ true → (a && b) ≡ true
both_true a b first second = ap (λ c. c && b) first ∙ second

pub from_drop : (k : ℕ) (xs : List Sort) (j : ℕ) → slice_get xs (k + j) ≡ slice_get (drop k xs) j
from_drop zero xs j = let none : zero + j ≡ j = omega arith in ap (slice_get xs) none
from_drop (suc k) [] j = refl
from_drop (suc k) (x ∷ xs) j = let next : suc k + j ≡ suc (k + j) = omega arith in ap (slice_get (x ∷ xs)) next ∙ from_drop k xs j

module _ {S : Type 0} (p : PureParts) (memory : MemoryName) (m : Actions) (stands : S → List PureValue → Heap → Type 0) (terms : S → StateTerms) (kept : S → Type 0)
    (meaning : IsMeaning memory stands terms) (q : PureProc) (e : PureEntry) (start path : PurePath S) (posts errors : List (List PureItem))
    (told : MayBeTold q e path) (opening : IsOpening stands terms kept q start) (entry : IsEntryOf memory stands q.params start e)
    (split : path.vars ≡ start.vars ++ drop e.count path.vars) (path_over : IsOverTable terms path) (programs : list_all is_program_name q.params ≡ true)
    (distinct : has_twice q.params ≡ false) (found : find_proc p.procs q.name ≡ Some q)
    (later : List PureAtom) (conds_split : path.conds ≡ start.conds ++ later) (v : List PureValue) (met : Satisfies path.vars v path.conds) where
  abbrev pub early : List PureValue
  early = take e.count v

  abbrev pub rest : List PureValue
  rest = drop e.count v

  parts : early ++ rest ≡ v
  parts = take-append-drop e.count v

  count_within : e.count ≤ length v
  count_within = let many : length v ≡ length path.vars = met.proper.one_each in let less = told.count_within in omega (arith, many, less)

  early_count : length early ≡ e.count
  early_count = length-take-le e.count v count_within

  early_table : length early ≡ length start.vars
  early_table = early_count ∙ entry.count

  proper : IsProper start.vars early
  proper = proper_part start.vars (drop e.count path.vars) early rest early_table (subst (λ vars. IsProper vars (early ++ rest)) split (subst (IsProper path.vars) (sym parts) met.proper))

  all_conds : all_true (early ++ rest) path.conds ≡ true
  all_conds = ap (λ u. all_true u path.conds) parts ∙ met.true_there

  first_part : (cs ds : List PureAtom) → all_true (early ++ rest) (cs ++ ds) ≡ true → all_true (early ++ rest) cs ≡ true
  first_part [] ds all = refl
  first_part (a ∷ cs) ds all =
      let (here, there) = and_parts (truth (early ++ rest) a) (all_true (early ++ rest) (cs ++ ds)) all in
      both_true (truth (early ++ rest) a) (all_true (early ++ rest) cs) here (first_part cs ds there)

  start_met : Satisfies start.vars early start.conds
  start_met = record {
    proper = proper;
    true_there = sym (all_true-more start.vars early rest early_table start.conds opening.over.conds) ∙ first_part start.conds later (ap (all_true (early ++ rest)) (sym conds_split) ∙ all_conds);
  }

  abbrev own : Heap
  own = (opening.has_heap early start_met).0

  own_is : stands start.memory early own
  own_is = (opening.has_heap early start_met).1

  abbrev pub counter : ℕ
  counter = (above (symbols_of_all early)).0

  below : AreBelow counter early
  below = (above (symbols_of_all early)).1

  abbrev pub args : List PureValue
  args = take (length q.params) early

  abbrev pub outs : List PureValue
  outs = drop (length q.params) early

  abbrev pub out_count : ℕ
  out_count = e.count - length q.params

  args_count : length q.params ≡ length args
  args_count =
      let many : length early ≡ e.count = early_count in
      let first = told.params_first in
      sym (length-take-le (length q.params) early (omega (arith, many, first)))

  args_and_outs : args ++ outs ≡ early
  args_and_outs = take-append-drop (length q.params) early

  abbrev pub out_names : List (List ℕ)
  out_names = numbered_from (length q.params) out_count

  abbrev pub variables_met : Store
  variables_met = bind_all out_names outs

  entry_is : entry_store (spec_of q e path posts errors) args variables_met ≡ bind_all (early_names q e path) early
  entry_is =
      ap (λ xs. bind_all xs args ++ variables_met) (any_names q.params) ∙ sym (bind_both q.params out_names args outs args_count)
      ∙ ap (bind_all (q.params ++ out_names)) args_and_outs

  -- an out by its name
  record IsOut (x : List ℕ) (w : PureValue) : Type 0 where
    number : ℕ
    less : number < out_count
    named : numbered (length q.params + number) ≡ x
    value_at : slice_get early (length q.params + number) ≡ Some w

  out_of : (x : List ℕ) (w : PureValue) → value_of variables_met x ≡ Some w → IsOut x w
  out_of x w is =
      let (i, (at_x, at_w)) = bound_at out_names outs x w is in
      let within : i < length out_names = slice_get_within out_names i x at_x in
      let many : length out_names ≡ out_count = numbered_length (length q.params) out_count in
      let less : i < out_count = omega (arith, within, many) in
      record {
        number = i;
        less = less;
        named = same_some (sym (numbered_at (length q.params) out_count i less) ∙ at_x);
        value_at = ap (slice_get early) (ap (λ k. k + i) args_count) ∙ ap (λ u. slice_get u (length args + i)) (sym args_and_outs) ∙ at_right args outs i ∙ at_w;
      }

  only : (x : List ℕ) (w : PureValue) → value_of variables_met x ≡ Some w → IsTrue (is_variable_of (spec_of q e path posts errors) x)
  only x w is =
      let out = out_of x w is in
      subst (λ y. is_variable_of (spec_of q e path posts errors) y ≡ true) out.named (out_stands memory stands terms q e start path told entry split path_over programs out.number out.less)

  sort_at : (i : ℕ) (sort : Sort) → slice_get (drop (length q.params) path.vars) i ≡ Some sort → slice_get path.vars (length q.params + i) ≡ Some sort
  sort_at i sort at = from_drop (length q.params) path.vars i ∙ at

  sorts_fit : (x : List ℕ) (w : PureValue) → value_of variables_met x ≡ Some w
      → IsTrue (fits_sorts (any_params q.params ++ numbered_params (length q.params) (drop (length q.params) path.vars)) x w)
  sorts_fit x w is =
      let out = out_of x w is in
      fits_both (any_params q.params) (numbered_params (length q.params) (drop (length q.params) path.vars)) x w (any_fits q.params x w)
      (numbered_fits (length q.params) (drop (length q.params) path.vars) x w (λ i sort at named.
      let same : length q.params + i ≡ length q.params + out.number = same_number (length q.params + i) (length q.params + out.number) (named ∙ sym out.named) in
      let there : slice_get path.vars (length q.params + out.number) ≡ Some sort = ap (slice_get path.vars) (sym same) ∙ sort_at i sort at in
      let within : length q.params + out.number < length early = slice_get_within early (length q.params + out.number) w out.value_at in
      let value_there : slice_get v (length q.params + out.number) ≡ Some w = ap (λ u. slice_get u (length q.params + out.number)) (sym parts) ∙ at_left early rest (length q.params + out.number) within ∙ out.value_at in
      sort_kept sort w (met.proper.sorts (length q.params + out.number) sort w there value_there)))

  entered : IsEntry (spec_of q e path posts errors) args variables_met
  entered = record { arguments_fit = all_fit q.params args args_count; only_variables = only; sorts = sorts_fit }

  pub named : NamesValues start.vars (early_names q e path) early (entry_store (spec_of q e path posts errors) args variables_met)
  named = record {
    names_each = early_length memory stands terms q e start path told entry split path_over programs;
    values_each = early_table;
    agrees = subst (λ s. Agrees s (early_names q e path) early) (sym entry_is) (args_agree (early_names q e path) early ((tables_are_named q.params out_count).distinct programs distinct));
  }

  meets : Meets (HoldsSomewhere p.preds) (entry_store (spec_of q e path posts errors) args variables_met) (pre_of q e path) own
  meets =
      let uses = early_uses_over memory stands terms q e start path told entry split path_over programs in
      let atoms = early_atoms_over memory stands terms q e start path told entry split path_over programs in
      ((named_forms_are_right start.vars (early_names q e path) early (entry_store (spec_of q e path posts errors) args variables_met) named).meets p.preds e.uses (early_conds e.count path.conds) own uses atoms).1
      (entry.lists early own start_met own_is, sym (all_true-more start.vars early rest early_table (early_conds e.count path.conds) atoms) ∙ kept_true (early ++ rest) (filter (is_early e.count) path.conds) (all_filtered (early ++ rest) (is_early e.count) path.conds all_conds))

  pub is_met : IsMet p memory m (spec_of q e path posts errors)
  is_met = record {
    args = args;
    variables = variables_met;
    own = own;
    counter = counter;
    starts = record {
      entered = entered;
      meets = meets;
      union = union_with_none own;
      proper = record {
        procedure = (q, (found, args_count));
        heap = meaning.of_memory start.memory early own own_is;
        arguments_below = λ n occurs. below n (subst (OccursAmong n) args_and_outs (occurs_left args outs n occurs));
        heap_below = λ k w holds. (in_heap k.loc (k, (w, (holds, inl refl))), λ n occurs. in_heap n (k, (w, (holds, inr occurs))));
      };
      variables_below = λ x w is n occurs. let out = out_of x w is in below n (occurs_at early (length q.params + out.number) w n out.value_at occurs);
    };
  }
    where
      among_terms : (n : ℕ) (ts : List PureTerm) → OneOf (ComesFrom early n) ts → n < counter
      among_terms n [] one = absurd one
      among_terms n (t ∷ ts) one = ⊎_elim (λ (here : ComesFrom early n t). let (x, (w, (has, at, occurs))) = here in below n (occurs_at early x.number w n at occurs)) (λ later. among_terms n ts later) one

      in_heap : (n : ℕ) → OccursInHeap n own → n < counter
      in_heap n occurs = among_terms n (all_of (terms start.memory)) (meaning.symbols start.memory early own n own_is occurs)

  -- ---- any heap with which the path begins

  args_have : HaveValues early (variables_from 0 (any_for_each q.params)) args
  args_have =
      have_from early args 0 (any_for_each q.params) (sym args_count ∙ sym (length-map q.params (λ x. Sort.Any)))
      (λ i w at.
      let here : 0 + i ≡ i = omega arith in
      ap (slice_get early) here ∙ ap (λ u. slice_get u i) (sym args_and_outs) ∙ at_left args outs i (slice_get_within args i w at) ∙ at)

  abbrev pub IsMetWith : List PureValue → Heap → Type 0
  IsMetWith ws h =
      (variables : Store) × (IsEntry (spec_of q e path posts errors) ws variables
      × Meets (HoldsSomewhere p.preds) (entry_store (spec_of q e path posts errors) ws variables) (pre_of q e path) h)

  pub met_with : (ws : List PureValue) (h : Heap) → HaveValues early (variables_from 0 (any_for_each q.params)) ws → stands start.memory early h → IsMetWith ws h
  met_with ws h have there =
      let same_args : args ≡ ws = same_some (sym args_have ∙ have) in
      let same_heap : own ≡ h = meaning.one_heap start.memory early own h own_is there in
      subst (λ us. IsMetWith us h) same_args (subst (IsMetWith args) same_heap (variables_met, (entered, meets)))
