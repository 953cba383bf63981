-- The stores at the entry of a specification, at its end, and those that a call by specification gives.
use Rattle.std.proofs.Common.{◌≡◌, ⊎_elim, ℕ, zero, suc, List, [], ◌∷◌, ◌++◌, length, Bool, true, false, ◌&&◌, ◌||◌, cond, Option, Some, None, slice_get, refl, sym, ap, subst, ◌∙◌, true≢false, arith}
use Rattle.std.specs.Prelude.{nat_eq}
use Rattle.std.specs.FinMap.{len, empty_of_len}
use Rattle.std.specs.List.{list_any}
use Rattle.std.proofs.lemmas.Bool.{and_parts}
use Rattle.std.proofs.lemmas.Bool.Decides.{Decides-eqb}
use Rattle.gil_values.specs.Pure.{PureValue}
use Rattle.gil_values.specs.Equality.{same_value}
use Rattle.gil_values.specs.EqualityLaws.{same_value-same}
use Rattle.gil_syntax.specs.Evaluation.{Store, value_of, Agrees}
use Rattle.gil_syntax.specs.Pure.{PureItem, pure, uses, PureSpec, PureParts}
use Rattle.gil_syntax.specs.Valid.{param_names, is_among}
use Rattle.gil_syntax.specs.WellMade.{has_hash}
use Rattle.gil_syntax.proofs.Symbols.{Holds, HoldsOfAll, HoldsInStore}
use Rattle.gil_machine.specs.Step.{bind_all}
use Rattle.mem_model.specs.declared.keys.MemoryName.{MemoryName}
use Rattle.mem_model.specs.Heaps.{Heap}
use Rattle.assert_logic.specs.LogicStates.{LogicState, Realizes}
use Rattle.assert_logic.specs.Matching.{Match, Matching, matched, stops, match_assertion, once}
use Rattle.assert_logic.specs.Meets.{Meets, ItemMeets, HoldsSomewhere}
use Rattle.assert_logic.specs.Modes.{is_variable_of}
use Rattle.assert_logic.specs.Names.{named_by_items}
use Rattle.assert_logic.specs.Sorts.{HasSorts, Extends}
use Rattle.assert_logic.proofs.CaseLaws.{assertion_splits}
use Rattle.assert_logic.proofs.Evaluations.{evaluate_extends, all_extend}
use Rattle.assert_logic.proofs.FoldedOuts.{whole_meets}
use Rattle.assert_logic.proofs.Givings.{bound_goes}
use Rattle.assert_logic.proofs.GivenNames.{IsGiven, Gains, items_gain}
use Rattle.assert_logic.proofs.InventionLaws.{kept, kept_value, from_cond}
use Rattle.checked_runs.specs.Checked.{Entry, leaves_nothing, has_or_gets, result_store, some_matches}
use Rattle.checked_runs.specs.Specifications.{fit_params, IsEntry, entry_store, result_name, IsPostStore, MeetsOne}
use Rattle.checked_runs.proofs.Stores.{same_some, no_value, isnt_both, first_value, second_value, either_value, among_at, bound_at, args_agree, no_param, undeclared_fits, fits_both, fit_length, args_sorted, program_name, logical_name, among_both, IsGoodSpec}

-- meeting stays when the store gains values
item_meets_further : (preds : _) (s t : Store) → Extends s t → (item : PureItem) (h : Heap) → ItemMeets (HoldsSomewhere preds) s item h → ItemMeets (HoldsSomewhere preds) t item h
item_meets_further preds s t extends (pure e) h is = (evaluate_extends s t extends e _ is.0, is.1)
item_meets_further preds s t extends (uses u) h is = record {
  ins = is.ins;
  outs = is.outs;
  ins_are = all_extend s t extends u.ins is.ins is.ins_are;
  outs_are = all_extend s t extends u.outs is.outs is.outs_are;
  holds_there = is.holds_there;
}

pub meets_further : (preds : _) (s t : Store) → Extends s t → (items : List PureItem) (h : Heap) → Meets (HoldsSomewhere preds) s items h → Meets (HoldsSomewhere preds) t items h
meets_further preds s t extends [] h is = is
meets_further preds s t extends (item ∷ items) h (part, (rest, (union, (here, there)))) =
    (part, (rest, (union, (item_meets_further preds s t extends item part here, meets_further preds s t extends items rest there))))

-- a name with '#' is no program name
no_hash : {P : Type 0} (x : List ℕ) → has_hash x ≡ true → has_hash x ≡ false → P
no_hash x is isnt = isnt_both (has_hash x) is isnt

undeclared : (b : Bool) → ¬ (b ≡ true) → b ≡ false
undeclared true isnt = absurd (isnt refl)
undeclared false isnt = refl

held_at : (P : ℕ → Type 0) (vs : List PureValue) (i : ℕ) (v : PureValue) → slice_get vs i ≡ Some v → HoldsOfAll P vs → Holds P v
held_at P [] i v at h = no_value v at
held_at P (w ∷ ws) zero v at h = subst (Holds P) (same_some at) h.0
held_at P (w ∷ ws) (suc i) v at h = held_at P ws i v at h.1

pub args_hold : (P : ℕ → Type 0) (xs : List (List ℕ)) (vs : List PureValue) → HoldsOfAll P vs → HoldsInStore P (bind_all xs vs)
args_hold P xs vs h x v is = let (i, (name, value)) = bound_at xs vs x v is in held_at P vs i v value h

pub entry_holds : (P : ℕ → Type 0) (s : PureSpec) (args : List PureValue) (variables : Store) → HoldsOfAll P args → HoldsInStore P variables → HoldsInStore P (entry_store s args variables)
entry_holds P s args variables h k x v is =
    ⊎_elim (args_hold P (param_names s.params) args h x v) (λ later. k x v later.1) (either_value (bind_all (param_names s.params) args) variables x v is)

module _ (memory : MemoryName) (s : PureSpec) (good : IsGoodSpec memory s.name s) (args : List PureValue) (fit : fit_params s.params args ≡ true) where
  as_many : length (param_names s.params) ≡ length args
  as_many = fit_length s.params args fit

  -- an argument is of a parameter
  argument_named : (x : List ℕ) (v : PureValue) → value_of (bind_all (param_names s.params) args) x ≡ Some v → is_among (param_names s.params) x ≡ true
  argument_named x v is = let (i, (name, value)) = bound_at (param_names s.params) args x v is in among_at (param_names s.params) i x name

  no_argument : (x : List ℕ) → has_hash x ≡ true → value_of (bind_all (param_names s.params) args) x ≡ None
  no_argument x hash = by (value_of (bind_all (param_names s.params) args) x) refl
    where
      by : (o : Option PureValue) → value_of (bind_all (param_names s.params) args) x ≡ o → o ≡ None
      by None is = refl
      by (Some v) is = no_hash x hash (program_name s.params x good.program_names (argument_named x v is))

  no_logical : (x : List ℕ) → has_hash x ≡ false → is_among (param_names s.logicals) x ≡ false
  no_logical x plain = undeclared (is_among (param_names s.logicals) x) (λ is. no_hash x (logical_name s.logicals x good.logical is) plain)

  arguments_sorted : HasSorts (s.params ++ s.logicals) (bind_all (param_names s.params) args)
  arguments_sorted x v is =
      fits_both s.params s.logicals x v (args_sorted s.params args fit good.distinct x v is)
      (undeclared_fits s.logicals x v (no_logical x (program_name s.params x good.program_names (argument_named x v is))))

  pub entry_sorted : (variables : Store) → HasSorts (s.params ++ s.logicals) variables → HasSorts (s.params ++ s.logicals) (entry_store s args variables)
  entry_sorted variables sorts x v is =
      ⊎_elim (arguments_sorted x v) (λ later. sorts x v later.1) (either_value (bind_all (param_names s.params) args) variables x v is)

  entry_agrees : (variables : Store) → Agrees (entry_store s args variables) (param_names s.params) args
  entry_agrees variables i x v name value = first_value (bind_all (param_names s.params) args) variables x v (args_agree (param_names s.params) args good.distinct i x v name value)

  -- ---- at the end

  module _ (variables : Store) (entered : IsEntry s args variables) where
    variables_extend : Extends variables (entry_store s args variables)
    variables_extend x v is =
        let hash = (and_parts (has_hash x) (named_by_items s.pre x) (entered.only_variables x v is)).0 in
        second_value (bind_all (param_names s.params) args) variables x (no_argument x hash) ∙ is

    pub record IsEndStore (v : PureValue) (t : Store) : Type 0 where
      pub extends : Extends (entry_store s args variables) t
      pub result : value_of t result_name ≡ Some v
      pub sorts : HasSorts (s.params ++ s.logicals) t

    pub end_store : (v : PureValue) (t : Store) → has_or_gets (value_of (entry_store s args variables) result_name) v (entry_store s args variables) ≡ Some t → IsEndStore v t
    end_store v t is = by (value_of (entry_store s args variables) result_name) refl is
      where
        known : (w : PureValue) → value_of (entry_store s args variables) result_name ≡ Some w → (b : Bool) → same_value w v ≡ b → cond b (Some (entry_store s args variables)) None ≡ Some t → IsEndStore v t
        known w at false differs found = no_value t found
        known w at true same found = subst (IsEndStore v) (same_some found) (record {
          extends = λ x u here. here;
          result = at ∙ ap Some (same_value-same w v same);
          sorts = entry_sorted variables entered.sorts;
        })

        by : (o : Option PureValue) → value_of (entry_store s args variables) result_name ≡ o → has_or_gets o v (entry_store s args variables) ≡ Some t → IsEndStore v t
        by (Some w) at found = known w at (same_value w v) refl found
        by None none found =
            let no_arg : value_of (bind_all (param_names s.params) args) result_name ≡ None = absent (value_of (bind_all (param_names s.params) args) result_name) refl none in
            let fits = fits_both s.params s.logicals result_name v (undeclared_fits s.params result_name v (no_param (param_names s.params) args result_name as_many no_arg)) (undeclared_fits s.logicals result_name v (no_logical result_name refl)) in
            let (goes, at) = bound_goes (s.params ++ s.logicals) result_name v (entry_store s args variables) none fits in
            subst (IsEndStore v) (same_some found) (record { extends = goes.extends; result = at; sorts = goes.sorts (entry_sorted variables entered.sorts) })
          where
            absent : (o : Option PureValue) → value_of (bind_all (param_names s.params) args) result_name ≡ o → value_of (entry_store s args variables) result_name ≡ None → o ≡ None
            absent None is none = refl
            absent (Some w) is none = no_value w (sym none ∙ first_value (bind_all (param_names s.params) args) variables result_name w is)

    pub post_store : (v : PureValue) (t u : Store) → IsEndStore v t → Extends t u → HasSorts (s.params ++ s.logicals) u → IsPostStore s args variables v u
    post_store v t u end extends sorts = record {
      parameters = λ i x w name value. extends x w (end.extends x w (entry_agrees variables i x w name value));
      variables_stay = λ x w is. extends x w (end.extends x w (variables_extend x w is));
      result = extends result_name v end.result;
      sorts = sorts;
    }

  -- ---- a call by specification

  module _ (preds : _) (state : LogicState) (found : Match) (matches : match_assertion preds (s.params ++ s.logicals) s.pre (entry_store s args []) state ≡ matched found) where
    abbrev pub variables_of_call : Store
    variables_of_call = kept has_hash found.store

    gains : Gains (s.params ++ s.logicals) (named_by_items s.pre) (entry_store s args []) found.store
    gains = items_gain (s.params ++ s.logicals) (once preds) 0 s.pre (entry_store s args []) state found matches

    only_arguments : (x : List ℕ) (v : PureValue) → value_of (entry_store s args []) x ≡ Some v → value_of (bind_all (param_names s.params) args) x ≡ Some v
    only_arguments x v is = ⊎_elim (λ here. here) (λ none. no_value v none.1) (either_value (bind_all (param_names s.params) args) [] x v is)

    -- a name that is given a value is a logical variable
    given_hash : (x : List ℕ) → IsGiven (s.params ++ s.logicals) (named_by_items s.pre) (entry_store s args []) x → has_hash x ≡ true
    given_hash x (named, (among, none)) =
        ⊎_elim (λ of_params. isnt_both (is_among (param_names s.params) x) of_params (no_param (param_names s.params) args x as_many (absent (value_of (bind_all (param_names s.params) args) x) refl)))
        (logical_name s.logicals x good.logical) (among_both s.params s.logicals x among)
      where
        absent : (o : Option PureValue) → value_of (bind_all (param_names s.params) args) x ≡ o → o ≡ None
        absent None is = refl
        absent (Some w) is = no_value w (sym none ∙ first_value (bind_all (param_names s.params) args) [] x w is)

    pub call_keeps : (x : List ℕ) (v : PureValue) → has_hash x ≡ true → value_of found.store x ≡ Some v → value_of variables_of_call x ≡ Some v
    call_keeps x v hash is = kept_value has_hash found.store x ∙ ap (λ b. cond b (value_of found.store x) None) hash ∙ is

    kept_was : (x : List ℕ) (v : PureValue) → value_of variables_of_call x ≡ Some v → (has_hash x ≡ true) × (value_of found.store x ≡ Some v)
    kept_was x v is = from_cond (has_hash x) (value_of found.store x) v (sym (kept_value has_hash found.store x) ∙ is)

    pub call_enters : HasSorts (s.params ++ s.logicals) found.store → IsEntry s args variables_of_call
    call_enters sorts = record { arguments_fit = fit; only_variables = only; sorts = λ x v is. sorts x v (kept_was x v is).1 }
      where
        both : (a b : Bool) → a ≡ true → b ≡ true → (a && b) ≡ true
        both true b h k = k
        both false b h k = absurd (true≢false (sym h))

        only : (x : List ℕ) (v : PureValue) → value_of variables_of_call x ≡ Some v → is_variable_of s x ≡ true
        only x v is =
            let (hash, at) = kept_was x v is in
            both (has_hash x) (named_by_items s.pre x) hash
            (⊎_elim (λ arg. no_hash x hash (program_name s.params x good.program_names (argument_named x v (only_arguments x v arg)))) (λ is_given. is_given.0) (gains.from x v at))

    -- what extends the arguments and these variables extends what was matched
    pub call_store : (t : Store) → Agrees t (param_names s.params) args → Extends variables_of_call t → Extends found.store t
    call_store t agrees extends x v is =
        ⊎_elim (λ arg. let (i, (name, value)) = bound_at (param_names s.params) args x v (only_arguments x v arg) in agrees i x v name value)
        (λ is_given. extends x v (call_keeps x v (given_hash x is_given) is)) (gains.from x v is)

    pub call_entry_store : Extends found.store (entry_store s args variables_of_call)
    call_entry_store =
        call_store (entry_store s args variables_of_call) (entry_agrees variables_of_call)
        (λ x v is. second_value (bind_all (param_names s.params) args) variables_of_call x (no_argument x (kept_was x v is).0) ∙ is)

    pub call_holds : (P : ℕ → Type 0) → HoldsInStore P found.store → HoldsInStore P variables_of_call
    call_holds P h x v is = h x v (kept_was x v is).1

-- ---- returns

is_zero : (n : ℕ) → nat_eq n 0 ≡ true → n ≡ 0
is_zero n is = (Decides-eqb n 0).0 is

no_elements : {X : Type 0} (xs : List X) → length xs ≡ 0 → xs ≡ []
no_elements [] is = refl
no_elements (x ∷ xs) is = absurd (omega (arith, is))

record IsAny (f : List PureItem → Bool) (posts : List (List PureItem)) : Type 0 where
  number : ℕ
  items : List PureItem
  at : slice_get posts number ≡ Some items
  passes : f items ≡ true

any_of : (f : List PureItem → Bool) (posts : List (List PureItem)) → list_any f posts ≡ true → IsAny f posts
any_of f [] is = absurd (true≢false (sym is))
any_of f (items ∷ posts) is = by (any_of f posts) (f items) refl is
  where
    by : (list_any f posts ≡ true → IsAny f posts) → (b : Bool) → f items ≡ b → (b || list_any f posts) ≡ true → IsAny f (items ∷ posts)
    by later true here any = record { number = 0; items = items; at = refl; passes = here }
    by later false other any = let found = later any in record { number = suc found.number; items = found.items; at = found.at; passes = found.passes }

-- what a return leaves meets a postcondition
pub returned_meets : (p : PureParts) (memory : MemoryName) (entry : Entry) (posts : List (List PureItem)) (v : PureValue) (state : LogicState) (own : Heap) → IsGoodSpec memory entry.spec.name entry.spec → IsEntry entry.spec entry.args entry.variables
    → some_matches p entry posts (result_store entry v) state ≡ true → Realizes p.preds state own → MeetsOne p entry.spec entry.args entry.variables v posts own
returned_meets p memory entry posts v state own good entered is realizes = by (result_store entry v) refl is
  where
    left_over : (t : Store) → result_store entry v ≡ Some t → (number : ℕ) (items : List PureItem) → slice_get posts number ≡ Some items → (o : Matching) → match_assertion p.preds (entry.spec.params ++ entry.spec.logicals) items t state ≡ o → leaves_nothing o ≡ true → MeetsOne p entry.spec entry.args entry.variables v posts own
    left_over t result number items at (stops n) matches leaves = absurd (true≢false (sym leaves))
    left_over t result number items at (matched found) matches leaves =
        let (no_keys, no_facts) = and_parts (nat_eq (len found.state.heap) 0) (nat_eq (length found.state.facts) 0) leaves in
        let end = end_store memory entry.spec good entry.args entered.arguments_fit entry.variables entered v t result in
        let all = assertion_splits p.preds (entry.spec.params ++ entry.spec.logicals) items t state found own matches realizes in
        record {
          number = number;
          post = items;
          is_post = at;
          store = found.store;
          is_store = post_store memory entry.spec good entry.args entered.arguments_fit entry.variables entered v t found.store end all.goes.extends (all.goes.sorts end.sorts);
          meets = whole_meets p.preds (entry.spec.params ++ entry.spec.logicals) items t state found own matches (empty_of_len found.state.heap (is_zero (len found.state.heap) no_keys)) (no_elements found.state.facts (is_zero (length found.state.facts) no_facts)) realizes;
        }

    by : (o : Option Store) → result_store entry v ≡ o → some_matches p entry posts o state ≡ true → MeetsOne p entry.spec entry.args entry.variables v posts own
    by None result matches = absurd (true≢false (sym matches))
    by (Some t) result matches =
        let any = any_of (λ items. leaves_nothing (match_assertion p.preds (entry.spec.params ++ entry.spec.logicals) items t state)) posts matches in
        left_over t result any.number any.items any.at (match_assertion p.preds (entry.spec.params ++ entry.spec.logicals) any.items t state) refl any.passes
