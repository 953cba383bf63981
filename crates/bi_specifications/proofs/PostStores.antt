-- The store in which a postcondition is read that a run along a path meets.
use Rattle.std.proofs.Common.{◌≡◌, ℕ, zero, suc, ◌+◌, ◌-◌, ◌<◌, List, [], ◌∷◌, ◌++◌, length, drop, slice_get, true, false, not, Option, Some, None, IsTrue, refl, sym, ap, subst, ◌∙◌, true≢false, arith}
use Rattle.std.specs.List.{list_all}
use Rattle.std.proofs.lemmas.Bool.{and_parts}
use Rattle.std.proofs.lemmas.Option.{slice_get_within}
use Rattle.gil_values.specs.Pure.{PureValue}
use Rattle.gil_syntax.specs.Evaluation.{Store, value_of, Agrees}
use Rattle.gil_syntax.specs.Pure.{PureItem, PureProc, PureParts}
use Rattle.gil_syntax.specs.Valid.{has_twice}
use Rattle.gil_syntax.specs.WellMade.{is_program_name, has_hash}
use Rattle.gil_machine.specs.Step.{bind_all}
use Rattle.mem_model.specs.declared.keys.MemoryName.{MemoryName}
use Rattle.mem_model.specs.Actions.{Actions}
use Rattle.mem_model.specs.Heaps.{Heap}
use Rattle.assert_logic.specs.Names.{named_by_items}
use Rattle.assert_logic.specs.Sorts.{fits_sorts, has_sort as spec_has_sort}
use Rattle.assertion_terms.specs.Named.{numbered, numbered_from}
use Rattle.assertion_terms.proofs.Evaluated.{there_is}
use Rattle.checked_runs.specs.Specifications.{entry_store, IsEntry, IsPostStore}
use Rattle.checked_runs.proofs.Stores.{first_value, second_value, bound_at, args_agree, fits_both}
use Rattle.sym_model.specs.Laws.{IsMeaning}
use Rattle.sym_model.specs.Terms.{StateTerms}
use Rattle.sym_model.proofs.ListLaws.{same_some, not_none}
use Rattle.sym_paths.specs.Meaning.{IsOverTable}
use Rattle.sym_paths.specs.Pure.{PureEnd, PurePath}
use Rattle.bi_specifications.specs.Shape.{name_sort, any_params, numbered_params, early_names, all_names, pre_of, spec_of, MayBeTold}
use Rattle.bi_specifications.specs.Specified.{PureEntry, IsEntryOf}
use Rattle.bi_specifications.proofs.Ends.{whole, exact, exact_value, early_exact}
use Rattle.bi_specifications.proofs.Inhabited.{from_drop, sort_kept}
use Rattle.bi_specifications.proofs.Naming.{numbered_at, any_names, any_fits, numbered_fits, at_left, at_right}
use Rattle.bi_specifications.proofs.RunsAlong.{RunsAlong}
use Rattle.bi_specifications.proofs.Words.{early_length, stands_at}

-- a name with '#' is no parameter
no_hash : (xs : List (List ℕ)) (i : ℕ) (x : List ℕ) → list_all is_program_name xs ≡ true → slice_get xs i ≡ Some x → is_program_name x ≡ true
no_hash [] i x all at = not_none at
no_hash (y ∷ xs) zero x all at = ap is_program_name (sym (same_some at)) ∙ (and_parts (is_program_name y) (list_all is_program_name xs) all).0
no_hash (y ∷ xs) (suc i) x all at = no_hash xs i x (and_parts (is_program_name y) (list_all is_program_name xs) all).1 at

module _ {S : Type 0} (p : PureParts) (memory : MemoryName) (m : Actions) (stands : S → List PureValue → Heap → Type 0) (terms : S → StateTerms) (kept : S → Type 0)
    (meaning : IsMeaning memory stands terms) (q : PureProc) (e : PureEntry) (start path : PurePath S) (how : PureEnd) (n : ℕ) (posts errors : List (List PureItem))
    (told : MayBeTold q e path) (entry : IsEntryOf memory stands q.params start e)
    (split : path.vars ≡ start.vars ++ drop e.count path.vars) (path_over : IsOverTable terms path) (programs : list_all is_program_name q.params ≡ true)
    (args : List PureValue) (variables : Store) (own : Heap) (counter : ℕ) (along : RunsAlong p memory m stands q e start path how n posts errors args variables own counter)
    (distinct : has_twice q.params ≡ false) (entered : IsEntry (spec_of q e path posts errors) args variables) where
  abbrev pub values : List PureValue
  values = whole p memory m stands terms kept meaning q e start path how n posts errors told entry split path_over programs args variables own counter along

  abbrev pub store : PureValue → Store
  store result = exact p memory m stands terms kept meaning q e start path how n posts errors told entry split path_over programs args variables own counter along result

  entry_is : entry_store (spec_of q e path posts errors) args variables ≡ bind_all q.params args ++ variables
  entry_is = ap (λ xs. bind_all xs args ++ variables) (any_names q.params)

  early : (result : PureValue) (i : ℕ) (x : List ℕ) → i < e.count → slice_get (early_names q e path) i ≡ Some x
      → value_of (store result) x ≡ value_of (bind_all q.params args ++ variables) x
  early result i x less at =
      early_exact p memory m stands terms kept meaning q e start path how n posts errors told entry split path_over programs args variables own counter along result i x less at
      ∙ ap (λ s. value_of s x) entry_is

  params_agree : (result : PureValue) → Agrees (store result) q.params args
  params_agree result i x w at_x at_w =
      let within : i < length q.params = slice_get_within q.params i x at_x in
      let first = told.params_first in
      early result i x (omega (arith, within, first)) (at_left q.params (numbered_from (length q.params) (e.count - length q.params)) i within ∙ at_x)
      ∙ first_value (bind_all q.params args) variables x w (args_agree q.params args distinct i x w at_x at_w)

  not_bound : (x : List ℕ) → has_hash x ≡ true → (o : Option PureValue) → value_of (bind_all q.params args) x ≡ o → o ≡ None
  not_bound x hash None is = refl
  not_bound x hash (Some w) is =
      let (i, (at, value_at)) = bound_at q.params args x w is in
      absurd (true≢false (sym (no_hash q.params i x programs at) ∙ ap not hash))

  variables_stay : (result : PureValue) (x : List ℕ) (w : PureValue) → value_of variables x ≡ Some w → value_of (store result) x ≡ Some w
  variables_stay result x w is =
      let (hash, stands_there) = and_parts (has_hash x) (named_by_items (pre_of q e path) x) (entered.only_variables x w is) in
      let (i, at) = stands_at memory stands terms q e start path told entry split path_over programs x stands_there in
      let within : i < length (early_names q e path) = slice_get_within (early_names q e path) i x at in
      let many : length (early_names q e path) ≡ length start.vars = early_length memory stands terms q e start path told entry split path_over programs in
      let count : e.count ≡ length start.vars = entry.count in
      early result i x (omega (arith, within, many, count)) at
      ∙ second_value (bind_all q.params args) variables x (not_bound x hash (value_of (bind_all q.params args) x) refl) ∙ is

  sorts_fit : (result : PureValue) (x : List ℕ) (w : PureValue) → value_of (store result) x ≡ Some w
      → IsTrue (fits_sorts (any_params q.params ++ numbered_params (length q.params) (drop (length q.params) path.vars)) x w)
  sorts_fit result x w is =
      fits_both (any_params q.params) (numbered_params (length q.params) (drop (length q.params) path.vars)) x w (any_fits q.params x w)
      (numbered_fits (length q.params) (drop (length q.params) path.vars) x w (λ i sort at named.
      let table_at : slice_get path.vars (length q.params + i) ≡ Some sort = from_drop (length q.params) path.vars i ∙ at in
      let within : length q.params + i < length path.vars = slice_get_within path.vars (length q.params + i) sort table_at in
      let many : length values ≡ length path.vars = along.proper.one_each in
      let (u, value_at) = there_is values (length q.params + i) (omega (arith, within, many)) in
      let name_at : slice_get (all_names q e path) (length q.params + i) ≡ Some (numbered (length q.params + i)) =
      at_right q.params (numbered_from (length q.params) (length path.vars - length q.params)) i ∙ numbered_at (length q.params) (length path.vars - length q.params) i (omega (arith, within)) in
      let there : value_of (store result) (numbered (length q.params + i)) ≡ Some u =
      exact_value p memory m stands terms kept meaning q e start path how n posts errors told entry split path_over programs args variables own counter along result
      (length q.params + i) (numbered (length q.params + i)) u name_at value_at in
      let same : u ≡ w = same_some (sym there ∙ ap (value_of (store result)) named ∙ is) in
      subst (λ y. spec_has_sort (name_sort sort) y ≡ true) same (sort_kept sort u (along.proper.sorts (length q.params + i) sort u table_at value_at))))

  pub post_store : (result : PureValue) → IsPostStore (spec_of q e path posts errors) args variables result (store result)
  post_store result = record {
    parameters = subst (λ xs. Agrees (store result) xs args) (sym (any_names q.params)) (params_agree result);
    variables_stay = variables_stay result;
    result = refl;
    sorts = sorts_fit result;
  }
