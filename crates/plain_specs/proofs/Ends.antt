-- Where a run leaves what meets a postcondition, its checked run leaves what is matched with it.
use Rattle.std.proofs.Common.{◌≡◌, ◌⊎◌, ⊎_elim, inl, inr, ℕ, zero, suc, List, [], ◌∷◌, ◌++◌, length, Bool, true, false, ◌&&◌, ◌||◌, cond, Option, Some, None, is_some, slice_get, refl, sym, ap, ◌∙◌, true≢false, arith, codes}
use Rattle.std.specs.List.{list_all, list_any}
use Rattle.std.specs.Prelude.{nat_eq}
use Rattle.std.specs.FinMap.{empty, len-empty}
use Rattle.std.specs.Str.{bytes_eq}
use Rattle.std.proofs.lemmas.Bool.{and_parts}
use Rattle.std.proofs.lemmas.Slice.Eq.{bytes_eq-Decides}
use Rattle.gil_values.specs.Pure.{PureValue}
use Rattle.gil_values.specs.Equality.{same_value}
use Rattle.gil_values.specs.EqualityLaws.{same_value-refl}
use Rattle.gil_syntax.specs.declared.assertions.Param.{Param}
use Rattle.gil_syntax.specs.Evaluation.{Store, bind, value_of}
use Rattle.gil_syntax.specs.Programs.{find_spec}
use Rattle.gil_syntax.specs.Pure.{PureItem, PureSpec, PureParts}
use Rattle.gil_syntax.specs.Valid.{param_names, is_among, IsValid}
use Rattle.gil_syntax.specs.WellMade.{has_hash, is_well_made}
use Rattle.gil_machine.specs.Step.{bind_all}
use Rattle.mem_model.specs.declared.keys.MemoryName.{MemoryName}
use Rattle.mem_model.specs.Heaps.{Heap}
use Rattle.mem_model.specs.Keys.{key_cmp}
use Rattle.assert_logic.specs.Laws.{is_core_item}
use Rattle.assert_logic.specs.LogicStates.{LogicState}
use Rattle.assert_logic.specs.Matching.{match_assertion, once}
use Rattle.assert_logic.specs.Meets.{Meets, HoldsSomewhere}
use Rattle.assert_logic.specs.Modes.{postcondition, is_variable_of, known_at_first, HasModes}
use Rattle.assert_logic.specs.Names.{named_by_items}
use Rattle.assert_logic.specs.Sorts.{Extends}
use Rattle.assert_logic.proofs.CoreMatching.{items_matched}
use Rattle.assert_logic.proofs.UnionLaws.{union_with_none}
use Rattle.checked_runs.specs.Checked.{Entry, is_nothing, leaves_nothing, has_or_gets, result_store, some_matches}
use Rattle.checked_runs.specs.Specifications.{IsEntry, entry_store, result_name, IsPostStore, MeetsOne}
use Rattle.checked_runs.proofs.Readable.{place_of}
use Rattle.checked_runs.proofs.Runs.{named_has_value}
use Rattle.checked_runs.proofs.Stores.{good_spec, bound_at, args_agree, first_value, either_value, fit_length}
use Rattle.plain_specs.proofs.Declared.{IsReadable}
use Rattle.plain_specs.proofs.Frames.{same_some, no_value}

at_place : (xs : List (List ℕ)) (vs : List PureValue) (i : ℕ) (x : List ℕ) → length xs ≡ length vs → slice_get xs i ≡ Some x → (v : PureValue) × (slice_get vs i ≡ Some v)
at_place [] vs i x as_many at = no_value x at
at_place (y ∷ xs) [] i x as_many at = absurd (omega (arith, as_many))
at_place (y ∷ xs) (v ∷ vs) zero x as_many at = (v, refl)
at_place (y ∷ xs) (v ∷ vs) (suc i) x as_many at = at_place xs vs i x (omega (arith, as_many)) at

any_at : (f : List PureItem → Bool) (posts : List (List PureItem)) (i : ℕ) (items : List PureItem) → slice_get posts i ≡ Some items → f items ≡ true → list_any f posts ≡ true
any_at f [] i items at is = no_value items at
any_at f (first ∷ posts) zero items at is = ap (λ b. b || list_any f posts) (ap f (same_some at) ∙ is)
any_at f (first ∷ posts) (suc i) items at is = by (f first) (any_at f posts i items at is)
  where
    by : (b : Bool) → list_any f posts ≡ true → (b || list_any f posts) ≡ true
    by true later = refl
    by false later = later

in_both : (ps qs : List Param) (x : List ℕ) → is_among (param_names qs) x ≡ true → is_among (param_names (ps ++ qs)) x ≡ true
in_both [] qs x is = is
in_both (q ∷ ps) qs x is = by (bytes_eq x q.name) (in_both ps qs x is)
  where
    by : (b : Bool) → is_among (param_names (ps ++ qs)) x ≡ true → (b || is_among (param_names (ps ++ qs)) x) ≡ true
    by true later = refl
    by false later = later

module _ (p : PureParts) (memory : MemoryName) (made : is_well_made p ≡ true) (valid : IsValid p) (modes : HasModes p memory)
    (s : PureSpec) (found : find_spec p.specs s.name ≡ Some s) (args : List PureValue) (variables : Store) (entered : IsEntry s args variables)
    (heap : Heap) (meets : Meets (HoldsSomewhere p.preds) (entry_store s args variables) s.pre heap) where
  abbrev entry : Entry
  entry = record { spec = s; args = args; variables = variables }

  abbrev at_entry : Store
  at_entry = entry_store s args variables

  entry_within : (v : PureValue) (store : Store) → IsPostStore s args variables v store → Extends at_entry store
  entry_within v store post x w is =
      ⊎_elim (λ arg. let (i, (name, value)) = bound_at (param_names s.params) args x w arg in post.parameters i x w name value)
      (λ variable. post.variables_stay x w variable.1) (either_value (bind_all (param_names s.params) args) variables x w is)

  -- the store with which a postcondition is matched
  record IsEnd (v : PureValue) (store t : Store) : Type 0 where
    is : result_store entry v ≡ Some t
    further : Extends at_entry t
    within : Extends t store
    result : value_of t result_name ≡ Some v

  end_there : (v : PureValue) (store : Store) → IsPostStore s args variables v store → (t : Store) × IsEnd v store t
  end_there v store post = by (value_of at_entry result_name) refl
    where
      by : (o : Option PureValue) → value_of at_entry result_name ≡ o → (t : Store) × IsEnd v store t
      by (Some w) at =
          let same : w ≡ v = same_some (sym (entry_within v store post result_name w at) ∙ post.result) in (
            at_entry,
            record {
              is = ap (λ o. has_or_gets o v at_entry) at ∙ ap (λ b. cond b (Some at_entry) None) (ap (λ u. same_value u v) same ∙ same_value-refl v);
              further = λ x u is. is;
              within = entry_within v store post;
              result = at ∙ ap Some same;
            },
          )
      by None at = (
        bind result_name v at_entry,
        record {
          is = ap (λ o. has_or_gets o v at_entry) at;
          further = λ x u is. further x u (bytes_eq result_name x) refl is;
          within = λ x u is. within x u (bytes_eq result_name x) refl is;
          result = ap (λ b. cond b (Some v) (value_of at_entry result_name)) ((bytes_eq-Decides result_name result_name).1 refl);
        },
      )
        where
          further : (x : List ℕ) (u : PureValue) (b : Bool) → bytes_eq result_name x ≡ b → value_of at_entry x ≡ Some u → cond b (Some v) (value_of at_entry x) ≡ Some u
          further x u true same is = no_value u (sym at ∙ ap (value_of at_entry) ((bytes_eq-Decides result_name x).0 same) ∙ is)
          further x u false other is = is

          within : (x : List ℕ) (u : PureValue) (b : Bool) → bytes_eq result_name x ≡ b → cond b (Some v) (value_of at_entry x) ≡ Some u → value_of store x ≡ Some u
          within x u true same is = ap (value_of store) (sym ((bytes_eq-Decides result_name x).0 same)) ∙ post.result ∙ is
          within x u false other is = entry_within v store post x u is

  abbrev HasValue : Store → List ℕ → Type 0
  HasValue t x = is_some (value_of t x) ≡ true

  entry_knows : (x : List ℕ) → (is_among (param_names s.params) x ≡ true) ⊎ (is_variable_of s x ≡ true) → (v : PureValue) × (value_of at_entry x ≡ Some v)
  entry_knows x (inl param) =
      let (i, name) = place_of (param_names s.params) x param in
      let (v, value) = at_place (param_names s.params) args i x (fit_length s.params args entered.arguments_fit) name in
      (v, first_value (bind_all (param_names s.params) args) variables x v (args_agree (param_names s.params) args (good_spec p memory s.name s made valid modes found).distinct i x v name value))
  entry_knows x (inr variable) = named_has_value at_entry x p.preds s.pre heap meets (and_parts (has_hash x) (named_by_items s.pre x) variable).1

  end_knows : (v : PureValue) (store t : Store) → IsEnd v store t → (x : List ℕ) → known_at_first (postcondition s) x ≡ true → HasValue t x
  end_knows v store t end x known =
      ⊎_elim of_entry
      (λ is_result. ap is_some (ap (value_of t) ((bytes_eq-Decides x (codes "ret")).0 is_result) ∙ end.result))
      (parts (is_among (param_names s.params) x) (is_variable_of s x) (bytes_eq x (codes "ret")) known)
    where
      of_entry : (is_among (param_names s.params) x ≡ true) ⊎ (is_variable_of s x ≡ true) → HasValue t x
      of_entry old = let (w, at) = entry_knows x old in ap is_some (end.further x w at)

      parts : (a b c : Bool) → (a || b || c) ≡ true → ((a ≡ true) ⊎ (b ≡ true)) ⊎ (c ≡ true)
      parts true b c is = inl (inl refl)
      parts false true c is = inl (inr refl)
      parts false false c is = inr is

  module _ (v : PureValue) (left : Heap) where
    abbrev left_alone : LogicState
    left_alone = record { heap = left; facts = [] }

    post_matched : (items : List PureItem) → IsReadable p memory made valid modes s found items → list_all is_core_item items ≡ true → (store : Store) (post : IsPostStore s args variables v store) → Meets (HoldsSomewhere p.preds) store items left
        → (t : Store) → IsEnd v store t → leaves_nothing (match_assertion p.preds (s.params ++ s.logicals) items t left_alone) ≡ true
    post_matched items readable core store post is_met t end =
        let r = items_matched store (s.params ++ s.logicals) post.sorts (named_by_items items) (once p.preds) (postcondition s) memory [] p.preds 0 [] items t left left empty
        (record { within = end.within; declares = declares }) (λ x named known. end_knows v store t end x known) core readable.reads (λ x is. is) is_met (union_with_none left) in
        ap leaves_nothing r.is ∙ ap is_nothing r.left ∙ ap (λ n. nat_eq n 0 && true) (len-empty key_cmp PureValue)
      where
        declares : (x : List ℕ) → named_by_items items x ≡ true → value_of t x ≡ None → is_among (param_names (s.params ++ s.logicals)) x ≡ true
        declares x named none =
            ⊎_elim (λ known. absurd (true≢false (sym (end_knows v store t end x known) ∙ ap is_some none))) (in_both s.params s.logicals x) (readable.names x named)

    pub some_match : (posts : List (List PureItem)) → list_all (list_all is_core_item) posts ≡ true → ((i : ℕ) (items : List PureItem) → slice_get posts i ≡ Some items → IsReadable p memory made valid modes s found items)
        → MeetsOne p s args variables v posts left → some_matches p entry posts (result_store entry v) left_alone ≡ true
    some_match posts core readable one =
        let (t, end) = end_there v one.store one.is_store in
        ap (λ o. some_matches p entry posts o left_alone) end.is
        ∙ any_at (λ items. leaves_nothing (match_assertion p.preds (s.params ++ s.logicals) items t left_alone)) posts one.number one.post one.is_post
        (post_matched one.post (readable one.number one.post one.is_post) (core_at posts one.number one.post one.is_post core) one.store one.is_store one.meets t end)
      where
        core_at : (ps : List (List PureItem)) (i : ℕ) (items : List PureItem) → slice_get ps i ≡ Some items → list_all (list_all is_core_item) ps ≡ true → list_all is_core_item items ≡ true
        core_at [] i items at all = no_value items at
        core_at (q ∷ qs) zero items at all = ap (list_all is_core_item) (sym (same_some at)) ∙ (and_parts (list_all is_core_item q) (list_all (list_all is_core_item) qs) all).0
        core_at (q ∷ qs) (suc i) items at all = core_at qs i items at (and_parts (list_all is_core_item q) (list_all (list_all is_core_item) qs) all).1
