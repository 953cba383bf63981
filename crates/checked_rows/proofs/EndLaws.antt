-- The names of the entry, and what is matched with its result.
use Rattle.std.proofs.Common.{◌≡◌, ⊎_elim, inr, Bool, true, false, if◌then◌else◌, ℕ, List, ◌++◌, Option, Some, None, IsTrue, refl, sym, ap, subst, ◌∙◌}
use Rattle.std.specs.Str.{bytes_eq}
use Rattle.std.proofs.lemmas.Slice.Eq.{bytes_eq-Decides}
use Rattle.gil_values.specs.Equality.{same_value}
use Rattle.gil_values.specs.EqualityLaws.{same_value-same}
use Rattle.gil_values.specs.Pure.{PureValue}
use Rattle.gil_syntax.specs.declared.assertions.Param.{Param}
use Rattle.gil_syntax.specs.Evaluation.{Store, bind, value_of}
use Rattle.gil_syntax.specs.Pure.{PureParts, PureItem, PureSpec}
use Rattle.gil_syntax.specs.Valid.{param_names}
use Rattle.mem_model.specs.Heaps.{Heap}
use Rattle.assert_logic.specs.LogicStates.{LogicState}
use Rattle.footprint.specs.Consuming.{MatchesWhole, MatchesNone, some_match}
use Rattle.footprint.specs.Leaves.{Premise, AreAll, IsUnmatched}
use Rattle.footprint.specs.Pure.{PureMatch, PureStop}
use Rattle.sym_model.specs.Alternatives.{Hold, other}
use Rattle.sym_matching.proofs.TestLaws.{equal_says}
use Rattle.sym_matching.specs.Meaning.{SaysTest}
use Rattle.sym_matching.specs.Splitting.{equal_test}
use Rattle.sym_model.proofs.ListLaws.{same_some, not_none, one_to, one_with}
use Rattle.sym_model.specs.Lists.{Each}
use Rattle.sym_model.specs.Terms.{StateTerms}
use Rattle.sym_states.proofs.Conditions.{met_both, met_parts}
use Rattle.sym_states.specs.Meaning.{Stands, Serves, IsOverTable}
use Rattle.sym_states.specs.Pure.{PureState}
use Rattle.gil_machine.specs.Step.{bind_all}
use Rattle.checked_runs.specs.Checked.{Entry, has_or_gets, result_store, some_matches}
use Rattle.checked_runs.specs.Specifications.{entry_store, result_name}
use Rattle.pure_terms.specs.Meaning.{value, all_true, IsProper, IsOver, IsUnsatisfiable}
use Rattle.pure_terms.specs.Pure.{PureTerm, PureAtom}
use Rattle.sym_evaluation.specs.Meaning.{AreSame, StandsFor, IsStoreOver}
use Rattle.sym_evaluation.specs.Pure.{PureStore, term_at}
use Rattle.sym_paths.proofs.Beginning.{bound_same, first_each}
use Rattle.sym_paths.proofs.Binding.{agree_bound}
use Rattle.sym_paths.specs.Frames.{IsBound, IsFirstStore, terms_bound}
use Rattle.sym_paths.specs.Meaning.{OfEachName}
use Rattle.checked_paths.specs.Meaning.{IsEntered}
use Rattle.checked_paths.specs.Pure.{PureEntry, PureNext, over as done_over}
use Rattle.checked_rows.specs.Doubts.{PureDoubt, always, under, beyond, IsDoubtIn, IsToldThere}
use Rattle.checked_rows.specs.Ending.{AreEntryNames, Finishes, MeetsNone, HasNoOther, DoubtsAResult}
use Rattle.checked_rows.proofs.MatchLaws.{found_one, Found, one_matches}
use Rattle.checked_rows.proofs.NameLaws.{same_before, stand_both, each_both}

pub entry_named : (params : List (List ℕ)) (args : List PureTerm) (variables first names : PureStore) → IsFirstStore params args first → ((x : List ℕ) → term_at names x ≡ term_at (first ++ variables) x) → AreEntryNames params args variables names
entry_named params args variables first names is named x = named x ∙ same_before first (terms_bound params args) variables x (is x)

pub entry_stands : (v : List PureValue) (e : PureEntry) (entry : Entry) (bs : PureStore) → IsEntered v e entry → AreEntryNames (param_names e.spec.params) e.args e.variables bs → StandsFor v bs (entry_store entry.spec entry.args entry.variables)
entry_stands v e entry bs entered names x =
    subst (λ s. AreSame v (term_at bs x) (value_of (entry_store s entry.args entry.variables) x)) (sym entered.spec)
    (subst (λ o. AreSame v o (value_of (entry_store e.spec entry.args entry.variables) x)) (sym (names x))
    (stand_both v (terms_bound (param_names e.spec.params) e.args) e.variables (bind_all (param_names e.spec.params) entry.args) entry.variables (bound_same v (param_names e.spec.params) e.args entry.args entered.args) entered.variables x))

-- where no name of the entry is the result's, the result gets it
no_value : (v : List PureValue) (o : Option PureTerm) (u : Option PureValue) → AreSame v o u → o ≡ None → u ≡ None
no_value v None None same is = refl
no_value v None (Some w) same is = absurd same
no_value v (Some t) u same is = absurd_some is
  where
    absurd_some : Some t ≡ None → u ≡ None
    absurd_some none = absurd (cc)

pub result_is : (v : List PureValue) (entry : Entry) (bs : PureStore) (w : PureValue) → StandsFor v bs (entry_store entry.spec entry.args entry.variables) → term_at bs result_name ≡ None
    → result_store entry w ≡ Some (bind result_name w (entry_store entry.spec entry.args entry.variables))
result_is v entry bs w stands none =
    ap (λ o. has_or_gets o w (entry_store entry.spec entry.args entry.variables)) (no_value v (term_at bs result_name) (value_of (entry_store entry.spec entry.args entry.variables) result_name) (stands result_name) none)

pub entry_names_over : (P : PureTerm → Type 0) (params : List (List ℕ)) (args : List PureTerm) (variables bs : PureStore) → Each P args → OfEachName P variables → AreEntryNames params args variables bs → OfEachName P bs
entry_names_over P params args variables bs all others names x t is =
    each_both P (terms_bound params args) variables (first_each P params args (terms_bound params args) (λ y. refl) all) others x t (sym (names x) ∙ is)

-- ---- a name that has a term already

value_there : (v : List PureValue) (o : Option PureTerm) (u : Option PureValue) (r : PureTerm) → AreSame v o u → o ≡ Some r → (a : PureValue) × ((u ≡ Some a) × (value v r ≡ Some a))
value_there v (Some t) (Some a) r same is = (a, (refl, ap (value v) (sym (same_some is)) ∙ same))
value_there v (Some t) None r same is = absurd same
value_there v None u r same is = not_none is

-- a name that has the value already gets a term of it
kept_value : (v : List PureValue) (bs cs : PureStore) (s : Store) (x : List ℕ) (t : PureTerm) (w : PureValue) → IsBound bs x t cs → value v t ≡ Some w → value_of s x ≡ Some w → StandsFor v bs s → StandsFor v cs s
kept_value v bs cs s x t w bound val has stands y = subst (λ o. AreSame v o (value_of s y)) (sym (bound y)) (by (bytes_eq x y) refl)
  where
    by : (b : Bool) → bytes_eq x y ≡ b → AreSame v (if b then Some t else term_at bs y) (value_of s y)
    by true same = subst (AreSame v (Some t)) (sym (ap (value_of s) (sym ((bytes_eq-Decides x y).0 same)) ∙ has)) val
    by false other_name = stands y

-- ---- the store under which postconditions are matched

module _ {S : Type 0} (p : PureParts) (stands : S → List PureValue → Heap → Type 0) (e : PureEntry) (posts : List (List PureItem)) (t : PureTerm) (s : PureState S) (before : PureStore)
    (of_entry : AreEntryNames (param_names e.spec.params) e.args e.variables before) (before_over : IsStoreOver s.vars before) (term_over : IsOver s.vars t) where
  -- what comparing the result with a term that has its name says
  compared_there : (v : List PureValue) (r : PureTerm) (a w : PureValue) → term_at before result_name ≡ Some r → IsProper s.vars v → value v r ≡ Some a → value v t ≡ Some w → SaysTest v (equal_test r t) (same_value a w)
  compared_there v r a w is proper first second = equal_says s.vars v r t a w (record { proper = proper; first_over = before_over result_name r is; second_over = term_over; first = first; second = second })

  same_there : (v : List PureValue) (r : PureTerm) (a w : PureValue) → term_at before result_name ≡ Some r → Each (λ more. IsUnsatisfiable s.vars (s.conds ++ more)) (other r t) → IsProper s.vars v → IsTrue (all_true v s.conds)
      → value v r ≡ Some a → value v t ≡ Some w → same_value a w ≡ true
  same_there v r a w is never proper met first second =
      let says = compared_there v r a w is proper first second in
      ⊎_elim says.when
      (λ holds. absurd (one_with (λ more. IsUnsatisfiable s.vars (s.conds ++ more)) (λ more. IsTrue (all_true v more)) (other r t) never holds
      (λ more isnt taken. isnt v (record { proper = proper; true_there = met_both v s.conds more met taken })))) says.cover

  module _ (v : List PureValue) (entry : Entry) (l : LogicState) (w : PureValue) (entered : IsEntered v e entry) (stand : Stands stands s v l) (val : value v t ≡ Some w) where
    abbrev Known : Store
    Known = entry_store entry.spec entry.args entry.variables

    standing : StandsFor v before Known
    standing = entry_stands v e entry before entered of_entry

    -- a result that isn't what has its name meets no postcondition
    other_fails : (r : PureTerm) → term_at before result_name ≡ Some r → Hold v (other r t) → some_matches p entry posts (result_store entry w) l ≡ false
    other_fails r is holds =
        let (a, (has, first)) = value_there v (term_at before result_name) (value_of Known result_name) r (standing result_name) is in
        let differ : same_value a w ≡ false = (compared_there v r a w is stand.proper first val).otherwise holds in
        ap (λ o. some_matches p entry posts o l) (ap (λ o. has_or_gets o w Known) has ∙ ap (λ b. if b then Some Known else None) differ)

    result_stands : (bs : PureStore) → IsBound before result_name t bs → (o : Option PureTerm) → term_at before result_name ≡ o → HasNoOther s.vars s.conds t o → (u : Store) × ((result_store entry w ≡ Some u) × StandsFor v bs u)
    result_stands bs bound None is none = (bind result_name w Known, (result_is v entry before w standing is, agree_bound v before bs Known result_name t w bound val standing))
    result_stands bs bound (Some r) is never =
        let (a, (has, first)) = value_there v (term_at before result_name) (value_of Known result_name) r (standing result_name) is in
        let same : same_value a w ≡ true = same_there v r a w is never stand.proper stand.meets first val in
        let has_it : value_of Known result_name ≡ Some w = has ∙ ap Some (same_value-same a w same) in
        (Known, (ap (λ o. has_or_gets o w Known) has ∙ ap (λ b. if b then Some Known else None) same, kept_value v before bs Known result_name t w bound val has_it standing))

  -- ---- the doubt that the result is what has its name

  doubt_by : (o : Option PureTerm) → term_at before result_name ≡ o → (doubt : PureDoubt) → DoubtsAResult s.vars s.conds t o doubt → IsDoubtIn s (MeetsNone p stands e posts t s) doubt
  doubt_by None is doubt none = absurd none
  doubt_by (Some r) is always one = found_one (λ more. IsToldThere s.vars s.conds more always) (other r t) (λ more told. absurd told) one
  doubt_by (Some r) is (under atoms u) one =
      let Told : List PureAtom → Type 0 = λ more. IsToldThere s.vars s.conds more (under atoms u) in (
        found_one Told (other r t) (λ more told. (more, told.0)) one,
        found_one Told (other r t) (λ more told. told.1) one,
        λ v met entry l w entered stand val.
            other_fails v entry l w entered stand val r is
            (one_to Told (λ more. IsTrue (all_true v more)) (other r t) (λ more told. (met_parts v s.conds more (subst (λ cs. IsTrue (all_true v cs)) told.0 met)).1) one),
      )
  doubt_by (Some r) is (beyond atoms reason) one = found_one (λ more. IsToldThere s.vars s.conds more (beyond atoms reason)) (other r t) (λ more told. ((more, told.0), told.1)) one

  pub result_doubt : (doubt : PureDoubt) → DoubtsAResult s.vars s.conds t (term_at before result_name) doubt → IsDoubtIn s (MeetsNone p stands e posts t s) doubt
  result_doubt doubt one = doubt_by (term_at before result_name) refl doubt one

  -- ---- what matching the postconditions gives

  module _ (terms : S → StateTerms) (kept : S → Type 0) (bs : PureStore) (bound : IsBound before result_name t bs) (none_other : HasNoOther s.vars s.conds t (term_at before result_name)) (over : IsOverTable terms s)
      (store_over : IsStoreOver s.vars bs) where
    abbrev Serving : Premise
    Serving = Serves stands terms s bs

    abbrev Scope : List Param
    Scope = e.spec.params ++ e.spec.logicals

    -- what is known of each store under which the state serves is known of the entry's result
    told_of_result : (b : Bool) (v : List PureValue) (entry : Entry) (l : LogicState) (w : PureValue) → IsEntered v e entry → Stands stands s v l → value v t ≡ Some w
        → ((u : Store) → Serving v u l → some_match p.preds Scope posts u l ≡ b) → some_matches p entry posts (result_store entry w) l ≡ b
    told_of_result b v entry l w entered stand val known =
        let (u, (is, stands_u)) = result_stands v entry l w entered stand val bs bound (term_at before result_name) refl none_other in
        ap (λ o. some_matches p entry posts o l) is
        ∙ subst (λ (k : PureSpec). some_match p.preds (k.params ++ k.logicals) posts u l ≡ b) (sym entered.spec) (known u (record { over = over; store_over = store_over; store = stands_u; state = stand }))

    pub finished : (ms : List (PureMatch S)) → AreAll stands terms kept s Serving (MatchesWhole p.preds Scope posts) ms → (k : PureNext S) → k ≡ done_over → Finishes p stands e posts t s k
    finished ms all k is = inr (
      is,
      λ v entry l w entered stand val.
          told_of_result true v entry l w entered stand val
          (λ u serves. found_one (Found stands terms kept s Serving (MatchesWhole p.preds Scope posts) v u l) ms (λ j (t', (l', (gives, served))). gives)
          (one_matches stands terms kept s Serving (MatchesWhole p.preds Scope posts) ms v u l all serves)),
    )

    pub stopped : (c : PureStop) (u : List PureValue) → IsUnmatched stands terms kept s Serving (MatchesNone p.preds Scope posts) c u → IsDoubtIn s (MeetsNone p stands e posts t s) (under c.conds u)
    stopped c u none = (
      none.stop.longer,
      none.meets,
      λ v met entry l w entered stand val. told_of_result false v entry l w entered stand val (λ h serves. none.stop.exact v h l serves met),
    )
