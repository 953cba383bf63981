-- What a match leaves, the former visit, and the faults of the row.
use Rattle.std.proofs.Common.{◌≡◌, ℕ, List, [], ◌∷◌, ◌++◌, Bool, true, false, ◌&&◌, cond, Option, Some, None, refl, sym, ap, subst, ◌∙◌}
use Rattle.std.specs.Prelude.{nat_eq}
use Rattle.gil_values.specs.Pure.{PureValue}
use Rattle.gil_syntax.specs.declared.assertions.Param.{Param}
use Rattle.gil_syntax.specs.Pure.{PureParts, PureItem, PureNumberedCommand, PureSpec, loop_invariant}
use Rattle.mem_model.specs.declared.keys.MemoryName.{MemoryName}
use Rattle.mem_model.specs.Actions.{Actions}
use Rattle.mem_model.specs.Heaps.{Heap}
use Rattle.assert_logic.specs.Matching.{Matching, stops, match_assertion}
use Rattle.checked_runs.specs.Checked.{Checked, Entry, Passed, has_fault, invariant, logicals_in, names_at, logic_state, has_all, known_fit, match_of, passed_at, current_passed, invariant_match, Visits}
use Rattle.pure_terms.specs.declared.variables.Sort.{Sort}
use Rattle.sym_evaluation.specs.Pure.{PureStore}
use Rattle.sym_model.specs.Lists.{Each}
use Rattle.sym_model.specs.Terms.{StateTerms}
use Rattle.sym_model.proofs.ListLaws.{each_to}
use Rattle.sym_paths.proofs.Moving.{running_stands}
use Rattle.sym_paths.specs.Frames.{running_store}
use Rattle.sym_paths.specs.Meaning.{command_of_path}
use Rattle.footprint.specs.Pure.{PureMatch, PureStop, all_match}
use Rattle.checked_paths.specs.declared.nexts.FaultKind.{FaultKind}
use Rattle.checked_paths.specs.Choosing.{LeadsAlong}
use Rattle.checked_paths.specs.Meaning.{IsPassedOver, StandsForChecked, IsCheckedOver}
use Rattle.checked_paths.specs.Pure.{PureEntry, PurePassed, PureChecking}
use Rattle.checked_rows.specs.Doubts.{PureDoubt, always, under, beyond, IsRightDoubt}
use Rattle.checked_rows.specs.Matching.{IsStopThere, IsMatchThere, MatchesThere}
use Rattle.checked_rows.specs.Names.{logicals_there, AreNames}
use Rattle.checked_rows.proofs.ExactLaws.{leads_along, chosen_there}
use Rattle.checked_rows.proofs.NameLaws.{names_stand, same_logicals}
use Rattle.invariant_rows.specs.Entering.{running_next}
use Rattle.invariant_rows.specs.Fitting.{AllFit, DoubtsSorts}
use Rattle.invariant_rows.specs.Listed.{have_terms}
use Rattle.invariant_rows.specs.Passing.{former_at, of_running}
use Rattle.invariant_rows.specs.Visiting.{ArePassedIfAny, IsFormerOver, IsLeft, IsKnown}
use Rattle.invariant_rows.proofs.EnterLaws.{next_of_frames}
use Rattle.invariant_rows.proofs.FitLaws.{all_fit}
use Rattle.invariant_rows.proofs.ListedLaws.{all_have_values}
use Rattle.invariant_rows.proofs.PassedLaws.{passed_if_any}

-- what a former visit left names only variables of the table
former_over : {S : Type 0} (terms : S → StateTerms) (vars : List Sort) (i : ℕ) (qs : List (PurePassed S)) → Each (IsPassedOver terms vars) qs → IsFormerOver terms vars (former_at i qs)
former_over terms vars i [] all = tt
former_over terms vars i (q ∷ qs) all = by (nat_eq q.at i) (former_over terms vars i qs all.1)
  where
    by : (b : Bool) → IsFormerOver terms vars (former_at i qs) → IsFormerOver terms vars (cond b (Some q) (former_at i qs))
    by true later = all.0
    by false later = later

running_over : {S : Type 0} (terms : S → StateTerms) (vars : List Sort) (frames : List (List (PurePassed S))) → Each (Each (IsPassedOver terms vars)) frames → Each (IsPassedOver terms vars) (of_running frames)
running_over terms vars [] all = tt
running_over terms vars (qs ∷ later) all = all.0

-- where the assertion stops, or the names aren't what the invariant asks, nothing is matched
stopped_match : (b : Bool) (r : Matching) (n : ℕ) → r ≡ stops n → match_of b r ≡ None
stopped_match true r n is = ap (match_of true) is
stopped_match false r n is = refl

refused_match : (b : Bool) (r : Matching) → b ≡ false → match_of b r ≡ None
refused_match b r is = ap (λ k. match_of k r) is

module _ (p : PureParts) (memory : MemoryName) (m : Actions) {S : Type 0} (stands : S → List PureValue → Heap → Type 0) (terms : S → StateTerms) (e : PureEntry) (x : PureChecking S) (xs : List (List ℕ)) (ps : List Param) (items : List PureItem)
    (scope : List Param) (is_scope : scope ≡ logicals_there x.path.stack e.spec.logicals ++ ps) where
  scope_is : (v : List PureValue) (entry : Entry) (c : Checked) → StandsForChecked stands e x v entry c → scope ≡ logicals_in c.machine.callers entry ++ ps
  scope_is v entry c stand =
      is_scope ∙ ap (λ qs. qs ++ ps) (ap (λ (s : PureSpec). logicals_there x.path.stack s.logicals) (sym stand.entered.spec) ∙ same_logicals v x.path.stack c.machine.current c.machine.callers entry stand.path.frames)

  has_all_there : (v : List PureValue) (entry : Entry) (c : Checked) → StandsForChecked stands e x v entry c → have_terms xs (running_store x.path.stack) ≡ has_all xs c.machine.current.store
  has_all_there v entry c stand = all_have_values xs v (running_store x.path.stack) c.machine.current.store (running_stands v x.path.stack c.machine.current c.machine.callers stand.path.frames)

  -- ---- faults

  module _ (n : PureNumberedCommand) (at : command_of_path p x.path ≡ Some n) (this : n.command ≡ loop_invariant xs ps items) where
    no_match : (v : List PureValue) (entry : Entry) (c : Checked) → StandsForChecked stands e x v entry c → invariant_match p memory m entry xs ps items c ≡ None → LeadsAlong p memory m entry c None (has_fault invariant)
    no_match v entry c stand none =
        leads_along p memory m stands x.path v entry c n (loop_invariant xs ps items) stand.path at this None (has_fault invariant) (
          subst (λ o. Visits p memory m entry (passed_at c.machine.current.next (current_passed c.passed)) o xs ps items c (has_fault invariant)) (sym none) (by (passed_at c.machine.current.next (current_passed c.passed))),
          chosen_there p memory m stands x.path v entry c n (loop_invariant xs ps items) stand.path at this,
        )
      where
        by : (o : Option Passed) → Visits p memory m entry o None xs ps items c (has_fault invariant)
        by None = refl
        by (Some q) = refl

    -- a listed name has no value
    pub unlisted_is_fault : have_terms xs (running_store x.path.stack) ≡ false → IsRightDoubt p memory m stands e x FaultKind.Invariant always
    unlisted_is_fault none v entry c stand met =
        no_match v entry c stand
        (refused_match (has_all xs c.machine.current.store && known_fit (names_at entry c) (logicals_in c.machine.callers entry ++ ps)) (match_assertion p.preds (logicals_in c.machine.callers entry ++ ps) items (names_at entry c) (logic_state c))
        (ap (λ b. b && known_fit (names_at entry c) (logicals_in c.machine.callers entry ++ ps)) (sym (has_all_there v entry c stand) ∙ none)))

    -- a known name has no value of its sort
    pub unfit_is_fault : (names : PureStore) → AreNames x.path.stack e.variables names → (doubt : PureDoubt) → DoubtsSorts scope x.path.vars x.path.conds names doubt → IsRightDoubt p memory m stands e x FaultKind.Invariant doubt
    unfit_is_fault names are_names always doubts = absurd doubts
    unfit_is_fault names are_names (under conds u) (longer, meets, misfits) = (
      longer,
      meets,
      λ v entry c stand met.
          let unfit : known_fit (names_at entry c) scope ≡ false =
          misfits v (names_at entry c) stand.path.proper met (names_stand v x.path.stack c.machine.current c.machine.callers e.variables names entry stand.path.frames stand.entered.variables are_names) in
          no_match v entry c stand
          (refused_match (has_all xs c.machine.current.store && known_fit (names_at entry c) (logicals_in c.machine.callers entry ++ ps)) (match_assertion p.preds (logicals_in c.machine.callers entry ++ ps) items (names_at entry c) (logic_state c))
          (neither (has_all xs c.machine.current.store) (known_fit (names_at entry c) (logicals_in c.machine.callers entry ++ ps)) (subst (λ qs. known_fit (names_at entry c) qs ≡ false) (scope_is v entry c stand) unfit))),
    )
      where
        neither : (a b : Bool) → b ≡ false → (a && b) ≡ false
        neither true b is = is
        neither false b is = refl
    unfit_is_fault names are_names (beyond conds reason) doubts = doubts

    -- the assertion isn't matched
    pub unmatched_is_fault : (k : PureStop) (u : List PureValue) → IsStopThere stands terms e x p.preds scope items k u → IsRightDoubt p memory m stands e x FaultKind.Invariant (under k.conds u)
    unmatched_is_fault k u stop = (
      stop.longer,
      stop.meets,
      λ v entry c stand met.
          no_match v entry c stand
          (stopped_match (has_all xs c.machine.current.store && known_fit (names_at entry c) (logicals_in c.machine.callers entry ++ ps)) (match_assertion p.preds (logicals_in c.machine.callers entry ++ ps) items (names_at entry c) (logic_state c)) k.item
          (subst (λ qs. match_assertion p.preds qs items (names_at entry c) (logic_state c) ≡ stops k.item) (scope_is v entry c stand) (stop.stops v entry c stand met))),
    )

  -- ---- what is left

  pub is_known : IsCheckedOver terms e x → IsKnown p memory m stands terms e x xs ps items (former_at (running_next x.path.stack) (of_running x.passed))
  is_known over = record {
    known = λ v entry c stand.
        subst (λ i. ArePassedIfAny stands v (former_at (running_next x.path.stack) (of_running x.passed)) (passed_at i (current_passed c.passed))) (next_of_frames v x.path.stack c.machine.current c.machine.callers stand.path.frames)
        (passed_if_any stands v (running_next x.path.stack) x.passed c.passed stand.passed);
    over = former_over terms x.path.vars (running_next x.path.stack) (of_running x.passed) (running_over terms x.path.vars x.passed over.passed);
  }

  module _ (former : Option (PurePassed S)) (listed : have_terms xs (running_store x.path.stack) ≡ true) (names : PureStore) (are_names : AreNames x.path.stack e.variables names) (fits : AllFit scope x.path.vars x.path.conds names scope) where
    is_left : (k : PureMatch S) → IsMatchThere stands terms e x p.preds scope items k → IsLeft p memory m stands terms e x xs ps items former k.state
    is_left k there = record {
      of_path = there.of_path;
      left = λ v entry c stand met.
          let found = there.exact v entry c stand met in
          let have : has_all xs c.machine.current.store ≡ true = sym (has_all_there v entry c stand) ∙ listed in
          let fit : known_fit (names_at entry c) scope ≡ true =
          all_fit scope x.path.vars x.path.conds names v (names_at entry c) (record { proper = stand.path.proper; true_there = stand.path.meets })
          (names_stand v x.path.stack c.machine.current c.machine.callers e.variables names entry stand.path.frames stand.entered.variables are_names) fits in
          let is_match : invariant_match p memory m entry xs ps items c ≡ Some found.found =
          subst (λ qs. match_of (has_all xs c.machine.current.store && known_fit (names_at entry c) qs) (match_assertion p.preds qs items (names_at entry c) (logic_state c)) ≡ Some found.found) (scope_is v entry c stand)
          (λ i. match_of (have i && fit i) (found.matches i)) in
          (found.found, (is_match, found.state));
    }

    pub are_left : (ms : List (PureMatch S)) → MatchesThere stands terms e x p.preds scope items (all_match ms) → Each (λ k. IsLeft p memory m stands terms e x xs ps items former k.state) ms
    are_left ms there = each_to (IsMatchThere stands terms e x p.preds scope items) (λ k. IsLeft p memory m stands terms e x xs ps items former k.state) ms is_left there.1
