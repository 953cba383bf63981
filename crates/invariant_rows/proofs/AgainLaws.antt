-- A second visit is exact: the checked runs come to the faults that are told.
use Rattle.std.proofs.Common.{◌≡◌, ⊎_elim, inl, inr, ℕ, List, [], ◌∷◌, ◌++◌, ◌&&◌, true, Option, Some, None, IsSome, IsTrue, refl, sym, ap, subst, ◌∙◌, true≢false}
use Rattle.gil_values.specs.declared.places.Place.{Place}
use Rattle.gil_values.specs.Pure.{PureValue}
use Rattle.gil_syntax.specs.declared.assertions.Param.{Param}
use Rattle.gil_syntax.specs.Pure.{PureParts, PureItem, PureNumberedCommand, loop_invariant}
use Rattle.mem_model.specs.declared.keys.MemoryName.{MemoryName}
use Rattle.mem_model.specs.Actions.{Actions}
use Rattle.mem_model.specs.Heaps.{Heap}
use Rattle.assert_logic.specs.Matching.{Match}
use Rattle.checked_runs.specs.Checked.{Checked, Entry, Passed, has_fault, invariant, passed_at, current_passed, invariant_match, Visits}
use Rattle.pure_terms.specs.declared.variables.Sort.{Sort}
use Rattle.pure_terms.specs.Meaning.{all_true, value, Satisfies, IsUnsatisfiable}
use Rattle.pure_terms.specs.Pure.{PureTerm, PureAtom, opening}
use Rattle.sym_paths.specs.Asking.{IsSolution}
use Rattle.sym_model.specs.Alternatives.{Alternatives, Hold}
use Rattle.sym_evaluation.specs.Meaning.{IsStoreOver}
use Rattle.sym_evaluation.specs.Pure.{PureStore}
use Rattle.sym_model.specs.Laws.{IsMeaning}
use Rattle.sym_model.specs.Terms.{StateTerms}
use Rattle.sym_paths.proofs.Moving.{running_stands}
use Rattle.sym_paths.specs.Frames.{running_store}
use Rattle.sym_paths.specs.Meaning.{command_of_path}
use Rattle.sym_paths.specs.Steps.{IsPlaceOf}
use Rattle.sym_states.proofs.Conditions.{open_right}
use Rattle.sym_states.specs.Meaning as states
use Rattle.sym_states.specs.Pure.{PureState}
use Rattle.sym_unfolding.proofs.SearchLaws.{joined_true, true_parts}
use Rattle.footprint.proofs.Parts.{longer_both}
use Rattle.checked_paths.specs.declared.nexts.FaultKind.{FaultKind}
use Rattle.checked_paths.specs.Exactness.{IsExactNext}
use Rattle.checked_paths.specs.Meaning.{IsPassedOver, StandsForChecked, MayGoOn}
use Rattle.checked_paths.specs.Pure.{PureEntry, PurePassed, PureChecking, PureNext}
use Rattle.checked_rows.specs.Doubts.{PureDoubt, always, under, beyond, IsRightDoubt}
use Rattle.checked_rows.specs.Names.{logicals_there, AreNames}
use Rattle.checked_rows.proofs.ExactLaws.{right_next}
use Rattle.invariant_rows.specs.Differing.{PureDifference, TellsIfClear, TellsDifference}
use Rattle.invariant_rows.specs.Fitting.{AllFit, NeverMet, DoubtsOne}
use Rattle.invariant_rows.specs.Listed.{AreUnlisted}
use Rattle.invariant_rows.specs.Visiting.{OfBefore, DoubtsBefore, IsVisitedAgain, IsUndecidedThere, ArePassedIfAny, IsLeft, IsKnown}
use Rattle.invariant_rows.proofs.FirstLaws.{visits_along}
use Rattle.invariant_rows.proofs.ListedLaws.{unlisted_stand}

-- ---- what is told of the differences

-- none of the alternatives holds where the conditions are met
never_holds : (vars : List Sort) (conds : List PureAtom) (x : Alternatives) (v : List PureValue) → Satisfies vars v conds → NeverMet vars conds x → ¬ Hold v x
never_holds vars conds [] v meets never hold = hold
never_holds vars conds (more ∷ x) v meets never (inl here) = never.0 v (record { proper = meets.proper; true_there = joined_true v conds more meets.true_there here })
never_holds vars conds (more ∷ x) v meets never (inr later) = never_holds vars conds x v meets never.1 later

module _ {S : Type 0} (stands : S → List PureValue → Heap → Type 0) (terms : S → StateTerms) (bs : PureStore) (former : PurePassed S) (s : PureState S) (d : PureDifference) (tells : TellsDifference stands terms s.memory s.facts bs former d)
    (over : states.IsOverTable terms s) (store_over : IsStoreOver s.vars bs) (former_over : IsPassedOver terms s.vars former) where
  told : (v : List PureValue) → OfBefore stands bs former s (TellsIfClear v d) v
  told v p name m entry xs q left c stand of_store passed = (tells s.vars over.memory over.facts store_over former_over).2 p name m entry v xs q left c stand.proper stand.memory stand.facts of_store passed

  -- one of the alternatives may be met
  pub doubts_before : (doubt : PureDoubt) → DoubtsOne s.vars s.conds d.alternatives doubt → DoubtsBefore stands bs former s doubt
  doubts_before doubt = by d.alternatives doubt (λ v holds. holds)
    where
      by : (x : Alternatives) (doubt : PureDoubt) → ((v : List PureValue) → Hold v x → Hold v d.alternatives) → DoubtsOne s.vars s.conds x doubt → DoubtsBefore stands bs former s doubt
      by [] doubt within one = absurd one
      by (more ∷ x) doubt within (inr later) = by x doubt (λ v holds. within v (inr holds)) later
      by (more ∷ x) always within (inl is_told) = is_told
      by (more ∷ x) (under atoms u) within (inl (are, meets)) = (
        (more, are),
        meets,
        λ v met p name m entry xs q left c stand of_store passed before.
            (told v p name m entry xs q left c stand of_store passed).otherwise (within v (inl (true_parts v s.conds more (subst (λ cs. IsTrue (all_true v cs)) are met)).1)) before,
      )
      by (more ∷ x) (beyond atoms reason) within (inl (are, outside)) = ((more, are), outside)

  -- none may be, and nothing is unclear
  pub all_before : NeverMet s.vars s.conds d.alternatives → d.unclear ≡ None → (v : List PureValue) → OfBefore stands bs former s (λ P. P) v
  all_before never clear v p name m entry xs q left c stand of_store passed =
      ⊎_elim (λ holds. absurd (never_holds s.vars s.conds d.alternatives v (record { proper = stand.proper; true_there = stand.meets }) never holds)) (λ is. is)
      ((told v p name m entry xs q left c stand of_store passed).cover clear)

  opened_there : (v : List PureValue) (t : PureTerm) → IsSome (value v t) → IsTrue (all_true v (opening t ∷ []))
  opened_there v t is = ap (λ b. b && true) is

  -- no state is left where the term would have a value
  pub none_left : (t : PureTerm) → d.unclear ≡ Some t → IsUnsatisfiable s.vars (s.conds ++ opening t ∷ []) → (v : List PureValue) → OfBefore stands bs former s (λ P. P) v
  none_left t is unsat v p name m entry xs q left c stand of_store passed =
      absurd (unsat v (record {
        proper = stand.proper;
        true_there = joined_true v s.conds (opening t ∷ []) stand.meets (opened_there v t ((told v p name m entry xs q left c stand of_store passed).has_value t is));
      }))

pub undecided_before : {S : Type 0} (stands : S → List PureValue → Heap → Type 0) (bs : PureStore) (former : PurePassed S) (s : PureState S) (doubt : PureDoubt) → IsUndecidedThere s.conds doubt → DoubtsBefore stands bs former s doubt
undecided_before stands bs former s always is = is
undecided_before stands bs former s (under atoms u) is = absurd is
undecided_before stands bs former s (beyond atoms reason) is = is

-- no decider says of conditions that need a literal form that they are met
pub never_solved : (vars : List Sort) (conds : List PureAtom) (t : PureTerm) (v : List PureValue) → ¬ IsSolution vars (conds ++ opening t ∷ []) v
never_solved vars conds t v solution = true≢false (sym (open_right conds (opening t ∷ []) refl) ∙ solution.no_form)

-- ---- the row

module _ (p : PureParts) (memory : MemoryName) (m : Actions) {S : Type 0} (stands : S → List PureValue → Heap → Type 0) (terms : S → StateTerms) (meaning : IsMeaning memory stands terms) (kept : S → Type 0) (e : PureEntry) (x : PureChecking S)
    (xs : List (List ℕ)) (ps : List Param) (items : List PureItem) (bs : PureStore) (unlisted : AreUnlisted xs (running_store x.path.stack) bs) (names : PureStore) (are_names : AreNames x.path.stack e.variables names) (scope : List Param)
    (is_scope : scope ≡ logicals_there x.path.stack e.spec.logicals ++ ps) (fits : AllFit scope x.path.vars x.path.conds names scope)
    (n : PureNumberedCommand) (may : MayGoOn p terms e x) (at : command_of_path p x.path ≡ Some n) (this : n.command ≡ loop_invariant xs ps items) (here : Place) (place : IsPlaceOf p x.path.stack here)
    (q : PurePassed S) (s : PureState S) (is_left : IsLeft p memory m stands terms e x xs ps items (Some q) s) (known : IsKnown p memory m stands terms e x xs ps items (Some q)) where
  visits_again : (v : List PureValue) (entry : Entry) (c : Checked) (found : Match) (o : Option Passed) → StandsForChecked stands e x v entry c → states.Stands stands s v found.state → invariant_match p memory m entry xs ps items c ≡ Some found
      → ArePassedIfAny stands v (Some q) o → OfBefore stands bs q s (λ P. ¬ P) v
      → Visits p memory m entry o (invariant_match p memory m entry xs ps items c) xs ps items c (has_fault invariant)
  visits_again v entry c found None stand left is_match passed differ = absurd passed
  visits_again v entry c found (Some r) stand left is_match passed differ =
      subst (λ g. Visits p memory m entry (Some r) g xs ps items c (has_fault invariant)) (sym is_match)
      (inr (differ p memory m entry xs r found.state c left (unlisted_stand xs (running_store x.path.stack) bs v c.machine.current.store unlisted (running_stands v x.path.stack c.machine.current c.machine.callers stand.path.frames)) passed, refl))

  right_before : (doubt : PureDoubt) → DoubtsBefore stands bs q s doubt → IsRightDoubt p memory m stands e x FaultKind.Invariant doubt
  right_before always right = absurd right
  right_before (under conds u) ((more, are), meets, differ) = (
    longer_both x.path.conds s.conds conds is_left.of_path.longer (more, are),
    subst (λ vars. Satisfies vars u conds) is_left.of_path.vars meets,
    λ v entry c stand met.
        let before : IsTrue (all_true v s.conds) = (true_parts v s.conds more (subst (λ cs. IsTrue (all_true v cs)) are met)).0 in
        let (found, (is_match, left)) = is_left.left v entry c stand before in
        visits_along p memory m stands terms meaning kept e x xs ps items bs unlisted names are_names scope is_scope fits n may at this here place v entry c (has_fault invariant) stand
        (visits_again v entry c found (passed_at c.machine.current.next (current_passed c.passed)) stand left is_match (known.known v entry c stand) (differ v met)),
  )
  right_before (beyond conds reason) (longer, outside) = (longer_both x.path.conds s.conds conds is_left.of_path.longer longer, outside)

  pub again_exact : (k : PureNext S) → IsVisitedAgain stands bs q s here x k → IsExactNext p memory m stands e x k
  again_exact k (inl (is_over, same)) = subst (IsExactNext p memory m stands e x) (sym is_over) tt
  again_exact k (inr (doubt, (right, next))) = right_next p memory m stands e x FaultKind.Invariant here place doubt (right_before doubt right) k next
