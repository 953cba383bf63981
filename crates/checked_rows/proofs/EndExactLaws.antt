-- The row of `return` and `throw` is exact.
use Rattle.std.proofs.Common.{◌≡◌, inl, inr, List, [], ◌∷◌, false, Option, Some, None, IsTrue, refl, sym, ap, subst, ◌∙◌, append-nil}
use Rattle.gil_values.specs.declared.places.Place.{Place}
use Rattle.gil_values.specs.Pure.{PureValue}
use Rattle.gil_syntax.specs.Pure.{PureParts, PureItem, PureCommand, PureNumberedCommand, PureSpec}
use Rattle.gil_machine.specs.Choices.{choice_at}
use Rattle.gil_machine.specs.State.{Step, goes_on, ends}
use Rattle.gil_machine.specs.Step.{command_at, step}
use Rattle.mem_model.specs.declared.keys.MemoryName.{MemoryName}
use Rattle.mem_model.specs.Actions.{Actions}
use Rattle.mem_model.specs.Heaps.{Heap}
use Rattle.checked_runs.specs.Checked.{Checked, has_fault, post, Entry, logic_state, over_or, ended, stepped, some_matches, result_store}
use Rattle.pure_terms.specs.Meaning.{value, all_true, Satisfies}
use Rattle.pure_terms.specs.Pure.{PureTerm, PureAtom}
use Rattle.sym_model.proofs.ListLaws.{same_some, not_none}
use Rattle.sym_model.specs.Laws.{IsMeaning}
use Rattle.sym_model.specs.Lists.{Each}
use Rattle.sym_model.specs.Terms.{StateTerms}
use Rattle.sym_paths.proofs.Silent.{stands_at}
use Rattle.sym_paths.specs.Meaning.{StandsForStep, command_of_path}
use Rattle.sym_paths.specs.Pure.{PureEnd, returned, failed, threw, missed, vanished, cut, unknown, PurePath}
use Rattle.sym_paths.specs.Steps.{Extends, IsChosen, IsUnknown, IsPlaceOf, Grows, IsRecorded, IsExact, StaysSatisfiable, IsRightlyUnknown, AreNextPaths}
use Rattle.sym_states.specs.Pure.{PureState}
use Rattle.checked_paths.proofs.Exact.{IsLeave, IsLawful, machine_leads, exact_end}
use Rattle.checked_paths.proofs.Lists.{each_across}
use Rattle.checked_paths.proofs.Machine.{drawn_values, next_values, others_and, others_go_on}
use Rattle.checked_paths.specs.declared.nexts.FaultKind.{FaultKind}
use Rattle.checked_paths.specs.Causes.{PureShown, shown_of, ShowsEnd}
use Rattle.checked_paths.specs.Choosing.{LeadsAlong}
use Rattle.checked_paths.specs.Exactness.{IsUnder, IsShownAt, LeadsTo, IsRightCause, IsExactNext}
use Rattle.checked_paths.specs.Following.{IsAnswered, is_of_machine}
use Rattle.checked_paths.specs.Meaning.{IsCheckedOver}
use Rattle.checked_paths.specs.Pure.{PureEntry, PureChecking, PureNext}
use Rattle.footprint.proofs.Parts.{longer_both, met_before}
use Rattle.footprint.specs.Leaves.{IsLonger}
use Rattle.checked_rows.specs.Doubts.{PureDoubt, always, under, beyond, doubt_cause, IsDoubtIn}
use Rattle.checked_rows.specs.Ending.{MeetsNone, FinishesExactly, at_end, finish_at, IsExactlyEndedBy, IsExactlyEnded, EachIsExactlyEnded, IsLeaving}
use Rattle.checked_rows.specs.Rows.{IsExactRowOf}
use Rattle.checked_rows.specs.States.{IsStateOf}
use Rattle.checked_rows.proofs.EndRowLaws.{leaving_is_of_machine, entered_there, stands_there}

-- what is promised of each next path
each_lawful : {S : Type 0} (p : PureParts) (m : Actions) (stands : S → List PureValue → Heap → Type 0) (terms : S → StateTerms) (path : PurePath S) (nexts : List (PurePath S)) → Each (Grows terms path) nexts
    → Each (IsRecorded p m path) nexts → Each (IsExact p m stands path) nexts → Each (StaysSatisfiable path) nexts → Each (λ next. IsRightlyUnknown p path next next.ending) nexts
    → Each (IsLawful p m stands terms path) nexts
each_lawful p m stands terms path [] growth recorded exact satisfiable rightly = tt
each_lawful p m stands terms path (next ∷ nexts) growth recorded exact satisfiable rightly = (
  record { growth = growth.0; recorded = recorded.0; exact = exact.0; satisfiable = satisfiable.0; unknown_rightly = rightly.0 },
  each_lawful p m stands terms path nexts growth.1 recorded.1 exact.1 satisfiable.1 rightly.1,
)

module _ {S : Type 0} (p : PureParts) (memory : MemoryName) (m : Actions) (stands : S → List PureValue → Heap → Type 0) (terms : S → StateTerms) (meaning : IsMeaning memory stands terms) (e : PureEntry) (x : PureChecking S)
    (is_over_table : IsCheckedOver terms e x) (s : PureState S) (is : IsStateOf stands terms x.path x.facts s) (here : Place) (is_place : IsPlaceOf p x.path.stack here) (n : PureNumberedCommand) (at : command_of_path p x.path ≡ Some n)
    (machine : IsTrue (is_of_machine n.command)) where
  module _ (next : PurePath S) (k : PureNext S) (laws : IsLawful p m stands terms x.path next) where
    -- what the step of a state does that is under the valuations
    record Does (v w : List PureValue) (entry : Entry) (c : Checked) : Type 0 where
      pub inputs : List PureValue
      pub extends : Extends inputs c.machine x.path next v w
      pub chosen : IsChosen x.path next (choice_at p m c.machine)
      pub stood : StandsForStep p m stands next w c.machine next.ending (step p m inputs c.machine)
      pub leads : LeadsAlong p memory m entry c (choice_at p m c.machine) (stepped p memory m entry c (step p m inputs c.machine))

    does : ¬ IsUnknown next.ending → (v w : List PureValue) (entry : Entry) (c : Checked) → IsUnder stands e x next.vars next.conds v w entry c → Does v w entry c
    does known v w entry c under_it =
        let new_vars = under_it.continued.new_vars in
        let new_values = under_it.continued.new_values in
        let inputs : List PureValue = others_and c.machine.draws (drawn_values new_vars new_values) in
        let extends : Extends inputs c.machine x.path next v w = record {
          new_vars = new_vars;
          new_values = new_values;
          vars = under_it.continued.table;
          values = under_it.continued.values;
          in_turn = next_values new_vars new_values c.machine.counter c.machine.draws inputs under_it.continued.in_turn (others_go_on c.machine.draws (drawn_values new_vars new_values));
        } in
        let (chosen, stood) = laws.exact inputs v w c.machine under_it.standing.path extends known under_it.meets in
        let there : command_at p c.machine.current ≡ Some n = sym (stands_at p v x.path.stack c.machine under_it.standing.path.frames) ∙ at in
        record {
          inputs = inputs;
          extends = extends;
          chosen = chosen;
          stood = stood;
          leads = machine_leads p memory m stands terms meaning e x is_over_table here is_place n at next machine w entry c inputs there stood;
        }

    -- ---- the entry's end

    -- the step ends the entry with the term's value, for which these postconditions are asked
    abbrev EndsSo : PureTerm → List (List PureItem) → Type 0
    EndsSo t posts =
        (w : List PureValue) (entry : Entry) (c : Checked) (r : Step) → entry.spec ≡ e.spec → StandsForStep p m stands next w c.machine next.ending r
        → (a : PureValue) × ((value w t ≡ Some a) × (stepped p memory m entry c r ≡ over_or (some_matches p entry posts (result_store entry a) (logic_state c)) post))

    returns_so : (t : PureTerm) → next.ending ≡ Some (returned t) → EndsSo t e.spec.posts
    returns_so t same w entry c r of_spec stood = by r (subst (λ o. StandsForStep p m stands next w c.machine o r) same stood)
      where
        by : (r : Step) → StandsForStep p m stands next w c.machine (Some (returned t)) r
            → (a : PureValue) × ((value w t ≡ Some a) × (stepped p memory m entry c r ≡ over_or (some_matches p entry e.spec.posts (result_store entry a) (logic_state c)) post))
        by (ends end) there =
            let (a, (val, so)) = there.ending in
            (a, (val, ap (ended p memory m entry c) so ∙ ap (λ (q : PureSpec). over_or (some_matches p entry q.posts (result_store entry a) (logic_state c)) post) of_spec))
        by (goes_on u) there = absurd there

    throws_so : (t : PureTerm) (place : Place) → next.ending ≡ Some (threw t place) → EndsSo t e.spec.errors
    throws_so t place same w entry c r of_spec stood = by r (subst (λ o. StandsForStep p m stands next w c.machine o r) same stood)
      where
        by : (r : Step) → StandsForStep p m stands next w c.machine (Some (threw t place)) r
            → (a : PureValue) × ((value w t ≡ Some a) × (stepped p memory m entry c r ≡ over_or (some_matches p entry e.spec.errors (result_store entry a) (logic_state c)) post))
        by (ends end) there =
            let (a, (val, so)) = there.ending in
            (a, (val, ap (ended p memory m entry c) so ∙ ap (λ (q : PureSpec). over_or (some_matches p entry q.errors (result_store entry a) (logic_state c)) post) of_spec))
        by (goes_on u) there = absurd there

    module _ (posts : List (List PureItem)) (t : PureTerm) (known : ¬ IsUnknown next.ending) (so : EndsSo t posts) where
      abbrev Fails : List PureValue → Type 0
      Fails = MeetsNone p stands e posts t (at_end s next)

      -- wherever these conditions are true, which go on from the next path's, the step has the fault
      faults : (conds : List PureAtom) → IsLonger next.conds conds → ((v : List PureValue) → IsTrue (all_true v conds) → Fails v) → (shown : PureShown) → shown.choices ≡ next.choices → (v w : List PureValue) (entry : Entry) (c : Checked)
          → IsUnder stands e x next.vars conds v w entry c → LeadsTo p memory m stands e x (λ out. out ≡ has_fault post) shown entry c
      faults conds longer fails shown choices v w entry c under_it =
          let before : Satisfies next.vars w next.conds = record { proper = under_it.meets.proper; true_there = met_before w next.conds conds longer under_it.meets.true_there } in
          let did = does known v w entry c (record { standing = under_it.standing; above = under_it.above; continued = under_it.continued; meets = before }) in
          let (a, (val, leads)) = so w entry c (step p m did.inputs c.machine) under_it.standing.entered.spec did.stood in
          let none : some_matches p entry posts (result_store entry a) (logic_state c) ≡ false =
          fails w under_it.meets.true_there entry (logic_state c) a (entered_there p memory m stands terms meaning e x is_over_table s is next k v w entry c did.inputs under_it.standing did.extends)
          (stands_there p memory m stands terms meaning e x is_over_table s is next k v w entry c did.inputs under_it.standing did.extends before.proper before.true_there) val in
          record {
            chosen = choice_at p m c.machine;
            choices = choices ∙ did.chosen;
            outcome = stepped p memory m entry c (step p m did.inputs c.machine);
            leads = did.leads;
            is = leads ∙ ap (λ b. over_or b post) none;
          }

      shown_there : (shown : PureShown) → shown.place ≡ here → shown.vars ≡ next.vars → IsLonger next.conds shown.conds → ((u : List PureValue) → shown.valuation ≡ Some u → Satisfies shown.vars u shown.conds) → IsShownAt x p shown
      shown_there shown place vars longer known_one = record {
        place = subst (IsPlaceOf p x.path.stack) (sym place) is_place;
        table = (laws.growth.new_vars, vars ∙ laws.growth.vars);
        longer = longer_both x.path.conds next.conds shown.conds (laws.growth.new_conds, laws.growth.conds) longer;
        known = known_one;
      }

      nothing_longer : IsLonger next.conds next.conds
      nothing_longer = ([], sym (append-nil next.conds))

      right_end : (doubt : PureDoubt) → IsDoubtIn (at_end s next) Fails doubt → IsRightCause p memory m stands e x (doubt_cause FaultKind.Post (shown_of here next) doubt)
      right_end always fails = record {
        at = shown_there (shown_of here next) refl refl nothing_longer (λ u none. not_none none);
        met = λ v meets. laws.satisfiable v meets known;
        exact = λ v w entry c under_it. faults next.conds nothing_longer fails (shown_of here next) refl v w entry c under_it;
      }
      right_end (under conds u) (longer, meets, fails) = record {
        at = shown_there (record (shown_of here next) { conds = conds; valuation = Some u }) refl refl longer (λ w same. subst (λ h. Satisfies next.vars h conds) (same_some same) meets);
        met = λ v before. (u, meets);
        exact = λ v w entry c under_it. faults conds longer fails (record (shown_of here next) { conds = conds; valuation = Some u }) refl v w entry c under_it;
      }
      right_end (beyond conds reason) (longer, outside) = record {
        at = shown_there (record (shown_of here next) { conds = conds }) refl refl longer (λ u none. not_none none);
        chosen = laws.growth.chosen;
        choices = laws.growth.choices;
        outside = outside.outside;
        first = outside.first;
      }

      finish_exact : FinishesExactly p stands e posts t here next (at_end s next) k → IsExactNext p memory m stands e x k
      finish_exact (inl done) = subst (IsExactNext p memory m stands e x) (sym done) tt
      finish_exact (inr (doubt, (is_in, (cause, (same, shows))))) = subst (IsExactNext p memory m stands e x) (sym same) (subst (IsRightCause p memory m stands e x) (sym shows) (right_end doubt is_in))

    -- ---- each end

    elsewhere : ¬ IsLeave next.ending → IsAnswered stands terms x.facts x.passed next k × ShowsEnd here next k → IsExactNext p memory m stands e x k
    elsewhere no_leave (answer, shows) =
        exact_end p memory m stands terms meaning e x is_over_table here is_place n at next laws (machine_leads p memory m stands terms meaning e x is_over_table here is_place n at next machine) k next.ending refl answer shows
        (λ leave. absurd (no_leave leave))

    exact_by : (o : Option PureEnd) → next.ending ≡ o → IsExactlyEndedBy p stands terms e s x.facts x.passed here next (finish_at o) k → IsExactNext p memory m stands e x k
    exact_by (Some (returned t)) same by = finish_exact e.spec.posts t (λ u. subst IsUnknown same u) (returns_so t same) by
    exact_by (Some (threw t place)) same by = finish_exact e.spec.errors t (λ u. subst IsUnknown same u) (throws_so t place same) by
    exact_by (Some (failed t place)) same by = elsewhere (λ l. subst IsLeave same l) by
    exact_by (Some (missed q place)) same by = elsewhere (λ l. subst IsLeave same l) by
    exact_by (Some vanished) same by = elsewhere (λ l. subst IsLeave same l) by
    exact_by (Some cut) same by = elsewhere (λ l. subst IsLeave same l) by
    exact_by (Some (unknown place reason)) same by = elsewhere (λ l. subst IsLeave same l) by
    exact_by None same by = elsewhere (λ l. subst IsLeave same l) by

-- ---- the row

pub end_exact : {S : Type 0} (p : PureParts) (memory : MemoryName) (m : Actions) (stands : S → List PureValue → Heap → Type 0) (terms : S → StateTerms) → IsMeaning memory stands terms → (own by_memory : PureAtom → Type 0) (e : PureEntry) (x : PureChecking S)
    → IsCheckedOver terms e x → (s : PureState S) → IsStateOf stands terms x.path x.facts s → (here : Place) (nexts : List (PurePath S)) (ks : List (PureNext S)) → EachIsExactlyEnded p stands terms e s x.facts x.passed here nexts ks
    → AreNextPaths p m stands terms own by_memory x.path nexts → (command : PureCommand) → IsLeaving command → IsExactRowOf p memory m stands terms e x command here ks
end_exact p memory m stands terms meaning own by_memory e x is_over_table s is here nexts ks are laws command leaving n may at this place =
    let machine : IsTrue (is_of_machine n.command) = subst (λ j. IsTrue (is_of_machine j)) (sym this) (leaving_is_of_machine command leaving) in
    each_across (IsExactlyEnded p stands terms e s x.facts x.passed here) (IsLawful p m stands terms x.path) (IsExactNext p memory m stands e x) nexts ks are
    (λ next k by lawful. exact_by p memory m stands terms meaning e x is_over_table s is here place n at machine next k lawful next.ending refl by) (each_lawful p m stands terms x.path nexts laws.growth laws.recorded laws.exact laws.satisfiable laws.unknown_rightly)
