-- The row of invariants covers what the checked states lead to.
use Rattle.std.proofs.Common.{◌≡◌, ⊎_elim, inl, inr, ℕ, ◌+◌, List, [], ◌∷◌, ◌++◌, map, Bool, true, false, ◌&&◌, Option, Some, None, IsSome, refl, sym, ap, subst, ◌∙◌, true≢false, append_assoc}
use Rattle.std.specs.List.{list_all}
use Rattle.std.proofs.lemmas.Bool.{and_parts}
use Rattle.gil_values.specs.declared.places.Place.{Place}
use Rattle.gil_values.specs.Pure.{PureValue}
use Rattle.gil_values.specs.Symbols.{IsBelow}
use Rattle.gil_machine.proofs.Proper.{procs_made, find_made, command_made, MadeCommand}
use Rattle.gil_machine.specs.State.{Frame}
use Rattle.gil_machine.specs.Step.{to_next}
use Rattle.gil_syntax.specs.declared.assertions.Param.{Param}
use Rattle.gil_syntax.specs.Evaluation.{value_of}
use Rattle.gil_syntax.specs.Programs.{find_proc}
use Rattle.gil_syntax.specs.Pure.{PureParts, PureItem, PureNumberedCommand, PureSpec, loop_invariant}
use Rattle.gil_syntax.specs.Subexpressions.{exprs_of}
use Rattle.gil_syntax.specs.Valid.{ends_body, is_among, param_names, IsValid}
use Rattle.gil_syntax.specs.WellMade.{has_well_made_names, is_well_made_expr, is_well_made_command, is_well_made_assertion, is_well_made}
use Rattle.mem_model.specs.declared.keys.MemoryName.{MemoryName}
use Rattle.mem_model.specs.Actions.{Actions}
use Rattle.mem_model.specs.Heaps.{Heap}
use Rattle.assert_logic.proofs.GivenNames.{same_match}
use Rattle.assert_logic.specs.Matching.{Match, Matching, matched, stops, match_assertion}
use Rattle.assert_logic.specs.Modes.{case}
use Rattle.assert_logic.specs.Names.{named_by_items}
use Rattle.assert_logic.specs.Sorts.{HasSorts}
use Rattle.checked_runs.proofs.Readable.{items_made}
use Rattle.checked_runs.proofs.Stores.{first_value, second_value}
use Rattle.checked_runs.specs.Checked.{Checked, Outcome, Entry, Passed, IsAbove, IsFactBelow, variables_in, logicals_in, names_at, logic_state, has_all, known_fit, match_of, passed_at, current_passed, invariant_match, PassesFirst, IsAsBefore, Visits, is_call, stepped, with_logic, at_invariant}
use Rattle.sym_evaluation.specs.Pure.{PureStore}
use Rattle.sym_model.specs.Laws.{IsMeaning}
use Rattle.sym_model.specs.Lists.{Each, OneOf}
use Rattle.sym_model.specs.Terms.{StateTerms}
use Rattle.sym_model.proofs.ListLaws.{same_some, not_none, each_append, each_to, one_left, one_right, one_parts, one_to, one_map}
use Rattle.sym_states.proofs.Inventing.{adding_invents_nothing}
use Rattle.sym_paths.proofs.Moving.{running_stands}
use Rattle.sym_paths.specs.Frames.{running_store}
use Rattle.sym_paths.specs.Meaning.{command_of_frames, command_of_path}
use Rattle.sym_paths.specs.Pure.{PureFrame}
use Rattle.sym_states.specs.Meaning as states
use Rattle.sym_states.specs.Producing.{MayAdd}
use Rattle.sym_states.specs.Pure.{PureState}
use Rattle.footprint.specs.Pure.{PureMatch, all_match}
use Rattle.checked_paths.proofs.Above.{store_below}
use Rattle.checked_paths.specs.Covering.{CoversOutcome, FollowsOn, CoversLeads}
use Rattle.checked_paths.specs.Meaning.{StandsForChecked, MayGoOn}
use Rattle.checked_paths.specs.Pure.{PureEntry, PurePassed, PureChecking, PureNext, further, over as done_over, caused}
use Rattle.checked_rows.proofs.BelowLaws.{all_each, below_more}
use Rattle.checked_rows.proofs.MatchLaws.{found_one}
use Rattle.checked_rows.proofs.NameLaws.{names_stand, same_logicals}
use Rattle.checked_rows.proofs.RowLaws.{leads_by, uses_nothing}
use Rattle.checked_rows.specs.Matching.{IsOfPath, IsFound, MatchesThere}
use Rattle.checked_rows.specs.Names.{logicals_there, AreNames}
use Rattle.checked_rows.specs.Rows.{AreRowOf}
use Rattle.invariant_rows.specs.Entering.{running_next, IsInLoop, AreAdded, AreEntered}
use Rattle.invariant_rows.specs.Fitting.{AllFit}
use Rattle.invariant_rows.specs.Listed.{have_terms, AreUnlisted}
use Rattle.invariant_rows.specs.Passing.{former_at, of_running}
use Rattle.invariant_rows.specs.Visiting.{IsVisitedAgain, ArePassedIfAny, CoverVisits, AreVisits}
use Rattle.invariant_rows.proofs.AddedLaws.{added_covers, added_follow}
use Rattle.invariant_rows.proofs.EnterLaws.{never_unnamed, above_next, begun, values_of, begun_stands, next_of_frames}
use Rattle.invariant_rows.proofs.FitLaws.{all_fit}
use Rattle.invariant_rows.proofs.ListedLaws.{unlisted_value, unlisted_stand, all_have_values, one_has_value}
use Rattle.invariant_rows.proofs.LoopLaws.{loop_steps, loop_goes_on, loop_command}
use Rattle.invariant_rows.proofs.MatchedModes.{reader, ins_from, known_reader, matched_reads}
use Rattle.invariant_rows.proofs.PassedLaws.{passed_if_any}

-- ---- longer valuations, and steps

longer_covers : {S : Type 0} (stands : S → List PureValue → Heap → Type 0) (e : PureEntry) (entry : Entry) (v values : List PureValue) (out : Outcome) (k : PureNext S) → CoversOutcome stands e entry (v ++ values) out k → CoversOutcome stands e entry v out k
longer_covers stands e entry v values out (further y) (d, (u, (is, (more, longer), stand))) = (d, (u, (is, (values ++ more, longer ∙ append_assoc v values more), stand)))
longer_covers stands e entry v values out done_over is = is
longer_covers stands e entry v values out (caused cause) is = tt

same_follows : {S : Type 0} (p : PureParts) (terms : S → StateTerms) (e : PureEntry) (x y : PureChecking S) (k : PureNext S) → y.path.steps ≡ x.path.steps → FollowsOn p terms e y k → FollowsOn p terms e x k
same_follows p terms e x y (further z) same follows = (follows.0, follows.1 ∙ ap (λ n. n + 1) same)
same_follows p terms e x y done_over same follows = tt
same_follows p terms e x y (caused cause) same follows = tt

variables_below : (counter : ℕ) (v : List PureValue) (bs : PureStore) (entry : Entry) (gs : List Frame) → ((y : List ℕ) (u : PureValue) → value_of entry.variables y ≡ Some u → IsBelow counter u) → (y : List ℕ) (u : PureValue) → value_of (variables_in gs entry) y ≡ Some u → IsBelow counter u
variables_below counter v bs entry [] below y u at = below y u at
variables_below counter v bs entry (g ∷ gs) below y u at = not_none at

no_value_there : {P : Type 0} (o : Option PureValue) → o ≡ None → IsSome o → P
no_value_there None none is = absurd (true≢false (sym is))
no_value_there (Some u) none is = not_none (sym none)

-- ---- the assertion of a command of a program

pub assertion_made : (p : PureParts) (fs : List PureFrame) (c : PureNumberedCommand) (xs : List (List ℕ)) (ps : List Param) (items : List PureItem) → is_well_made p ≡ true → command_of_frames p fs ≡ Some c → c.command ≡ loop_invariant xs ps items → is_well_made_assertion items ≡ true
assertion_made p [] c xs ps items made at is = not_none at
assertion_made p (f ∷ fs) c xs ps items made at is =
    let whole : is_well_made_command c.command ≡ true = subst MadeCommand at (command_made (find_proc p.procs f.procedure) f.next (find_made p.procs f.procedure (procs_made p made))) in
    items_made items (and_parts (has_well_made_names (loop_invariant xs ps items)) (list_all is_well_made_expr (exprs_of (loop_invariant xs ps items))) (ap is_well_made_command (sym is) ∙ whole)).1

-- where the invariant is matched, the assertion is
match_within : (b : Bool) (r : Matching) (found : Match) → match_of b r ≡ Some found → r ≡ matched found
match_within true (matched k) found is = ap matched (same_some is)
match_within true (stops n) found is = not_none is
match_within false r found is = not_none is

-- ---- all visits

module _ (p : PureParts) (memory : MemoryName) (m : Actions) {S : Type 0} (stands : S → List PureValue → Heap → Type 0) (terms : S → StateTerms) (e : PureEntry) (x : PureChecking S) (xs : List (List ℕ)) (ps : List Param) (items : List PureItem) (former : Option (PurePassed S)) where
  pub no_visits : AreVisits p memory m stands terms e x xs ps items former [] []
  no_visits n may at this = record { cover = λ v entry c out r found stand above passed is_match lefts visits. absurd lefts; follow = tt }

  pub more_visits : (ls rs : List (PureState S)) (ks js : List (PureNext S)) → AreVisits p memory m stands terms e x xs ps items former ls ks → AreVisits p memory m stands terms e x xs ps items former rs js → AreVisits p memory m stands terms e x xs ps items former (ls ++ rs) (ks ++ js)
  more_visits ls rs ks js first second n may at this = record {
    cover = λ v entry c out r found stand above passed is_match lefts visits. ⊎_elim
        (λ left. one_left (CoversOutcome stands e entry v out) ks js ((first n may at this).cover v entry c out r found stand above passed is_match left visits))
        (λ right. one_right (CoversOutcome stands e entry v out) ks js ((second n may at this).cover v entry c out r found stand above passed is_match right visits))
        (one_parts (λ z. states.Stands stands z v found.state) ls rs lefts);
    follow = each_append (FollowsOn p terms e x) ks js (first n may at this).follow (second n may at this).follow;
  }

module _ (p : PureParts) (memory : MemoryName) (m : Actions) {S : Type 0} (stands : S → List PureValue → Heap → Type 0) (terms : S → StateTerms) (meaning : IsMeaning memory stands terms) (kept : S → Type 0) (e : PureEntry) (x : PureChecking S)
    (xs : List (List ℕ)) (ps : List Param) (items : List PureItem) (bs : PureStore) (unlisted : AreUnlisted xs (running_store x.path.stack) bs) where
  abbrev scope : List Param
  scope = logicals_there x.path.stack e.spec.logicals ++ ps

  same_scope : (v : List PureValue) (entry : Entry) (c : Checked) → StandsForChecked stands e x v entry c → scope ≡ logicals_in c.machine.callers entry ++ ps
  same_scope v entry c stand =
      ap (λ qs. qs ++ ps) (ap (λ (s : PureSpec). logicals_there x.path.stack s.logicals) (sym stand.entered.spec) ∙ same_logicals v x.path.stack c.machine.current c.machine.callers entry stand.path.frames)

  -- ---- the first visit

  module _ (here : Place) (may : MayGoOn p terms e x) (addable : Each (MayAdd memory) items) (made : is_well_made_assertion items ≡ true) (s : PureState S) (of_path : IsOfPath terms x s) where
    module _ (v : List PureValue) (entry : Entry) (c : Checked) (out : Outcome) (found : Match) (stand : StandsForChecked stands e x v entry c) (is_match : invariant_match p memory m entry xs ps items c ≡ Some found) (is_left : states.Stands stands s v found.state)
        (visit : PassesFirst p memory m entry xs ps items found.state c out) where
      abbrev logical : List Param
      logical = logicals_in c.machine.callers entry ++ ps

      is_matched : match_assertion p.preds logical items (names_at entry c) (logic_state c) ≡ matched found
      is_matched = match_within (has_all xs c.machine.current.store && known_fit (names_at entry c) logical) (match_assertion p.preds logical items (names_at entry c) (logic_state c)) found is_match

      above : IsAbove (with_logic visit.adds.state visit.counter (at_invariant p memory m entry xs found.state visit.store c))
      above = above_next p memory m stands terms meaning e xs ps scope items bs x s may.over of_path unlisted v entry c out found.state stand is_left visit (same_scope v entry c stand)

      -- a name that was known has a value that is below the counter
      known_below : (y : List ℕ) (u : PureValue) → is_among (param_names (ins_from (names_at entry c))) y ≡ true → value_of visit.names y ≡ Some u → IsBelow visit.counter u
      known_below y u known at = by (value_of visit.store y) refl
        where
          of_entry : (k : PureValue) → value_of (variables_in c.machine.callers entry) y ≡ Some k → IsBelow visit.counter k
          of_entry k there =
              variables_below visit.counter v e.variables entry c.machine.callers
              (store_below visit.counter v (below_more c.machine.counter visit.counter v visit.adds.not_lower stand.path.symbols_below) e.variables entry.variables stand.entered.variables) y k there

          unlisted_none : value_of visit.store y ≡ None → value_of c.machine.current.store y ≡ None
          unlisted_none none = there (is_among xs y) refl
            where
              there : (b : Bool) → is_among xs y ≡ b → value_of c.machine.current.store y ≡ None
              there true listed = no_value_there (value_of visit.store y) none (one_has_value xs visit.store y visit.listed_have_values listed)
              there false isnt = sym (unlisted_value xs c.machine.current.store y isnt) ∙ (sym (visit.others_stay y) ∙ (unlisted_value xs visit.store y isnt ∙ none))

          by : (o : Option PureValue) → value_of visit.store y ≡ o → IsBelow visit.counter u
          by (Some k) has = subst (IsBelow visit.counter) (same_some (sym (visit.known_stay y k (first_value visit.store (variables_in c.machine.callers entry) y k has)) ∙ at)) (above.current_below y k has)
          by None none =
              let (k, there) = known_reader (names_at entry c) y known in
              let of_variables = sym (second_value c.machine.current.store (variables_in c.machine.callers entry) y (unlisted_none none)) ∙ there in
              subst (IsBelow visit.counter) (same_some (sym (visit.known_stay y k (second_value visit.store (variables_in c.machine.callers entry) y none ∙ of_variables)) ∙ at)) (of_entry k of_variables)

      named_below : (z : List ℕ) (u : PureValue) → named_by_items items z ≡ true → value_of visit.names z ≡ Some u → IsBelow visit.counter u
      named_below z u named at =
          adding_invents_nothing memory (case (reader (names_at entry c) logical)) items visit.names found.state visit.adds.state visit.counter made
          (matched_reads memory p.preds logical items (names_at entry c) (logic_state c) found addable is_matched) visit.adds.adding.added_is
          (record { heap = above.heap_below; facts = all_each (IsFactBelow visit.counter) visit.adds.state.facts above.facts_below }) known_below z u named at

      pub enters_covers : (y : PureChecking S) (inside : IsInLoop stands terms scope xs bs x s y) (nexts : List (PureNext S)) → AreAdded memory stands terms kept e scope items here y nexts → OneOf (CoversOutcome stands e entry v out) nexts
      enters_covers y inside nexts added =
          let in_loop = begun_stands p memory m stands terms meaning e xs ps scope items bs x s may.over of_path unlisted v entry c out found.state stand is_left visit (same_scope v entry c stand) y inside in
          let values = values_of p memory m stands terms meaning e xs ps scope items bs x s may.over of_path unlisted v entry c out found.state stand is_left visit (same_scope v entry c stand) y inside in
          one_to (CoversOutcome stands e entry (v ++ values) out) (CoversOutcome stands e entry v out) nexts (longer_covers stands e entry v values out)
          (added_covers p memory m stands terms meaning kept e scope items here y (loop_goes_on stands terms e scope xs bs x s y may.over of_path unlisted inside p may) nexts added (v ++ values) entry
          (begun p memory m stands terms meaning e xs ps scope items bs x s may.over of_path unlisted v entry c out found.state stand is_left visit (same_scope v entry c stand)) out in_loop visit.names visit.adds.state visit.known_stay
          (subst (λ qs. HasSorts qs visit.names) (sym (same_scope v entry c stand)) visit.sorts) visit.adds.adding named_below
          (visit.leads ∙ ap (λ (k : Checked). stepped p memory m entry k (to_next k.machine)) visit.adds.is_next))

    pub enters : (n : PureNumberedCommand) → IsValid p → command_of_path p x.path ≡ Some n → n.command ≡ loop_invariant xs ps items → (nexts : List (PureNext S)) → AreEntered memory stands terms kept e xs scope items bs here x s nexts
        → CoverVisits p memory m stands terms e x xs ps items None (s ∷ []) nexts
    enters n valid at this nexts (inl (none, empty)) = record {
      cover = λ v entry c out r found stand above passed is_match lefts visits.
          by v entry c out r found stand passed lefts visits;
      follow = subst (Each (FollowsOn p terms e x)) (sym empty) tt;
    }
      where
        by : (v : List PureValue) (entry : Entry) (c : Checked) (out : Outcome) (r : Option Passed) (found : Match) → StandsForChecked stands e x v entry c → ArePassedIfAny stands v None r → OneOf (λ q. states.Stands stands q v found.state) (s ∷ [])
            → Visits p memory m entry r (Some found) xs ps items c out → OneOf (CoversOutcome stands e entry v out) nexts
        by v entry c out None found stand passed (inl is_left) visits =
            absurd (never_unnamed p memory m stands terms meaning e xs ps scope items bs x s may.over of_path unlisted v entry c out found.state stand is_left visits (same_scope v entry c stand) none)
        by v entry c out None found stand passed (inr nothing_left) visits = absurd nothing_left
        by v entry c out (Some r) found stand passed lefts visits = absurd passed
    enters n valid at this nexts (inr (y, (inside, added))) = record {
      cover = λ v entry c out r found stand above passed is_match lefts visits. by v entry c out r found stand passed is_match lefts visits;
      follow = each_to (FollowsOn p terms e y) (FollowsOn p terms e x) nexts (λ k. same_follows p terms e x y k (loop_steps stands terms e scope xs bs x s y may.over of_path unlisted inside))
          (added_follow p memory m stands terms meaning kept e scope items here y (loop_goes_on stands terms e scope xs bs x s y may.over of_path unlisted inside p may) nexts added n valid
          (loop_command stands terms e scope xs bs x s y may.over of_path unlisted inside p ∙ at) (ap (λ h. ends_body h) this));
    }
      where
        by : (v : List PureValue) (entry : Entry) (c : Checked) (out : Outcome) (r : Option Passed) (found : Match) → StandsForChecked stands e x v entry c → ArePassedIfAny stands v None r → invariant_match p memory m entry xs ps items c ≡ Some found
            → OneOf (λ q. states.Stands stands q v found.state) (s ∷ []) → Visits p memory m entry r (Some found) xs ps items c out → OneOf (CoversOutcome stands e entry v out) nexts
        by v entry c out None found stand passed is_match (inl is_left) visits = enters_covers v entry c out found stand is_match is_left visits y inside nexts added
        by v entry c out None found stand passed is_match (inr nothing_left) visits = absurd nothing_left
        by v entry c out (Some r) found stand passed is_match lefts visits = absurd passed

  -- ---- the second visit

  pub comes_again : (here : Place) (q : PurePassed S) (s : PureState S) (k : PureNext S) → IsVisitedAgain stands bs q s here x k → CoverVisits p memory m stands terms e x xs ps items (Some q) (s ∷ []) (k ∷ [])
  comes_again here q s k is = record {
    cover = λ v entry c out r found stand above passed is_match lefts visits. inl (by v entry c out r found stand passed lefts visits is);
    follow = (follows is, tt);
  }
    where
      follows : IsVisitedAgain stands bs q s here x k → FollowsOn p terms e x k
      follows (inl (over_is, same)) = subst (FollowsOn p terms e x) (sym over_is) tt
      follows (inr (doubt, (right, (cause, (is_cause, shows))))) = subst (FollowsOn p terms e x) (sym is_cause) tt

      by : (v : List PureValue) (entry : Entry) (c : Checked) (out : Outcome) (r : Option Passed) (found : Match) → StandsForChecked stands e x v entry c → ArePassedIfAny stands v (Some q) r → OneOf (λ z. states.Stands stands z v found.state) (s ∷ [])
          → Visits p memory m entry r (Some found) xs ps items c out → IsVisitedAgain stands bs q s here x k → CoversOutcome stands e entry v out k
      by v entry c out None found stand passed lefts visits is = absurd passed
      by v entry c out (Some r) found stand passed (inr nothing_left) visits is = absurd nothing_left
      by v entry c out (Some r) found stand passed (inl is_left) visits (inr (doubt, (right, (cause, (is_cause, shows))))) = subst (CoversOutcome stands e entry v out) (sym is_cause) tt
      by v entry c out (Some r) found stand passed (inl is_left) visits (inl (over_is, same)) = subst (CoversOutcome stands e entry v out) (sym over_is) (ended visits)
        where
          as_before : IsAsBefore p memory m entry xs r found.state c
          as_before = same v p memory m entry xs r found.state c is_left (unlisted_stand xs (running_store x.path.stack) bs v c.machine.current.store unlisted (running_stands v x.path.stack c.machine.current c.machine.callers stand.path.frames)) passed

          ended : Visits p memory m entry (Some r) (Some found) xs ps items c out → CoversOutcome stands e entry v out done_over
          ended (inl (before, is_over)) = is_over
          ended (inr (changed, fault)) = absurd (changed as_before)

  -- ---- the row

  module _ (listed : have_terms xs (running_store x.path.stack) ≡ true) (names : PureStore) (are_names : AreNames x.path.stack e.variables names) (fits : AllFit scope x.path.vars x.path.conds names scope) (ms : List (PureMatch S))
      (there : MatchesThere stands terms e x p.preds scope items (all_match ms)) where
    pub visits_cover : (nexts : List (PureNext S)) → AreVisits p memory m stands terms e x xs ps items (former_at (running_next x.path.stack) (of_running x.passed)) (map (λ k. k.state) ms) nexts → AreRowOf p memory m stands terms e x (loop_invariant xs ps items) [] nexts
    visits_cover nexts visits n may at this = record {
      cover = covers;
      uses = uses_nothing p memory m stands e x n [] nexts at (ap is_call this);
      follow = (visits n may at this).follow;
    }
      where
        covers : CoversLeads p memory m stands e x nexts
        covers v entry c out stand above leads = found_one (IsFound stands terms e x p.preds scope items v entry c) ms (λ k found. by found.found found.matches) (there.0 v entry c stand)
          where
            led : Visits p memory m entry (passed_at c.machine.current.next (current_passed c.passed)) (invariant_match p memory m entry xs ps items c) xs ps items c out
            led = leads_by p memory m stands x.path v entry c out n (loop_invariant xs ps items) stand.path at this leads

            by : (found : Match) → match_assertion p.preds scope items (names_at entry c) (logic_state c) ≡ matched found → OneOf (CoversOutcome stands e entry v out) nexts
            by found matches =
                let same = same_scope v entry c stand in
                let have : has_all xs c.machine.current.store ≡ true =
                sym (all_have_values xs v (running_store x.path.stack) c.machine.current.store (running_stands v x.path.stack c.machine.current c.machine.callers stand.path.frames)) ∙ listed in
                let fit : known_fit (names_at entry c) scope ≡ true =
                all_fit scope x.path.vars x.path.conds names v (names_at entry c) (record { proper = stand.path.proper; true_there = stand.path.meets })
                (names_stand v x.path.stack c.machine.current c.machine.callers e.variables names entry stand.path.frames stand.entered.variables are_names) fits in
                let is_match : invariant_match p memory m entry xs ps items c ≡ Some found =
                subst (λ qs. match_of (has_all xs c.machine.current.store && known_fit (names_at entry c) qs) (match_assertion p.preds qs items (names_at entry c) (logic_state c)) ≡ Some found) same
                (λ i. match_of (have i && fit i) (matches i)) in
                (visits n may at this).cover v entry c out (passed_at c.machine.current.next (current_passed c.passed)) found stand above
                (subst (λ i. ArePassedIfAny stands v (former_at (running_next x.path.stack) (of_running x.passed)) (passed_at i (current_passed c.passed))) (next_of_frames v x.path.stack c.machine.current c.machine.callers stand.path.frames)
                (passed_if_any stands v (running_next x.path.stack) x.passed c.passed stand.passed)) is_match
                (one_map (λ z. states.Stands stands z v found.state) (λ k. k.state) ms
                (one_to (IsFound stands terms e x p.preds scope items v entry c) (λ k. states.Stands stands k.state v found.state) ms
                (λ k f. subst (λ (h : Match). states.Stands stands k.state v h.state) (same_match (sym f.matches ∙ matches)) f.state) (there.0 v entry c stand)))
                (subst (λ o. Visits p memory m entry (passed_at c.machine.current.next (current_passed c.passed)) o xs ps items c out) is_match led)
