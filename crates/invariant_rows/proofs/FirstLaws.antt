-- A first visit is exact: checked runs follow the paths that go on, and what isn't decided is shown.
use Rattle.std.proofs.Common.{◌≡◌, ◌⊎◌, inl, inr, ℕ, suc, ◌+◌, ◌≤◌, List, [], ◌∷◌, ◌++◌, length, Bool, true, false, ◌&&◌, Option, Some, None, is_some, IsTrue, refl, sym, ap, subst, ◌∙◌, true≢false, append_assoc, append-nil, arith}
use Rattle.std.specs.Str.{bytes_eq}
use Rattle.std.proofs.lemmas.List.{append_cancel_left, length-append}
use Rattle.gil_values.specs.declared.places.Place.{Place}
use Rattle.gil_values.specs.Pure.{PureValue}
use Rattle.gil_values.specs.Symbols.{AreBelow}
use Rattle.gil_machine.specs.State.{State}
use Rattle.gil_syntax.specs.declared.assertions.Param.{Param}
use Rattle.gil_syntax.specs.Evaluation.{Store, value_of}
use Rattle.gil_syntax.specs.Pure.{PureParts, PureItem, PureNumberedCommand, loop_invariant}
use Rattle.gil_syntax.specs.Valid.{is_among}
use Rattle.mem_model.specs.declared.keys.MemoryName.{MemoryName}
use Rattle.mem_model.specs.Actions.{Actions}
use Rattle.mem_model.specs.Heaps.{Heap}
use Rattle.assert_logic.specs.LogicStates.{LogicState}
use Rattle.assert_logic.specs.Matching.{Match}
use Rattle.assert_logic.specs.Sorts.{fits_sorts, HasSorts}
use Rattle.checked_runs.proofs.Stores.{first_value, second_value}
use Rattle.checked_runs.specs.Checked.{Checked, Outcome, goes_on_to, Entry, Passed, AreSame as AreSameValues, IsAbove, moved, variables_in, logicals_in, names_at, logic_state, with_logic, has_all, unlisted_in, passed_at, current_passed, invariant_match, at_invariant, PassesFirst, Visits}
use Rattle.pure_terms.specs.declared.deciders.Reason.{Reason}
use Rattle.pure_terms.specs.declared.variables.Sort.{Sort}
use Rattle.pure_terms.specs.Meaning.{all_true, IsProper, Satisfies}
use Rattle.sym_paths.specs.Asking.{IsOutside}
use Rattle.sym_evaluation.specs.Meaning.{StandsFor}
use Rattle.sym_evaluation.specs.Pure.{PureStore, term_at}
use Rattle.sym_step.proofs.ExplorationSteps.{meets_part}
use Rattle.sym_model.proofs.ListLaws.{same_some, not_none}
use Rattle.sym_model.specs.Laws.{IsMeaning}
use Rattle.sym_model.specs.Lists.{Each}
use Rattle.sym_model.specs.Meaning.{has_open}
use Rattle.sym_model.specs.Terms.{StateTerms}
use Rattle.sym_states.proofs.Names.{or_left, or_right, same_name}
use Rattle.sym_states.specs.Naming.{AddsNames}
use Rattle.sym_paths.proofs.Growing.{all_true-more}
use Rattle.sym_paths.proofs.Recording.{past_is, fresh_append}
use Rattle.sym_paths.specs.Frames.{running_store}
use Rattle.sym_paths.specs.Meaning.{command_of_path}
use Rattle.sym_paths.specs.Moves.{passing}
use Rattle.sym_paths.specs.Pure.{PurePath}
use Rattle.sym_paths.specs.Steps.{IsPlaceOf, counter_after, counter_past, fresh_count}
use Rattle.sym_states.proofs.Conditions.{added_is, none_open}
use Rattle.sym_states.specs.Meaning as states
use Rattle.sym_states.specs.Producing.{added_conds}
use Rattle.sym_states.specs.Pure.{PureState}
use Rattle.sym_states.proofs.NamingLaws.{proper_sorts}
use Rattle.sym_unfolding.proofs.AddLaws.{both_each, each_for_all}
use Rattle.sym_unfolding.specs.Adding.{IsBefore, IsAddingOf, AddsExactly}
use Rattle.sym_unfolding.specs.Further.{IsFurther}
use Rattle.sym_unfolding.specs.Unfolding.{IsMetAfter}
use Rattle.footprint.proofs.Parts.{longer_both}
use Rattle.footprint.specs.Leaves.{IsLonger}
use Rattle.checked_paths.proofs.Above.{stands_above}
use Rattle.checked_paths.proofs.Growing.{store_more}
use Rattle.checked_paths.proofs.Lists.{each_across}
use Rattle.checked_paths.specs.Causes.{shown_of}
use Rattle.checked_paths.specs.Choosing.{LeadsAlong}
use Rattle.checked_paths.specs.Exactness.{AreNewValues, IsUnder, LeadsOn, IsFollowed, IsUndecided, IsRightCause, IsExactNext, AreExact}
use Rattle.checked_paths.specs.Following.{GoesOnWith}
use Rattle.checked_paths.specs.Meaning.{StandsForChecked, MayGoOn}
use Rattle.checked_paths.specs.Pure.{PureEntry, PureChecking, PureNext, further}
use Rattle.checked_rows.specs.Folding.{GoesOnIn}
use Rattle.checked_rows.specs.Names.{logicals_there, AreNames}
use Rattle.checked_rows.specs.States.{with_state}
use Rattle.checked_rows.proofs.BelowLaws.{below_more}
use Rattle.checked_rows.proofs.ExactLaws.{leads_along, chosen_there}
use Rattle.checked_rows.proofs.MatchLaws.{names_over, over_there, serves_there}
use Rattle.checked_rows.proofs.NameLaws.{names_stand, same_logicals}
use Rattle.checked_rows.proofs.NewValueLaws.{counter_rises, new_values_below}
use Rattle.checked_rows.proofs.StateLaws.{state_conds, state_vars}
use Rattle.checked_rows.proofs.StepLaws.{answer, state_there}
use Rattle.invariant_rows.specs.Entering.{IsInLoop, IsAdditionAnswered, AreAdded, AreEntered}
use Rattle.invariant_rows.specs.Fitting.{AllFit}
use Rattle.invariant_rows.specs.Listed.{have_terms, AreUnlisted}
use Rattle.invariant_rows.specs.Visiting.{ArePassedIfAny, IsLeft, IsKnown}
use Rattle.invariant_rows.proofs.EnterLaws.{unlisted_there, begun_with, begins_there}
use Rattle.invariant_rows.proofs.FitLaws.{all_fit, fit_has_sorts}
use Rattle.invariant_rows.proofs.ListedLaws.{unlisted_value, listed_value, unlisted_some, all_have_values, one_has_value}
use Rattle.invariant_rows.proofs.LoopLaws.{left_over, loop_vars, loop_more, loop_goes_on}

-- ---- values of new variables

-- those of the first new variables, and those of the others
record InTwo (n : ℕ) (xs ys : List Sort) (ws : List PureValue) : Type 0 where
  first : List PureValue
  second : List PureValue
  both : ws ≡ first ++ second
  first_new : AreNewValues n xs first
  second_new : AreNewValues (counter_past xs n) ys second

in_two : (n : ℕ) (xs ys : List Sort) (ws : List PureValue) → AreNewValues n (xs ++ ys) ws → InTwo n xs ys ws
in_two n [] ys ws are = record { first = []; second = ws; both = refl; first_new = tt; second_new = are }
in_two n (x ∷ xs) ys (w ∷ ws) are =
    let later = in_two (counter_after x n) xs ys ws are.1 in
    record { first = w ∷ later.first; second = later.second; both = ap (λ us. w ∷ us) later.both; first_new = (are.0, later.first_new); second_new = later.second_new }
in_two n (x ∷ xs) ys [] are = absurd are

as_many : (n : ℕ) (sorts : List Sort) (ws : List PureValue) → AreNewValues n sorts ws → length ws ≡ length sorts
as_many n [] [] are = refl
as_many n (sort ∷ sorts) (w ∷ ws) are = ap suc (as_many (counter_after sort n) sorts ws are.1)
as_many n [] (w ∷ ws) are = absurd are
as_many n (sort ∷ sorts) [] are = absurd are

past_both : (xs ys : List Sort) (n : ℕ) → counter_past ys (counter_past xs n) ≡ counter_past (xs ++ ys) n
past_both xs ys n =
    let first : counter_past xs n ≡ n + fresh_count xs = past_is xs n in
    let second : counter_past ys (counter_past xs n) ≡ counter_past xs n + fresh_count ys = past_is ys (counter_past xs n) in
    let whole : counter_past (xs ++ ys) n ≡ n + fresh_count (xs ++ ys) = past_is (xs ++ ys) n in
    let counted : fresh_count (xs ++ ys) ≡ fresh_count xs + fresh_count ys = fresh_append xs ys in
    omega (arith, first, second, whole, counted)

-- ---- names that got values

terms_there : (xs : List (List ℕ)) (bs : PureStore) → ((x : List ℕ) → is_among xs x ≡ true → is_some (term_at bs x) ≡ true) → have_terms xs bs ≡ true
terms_there [] bs all = refl
terms_there (x ∷ xs) bs all =
    let first = all x (or_left (bytes_eq x x) (is_among xs x) (same_name x)) in
    let rest = terms_there xs bs (λ z among. all z (or_right (bytes_eq z x) (is_among xs z) among)) in
    λ i. first i && rest i

module _ (qs : List Param) (xs : List (List ℕ)) (old : Store) (s t : Store) (unlisted : s ≡ unlisted_in xs old) (adds : AddsNames qs xs [] [] s t) where
  others_stay : AreSameValues (unlisted_in xs t) (unlisted_in xs old)
  others_stay y = by (is_among xs y) refl
    where
      known : (o : Option PureValue) → is_among xs y ≡ false → value_of s y ≡ o → value_of t y ≡ value_of s y
      known (Some u) isnt at = adds.extends y u at ∙ sym at
      known None isnt at = later (value_of t y) refl
        where
          later : (o : Option PureValue) → value_of t y ≡ o → value_of t y ≡ value_of s y
          later None there = there ∙ sym at
          later (Some u) there = added (adds.added y u there)
            where
              added : (value_of s y ≡ Some u) ⊎ (IsTrue (is_among xs y) × IsTrue (fits_sorts qs y u)) → value_of t y ≡ value_of s y
              added (inl is) = there ∙ sym is
              added (inr (among, fits)) = absurd (true≢false (sym among ∙ isnt))

      by : (b : Bool) → is_among xs y ≡ b → value_of (unlisted_in xs t) y ≡ value_of (unlisted_in xs old) y
      by true listed = listed_value xs t y listed ∙ sym (listed_value xs old y listed)
      by false isnt = unlisted_value xs t y isnt ∙ (known (value_of s y) isnt refl ∙ ap (λ (k : Store). value_of k y) unlisted)

  -- the names that are known then have their sorts, where those before have them
  sorts_then : (variables : Store) → HasSorts qs (old ++ variables) → has_all xs t ≡ true → HasSorts qs (t ++ variables)
  sorts_then variables sorts listed z u at = by (value_of t z) refl
    where
      added : (k : PureValue) → value_of t z ≡ Some k → (value_of s z ≡ Some k) ⊎ (IsTrue (is_among xs z) × IsTrue (fits_sorts qs z k)) → IsTrue (fits_sorts qs z u)
      added k there (inr (among, fits)) = subst (λ w. IsTrue (fits_sorts qs z w)) (same_some (sym (first_value t variables z k there) ∙ at)) fits
      added k there (inl was) =
          let before : value_of old z ≡ Some k = unlisted_some xs old z k (ap (λ (r : Store). value_of r z) (sym unlisted) ∙ was) in
          subst (λ w. IsTrue (fits_sorts qs z w)) (same_some (sym (first_value t variables z k there) ∙ at)) (sorts z k (first_value old variables z k before))

      no_old : value_of t z ≡ None → (o : Option PureValue) → value_of old z ≡ o → value_of old z ≡ None
      no_old none None there = there
      no_old none (Some k) there = among (is_among xs z) refl
        where
          among : (b : Bool) → is_among xs z ≡ b → value_of old z ≡ None
          among true listed_there = absurd (true≢false (sym (one_has_value xs t z listed listed_there) ∙ ap is_some none))
          among false isnt = not_none (sym none ∙ adds.extends z k (ap (λ (r : Store). value_of r z) unlisted ∙ (unlisted_value xs old z isnt ∙ there)))

      by : (o : Option PureValue) → value_of t z ≡ o → IsTrue (fits_sorts qs z u)
      by (Some k) there = added k there (adds.added z k there)
      by None none =
          sorts z u (second_value old variables z (no_old none (value_of old z) refl) ∙ (sym (second_value t variables z none) ∙ at))

-- ---- the visit

module _ (p : PureParts) (memory : MemoryName) (m : Actions) {S : Type 0} (stands : S → List PureValue → Heap → Type 0) (terms : S → StateTerms) (meaning : IsMeaning memory stands terms) (kept : S → Type 0) (e : PureEntry) (x : PureChecking S)
    (xs : List (List ℕ)) (ps : List Param) (items : List PureItem) (bs : PureStore) (unlisted : AreUnlisted xs (running_store x.path.stack) bs) (names : PureStore) (are_names : AreNames x.path.stack e.variables names) (scope : List Param)
    (is_scope : scope ≡ logicals_there x.path.stack e.spec.logicals ++ ps) (fits : AllFit scope x.path.vars x.path.conds names scope)
    (n : PureNumberedCommand) (may : MayGoOn p terms e x) (at : command_of_path p x.path ≡ Some n) (this : n.command ≡ loop_invariant xs ps items) (here : Place) (place : IsPlaceOf p x.path.stack here) where
  abbrev Match_of : Entry → Checked → Option Match
  Match_of entry c = invariant_match p memory m entry xs ps items c

  abbrev Former_of : Checked → Option Passed
  Former_of c = passed_at c.machine.current.next (current_passed c.passed)

  -- the state makes no choice
  pub visits_along : (v : List PureValue) (entry : Entry) (c : Checked) (out : Outcome) → StandsForChecked stands e x v entry c → Visits p memory m entry (Former_of c) (Match_of entry c) xs ps items c out → LeadsAlong p memory m entry c None out
  visits_along v entry c out stand visits =
      leads_along p memory m stands x.path v entry c n (loop_invariant xs ps items) stand.path at this None out
      (visits, chosen_there p memory m stands x.path v entry c n (loop_invariant xs ps items) stand.path at this)

  pub same_scope_there : (v : List PureValue) (entry : Entry) (c : Checked) → StandsForChecked stands e x v entry c → scope ≡ logicals_in c.machine.callers entry ++ ps
  same_scope_there v entry c stand =
      is_scope ∙ ap (λ qs. qs ++ ps) (ap (λ s. logicals_there x.path.stack s.logicals) (sym stand.entered.spec) ∙ same_logicals v x.path.stack c.machine.current c.machine.callers entry stand.path.frames)

  -- the names that are known have their sorts
  sorts_before : (v : List PureValue) (entry : Entry) (c : Checked) → StandsForChecked stands e x v entry c → HasSorts scope (names_at entry c)
  sorts_before v entry c stand =
      fit_has_sorts scope (names_at entry c) (all_fit scope x.path.vars x.path.conds names v (names_at entry c) (record { proper = stand.path.proper; true_there = stand.path.meets })
      (names_stand v x.path.stack c.machine.current c.machine.callers e.variables names entry stand.path.frames stand.entered.variables are_names) fits)

  module _ (s : PureState S) (is_left : IsLeft p memory m stands terms e x xs ps items None s) (known : IsKnown p memory m stands terms e x xs ps items None) (y : PureChecking S) (inside : IsInLoop stands terms scope xs bs x s y) (nexts : List (PureNext S))
      (are : AreAdded memory stands terms kept e scope items here y nexts) where
    may_y : MayGoOn p terms e y
    may_y = loop_goes_on stands terms e scope xs bs x s y may.over is_left.of_path unlisted inside p may

    further_each : Each (IsFurther terms kept are.state) are.added
    further_each = are.adds.follow (over_there stands terms kept e y are.state are.store may_y.over are.is_state are.names) (names_over stands terms kept e y are.state are.store may_y.over are.is_state are.names) tt

    vars_of : (r : PureState S) (f : IsFurther terms kept are.state r) → r.vars ≡ y.path.vars ++ f.sorts
    vars_of r f = f.vars ∙ ap (λ vs. vs ++ f.sorts) (state_vars stands terms y.path y.facts are.state are.is_state)

    conds_of : (r : PureState S) (f : IsFurther terms kept are.state r) → r.conds ≡ y.path.conds ++ f.more
    conds_of r f = f.conds ∙ ap (λ cs. cs ++ f.more) (state_conds stands terms y.path y.facts are.state are.is_state)

    y_conds : y.path.conds ≡ s.conds
    y_conds = ap (λ (q : PurePath S). q.conds) inside.same_path

    y_more : y.path.vars ≡ x.path.vars ++ inside.naming.more
    y_more = loop_more stands terms e scope xs bs x s y may.over is_left.of_path unlisted inside

    all_vars : (r : PureState S) (f : IsFurther terms kept are.state r) → r.vars ≡ x.path.vars ++ (inside.naming.more ++ f.sorts)
    all_vars r f = vars_of r f ∙ (ap (λ vs. vs ++ f.sorts) y_more ∙ append_assoc x.path.vars inside.naming.more f.sorts)

    all_conds : (r : PureState S) → IsFurther terms kept are.state r → IsLonger x.path.conds r.conds
    all_conds r f = longer_both x.path.conds s.conds r.conds is_left.of_path.longer (f.more, conds_of r f ∙ ap (λ cs. cs ++ f.more) y_conds)

    all_choices : (r : PureState S) → IsFurther terms kept are.state r → r.path ≡ x.path.choices
    all_choices r f =
        ap (λ (q : PureState S). q.path) f.same_else ∙ (ap (λ (q : PureState S). q.path) are.is_state.is ∙ (ap (λ (q : PurePath S). q.choices) inside.same_path ∙ is_left.of_path.choices))

    -- a valuation and what the state stands for before the items are added
    record IsAsked : Type 0 where
      before : List PureValue
      values : List PureValue
      left : LogicState
      is_before : IsBefore memory stands terms kept scope are.store [] are.state before left

    abbrev StandsSo : IsAsked → PureState S → Type 0
    StandsSo a r = IsMetAfter are.state r (a.before ++ a.values) → AddsExactly memory stands terms kept scope are.store [] a.before a.left items (a.before ++ a.values) r

    laws : Each (λ r. (a : IsAsked) → StandsSo a r) are.added
    laws = each_for_all StandsSo are.added (λ a. are.adds.exact a.before a.values a.left a.is_before)

    -- ---- a path that goes on

    module _ (r : PureState S) (k : PureNext S) (f : IsFurther terms kept are.state r) (law : (a : IsAsked) → StandsSo a r) (no_form : has_open r.conds ≡ false) (goes : GoesOnIn stands terms y r r.facts k) where
      abbrev Answer : (z : PureChecking S) × ((k ≡ further z) × GoesOnWith stands terms r.facts y.passed (passing (with_state y.path r)) z)
      Answer = answer p memory m stands terms meaning e y may_y r r.facts k goes f.sorts (vars_of r f)

      abbrev z : PureChecking S
      z = Answer.0

      z_vars : z.path.vars ≡ r.vars
      z_vars = ap (λ (q : PurePath S). q.vars) Answer.1.1.same_path

      z_conds : z.path.conds ≡ r.conds
      z_conds = ap (λ (q : PurePath S). q.conds) Answer.1.1.same_path

      no_form_more : has_open (added_conds are.state r) ≡ false
      no_form_more = ap has_open (added_is are.state r f.more f.conds) ∙ (none_open are.state.conds f.more (ap has_open (sym f.conds) ∙ no_form)).1

      module _ (v w : List PureValue) (entry : Entry) (c : Checked) (under : IsUnder stands e x z.path.vars z.path.conds v w entry c) where
        abbrev new_vars : List Sort
        new_vars = under.continued.new_vars

        sorts_are : new_vars ≡ inside.naming.more ++ f.sorts
        sorts_are = append_cancel_left x.path.vars new_vars (inside.naming.more ++ f.sorts) (sym under.continued.table ∙ (z_vars ∙ all_vars r f))

        two : InTwo c.machine.counter inside.naming.more f.sorts under.continued.new_values
        two = in_two c.machine.counter inside.naming.more f.sorts under.continued.new_values (subst (λ us. AreNewValues c.machine.counter us under.continued.new_values) sorts_are under.continued.in_turn)

        abbrev counter : ℕ
        counter = counter_past new_vars c.machine.counter

        counter_is : counter_past f.sorts (counter_past inside.naming.more c.machine.counter) ≡ counter
        counter_is = past_both inside.naming.more f.sorts c.machine.counter ∙ ap (λ us. counter_past us c.machine.counter) (sym sorts_are)

        not_lower : c.machine.counter ≤ counter
        not_lower = counter_rises new_vars c.machine.counter

        below_first : AreBelow counter two.first
        below_first =
            subst (λ i. AreBelow i two.first) counter_is
            (below_more (counter_past inside.naming.more c.machine.counter) (counter_past f.sorts (counter_past inside.naming.more c.machine.counter)) two.first (counter_rises f.sorts (counter_past inside.naming.more c.machine.counter))
            (new_values_below inside.naming.more two.first c.machine.counter two.first_new))

        below_second : AreBelow counter two.second
        below_second = subst (λ i. AreBelow i two.second) counter_is (new_values_below f.sorts two.second (counter_past inside.naming.more c.machine.counter) two.second_new)

        abbrev part : List PureValue
        part = v ++ two.first

        w_is : w ≡ part ++ two.second
        w_is = under.continued.values ∙ (ap (λ us. v ++ us) two.both ∙ sym (append_assoc v two.first two.second))

        meets_r : Satisfies r.vars w r.conds
        meets_r = subst (λ (q : PurePath S). Satisfies q.vars w q.conds) Answer.1.1.same_path under.meets

        v_many : length v ≡ length x.path.vars
        v_many = under.standing.path.proper.one_each

        part_many : length part ≡ length y.path.vars
        part_many =
            length-append v two.first ∙ ((λ i. v_many i + as_many c.machine.counter inside.naming.more two.first two.first_new i) ∙ (sym (length-append x.path.vars inside.naming.more) ∙ ap length (sym y_more)))

        meets_y : Satisfies y.path.vars part y.path.conds
        meets_y =
            meets_part y.path.vars f.sorts part two.second y.path.conds f.more part_many may_y.over.path.conds
            (subst (λ cs. Satisfies (y.path.vars ++ f.sorts) (part ++ two.second) cs) (conds_of r f)
            (subst (λ vs. Satisfies vs (part ++ two.second) r.conds) (vars_of r f) (subst (λ u. Satisfies r.vars u r.conds) w_is meets_r)))

        s_many : length v ≡ length s.vars
        s_many = v_many ∙ ap length (sym is_left.of_path.vars)

        meets_s : IsTrue (all_true v s.conds)
        meets_s = sym (all_true-more s.vars v two.first s_many s.conds is_left.of_path.over.conds) ∙ subst (λ cs. IsTrue (all_true part cs)) y_conds meets_y.true_there

        abbrev matched_there : (found : Match) × ((Match_of entry c ≡ Some found) × states.Stands stands s v found.state)
        matched_there = is_left.left v entry c under.standing meets_s

        abbrev left : LogicState
        left = matched_there.0.state

        abbrev unl : Store
        unl = unlisted_in xs c.machine.current.store

        stands_unl : StandsFor v bs unl
        stands_unl = unlisted_there p memory m stands terms meaning e xs scope bs x s may.over is_left.of_path unlisted v entry c left under.standing matched_there.1.1

        proper_named : IsProper inside.named.vars part
        proper_named = subst (λ vs. IsProper vs part) (loop_vars stands terms e scope xs bs x s y may.over is_left.of_path unlisted inside) meets_y.proper

        abbrev named_there : (t : Store) × (AddsNames scope xs s.vars bs unl t × StandsFor part inside.named.store t)
        named_there =
            inside.naming.exact part unl (proper_sorts inside.named.vars part proper_named) (store_more s.vars v two.first s_many bs unl (left_over terms e xs bs x s may.over is_left.of_path unlisted) stands_unl)

        abbrev t : Store
        t = named_there.0

        listed_then : has_all xs t ≡ true
        listed_then = sym (all_have_values xs part inside.named.store t named_there.1.1) ∙ terms_there xs inside.named.store (λ q among. inside.naming.all_named q among)

        abbrev begun : Checked
        begun = begun_with p memory m stands terms meaning e xs scope bs x s may.over is_left.of_path unlisted v entry c left under.standing matched_there.1.1 counter t

        begins : StandsForChecked stands e y part entry begun
        begins =
            begins_there p memory m stands terms meaning e xs scope bs x s may.over is_left.of_path unlisted v entry c left under.standing matched_there.1.1 y inside two.first proper_named counter not_lower below_first t named_there.1.1

        serves : states.Serves stands terms are.state are.store part (names_at entry begun) (logic_state begun)
        serves = serves_there stands terms kept e y are.state are.store may_y.over are.is_state are.names part entry begun begins

        added_so : AddsExactly memory stands terms kept scope are.store [] part left items (part ++ two.second) r
        added_so =
            law (record { before = part; values = two.second; left = left; is_before = record { over = serves.over; store_over = serves.store_over; conds_over = tt; stands_for = serves.state } })
            (record { meets = subst (λ u. Satisfies r.vars u r.conds) w_is meets_r; no_form = no_form_more })

        sorts_begun : HasSorts scope (names_at entry begun)
        sorts_begun = sorts_then scope xs c.machine.current.store unl t refl (record { extends = named_there.1.0.extends; added = named_there.1.0.added }) (variables_in c.machine.callers entry) (sorts_before v entry c under.standing) listed_then

        abbrev adding : IsAddingOf memory stands terms kept scope are.store [] (names_at entry begun) left items (part ++ two.second) r
        adding = added_so.adding (names_at entry begun) serves.store sorts_begun

        stand_r : states.Stands stands r w adding.next
        stand_r = subst (λ u. states.Stands stands r u adding.next) (sym w_is) adding.stands_for

        abbrev next : Checked
        next = with_logic adding.next counter (at_invariant p memory m entry xs left t c)

        abbrev advanced : State
        advanced = record next.machine { current = record next.machine.current { next = next.machine.current.next + 1 } }

        on : StandsForChecked stands e z w entry (moved next advanced)
        on = state_there p memory m stands terms meaning e y may_y r r.facts k goes f.sorts (vars_of r f) part w two.second entry begun adding.next adding.next.facts counter w_is begins stand_r (omega arith) below_second stand_r.facts

        above_next : IsAbove next
        above_next =
            let above = stands_above memory stands terms meaning e z w entry (moved next advanced) on in
            record { heap_below = above.heap_below; current_below = above.current_below; callers_below = above.callers_below; facts_below = above.facts_below }

        passes : PassesFirst p memory m entry xs ps items left c (goes_on_to (moved next advanced))
        passes = record {
          store = t;
          listed_have_values = listed_then;
          others_stay = others_stay scope xs c.machine.current.store unl t refl (record { extends = named_there.1.0.extends; added = named_there.1.0.added });
          names = adding.store;
          known_stay = adding.extends;
          sorts = subst (λ qs. HasSorts qs adding.store) (same_scope_there v entry c under.standing) adding.sorts;
          counter = counter;
          next = next;
          adds = record { state = adding.next; adding = adding.adding; not_lower = not_lower; is_next = refl; above = above_next };
          leads = refl;
        }

        visits : (o : Option Passed) → ArePassedIfAny stands v None o → Visits p memory m entry o (Match_of entry c) xs ps items c (goes_on_to (moved next advanced))
        visits None none = subst (λ g. Visits p memory m entry None g xs ps items c (goes_on_to (moved next advanced))) (sym matched_there.1.0) passes
        visits (Some q) none = absurd none

        goes_on_as : LeadsOn p memory m stands e x z w entry c new_vars
        goes_on_as = record {
          state = moved next advanced;
          chosen = None;
          choices = ap (λ (q : PurePath S). q.choices) Answer.1.1.same_path ∙ (all_choices r f ∙ sym (append-nil x.path.choices));
          leads = visits_along v entry c (goes_on_to (moved next advanced)) under.standing (visits (Former_of c) (known.known v entry c under.standing));
          stands_for = on;
          counted = refl;
        }

      followed : (w : List PureValue) → Satisfies r.vars w r.conds → IsFollowed p memory m stands e x z
      followed w meets = record {
        table = (inside.naming.more ++ f.sorts, z_vars ∙ all_vars r f);
        longer = let (more, grown) = all_conds r f in (more, z_conds ∙ grown);
        met = λ v before. (w, subst (λ (q : PurePath S). Satisfies q.vars w q.conds) (sym Answer.1.1.same_path) meets);
        exact = goes_on_as;
      }

    -- ---- what isn't decided

    undecided_there : (r : PureState S) → IsFurther terms kept are.state r → (reason : Reason) → IsOutside r.conds reason → IsUndecided x p reason (record (shown_of here (with_state y.path r)) { conds = r.conds })
    undecided_there r f reason outside = record {
      at = record { place = place; table = (inside.naming.more ++ f.sorts, all_vars r f); longer = all_conds r f; known = λ u none. not_none none };
      chosen = None;
      choices = all_choices r f ∙ sym (append-nil x.path.choices);
      outside = outside.outside;
      first = outside.first;
    }

    exact_one : (r : PureState S) (k : PureNext S) → IsAdditionAnswered stands terms here y r k → IsFurther terms kept are.state r × ((a : IsAsked) → StandsSo a r) → IsExactNext p memory m stands e x k
    exact_one r k (inr (inl (done, unsat))) (f, law) = subst (IsExactNext p memory m stands e x) (sym done) tt
    exact_one r k (inr (inr (reason, (outside, (cause, (is_cause, shows)))))) (f, law) =
        subst (IsExactNext p memory m stands e x) (sym is_cause) (subst (IsRightCause p memory m stands e x) (sym shows) (undecided_there r f reason outside))
    exact_one r k (inl (no_form, ((w, meets), goes))) (f, law) = subst (IsExactNext p memory m stands e x) (sym (Answer r k f law no_form goes).1.0) (followed r k f law no_form goes w meets)

    pub added_exact : AreExact p memory m stands e x nexts
    added_exact =
        each_across (IsAdditionAnswered stands terms here y) (λ r. IsFurther terms kept are.state r × ((a : IsAsked) → StandsSo a r)) (IsExactNext p memory m stands e x) are.added nexts are.answered exact_one
        (both_each (IsFurther terms kept are.state) (λ r. (a : IsAsked) → StandsSo a r) (λ r. IsFurther terms kept are.state r × ((a : IsAsked) → StandsSo a r)) are.added (λ r f law. (f, law)) further_each laws)

  pub enters_exact : (s : PureState S) → IsLeft p memory m stands terms e x xs ps items None s → IsKnown p memory m stands terms e x xs ps items None → (nexts : List (PureNext S)) → AreEntered memory stands terms kept e xs scope items bs here x s nexts
      → AreExact p memory m stands e x nexts
  enters_exact s is_left known nexts (inl (none, empty)) = subst (AreExact p memory m stands e x) (sym empty) tt
  enters_exact s is_left known nexts (inr (y, (inside, added))) = added_exact s is_left known y inside nexts added
