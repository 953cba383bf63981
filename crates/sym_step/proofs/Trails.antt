-- A run beside a trail, from step to step.
use Rattle.std.proofs.Common.{◌≡◌, ◌⊎◌, ⊎_elim, inl, ℕ, zero, suc, ◌+◌, List, [], ◌∷◌, ◌++◌, false, length, Option, Some, None, is_some, IsSome, IsTrue, get_or, refl, sym, ap, subst, ◌∙◌, arith, true≢false}
use Rattle.std.proofs.lemmas.List.{append-nil, append_cancel_left, append_assoc, length-append}
use Rattle.gil_values.specs.Pure.{PureValue}
use Rattle.gil_syntax.specs.Pure.{PureParts}
use Rattle.gil_machine.specs.Choices.{choices, choice_at, with_choice}
use Rattle.gil_machine.specs.Run.{reached}
use Rattle.gil_machine.specs.State.{State, Step, goes_on, ends, IsOver as IsOverWith}
use Rattle.gil_machine.specs.Step.{step, command_at}
use Rattle.gil_machine.proofs.Steps.{Keeps, step-keeps}
use Rattle.mem_model.specs.Actions.{Actions}
use Rattle.mem_model.specs.Heaps.{Heap}
use Rattle.pure_terms.specs.declared.variables.Sort.{Sort}
use Rattle.pure_terms.specs.Meaning.{all_true, IsOver, Satisfies}
use Rattle.pure_terms.specs.Pure.{PureTerm, PureAtom, term_of}
use Rattle.sym_step.specs.Runs.{draw_count, ComesTo, MakesChoices, StandsAt, StandsAfter}
use Rattle.sym_step.specs.Trails.{IsNextPath, IsTrail}
use Rattle.sym_step.proofs.ExplorationSteps.{counter_at, draws_at, draw_append, drawn_length, meets_part, shorter, same_valuation}
use Rattle.sym_step.proofs.RunSteps.{step_does, reached_next, before_last, choices_next}
use Rattle.sym_model.specs.Lists.{Each}
use Rattle.sym_model.specs.Meaning.{has_open}
use Rattle.sym_model.specs.Terms.{StateTerms}
use Rattle.sym_model.proofs.ListLaws.{same_some, not_none}
use Rattle.sym_paths.specs.Meaning.{Stands, StandsForStep, IsOverTable}
use Rattle.sym_paths.specs.Pure.{PureEnd, cut, PurePath}
use Rattle.sym_paths.specs.Steps.{AreNext, Extends, IsUnknown, IsChosen, GoesOnAs, drawn_from, draws_past, fresh_count}
use Rattle.sym_paths.proofs.Recording.{symbols_recorded, symbols_taken}
use Rattle.sym_paths.proofs.Silent.{stands_at}

module _ {S : Type 0} (p : PureParts) (m : Actions) (stands : S → List PureValue → Heap → Type 0) (terms : S → StateTerms)
    (asked : List ℕ → List PureTerm → List PureTerm × List PureTerm) where
  pub trail_over : (start : PurePath S) (earlier : List (PurePath S)) (path : PurePath S) → IsTrail p m stands terms asked start earlier path → IsOverTable terms start → IsOverTable terms path
  trail_over start [] path trail over = subst (IsOverTable terms) (sym trail) over
  trail_over start (before ∷ earlier) path trail over = trail.0.growth.over

  abbrev HasMore : PurePath S → PurePath S → Type 0
  HasMore start path = (sorts : List Sort) × (path.vars ≡ start.vars ++ sorts)

  trail_vars : (start : PurePath S) (earlier : List (PurePath S)) (path : PurePath S) → IsTrail p m stands terms asked start earlier path → HasMore start path
  trail_vars start [] path trail = subst (HasMore start) (sym trail) ([], sym (append-nil start.vars))
  trail_vars start (before ∷ earlier) path (next, trail) =
      let (sorts, are) = trail_vars start earlier before trail in
      (sorts ++ next.growth.new_vars, next.growth.vars ∙ ap (λ xs. xs ++ next.growth.new_vars) are ∙ append_assoc start.vars sorts next.growth.new_vars)

  module _ (inputs : List PureValue) (s0 : State) (start : PurePath S) where
    -- ---- what the path stands for after one more step

    abbrev pub At : PurePath S → List PureValue → ℕ → State → Type 0
    At path v n s = StandsAt p m stands inputs s0 start path v n s

    command_there : (before path : PurePath S) (v : List PureValue) (s : State) (next : IsNextPath p m stands terms asked before path) → Stands stands before v s
        → command_at p s.current ≡ Some next.at_command.0
    command_there before path v s next is = sym (stands_at p v before.stack s is.frames) ∙ next.at_command.1

    goes_there : (before path : PurePath S) (v w : List PureValue) (n : ℕ) (s t : State) → IsNextPath p m stands terms asked before path → At before v n s → path.ending ≡ None
        → step p m inputs s ≡ goes_on t → Stands stands path w t → At path w (suc n) t
    goes_there before path v w n s t next at still goes is =
        let does = step_does p m inputs s t next.at_command.0 (command_there before path v s next at.stands_for) goes in
        let taken : t.counter ≡ s.counter + symbols_taken m next.at_command.0.command = does.counter_is in
        let recorded : fresh_count path.vars ≡ fresh_count before.vars + symbols_taken m next.at_command.0.command = symbols_recorded p m before path next.recorded next.at_command.0 next.at_command.1 still in
        let counted : s.counter + fresh_count start.vars ≡ s0.counter + fresh_count before.vars = at.symbols in
        let drawn : length path.drawn ≡ length before.drawn + length (drawn_from (length before.vars) next.growth.new_vars) = ap length next.growth.drawn ∙ length-append before.drawn (drawn_from (length before.vars) next.growth.new_vars) in
        let new_draws : length (drawn_from (length before.vars) next.growth.new_vars) ≡ draw_count next.growth.new_vars = drawn_length (length before.vars) next.growth.new_vars in
        let all_draws : draw_count path.vars ≡ draw_count before.vars + draw_count next.growth.new_vars = ap draw_count next.growth.vars ∙ draw_append before.vars next.growth.new_vars in
        let had : s.draws ≡ length before.drawn = at.stands_for.draws in
        let has : t.draws ≡ length path.drawn = is.draws in
        let were : s.draws + draw_count start.vars ≡ s0.draws + draw_count before.vars = at.draws in
        record {
          comes_to = reached_next p m inputs n s0 s t at.comes_to goes;
          stands_for = is;
          symbols = omega (arith, taken, recorded, counted);
          draws = omega (arith, drawn, new_draws, all_draws, had, has, were);
        }

    comes_there : (before path : PurePath S) (v w : List PureValue) (n : ℕ) (s : State) (o : Option PureEnd) (r : Step) → IsNextPath p m stands terms asked before path → At before v n s
        → path.ending ≡ o → step p m inputs s ≡ r → StandsForStep p m stands path w s o r → StandsAfter p m stands inputs s0 start path w (suc n) o
    comes_there before path v w n s None (goes_on t) next at is goes stood = (t, goes_there before path v w n s t next at is goes stood)
    comes_there before path v w n s (Some how) (ends e) next at is goes stood = (s, (e, (inl (n, (refl, at.comes_to, goes)), stood)))
    comes_there before path v w n s None (ends e) next at is goes stood = absurd stood
    comes_there before path v w n s (Some how) (goes_on t) next at is goes stood = absurd stood

    pub stands_next : (before path : PurePath S) (v w : List PureValue) (n : ℕ) (s : State) → IsNextPath p m stands terms asked before path → At before v n s
        → StandsForStep p m stands path w s path.ending (step p m inputs s) → StandsAfter p m stands inputs s0 start path w (suc n) path.ending
    stands_next before path v w n s next at stood = comes_there before path v w n s path.ending (step p m inputs s) next at refl refl stood

  module _ (inputs v0 : List PureValue) (s0 : State) (start : PurePath S) (one_each : length v0 ≡ length start.vars) where
    -- what a valuation of the path is for the path before
    pub record IsBack (before path : PurePath S) (v : List PureValue) : Type 0 where
      pub valuation : List PureValue
      pub extends : Extends inputs s0 start before v0 valuation
      pub step : (n : ℕ) (s : State) → StandsAt p m stands inputs s0 start before valuation n s → Extends inputs s before path valuation v
      pub conds : Satisfies path.vars v path.conds → Satisfies before.vars valuation before.conds
      pub given : Satisfies path.vars v path.given → Satisfies before.vars valuation before.given

    part_of : (before path : PurePath S) (sorts : List Sort) (v w ws : List PureValue) (atoms all later : List PureAtom) → path.vars ≡ before.vars ++ sorts → v ≡ w ++ ws → all ≡ atoms ++ later
        → length w ≡ length before.vars → Each (λ a. IsOver before.vars (term_of a)) atoms → Satisfies path.vars v all → Satisfies before.vars w atoms
    part_of before path sorts v w ws atoms all later vars values conds same over meets =
        meets_part before.vars sorts w ws atoms later same over
        (subst (Satisfies (before.vars ++ sorts) (w ++ ws)) conds (subst (λ u. Satisfies (before.vars ++ sorts) u all) values (subst (λ xs. Satisfies xs v all) vars meets)))

    pub back : (earlier : List (PurePath S)) (before path : PurePath S) (v : List PureValue) → IsOverTable terms start → IsNextPath p m stands terms asked before path
        → IsTrail p m stands terms asked start earlier before → Extends inputs s0 start path v0 v → IsBack before path v
    back earlier before path v over next trail ext =
        let (sorts, are) = trail_vars start earlier before trail in
        let part = shorter inputs s0 start before path v0 sorts next.growth.new_vars v one_each are next.growth.vars ext in
        let over_before = trail_over start earlier before trail over in
        record {
          valuation = part.valuation;
          extends = part.extends;
          step = λ n s at. record {
            new_vars = next.growth.new_vars;
            new_values = part.more;
            vars = next.growth.vars;
            values = part.both;
            in_turn = subst (λ d. AreNext inputs s.counter d next.growth.new_vars part.more) (draws_at s0.draws s.draws start.vars before.vars part.extends.new_vars part.extends.vars at.draws)
                (subst (λ k. AreNext inputs k (draws_past part.extends.new_vars s0.draws) next.growth.new_vars part.more)
                (counter_at s0.counter s.counter start.vars before.vars part.extends.new_vars part.extends.vars at.symbols) part.later);
          };
          conds = part_of before path next.growth.new_vars v part.valuation part.more before.conds path.conds next.growth.new_conds next.growth.vars part.both next.growth.conds part.one_each over_before.conds;
          given = part_of before path next.growth.new_vars v part.valuation part.more before.given path.given next.growth.new_given next.growth.vars part.both next.growth.given part.one_each over_before.given;
        }

    -- ---- replay

    at_open : (path : PurePath S) (v : List PureValue) (n : ℕ) → path.ending ≡ None → StandsAfter p m stands inputs s0 start path v n path.ending → (s : State) × At inputs s0 start path v n s
    at_open path v n still after = subst (StandsAfter p m stands inputs s0 start path v n) still after

    known_open : (path : PurePath S) → path.ending ≡ None → ¬ IsUnknown path.ending
    known_open path still unknown = subst IsUnknown still unknown

    pub at_start : start.ending ≡ None → Stands stands start v0 s0 → StandsAfter p m stands inputs s0 start start v0 zero start.ending
    at_start going is = subst (StandsAfter p m stands inputs s0 start start v0 zero) (sym going) (s0, record { comes_to = refl; stands_for = is; symbols = refl; draws = refl })

    abbrev Replayed : ℕ → PurePath S → Type 0
    Replayed n path = (v : List PureValue) → Extends inputs s0 start path v0 v → Satisfies path.vars v path.conds → ¬ IsUnknown path.ending → StandsAfter p m stands inputs s0 start path v n path.ending

    pub replay : (earlier : List (PurePath S)) (path : PurePath S) → start.ending ≡ None → IsOverTable terms start → Stands stands start v0 s0 → IsTrail p m stands terms asked start earlier path
        → Replayed (length earlier) path
    replay [] path going over is trail =
        subst (Replayed zero) (sym trail)
        (λ v ext meets known. subst (λ u. StandsAfter p m stands inputs s0 start start u zero start.ending) (sym (same_valuation inputs s0 start v0 v ext)) (at_start going is))
    replay (before ∷ earlier) path going over is (next, trail) = λ v ext meets known.
        let b = back earlier before path v over next trail ext in
        let (s, at) = at_open before b.valuation (length earlier) next.going (replay earlier before going over is trail b.valuation b.extends (b.conds meets) (known_open before next.going)) in
        stands_next inputs s0 start before path b.valuation v (length earlier) s next at (next.exact inputs b.valuation v s at.stands_for (b.step (length earlier) s at) known meets).1

    -- a step doesn't end by a cut
    no_cut : (path : PurePath S) (v : List PureValue) (s : State) (r : Step) → Keeps 0 r → ¬ StandsForStep p m stands path v s (Some cut) r
    no_cut path v s (goes_on t) keeps stood = stood
    no_cut path v s (ends e) keeps stood = subst IsOverWith stood.ending keeps.1

    known_cut : ¬ IsUnknown (Some cut)
    known_cut unknown = unknown

    pub never_cut : (earlier : List (PurePath S)) (path : PurePath S) (v : List PureValue) → start.ending ≡ None → IsOverTable terms start → Stands stands start v0 s0
        → IsTrail p m stands terms asked start earlier path → Extends inputs s0 start path v0 v → Satisfies path.vars v path.conds → ¬ (path.ending ≡ Some cut)
    never_cut [] path v going over is trail ext meets ended = not_none (sym going ∙ ap (λ (q : PurePath S). q.ending) (sym trail) ∙ ended)
    never_cut (before ∷ earlier) path v going over is (next, trail) ext meets ended =
        let b = back earlier before path v over next trail ext in
        let (s, at) = at_open before b.valuation (length earlier) next.going (replay earlier before going over is trail b.valuation b.extends (b.conds meets) (known_open before next.going)) in
        let stood = (next.exact inputs b.valuation v s at.stands_for (b.step (length earlier) s at) (subst (λ o. ¬ IsUnknown o) (sym ended) known_cut) meets).1 in
        no_cut path v s (step p m inputs s) (step-keeps p m inputs 0 s (omega arith)) (subst (λ o. StandsForStep p m stands path v s o (step p m inputs s)) ended stood)

    abbrev Chooses : ℕ → PurePath S → Type 0
    Chooses n path = MakesChoices p m inputs s0 start n path × ComesTo p m inputs s0 n path.ending

    comes_open : (path : PurePath S) (v : List PureValue) (n : ℕ) → StandsAfter p m stands inputs s0 start path v n None → IsSome (reached p m inputs n s0)
    comes_open path v n after = ap is_some after.1.comes_to

    comes_so_far : (path : PurePath S) (v : List PureValue) (n : ℕ) (s : State) (o : Option PureEnd) → reached p m inputs n s0 ≡ Some s → (o ≡ None → StandsAfter p m stands inputs s0 start path v (suc n) None)
        → ComesTo p m inputs s0 (suc n) o
    comes_so_far path v n s None at after = comes_open path v (suc n) (after refl)
    comes_so_far path v n s (Some how) at after = (n, (refl, ap is_some at))

    -- the choices of one step more
    choices_join : (before path : PurePath S) (n : ℕ) (s : State) → reached p m inputs n s0 ≡ Some s → MakesChoices p m inputs s0 start n before → IsChosen before path (choice_at p m s) → MakesChoices p m inputs s0 start (suc n) path
    choices_join before path n s at made chosen =
        chosen ∙ ap (λ xs. xs ++ with_choice (choice_at p m s) []) made ∙ append_assoc start.choices (choices p m inputs n s0) (with_choice (choice_at p m s) [])
        ∙ ap (λ xs. start.choices ++ xs) (sym (choices_next p m inputs n s0 s at))

    no_choices : start.ending ≡ None → Chooses zero start
    no_choices going = (sym (append-nil start.choices), subst (ComesTo p m inputs s0 zero) (sym going) refl)

    pub replay_choices : (earlier : List (PurePath S)) (path : PurePath S) (v : List PureValue) → start.ending ≡ None → IsOverTable terms start → Stands stands start v0 s0 → IsTrail p m stands terms asked start earlier path
        → Extends inputs s0 start path v0 v → Satisfies path.vars v path.conds → (¬ IsUnknown path.ending) ⊎ (has_open path.conds ≡ false) → Chooses (length earlier) path
    replay_choices [] path v going over is trail ext meets known = subst (Chooses zero) (sym trail) (no_choices going)
    replay_choices (before ∷ earlier) path v going over is (next, trail) ext meets known =
        let b = back earlier before path v over next trail ext in
        let n = length earlier in
        let (s, at) = at_open before b.valuation n next.going (replay earlier before going over is trail b.valuation b.extends (b.conds meets) (known_open before next.going)) in
        let made = replay_choices earlier before b.valuation going over is trail b.extends (b.conds meets) (inl (known_open before next.going)) in
        let chosen : IsChosen before path (choice_at p m s) =
        ⊎_elim
        (λ (clear : ¬ IsUnknown path.ending). (next.exact inputs b.valuation v s at.stands_for (b.step n s at) clear meets).0)
        (λ (no_form : has_open path.conds ≡ false). next.choices inputs b.valuation v s at.stands_for (b.step n s at) no_form meets) known in (
          choices_join before path n s at.comes_to made.0 chosen,
          comes_so_far path v n s path.ending at.comes_to
              (λ still. subst (StandsAfter p m stands inputs s0 start path v (suc n)) still (replay (before ∷ earlier) path going over is (next, trail) v ext meets (known_open path still))),
        )

    -- ---- along

    same_suc : {a b : ℕ} → suc a ≡ suc b → a ≡ b
    same_suc same = cc

    -- both or neither is there, and the lists that they begin are equal
    same_first : (a b : Option ℕ) (xs ys : List ℕ) → is_some a ≡ is_some b → with_choice a [] ++ xs ≡ with_choice b [] ++ ys → a ≡ b
    same_first (Some c) (Some d) xs ys both same = ap Some (ap (λ zs. get_or zs 0 0) same)
    same_first None None xs ys both same = refl
    same_first (Some c) None xs ys both same = absurd (true≢false both)
    same_first None (Some d) xs ys both same = absurd (true≢false (sym both))

    met_with : (path : PurePath S) (v : List PureValue) → Satisfies path.vars v path.given → IsTrue (all_true v path.conds) → Satisfies path.vars v path.conds
    met_with path v given all = record { proper = given.proper; true_there = all }

    -- the choices that are left after those that are equal
    choices_left : (before path : PurePath S) (n : ℕ) (s : State) (chosen : Option ℕ) (more rest : List ℕ) → reached p m inputs n s0 ≡ Some s → IsChosen before path chosen
        → path.choices ++ more ≡ start.choices ++ (choices p m inputs (suc n) s0 ++ rest)
        → before.choices ++ (with_choice chosen [] ++ more) ≡ start.choices ++ (choices p m inputs n s0 ++ (with_choice (choice_at p m s) [] ++ rest))
    choices_left before path n s chosen more rest at is same =
        sym (append_assoc before.choices (with_choice chosen []) more) ∙ ap (λ xs. xs ++ more) (sym is) ∙ same
        ∙ ap (λ xs. start.choices ++ (xs ++ rest)) (choices_next p m inputs n s0 s at)
        ∙ ap (λ xs. start.choices ++ xs) (append_assoc (choices p m inputs n s0) (with_choice (choice_at p m s) []) rest)

    left_over : (before : PurePath S) (n : ℕ) (more rest : List ℕ) → MakesChoices p m inputs s0 start n before → before.choices ++ more ≡ start.choices ++ (choices p m inputs n s0 ++ rest) → more ≡ rest
    left_over before n more rest made same =
        append_cancel_left before.choices more rest
        (same ∙ sym (append_assoc start.choices (choices p m inputs n s0) rest) ∙ ap (λ xs. xs ++ rest) (sym made))

    abbrev KeepsPace : ℕ → PurePath S → Type 0
    KeepsPace n path =
        (v : List PureValue) (s : State) (more rest : List ℕ) → Extends inputs s0 start path v0 v → Satisfies path.vars v path.given → reached p m inputs n s0 ≡ Some s
        → path.choices ++ more ≡ start.choices ++ (choices p m inputs n s0 ++ rest) → path.ending ≡ None → MakesChoices p m inputs s0 start n path × At inputs s0 start path v n s

    start_stands : (v : List PureValue) (s : State) → Stands stands start v0 s0 → v ≡ v0 → reached p m inputs zero s0 ≡ Some s → At inputs s0 start start v zero s
    start_stands v s is same at =
        subst (λ t. At inputs s0 start start v zero t) (same_some at) (subst (λ u. At inputs s0 start start u zero s0) (sym same) (record { comes_to = refl; stands_for = is; symbols = refl; draws = refl }))

    pub keeps_pace : (earlier : List (PurePath S)) (path : PurePath S) → IsOverTable terms start → Stands stands start v0 s0 → IsTrail p m stands terms asked start earlier path → KeepsPace (length earlier) path
    keeps_pace [] path over is trail =
        subst (KeepsPace zero) (sym trail)
        (λ v s more rest ext given at same still. (sym (append-nil start.choices), start_stands v s is (same_valuation inputs s0 start v0 v ext) at))
    keeps_pace (before ∷ earlier) path over is (next, trail) = λ v t more rest ext given at_t same still.
        let n = length earlier in
        let b = back earlier before path v over next trail ext in
        let (s, (at, goes)) = before_last p m inputs n s0 t at_t in
        let (chosen, (recorded, few, fits)) = next.recorded.choice next.at_command.0 next.at_command.1 in
        let earlier_same = choices_left before path n s chosen more rest at recorded same in
        let (made, stood) = keeps_pace earlier before over is trail b.valuation s (with_choice chosen [] ++ more) (with_choice (choice_at p m s) [] ++ rest) b.extends (b.given given) at earlier_same next.going in
        let does = step_does p m inputs s t next.at_command.0 (command_there inputs s0 start before path b.valuation s next stood.stands_for) goes in
        let is_choice : chosen ≡ choice_at p m s = same_first chosen (choice_at p m s) more rest (fits (inl still) ∙ sym does.chosen_is) (left_over before n _ _ made earlier_same) in
        let by_step : IsChosen before path (choice_at p m s) = subst (IsChosen before path) is_choice recorded in
        let ext_step = b.step n s stood in
        let goes_on_too : GoesOnAs path.ending (step p m inputs s) = subst (λ o. GoesOnAs o (step p m inputs s)) (sym still) (subst (GoesOnAs None) (sym goes) tt) in
        let meets = met_with path v given (next.along inputs b.valuation v s stood.stands_for ext_step given by_step goes_on_too) in
        let stood_step = (next.exact inputs b.valuation v s stood.stands_for ext_step (known_open path still) meets).1 in
        let stands_t : Stands stands path v t = subst (λ r. StandsForStep p m stands path v s None r) goes (subst (λ o. StandsForStep p m stands path v s o (step p m inputs s)) still stood_step) in
        (choices_join before path n s at made by_step, goes_there inputs s0 start before path b.valuation v n s t next stood still goes stands_t)

    some_of : {X : Type 0} (o : Option X) → IsSome o → (x : X) × (o ≡ Some x)
    some_of None is = absurd (true≢false (sym is))
    some_of (Some x) is = (x, refl)

    state_before : (n : ℕ) (o : Option PureEnd) → ComesTo p m inputs s0 (suc n) o → (s : State) × (reached p m inputs n s0 ≡ Some s)
    state_before n None comes =
        let (t, at_t) = some_of (reached p m inputs (suc n) s0) comes in
        let (s, (at, goes)) = before_last p m inputs n s0 t at_t in
        (s, at)
    state_before n (Some how) (k, (same, comes)) = some_of (reached p m inputs n s0) (subst (λ j. IsSome (reached p m inputs j s0)) (same_suc (sym same)) comes)

    -- the run goes on as the path does
    goes_as : (n : ℕ) (s : State) (o : Option PureEnd) → reached p m inputs n s0 ≡ Some s → ComesTo p m inputs s0 (suc n) o → GoesOnAs o (step p m inputs s)
    goes_as n s None at comes =
        let (t, at_t) = some_of (reached p m inputs (suc n) s0) comes in
        let (u, (before, goes)) = before_last p m inputs n s0 t at_t in
        let same : s ≡ u = same_some (sym at ∙ before) in
        subst (GoesOnAs None) (sym (ap (step p m inputs) same ∙ goes)) tt
    goes_as n s (Some how) at comes = tt

    abbrev MeetsAlong : PurePath S → Type 0
    MeetsAlong path = (v : List PureValue) → Extends inputs s0 start path v0 v → IsTrue (all_true v path.conds)

    pub along : (earlier : List (PurePath S)) (path : PurePath S) (v : List PureValue) → IsOverTable terms start → Stands stands start v0 s0 → IsTrail p m stands terms asked start earlier path
        → Extends inputs s0 start path v0 v → Satisfies path.vars v path.given → Chooses (length earlier) path → IsTrue (all_true v path.conds)
    along [] path v over is trail ext given (made, comes) =
        subst MeetsAlong (sym trail) (λ u same. subst (λ w. IsTrue (all_true w start.conds)) (sym (same_valuation inputs s0 start v0 u same)) is.meets) v ext
    along (before ∷ earlier) path v over is (next, trail) ext given (made, comes) =
        let n = length earlier in
        let b = back earlier before path v over next trail ext in
        let chosen = next.growth.chosen in
        let (s, at) = state_before n path.ending comes in
        let all_same : path.choices ++ [] ≡ start.choices ++ (choices p m inputs (suc n) s0 ++ []) =
        append-nil path.choices ∙ made ∙ ap (λ xs. start.choices ++ xs) (sym (append-nil (choices p m inputs (suc n) s0))) in
        let earlier_same = choices_left before path n s chosen [] [] at next.growth.choices all_same in
        let (made_before, stood) = keeps_pace earlier before over is trail b.valuation s (with_choice chosen [] ++ []) (with_choice (choice_at p m s) [] ++ []) b.extends (b.given given) at earlier_same next.going in
        let last : with_choice chosen [] ≡ with_choice (choice_at p m s) [] =
        sym (append-nil (with_choice chosen [])) ∙ left_over before n _ _ made_before earlier_same ∙ append-nil (with_choice (choice_at p m s) []) in
        next.along inputs b.valuation v s stood.stands_for (b.step n s stood) given (next.growth.choices ∙ ap (λ xs. before.choices ++ xs) last) (goes_as n s path.ending at comes)
