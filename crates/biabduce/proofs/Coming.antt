-- A run comes along each path that a trail leads to, that drew nothing and isn't unknown: under a valuation that meets its conditions, with other names for the symbols.
use Rattle.std.proofs.Common.{◌≡◌, ◌⊎◌, ⊎_elim, inl, inr, ℕ, zero, suc, ◌+◌, ◌<◌, ◌≤◌, ℤ, List, [], ◌∷◌, ◌++◌, length, take, drop, slice_get, true, Option, Some, None, is_some, IfSome, IsSome, refl, sym, ap, subst, ◌∙◌, arith}
use Rattle.std.specs.List.{list_all}
use Rattle.std.proofs.lemmas.List.{append-nil, length-append, length-map, length-take-le, take-append-drop}
use Rattle.std.proofs.lemmas.List.Elements.{Contains-append_left, Contains-append_right, Contains-append_cases}
use Rattle.std.proofs.lemmas.Option.{slice_get_within}
use Rattle.gil_values.specs.declared.places.Place.{Place}
use Rattle.gil_values.specs.Pure.{PureValue}
use Rattle.gil_values.specs.Symbols.{symbols, symbols_of_all, OccursIn, OccursAmong}
use Rattle.gil_values.proofs.OperatorSymbols.{none_contained}
use Rattle.gil_syntax.specs.Programs.{find_proc}
use Rattle.gil_syntax.specs.Pure.{PureProc, PureParts, PureNumberedCommand}
use Rattle.gil_machine.specs.Choices.{choices, with_choice}
use Rattle.gil_machine.specs.Run.{reached, start as start_state, IsProperStart}
use Rattle.gil_machine.specs.State.{State, Ending}
use Rattle.gil_machine.specs.Step.{command_of, command_at}
use Rattle.mem_model.specs.declared.keys.MemoryName.{MemoryName}
use Rattle.mem_model.specs.Actions.{Actions}
use Rattle.mem_model.specs.Heaps.{Heap, OccursInHeap}
use Rattle.pure_terms.specs.declared.deciders.Reason.{Reason}
use Rattle.pure_terms.specs.declared.queries.Query.{Query}
use Rattle.pure_terms.specs.declared.variables.Sort.{Sort}
use Rattle.pure_terms.specs.Kinds.{same_sort}
use Rattle.pure_terms.specs.Meaning.{Satisfies}
use Rattle.pure_terms.specs.Pure.{PureTerm, PureAtom}
use Rattle.sym_evaluation.specs.Meaning.{HaveValues}
use Rattle.sym_step.specs.Exploring.{IsFrom, cut_off, IsEndedFrom}
use Rattle.sym_step.specs.ExplorationLaws.{IsTraced, IsBeside}
use Rattle.sym_step.specs.Plain.{EachStep, StaysPlain}
use Rattle.sym_step.specs.Runs.{StandsAfter}
use Rattle.sym_step.specs.Trails.{IsTrail}
use Rattle.sym_step.proofs.ExplorationSteps.{meets_part}
use Rattle.sym_step.proofs.Kept.{ends_of_runs, trails_keep, trails_replay}
use Rattle.sym_model.specs.Laws.{IsMeaning, ComesFrom}
use Rattle.sym_model.specs.Lists.{Each, OneOf}
use Rattle.sym_model.specs.Terms.{StateTerms, all_of}
use Rattle.sym_model.proofs.ListLaws.{same_some, not_none}
use Rattle.sym_paths.specs.Forms.{NeedsWhatMatters}
use Rattle.sym_paths.specs.Meaning.{AreFrames, frames_of, Stands, IsEnding, command_of_frames, command_of_path}
use Rattle.sym_paths.specs.Pure.{PureFrame, PureEnd, returned, failed, threw, missed, vanished, cut, unknown, PurePath}
use Rattle.sym_paths.specs.Steps.{IsUnknown, IsPlaceOf, IsRightlyUnknown, MayChoose, drawn_from}
use Rattle.sym_paths.proofs.Beginning.{beginnings_stand}
use Rattle.bi_beginnings.specs.Beginnings.{any_for_each, variables_from, PureBeginning, IsOpening}
use Rattle.bi_specifications.proofs.Grown.{IsGrown, ended_grown, all_fresh, Drew, ended_drew}
use Rattle.bi_specifications.proofs.Naming.{at_left}
use Rattle.bi_specifications.proofs.RunsAlong.{symbols_from}
use Rattle.bi_specifications.proofs.Valuing.{symbols_are_next, have_from}
use Rattle.biabduce.specs.Asked.{StandsThere, IsComeTo, EndsAs, IsEndedSo, IsKnownEnd, IsWay, earlier_of, IsAskedAlong, IsBegunAgain, IsAskedFirst, IsRunAlong, IsAskedOfRun, IsOtherBegun, last_way, earlier_way, IsOtherAsked, IsOtherOfRun}
use Rattle.biabduce.specs.Sound.{PureAsked}
use Rattle.biabduce.specs.View.{asked_view}
use Rattle.biabduce.proofs.Renaming.{IsNumbered, numbered_again}

-- ---- lists

none_before : {A : Type 0} (xs ys : List A) → xs ++ ys ≡ [] → xs ≡ []
none_before [] ys none = refl
none_before (x ∷ xs) ys none = absurd (cc)

occurs_at : (v : List PureValue) (i : ℕ) (w : PureValue) (n : ℕ) → slice_get v i ≡ Some w → OccursIn n w → OccursAmong n v
occurs_at [] i w n at occurs = not_none at
occurs_at (u ∷ v) zero w n at occurs = Contains-append_left (symbols u) (symbols_of_all v) n (subst (OccursIn n) (sym (same_some at)) occurs)
occurs_at (u ∷ v) (suc i) w n at occurs = Contains-append_right (symbols u) (symbols_of_all v) n (occurs_at v i w n at occurs)

occurs_left : (v u : List PureValue) (n : ℕ) → OccursAmong n v → OccursAmong n (v ++ u)
occurs_left [] u n occurs = absurd (none_contained n occurs)
occurs_left (w ∷ v) u n occurs =
    ⊎_elim (λ here. Contains-append_left (symbols w) (symbols_of_all (v ++ u)) n here) (λ later. Contains-append_right (symbols w) (symbols_of_all (v ++ u)) n (occurs_left v u n later))
    (Contains-append_cases (symbols w) (symbols_of_all v) n occurs)

-- ---- where a state stands

module _ (p : PureParts) (v : List PureValue) (s : State) where
  same_command : (fs : List PureFrame) → AreFrames v fs (frames_of s) → command_of_frames p fs ≡ command_at p s.current
  same_command [] are = absurd are
  same_command (f ∷ fs) (is, are) = λ i. command_of (find_proc p.procs (is.procedure i)) (is.next i)

  stands_there : (fs : List PureFrame) → AreFrames v fs (frames_of s) → (place : Place) → IsPlaceOf p fs place → StandsThere p s place
  stands_there [] are place is = absurd is
  stands_there (f ∷ fs) (is, are) place (c, (at, placed)) =
      (c, (sym (same_command (f ∷ fs) (is, are)) ∙ at, placed ∙ ap (λ name. record { proc = name; at = c.at }) is.procedure))

-- ---- the run

-- what the path has besides its start: new symbols alone; and some valuation meets its conditions
record HasGrown {S : Type 0} (start path : PurePath S) : Type 0 where
  new : List Sort
  vars : path.vars ≡ start.vars ++ new
  fresh : list_all (same_sort Sort.Fresh) new ≡ true
  later : List PureAtom
  conds : path.conds ≡ start.conds ++ later
  met : (v : List PureValue) × Satisfies path.vars v path.conds

ends_as : (p : PureParts) (m : Actions) (v : List PureValue) (s : State) (how : PureEnd) (e : Ending) → IsEnding p m v s how e → EndsAs how e
ends_as p m v s (returned t) e (w, (has, is)) = (w, is)
ends_as p m v s (failed t place) e (w, (has, none, is)) = (w, is)
ends_as p m v s (threw t place) e (w, (has, is)) = (w, is)
ends_as p m v s (missed k place) e (key, (named, missed_there, is)) = is
ends_as p m v s vanished e is = is
ends_as p m v s cut e is = tt
ends_as p m v s (unknown place reason) e is = tt

module _ {S : Type 0} (p : PureParts) (memory : MemoryName) (m : Actions) (stands : S → List PureValue → Heap → Type 0) (terms : S → StateTerms) (meaning : IsMeaning memory stands terms)
    (asked : List ℕ → List PureTerm → List PureTerm × List PureTerm) (depends : S → List ℕ → List PureTerm → List PureValue → Heap → PureTerm → Type 0) (plain : S → ℤ → ℤ → Type 0) (keeps_plain : Type 0)
    (kept : S → Type 0) (q : PureProc) (found : find_proc p.procs q.name ≡ Some q) (start : PurePath S) (opening : IsOpening stands terms kept q start) where
  -- a run that the path stands for, with its choices
  record ComesSo (path : PurePath S) (k : ℕ) : Type 0 where
    args : List PureValue
    heap : Heap
    counter : ℕ
    proper : IsProperStart p memory q.name args heap counter
    values : List PureValue
    state : State
    comes : reached p m [] k (start_state p q.name args heap counter) ≡ Some state
    stands_for : Stands stands path values state
    chosen : path.choices ≡ choices p m [] k (start_state p q.name args heap counter)

  module _ (path : PurePath S) (from : IsFrom p m stands terms asked depends plain keeps_plain path.steps start path) (known : ¬ IsUnknown path.ending) (no_draw : path.drawn ≡ []) where
    start_going : start.ending ≡ None
    start_going = ap (λ (r : PurePath S). r.ending) opening.begins.is

    start_drawn : start.drawn ≡ []
    start_drawn = ap (λ (r : PurePath S). r.drawn) opening.begins.is

    -- one without an end is as if it were cut there
    has_grown : (o : Option PureEnd) → path.ending ≡ o → HasGrown start path
    has_grown None none =
        let ended : IsEndedFrom p m stands terms asked depends plain keeps_plain path.steps start (cut_off path) = inr (path, (from, none, refl, refl)) in
        let grown : IsGrown terms start (cut_off path) = ended_grown p m stands terms asked start depends plain keeps_plain path.steps (cut_off path) opening.over opening.is_met (λ is_one. is_one) ended in
        let drew : Drew start (cut_off path) = ended_drew p m stands terms asked start start_drawn depends plain keeps_plain path.steps (cut_off path) ended in
        record { new = drew.more; vars = drew.vars; fresh = all_fresh (length start.vars) drew.more (sym drew.drawn ∙ no_draw); later = grown.later; conds = grown.conds; met = grown.met }
    has_grown (Some how) some =
        let ended : IsEndedFrom p m stands terms asked depends plain keeps_plain path.steps start path = inl (from, ap is_some some) in
        let grown : IsGrown terms start path = ended_grown p m stands terms asked start depends plain keeps_plain path.steps path opening.over opening.is_met known ended in
        let drew : Drew start path = ended_drew p m stands terms asked start start_drawn depends plain keeps_plain path.steps path ended in
        record { new = drew.more; vars = drew.vars; fresh = all_fresh (length start.vars) drew.more (sym drew.drawn ∙ no_draw); later = grown.later; conds = grown.conds; met = grown.met }

    grown : HasGrown start path
    grown = has_grown path.ending refl

    abbrev new : List Sort
    new = grown.new

    abbrev met : List PureValue
    met = grown.met.0

    table_within : length start.vars ≤ length met
    table_within =
        let one_each : length met ≡ length path.vars = grown.met.1.proper.one_each in
        let split : length path.vars ≡ length (start.vars ++ new) = ap length grown.vars in
        let counted = length-append start.vars new in
        omega (arith, one_each, split, counted)

    numbered : IsNumbered start.vars new path.conds
    numbered =
        numbered_again start.vars new (take (length start.vars) met) (drop (length start.vars) met) path.conds grown.fresh (length-take-le (length start.vars) met table_within)
        (subst (λ v. Satisfies (start.vars ++ new) v path.conds) (sym (take-append-drop (length start.vars) met)) (subst (λ vars. Satisfies vars met path.conds) grown.vars grown.met.1))

    abbrev early : List PureValue
    early = numbered.early

    abbrev later : List PureValue
    later = symbols_from numbered.counter (length new)

    start_met : Satisfies start.vars early start.conds
    start_met = meets_part start.vars new early later start.conds grown.later numbered.many opening.over.conds (subst (Satisfies (start.vars ++ new) (early ++ later)) grown.conds numbered.meets)

    abbrev own : Heap
    own = (opening.has_heap early start_met).0

    own_is : stands start.memory early own
    own_is = (opening.has_heap early start_met).1

    abbrev args : List PureValue
    args = take (length q.params) early

    params_within : length q.params ≤ length early
    params_within =
        let split : length start.vars ≡ length (any_for_each q.params ++ opening.table.others) = ap length opening.table.table in
        let counted = length-append (any_for_each q.params) opening.table.others in
        let mapped : length (any_for_each q.params) ≡ length q.params = length-map q.params (λ x. Sort.Any) in
        let many : length early ≡ length start.vars = numbered.many in
        omega (arith, split, counted, mapped, many)

    args_count : length args ≡ length q.params
    args_count = length-take-le (length q.params) early params_within

    args_and_outs : args ++ drop (length q.params) early ≡ early
    args_and_outs = take-append-drop (length q.params) early

    args_have : HaveValues early (variables_from 0 (any_for_each q.params)) args
    args_have =
        have_from early args 0 (any_for_each q.params) (args_count ∙ sym (length-map q.params (λ x. Sort.Any)))
        (λ i w at.
        let here : 0 + i ≡ i = omega arith in
        ap (slice_get early) here ∙ ap (λ u. slice_get u i) (sym args_and_outs) ∙ at_left args (drop (length q.params) early) i (slice_get_within args i w at) ∙ at)

    abbrev first : State
    first = start_state p q.name args own numbered.counter

    stands_first : Stands stands start early first
    stands_first =
        (beginnings_stand stands terms plain).starts p q (variables_from 0 (any_for_each q.params)) start.vars start.conds start.memory start opening.begins found early args own numbered.counter
        args_have start_met.proper start_met.true_there own_is numbered.below

    among_terms : (n : ℕ) (ts : List PureTerm) → OneOf (ComesFrom early n) ts → n < numbered.counter
    among_terms n [] one = absurd one
    among_terms n (t ∷ ts) one =
        ⊎_elim (λ (here : ComesFrom early n t). let (x, (w, (has, at, occurs))) = here in numbered.below n (occurs_at early x.number w n at occurs)) (λ more. among_terms n ts more) one

    in_heap : (n : ℕ) → OccursInHeap n own → n < numbered.counter
    in_heap n occurs = among_terms n (all_of (terms start.memory)) (meaning.symbols start.memory early own n own_is occurs)

    proper : IsProperStart p memory q.name args own numbered.counter
    proper = record {
      procedure = (q, (found, sym args_count));
      heap = meaning.of_memory start.memory early own own_is;
      arguments_below = λ n occurs. numbered.below n (subst (OccursAmong n) args_and_outs (occurs_left args (drop (length q.params) early) n occurs));
      heap_below = λ k w holds. (in_heap k.loc (k, (w, (holds, inl refl))), λ n occurs. in_heap n (k, (w, (holds, inr occurs))));
    }

    beside : IsBeside p m stands terms asked [] early (early ++ later) first start from.earlier path
    beside = record {
      trail = from.trail;
      going = start_going;
      over = opening.over;
      stands_for = stands_first;
      follows = record { new_vars = new; new_values = later; vars = grown.vars; values = refl; in_turn = symbols_are_next [] numbered.counter 0 new grown.fresh };
    }

    satisfies : Satisfies path.vars (early ++ later) path.conds
    satisfies = subst (λ vars. Satisfies vars (early ++ later) path.conds) (sym grown.vars) numbered.meets

    after : StandsAfter p m stands [] first start path (early ++ later) (length from.earlier) path.ending
    after = (trails_replay p m stands terms asked).stands_after [] early (early ++ later) first start from.earlier path beside satisfies known

    chosen : path.choices ≡ choices p m [] (length from.earlier) first
    chosen =
        ((trails_replay p m stands terms asked).chooses [] early (early ++ later) first start from.earlier path beside satisfies (inl known)).0
        ∙ ap (λ (r : PurePath S). r.choices ++ choices p m [] (length from.earlier) first) opening.begins.is

    comes_so : path.ending ≡ None → ComesSo path (length from.earlier)
    comes_so going =
        let (state, stood) = subst (StandsAfter p m stands [] first start path (early ++ later) (length from.earlier)) going after in
        record {
          args = args;
          heap = own;
          counter = numbered.counter;
          proper = proper;
          values = early ++ later;
          state = state;
          comes = stood.comes_to;
          stands_for = stood.stands_for;
          chosen = chosen;
        }

    not_cut_so : ¬ (path.ending ≡ Some cut)
    not_cut_so = (trails_replay p m stands terms asked).never_cut [] early (early ++ later) first start from.earlier path beside satisfies

    ended_so : (n : ℕ) (how : PureEnd) → length from.earlier ≤ n → path.ending ≡ Some how → IsEndedSo p memory m q.name n path.choices how
    ended_so n how within is =
        let (state, (end, (ends, stands_for))) = subst (StandsAfter p m stands [] first start path (early ++ later) (length from.earlier)) is after in
        record {
          args = args;
          heap = own;
          counter = numbered.counter;
          proper = proper;
          k = length from.earlier;
          within = within;
          end = end;
          runs = (ends_of_runs p m [] first state (length from.earlier) end ends).0;
          ending = ends_as p m (early ++ later) state how end.ending stands_for.ending;
          no_draw = stands_for.draws ∙ ap length no_draw;
          chosen = chosen;
        }

  steps_are : (path : PurePath S) (earlier : List (PurePath S)) → IsTrail p m stands terms asked start earlier path → path.steps ≡ length earlier
  steps_are path earlier trail =
      let all : path.steps ≡ start.steps + length earlier = (trails_keep p m stands terms asked).steps start path earlier trail in
      let none : start.steps ≡ 0 = ap (λ (r : PurePath S). r.steps) opening.begins.is in
      omega (arith, all, none)

  -- a path that goes on within n steps, and what is asked with its choices or one more
  come_to : (n : ℕ) (path : PurePath S) (from : IsFrom p m stands terms asked depends plain keeps_plain path.steps start path) → path.steps ≤ n → path.ending ≡ None → path.drawn ≡ []
      → (made : List ℕ) (last : Option ℕ) → made ≡ path.choices ++ with_choice last [] → ((c : PureNumberedCommand) → command_of_path p path ≡ Some c → MayChoose c.command last)
      → (state : State) × (IsComeTo p memory m q.name n made state × ((place : Place) → IsPlaceOf p path.stack place → StandsThere p state place))
  come_to n path from few going no_draw made last is may =
      let so = comes_so path from (λ unknown_so. subst IsUnknown going unknown_so) no_draw going in
      let steps : path.steps ≡ length from.earlier = steps_are path from.earlier from.trail in
      let within : length from.earlier ≤ n = omega (arith, steps, few) in (
        so.state,
        (
          record {
            args = so.args;
            heap = so.heap;
            counter = so.counter;
            proper = so.proper;
            k = length from.earlier;
            within = within;
            comes = so.comes;
            no_draw = so.stands_for.draws ∙ ap length no_draw;
            last = last;
            may = λ c at. may c (same_command p so.values so.state path.stack so.stands_for.frames ∙ at);
            chosen = is ∙ ap (λ made_before. made_before ++ with_choice last []) so.chosen;
          },
          λ place at. stands_there p so.values so.state path.stack so.stands_for.frames place at,
        ),
      )

-- ---- along a path

no_end : {A S : Type 0} (path : PurePath S) → IsSome path.ending → path.ending ≡ None → A
no_end path some none = by path.ending some none
  where
    by : {A : Type 0} (o : Option PureEnd) → IsSome o → o ≡ None → A
    by None some none = absurd (cc)
    by (Some how) some none = absurd (cc)

not_cut : {A : Type 0} (place : Place) (reason : Reason) → Some cut ≡ Some (unknown place reason) → A
not_cut place reason is = absurd (cc)

known_not : (o : Option PureEnd) (how : PureEnd) → o ≡ Some how → IsKnownEnd how → ¬ IsUnknown o
known_not o how is is_known unknown_so = by how is_known (subst IsUnknown is unknown_so)
  where
    by : (e : PureEnd) → IsKnownEnd e → ¬ IsUnknown (Some e)
    by (returned t) is_known is_one = is_one
    by (failed t place) is_known is_one = is_one
    by (threw t place) is_known is_one = is_one
    by (missed k place) is_known is_one = is_one
    by vanished is_known is_one = is_one
    by cut is_known is_one = is_one
    by (unknown place reason) is_known is_one = is_known

module _ {S : Type 0} (p : PureParts) (memory : MemoryName) (m : Actions) (stands : S → List PureValue → Heap → Type 0) (terms : S → StateTerms) (meaning : IsMeaning memory stands terms)
    (asked : List ℕ → List PureTerm → List PureTerm × List PureTerm) (depends : S → List ℕ → List PureTerm → List PureValue → Heap → PureTerm → Type 0) (plain : S → ℤ → ℤ → Type 0) (keeps_plain : Type 0)
    (kept : S → Type 0) (q : PureProc) (n : ℕ) where
  module _ (path : PurePath S) (way : IsWay p memory m stands terms asked depends plain keeps_plain kept q n path) where
    abbrev start : PurePath S
    start = way.explored.start

    record Runs (earlier : List (PurePath S)) : Type 0 where
      traced : Each (IsTraced p m stands terms asked start earlier) path.conds
      state : State
      come : IsComeTo p memory m q.name n path.choices state
      unknown_there : (place : Place) (reason : Reason) → path.ending ≡ Some (unknown place reason) → StandsThere p state place
      cut_there : (place : Place) → path.ending ≡ Some cut → IsPlaceOf p path.stack place → StandsThere p state place
      ends : (how : PureEnd) → path.ending ≡ Some how → IsKnownEnd how → (how ≡ cut) ⊎ IsEndedSo p memory m q.name n path.choices how

    -- as it was explored, within as many steps as it has
    abbrev from_so : (from : IsFrom p m stands terms asked depends plain keeps_plain n start path) → IsFrom p m stands terms asked depends plain keeps_plain path.steps start path
    from_so from = record { earlier = from.earlier; trail = from.trail; within = omega arith; simple = from.simple; forms = from.forms }

    ends_so : (from : IsFrom p m stands terms asked depends plain keeps_plain n start path) (how : PureEnd) → path.ending ≡ Some how → IsKnownEnd how → IsEndedSo p memory m q.name n path.choices how
    ends_so from how is is_known =
        let steps : path.steps ≡ length from.earlier = steps_are p memory m stands terms meaning asked depends plain keeps_plain kept q way.explored.found start way.explored.opening path from.earlier from.trail in
        let within : path.steps ≤ n = from.within in
        ended_so p memory m stands terms meaning asked depends plain keeps_plain kept q way.explored.found start way.explored.opening path (from_so from) (known_not path.ending how is is_known) way.no_draw n how
        (omega (arith, steps, within)) is

    never_cut_so : (from : IsFrom p m stands terms asked depends plain keeps_plain n start path) → ¬ (path.ending ≡ Some cut)
    never_cut_so from is =
        not_cut_so p memory m stands terms meaning asked depends plain keeps_plain kept q way.explored.found start way.explored.opening path (from_so from) (known_not path.ending cut is tt) way.no_draw is

    by_step : (earlier : List (PurePath S)) → IsTrail p m stands terms asked start earlier path
        → (from : IsFrom p m stands terms asked depends plain keeps_plain n start path) → from.earlier ≡ earlier → IsSome path.ending → Runs earlier
    by_step [] trail from is some =
        no_end path some (ap (λ (r : PurePath S). r.ending) trail ∙ ap (λ (r : PurePath S). r.ending) way.explored.opening.begins.is)
    by_step (before ∷ earlier) (next, trail) from is some =
        let simple : keeps_plain → EachStep (StaysPlain p plain) earlier before = λ keeps. (subst (λ before_it. EachStep (StaysPlain p plain) before_it path) is (from.simple keeps)).1 in
        let forms : EachStep (NeedsWhatMatters p stands depends) earlier before = (subst (λ before_it. EachStep (NeedsWhatMatters p stands depends) before_it path) is from.forms).1 in
        let steps : path.steps ≡ before.steps + 1 = next.growth.steps in
        let within : path.steps ≤ n = from.within in
        let from_start : IsFrom p m stands terms asked depends plain keeps_plain before.steps start before =
        record { earlier = earlier; trail = trail; within = omega arith; simple = simple; forms = forms } in
        let (c, at) = next.at_command in
        let (last, (chosen, may, more)) = next.recorded.choice c at in
        let no_draw = none_before before.drawn (drawn_from (length before.vars) next.growth.new_vars) (sym next.growth.drawn ∙ way.no_draw) in
        let (state, (come, there)) =
        come_to p memory m stands terms meaning asked depends plain keeps_plain kept q way.explored.found start way.explored.opening n before from_start (omega (arith, steps, within)) next.going no_draw
        path.choices last chosen (λ d at_d. subst (λ (e : PureNumberedCommand). MayChoose e.command last) (same_some (sym at ∙ at_d)) may)
        in
        record {
          traced = (trails_keep p m stands terms asked).traced start path (before ∷ earlier) (next, trail);
          state = state;
          come = come;
          unknown_there = λ place reason is_unknown. there place (subst (IsRightlyUnknown p before path) is_unknown next.unknown_rightly).2;
          cut_there = λ place is_cut at_place. absurd (never_cut_so from is_cut);
          ends = λ how is_so is_known. inr (ends_so from how is_so is_known);
        }

    by : (ended : IsEndedFrom p m stands terms asked depends plain keeps_plain n start path) → Runs (earlier_of p memory m stands terms asked depends plain keeps_plain kept q n start path ended)
    by (inl (from, some)) = by_step from.earlier from.trail from refl some
    by (inr (last, (from, going, steps, is))) =
        let all : last.steps ≡ n = steps in
        let from_start : IsFrom p m stands terms asked depends plain keeps_plain last.steps start last =
        record { earlier = from.earlier; trail = from.trail; within = omega arith; simple = from.simple; forms = from.forms } in
        let (state, (come, there)) =
        come_to p memory m stands terms meaning asked depends plain keeps_plain kept q way.explored.found start way.explored.opening n last from_start (omega (arith, all)) going
        (sym (ap (λ (r : PurePath S). r.drawn) is) ∙ way.no_draw) path.choices None
        (ap (λ (r : PurePath S). r.choices) is ∙ sym (append-nil last.choices)) (λ c at k none. absurd (cc))
        in
        record {
          traced = subst (λ (r : PurePath S). Each (IsTraced p m stands terms asked start from.earlier) r.conds) (sym is) ((trails_keep p m stands terms asked).traced start last from.earlier from.trail);
          state = state;
          come = come;
          unknown_there = λ place reason is_unknown. not_cut place reason (sym (ap (λ (r : PurePath S). r.ending) is) ∙ is_unknown);
          cut_there = λ place is_cut at_place. there place (subst (λ (r : PurePath S). IsPlaceOf p r.stack place) is at_place);
          ends = λ how is_so is_known. inl (same_some (sym is_so ∙ ap (λ (r : PurePath S). r.ending) is));
        }

    pub runs_along : IsRunAlong p memory m stands terms asked depends plain keeps_plain kept q n path way
    runs_along =
        let run = by way.explored.ended in
        record { traced = run.traced; state = run.state; come = run.come; unknown_there = run.unknown_there; cut_there = run.cut_there; ends = run.ends }

  abbrev Along : PureAsked → Type 0
  Along = IsAskedAlong p memory m stands terms asked depends plain keeps_plain kept q n

  abbrev First : PureAsked → Type 0
  First = IsAskedFirst p memory m stands terms asked depends plain keeps_plain kept q n

  of_run : (x : PureAsked) → Along x ⊎ First x → IsAskedOfRun p memory m stands terms asked depends plain keeps_plain kept q n x
  of_run x (inl along) = inl (along, runs_along along.path along.way)
  of_run x (inr first) = inr (first, runs_along first.again.path first.again.way)

  pub each_of_run : (o : Option Query) → IfSome o (λ x. Along (asked_view x) ⊎ First (asked_view x)) → IfSome o (λ x. IsAskedOfRun p memory m stands terms asked depends plain keeps_plain kept q n (asked_view x))
  each_of_run None none = tt
  each_of_run (Some x) one = of_run (asked_view x) one

  -- ---- and some command on the way isn't of narrow form

  begun_again : (b : PureBeginning) → IsOtherBegun p memory m stands terms asked depends plain keeps_plain kept q n b → IsBegunAgain p memory m stands terms asked depends plain keeps_plain kept q n b
  begun_again b (last_way path way comes meets) = record { path = path; way = way; comes = comes }
  begun_again b (earlier_way path way comes exact other) = record { path = path; way = way; comes = comes }

  other_of_run : (x : PureAsked) → IsOtherAsked p memory m stands terms asked depends plain keeps_plain kept q n x → IsOtherOfRun p memory m stands terms asked depends plain keeps_plain kept q n x
  other_of_run x (inl along) = inl (along, runs_along along.path along.way)
  other_of_run x (inr first) = let again = begun_again first.beginning first.other in inr (first, (again, runs_along again.path again.way))

  pub each_other_of_run : (o : Option Query) → IfSome o (λ x. IsOtherAsked p memory m stands terms asked depends plain keeps_plain kept q n (asked_view x)) → IfSome o (λ x. IsOtherOfRun p memory m stands terms asked depends plain keeps_plain kept q n (asked_view x))
  each_other_of_run None none = tt
  each_other_of_run (Some x) one = other_of_run (asked_view x) one
