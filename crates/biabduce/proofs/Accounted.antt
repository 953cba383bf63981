-- What an ended path that accounts for a run without the rest of its heap tells of the run with it.
use Rattle.std.proofs.Common.{◌≡◌, ◌⊎◌, ⊎_elim, inl, inr, ℕ, suc, ℤ, ◌+◌, ◌≤◌, List, [], ◌∷◌, ◌++◌, length, take, slice_get, Bool, true, false, Option, Some, None, IsSome, refl, sym, ap, subst, ◌∙◌, true≢false, arith}
use Rattle.std.specs.Bool.{⊤}
use Rattle.std.proofs.lemmas.List.{append_cancel_left}
use Rattle.std.proofs.Math.Seq.{take-append_seam}
use Rattle.gil_values.specs.declared.places.Place.{Place}
use Rattle.gil_values.specs.Pure.{PureValue}
use Rattle.gil_syntax.specs.Programs.{find_proc}
use Rattle.gil_syntax.specs.Pure.{PureProc, PureParts}
use Rattle.gil_syntax.specs.WellMade.{is_well_made}
use Rattle.gil_machine.specs.Beside.{beside, end_beside}
use Rattle.gil_machine.specs.Choices.{miss_at}
use Rattle.gil_machine.specs.Proper.{IsProperState}
use Rattle.gil_machine.specs.Run.{run, run_of, reached, start as start_state}
use Rattle.gil_machine.specs.State.{State, End, Ending, IsFailed, IsOver, ends}
use Rattle.gil_machine.specs.State as machine
use Rattle.gil_machine.specs.Step.{step}
use Rattle.gil_machine.proofs.Proper.{starts_proper}
use Rattle.mem_model.specs.declared.keys.MemoryName.{MemoryName}
use Rattle.mem_model.specs.Actions.{Actions, IsMemory}
use Rattle.mem_model.specs.Heaps.{Heap, Holds, IsWellFormed}
use Rattle.mem_model.proofs.Compatible.{first_part}
use Rattle.checked_runs.proofs.Parts.{union_parts}
use Rattle.inferred_specs.specs.Inferred.{IsFinish, Finishes, IsCutOff, PureFound, IsMetWith, SomeIsMet}
use Rattle.runs_beside.specs.Laws.{StandsBeside}
use Rattle.runs_beside.proofs.Runs.{runs_without_a_failure_are_local}
use Rattle.pure_terms.specs.declared.variables.Sort.{Sort}
use Rattle.pure_terms.specs.Meaning.{Satisfies}
use Rattle.pure_terms.specs.Pure.{PureTerm}
use Rattle.sym_evaluation.specs.Meaning.{HaveValues}
use Rattle.sym_step.specs.Exploring.{IsFrom, IsEndedFrom}
use Rattle.sym_step.specs.ExplorationLaws.{IsBeside}
use Rattle.sym_step.specs.Runs.{EndsAfter, StandsAfter, AccountsFor}
use Rattle.sym_step.proofs.Exploring.{accounts_first}
use Rattle.sym_step.specs.Narrow.{IsAtNarrow, IsNarrowEndedFrom}
use Rattle.sym_step.proofs.Kept.{trails_keep, trails_may_end_before, trails_replay}
use Rattle.sym_model.specs.Lists.{Each}
use Rattle.sym_model.specs.Meaning.{key_value}
use Rattle.sym_model.specs.Pure.{PureKey}
use Rattle.sym_model.specs.Terms.{StateTerms}
use Rattle.sym_model.proofs.ListLaws.{not_none}
use Rattle.sym_paths.specs.Meaning.{Stands, StandsForEnd}
use Rattle.sym_paths.specs.Pure.{PureEnd, returned, failed, threw, missed, vanished, cut, unknown, PurePath}
use Rattle.sym_paths.specs.Steps.{AreNext, drawn_from, IsUnknown, IsInputFault}
use Rattle.sym_paths.proofs.Beginning.{beginnings_stand}
use Rattle.sym_paths.proofs.Silent.{stands_at}
use Rattle.bi_beginnings.specs.Beginnings.{any_for_each, variables_from, PureBeginning, IsOpening, BeginsWith, Awaits}
use Rattle.bi_beginnings.specs.Missing.{IsMissed}
use Rattle.bi_specifications.specs.Specified.{PureEntry, IsTold, IsMarkedAs, IsExplored, IsMetAlong}
use Rattle.bi_specifications.proofs.Grown.{ended_drew}
use Rattle.biabduce.specs.Covering.{PureRun, IsToldEnd, IsWanted, IsCovered, IsProvided, CoversEnd}
use Rattle.biabduce.specs.Narrowly.{IsNarrowEntry, numbers_at, IsNarrowLeft, StartsNarrowly, IsNarrowlyClosed}
use Rattle.biabduce.specs.NarrowRuns.{RunsNarrowly, IsProvidedNarrowly, CoversNarrowEnd}
use Rattle.biabduce.specs.Sound.{PureInference}
use Rattle.biabduce.proofs.NarrowPaths.{Along, known_end, narrowly_closed}
use Rattle.biabduce.proofs.Beside.{EndsWell, well_sound, step_over, none_missed, comes_beside, ends_beside, misses_beside, cut_beside}

-- ---- no draw without inputs

no_draws : (n d k : ℕ) (sorts : List Sort) (ws : List PureValue) → AreNext [] n d sorts ws → drawn_from k sorts ≡ []
no_draws n d k [] [] are = refl
no_draws n d k [] (w ∷ ws) are = absurd are
no_draws n d k (s ∷ sorts) [] are = absurd are
no_draws n d k (Sort.Fresh ∷ sorts) (w ∷ ws) are = no_draws (suc n) d (suc k) sorts ws are.1
no_draws n d k (Sort.Int ∷ sorts) (w ∷ ws) are = not_none are.0
no_draws n d k (Sort.Bool ∷ sorts) (w ∷ ws) are = not_none are.0
no_draws n d k (Sort.Str ∷ sorts) (w ∷ ws) are = not_none are.0
no_draws n d k (Sort.Sym ∷ sorts) (w ∷ ws) are = not_none are.0
no_draws n d k (Sort.List ∷ sorts) (w ∷ ws) are = not_none are.0
no_draws n d k (Sort.Any ∷ sorts) (w ∷ ws) are = not_none are.0

-- ---- lists

at_end_of : {A : Type 0} (xs : List A) (x : A) → slice_get (xs ++ x ∷ []) (length xs) ≡ Some x
at_end_of [] x = refl
at_end_of (y ∷ xs) x = at_end_of xs x

-- ---- endings

no_finish : (e : End) (v : PureValue) → e.ending ≡ machine.returned v → ¬ (IsCutOff e)
no_finish e v is off = let no : machine.returned v ≡ machine.cut = sym is ∙ off.is_cut in absurd (cc)

no_throw : (e : End) (v : PureValue) (place : Place) → e.ending ≡ machine.threw v place → ¬ (IsCutOff e)
no_throw e v place is off = let no : machine.threw v place ≡ machine.cut = sym is ∙ off.is_cut in absurd (cc)

no_cut : (e : End) → e.ending ≡ machine.cut → ¬ (Finishes e)
no_cut e is finishes = subst IsFinish is finishes.finish

no_vanish : (e : End) → e.ending ≡ machine.vanished → ¬ (EndsWell e)
no_vanish e is well = ⊎_elim (λ (f : Finishes e). subst IsFinish is f.finish) (λ (c : IsCutOff e). let no : machine.vanished ≡ machine.cut = sym is ∙ c.is_cut in absurd (cc)) well

not_cut : {P : Type 0} (e : Ending) → ¬ (e ≡ machine.cut) → e ≡ machine.cut → P
not_cut e isnt is = absurd (isnt is)

fault_sound : (e : Ending) → IsInputFault e → ¬ IsFailed e
fault_sound (machine.returned v) fault fails = fault
fault_sound (machine.threw v place) fault fails = fault
fault_sound (machine.failed v place) fault fails = fault
fault_sound machine.vanished fault fails = fault
fault_sound (machine.no_input k) fault fails = fails
fault_sound (machine.bad_input k) fault fails = fails
fault_sound machine.cut fault fails = fault

finish_no_fault : (e : Ending) → IsFinish e → ¬ IsInputFault e
finish_no_fault (machine.returned v) finish fault = fault
finish_no_fault (machine.threw v place) finish fault = fault
finish_no_fault (machine.failed v place) finish fault = finish
finish_no_fault machine.vanished finish fault = finish
finish_no_fault (machine.no_input k) finish fault = finish
finish_no_fault (machine.bad_input k) finish fault = finish
finish_no_fault machine.cut finish fault = finish

no_fault : (e : End) → EndsWell e → ¬ IsInputFault e.ending
no_fault e well fault = ⊎_elim (λ (f : Finishes e). finish_no_fault e.ending f.finish fault) (λ (c : IsCutOff e). subst IsInputFault c.is_cut fault) well

module _ {S : Type 0} (p : PureParts) (memory : MemoryName) (m : Actions) (is_memory : IsMemory memory m) (stands : S → List PureValue → Heap → Type 0) (terms : S → StateTerms)
    (asked : List ℕ → List PureTerm → List PureTerm × List PureTerm) (depends : S → List ℕ → List PureTerm → List PureValue → Heap → PureTerm → Type 0) (plain : S → ℤ → ℤ → Type 0) (keeps_plain : Type 0)
    (kept : S → Type 0) (q : PureProc) (e : PureEntry) (path : PurePath S) (n : ℕ) (explored : IsExplored memory m stands terms asked depends plain keeps_plain kept q e path p n)
    (b : PureBeginning) (r : PureRun) (wanted : IsWanted p memory m q n r) (a : Awaits q.params r.args r.heap r.counter n b) (begins : BeginsWith stands b.vars a.values a.own explored.start)
    (accounts : AccountsFor p m stands [] (start_state p q.name r.args a.own r.counter) explored.start a.values path) where
  abbrev start : PurePath S
  start = explored.start

  abbrev s0 : State
  s0 = start_state p q.name r.args a.own r.counter

  abbrev v : List PureValue
  v = accounts.0

  abbrev whole_end : End
  whole_end = run p m [] n (beside a.rest s0)

  no_steps : start.steps ≡ 0
  no_steps = ap (λ (x : PurePath S). x.steps) explored.opening.begins.is

  going : start.ending ≡ None
  going = ap (λ (x : PurePath S). x.ending) explored.opening.begins.is

  none_drawn : start.drawn ≡ []
  none_drawn = ap (λ (x : PurePath S). x.drawn) explored.opening.begins.is

  -- ---- the two runs

  stands_beside : StandsBeside memory s0 a.rest
  stands_beside =
      let parts = union_parts memory r.heap a.own a.rest a.union wanted.proper.heap in
      record {
        heap = parts.0;
        rest_heap = parts.1;
        compatible = record { disjoint = a.union.disjoint; union_well_formed = subst IsWellFormed a.union.union wanted.proper.heap.well_formed };
        proper = subst (λ h. IsProperState memory (start_state p q.name r.args h r.counter)) a.union.union (starts_proper p memory q.name r.args r.heap r.counter wanted.proper);
      }

  is_whole : run_of p m q.name r.args r.heap r.counter [] n ≡ whole_end
  is_whole = ap (λ h. run_of p m q.name r.args h r.counter [] n) a.union.union

  ends_well : EndsWell whole_end
  ends_well = subst EndsWell is_whole wanted.ending

  stands_first : Stands stands start a.values s0
  stands_first =
      (beginnings_stand stands terms plain).starts p q (variables_from 0 (any_for_each q.params)) start.vars start.conds start.memory start explored.opening.begins explored.found a.values r.args a.own r.counter
      a.arguments begins.meets.proper begins.meets.true_there begins.heap a.below

  -- ---- the path

  pub no_draw : path.drawn ≡ []
  no_draw =
      let drew = ended_drew p m stands terms asked start none_drawn depends plain keeps_plain n path explored.ended in
      let same : accounts.1.0.new_vars ≡ drew.more = append_cancel_left start.vars accounts.1.0.new_vars drew.more (sym accounts.1.0.vars ∙ drew.vars) in
      drew.drawn ∙ ap (drawn_from (length start.vars)) (sym same) ∙ no_draws s0.counter s0.draws (length start.vars) accounts.1.0.new_vars accounts.1.0.new_values accounts.1.0.in_turn

  within : path.steps ≤ n
  within = by explored.ended
    where
      by : IsEndedFrom p m stands terms asked depends plain keeps_plain n start path → path.steps ≤ n
      by (inl (from, some)) = from.within
      by (inr (last, (from, goes, steps, is))) = let same : path.steps ≡ last.steps = ap (λ (x : PurePath S). x.steps) is in omega (arith, same, steps)

  module _ (from : IsFrom p m stands terms asked depends plain keeps_plain n start path) where
    is_beside : IsBeside p m stands terms asked [] a.values v s0 start from.earlier path
    is_beside = record { trail = from.trail; going = going; over = explored.opening.over; stands_for = stands_first; follows = accounts.1.0 }

    steps_are : path.steps ≡ length from.earlier
    steps_are = let all : path.steps ≡ start.steps + length from.earlier = (trails_keep p m stands terms asked).steps start path from.earlier from.trail in let none : start.steps ≡ 0 = no_steps in omega (arith, all, none)

  -- a path that is cut was cut at the bound
  abbrev IsLast : Type 0
  IsLast = path.steps ≡ n

  cut_last : Satisfies path.vars v path.conds → path.ending ≡ Some cut → IsLast
  cut_last met is_cut = by explored.ended
    where
      by : IsEndedFrom p m stands terms asked depends plain keeps_plain n start path → IsLast
      by (inl (from, some)) = absurd ((trails_replay p m stands terms asked).never_cut [] a.values v s0 start from.earlier path (is_beside from) met is_cut)
      by (inr (last, (from, goes, steps, is))) = ap (λ (x : PurePath S). x.steps) is ∙ steps

  -- ---- ends of which no specification is told

  met_at : (how : PureEnd) (s : State) (x : End) → StandsForEnd p m stands path v s how x → Satisfies path.vars v path.conds
  met_at how s x is = record { proper = is.proper; true_there = is.meets }

  is_missed : (key : PureKey) (place : Place) (s : State) (x : End) → EndsAfter p m [] s0 path.steps s x → StandsForEnd p m stands path v s (missed key place) x
      → IsMissed memory m q.params n b path.vars path.conds key r.args r.heap r.counter
  is_missed key place s x (inl (k, (steps, at, last))) is =
      let (missing, (named, misses, ends_so)) = is.ending in
      let few : suc k ≤ n = let all = within in omega (arith, all, steps) in
      let (there, below) = comes_beside p memory m explored.well_made is_memory [] a.rest s0 stands_beside k s at in
      let values_are : v ≡ a.values ++ accounts.1.0.new_values = accounts.1.0.values in
      record {
        awaited = a;
        whole_below = wanted.proper.heap_below;
        new = accounts.1.0.new_vars;
        more = accounts.1.0.new_values;
        table = accounts.1.0.vars ∙ ap (λ xs. xs ++ accounts.1.0.new_vars) begins.table;
        in_turn = accounts.1.0.in_turn;
        meets = subst (λ u. Satisfies path.vars u path.conds) values_are (met_at (missed key place) s x is);
        heap = s.heap;
        apart = below.compatible.disjoint;
        missed = missing;
        named = subst (λ u. key_value u key.loc key.sub ≡ Some missing) values_are named;
        done = misses_beside p memory m explored.well_made is_memory [] a.rest s0 stands_beside n k s missing few ends_well at misses;
      }
  is_missed key place s x (inr (at, is_end)) is =
      let (missing, (named, misses, ends_so)) = is.ending in
      not_cut x.ending (λ cut_so. let no : machine.failed _ _ ≡ machine.cut = sym ends_so ∙ cut_so in absurd (cc)) (ap (λ (y : End). y.ending) is_end)

  -- an end that is over, after its last step
  whole_is : (k : ℕ) (s : State) (x : End) → path.steps ≡ suc k → reached p m [] k s0 ≡ Some s → step p m [] s ≡ ends x → miss_at p m s ≡ None → whole_end ≡ end_beside a.rest x
  whole_is k s x steps at last none =
      let few : suc k ≤ n = let all = within in omega (arith, all, steps) in
      ends_beside p memory m explored.well_made is_memory [] a.rest s0 stands_beside n k s x few at last none

  never_failed : {P : Type 0} (t : PureTerm) (place : Place) (s : State) (x : End) → EndsAfter p m [] s0 path.steps s x → StandsForEnd p m stands path v s (failed t place) x → P
  never_failed t place s x (inl (k, (steps, at, last))) is =
      absurd (well_sound whole_end ends_well (subst (λ (y : End). IsFailed y.ending) (sym (whole_is k s x steps at last is.ending.1.1)) (subst IsFailed (sym is.ending.1.2) tt)))
  never_failed t place s x (inr (at, is_end)) is =
      not_cut x.ending (λ cut_so. let no : machine.failed is.ending.0 place ≡ machine.cut = sym is.ending.1.2 ∙ cut_so in absurd (cc)) (ap (λ (y : End). y.ending) is_end)

  never_vanished : {P : Type 0} (s : State) (x : End) → EndsAfter p m [] s0 path.steps s x → StandsForEnd p m stands path v s vanished x → P
  never_vanished s x (inl (k, (steps, at, last))) is =
      let none : miss_at p m s ≡ None = none_missed p m [] s x last (λ fails. subst IsFailed is.ending fails) in
      absurd (no_vanish whole_end (ap (λ (y : End). y.ending) (whole_is k s x steps at last none) ∙ is.ending) ends_well)
  never_vanished s x (inr (at, is_end)) is =
      not_cut x.ending (λ cut_so. let no : machine.vanished ≡ machine.cut = sym is.ending ∙ cut_so in absurd (cc)) (ap (λ (y : End). y.ending) is_end)

  has_end : {P : Type 0} → path.ending ≡ None → P
  has_end {P = P} none = by explored.ended
    where
      by : IsEndedFrom p m stands terms asked depends plain keeps_plain n start path → P
      by (inl (from, some)) = absurd (true≢false (sym (subst IsSome none some)))
      by (inr (last, (from, goes, steps, is))) = not_none (sym none ∙ ap (λ (x : PurePath S). x.ending) is)

  -- what follows where the path is unknown, and where it missed a key
  by_end : (P : Type 0) (o : Option PureEnd) → path.ending ≡ o → (IsUnknown o → P)
      → ((key : PureKey) (place : Place) → o ≡ Some (missed key place) → IsMissed memory m q.params n b path.vars path.conds key r.args r.heap r.counter → P) → ¬ IsToldEnd o
      → StandsAfter p m stands [] s0 start path v path.steps o ⊎ (IsUnknown o × Satisfies path.vars v path.conds) → P
  by_end P (Some (unknown place reason)) is left miss isnt what = left tt
  by_end P (Some (returned t)) is left miss isnt what = absurd (isnt tt)
  by_end P (Some (threw t place)) is left miss isnt what = absurd (isnt tt)
  by_end P (Some cut) is left miss isnt what = absurd (isnt tt)
  by_end P (Some vanished) is left miss isnt (inl (s, (x, (after, stands_so)))) = never_vanished s x after stands_so
  by_end P (Some vanished) is left miss isnt (inr (unknown_so, met)) = absurd unknown_so
  by_end P (Some (failed t place)) is left miss isnt (inl (s, (x, (after, stands_so)))) = never_failed t place s x after stands_so
  by_end P (Some (failed t place)) is left miss isnt (inr (unknown_so, met)) = absurd unknown_so
  by_end P (Some (missed key place)) is left miss isnt (inl (s, (x, (after, stands_so)))) = miss key place refl (is_missed key place s x after stands_so)
  by_end P (Some (missed key place)) is left miss isnt (inr (unknown_so, met)) = absurd unknown_so
  by_end P None is left miss isnt what = has_end is

  module _ (i : PureInference) where
    abbrev Provided : Type 0
    Provided = IsProvided p memory m q n i r

    unknown_covered : (o : Option PureEnd) → CoversEnd p memory m q n b path.vars path.conds o i → IsUnknown o → IsSome i.undecided
    unknown_covered (Some (unknown place reason)) covers unknown_so = covers
    unknown_covered (Some (returned t)) covers unknown_so = absurd unknown_so
    unknown_covered (Some (threw t place)) covers unknown_so = absurd unknown_so
    unknown_covered (Some cut) covers unknown_so = absurd unknown_so
    unknown_covered (Some vanished) covers unknown_so = absurd unknown_so
    unknown_covered (Some (failed t place)) covers unknown_so = absurd unknown_so
    unknown_covered (Some (missed key place)) covers unknown_so = absurd unknown_so
    unknown_covered None covers unknown_so = absurd unknown_so

    pub covered_by_end : CoversEnd p memory m q n b path.vars path.conds path.ending i → ¬ IsToldEnd path.ending → Provided
    covered_by_end covers isnt =
        by_end Provided path.ending refl (λ unknown_so. inl (unknown_covered path.ending covers unknown_so))
        (λ key place is missed_so. subst (λ o. CoversEnd p memory m q n b path.vars path.conds o i) is covers r missed_so) isnt accounts.1.1

  -- ---- narrow runs

  met_always : Satisfies path.vars v path.conds
  met_always = by path.ending refl accounts.1.1
    where
      by : (o : Option PureEnd) → path.ending ≡ o → StandsAfter p m stands [] s0 start path v path.steps o ⊎ (IsUnknown o × Satisfies path.vars v path.conds) → Satisfies path.vars v path.conds
      by (Some how) is (inl (s, (x, (after, stands_so)))) = met_at how s x stands_so
      by (Some how) is (inr (unknown_so, met)) = met
      by None is what = has_end is

  counted : (x : PurePath S) (from : IsFrom p m stands terms asked depends plain keeps_plain n start x) → length from.earlier ≤ n
  counted x from =
      let all : x.steps ≡ start.steps + length from.earlier = (trails_keep p m stands terms asked).steps start x from.earlier from.trail in
      let below : x.steps ≤ n = from.within in
      let none : start.steps ≡ 0 = no_steps in
      omega (arith, all, below, none)

  module _ (commands : RunsNarrowly p memory m q.name n r.args r.heap r.counter) where
    -- each command on the way is one at which the run stands
    on_the_way : (x : PurePath S) (earlier : List (PurePath S)) (w : List PureValue) → length earlier ≤ n → IsBeside p m stands terms asked [] a.values w s0 start earlier x → Satisfies x.vars w x.conds
        → Each (IsAtNarrow p) earlier
    on_the_way x [] w few beside_x met = tt
    on_the_way x (before ∷ earlier) w few beside_x met =
        let fewer : suc (length earlier) ≤ n = few in
        let (u, (beside_before, met_before)) = trails_may_end_before p m stands terms asked [] a.values w s0 start before x earlier beside_x met in
        let next = beside_x.trail.0 in
        let after = (trails_replay p m stands terms asked).stands_after [] a.values u s0 start earlier before beside_before met_before (λ unknown_so. subst IsUnknown next.going unknown_so) in
        let (s, at) = subst (StandsAfter p m stands [] s0 start before u (length earlier)) next.going after in
        let (c, command) = next.at_command in
        let (there, below) = comes_beside p memory m explored.well_made is_memory [] a.rest s0 stands_beside (length earlier) s at.comes_to in
        let in_whole : reached p m [] (length earlier) (start_state p q.name r.args r.heap r.counter) ≡ Some (beside a.rest s) =
        subst (λ h. reached p m [] (length earlier) (start_state p q.name r.args h r.counter) ≡ Some (beside a.rest s)) (sym a.union.union) there in (
          (c, (command, commands (length earlier) (beside a.rest s) c (omega (arith, fewer)) in_whole (sym (stands_at p u before.stack s at.stands_for.frames) ∙ command))),
          on_the_way before earlier u (omega (arith, fewer)) beside_before met_before,
        )

    module _ (few : n ≤ 10000) (left : IsNarrowLeft q n b) (starts : StartsNarrowly terms b start) where
      abbrev EndedFrom : Type 0
      EndedFrom = IsNarrowEndedFrom p m stands terms asked depends plain keeps_plain n start path

      pub narrow_along : (ended : EndedFrom) → Along p memory m stands terms asked depends plain keeps_plain kept q b start explored.opening n few left starts path ended
      narrow_along (inl (come, some)) = on_the_way path come.from.earlier v (counted path come.from) (is_beside come.from) met_always
      narrow_along (inr (before, (come, goes, steps, is))) =
          on_the_way before come.from.earlier v (counted before come.from)
          (record {
            trail = come.from.trail;
            going = going;
            over = explored.opening.over;
            stands_for = stands_first;
            follows = record {
              new_vars = accounts.1.0.new_vars;
              new_values = accounts.1.0.new_values;
              vars = sym (ap (λ (x : PurePath S). x.vars) is) ∙ accounts.1.0.vars;
              values = accounts.1.0.values;
              in_turn = accounts.1.0.in_turn;
            };
          })
          (subst (λ (x : PurePath S). Satisfies x.vars v x.conds) is met_always)

      -- so what is left of the path is covered
      pub covered_narrowly : (i : PureInference) (ended : EndedFrom) (entry : IsNarrowEntry memory q) → CoversNarrowEnd p memory m q n b path.vars path.conds path.ending i → ¬ IsToldEnd path.ending
          → IsProvidedNarrowly p memory m q n i r
      covered_narrowly i ended entry covers isnt =
          let closed = narrowly_closed p memory m stands terms asked depends plain keeps_plain kept q b start explored.opening n few left starts path ended (narrow_along ended) entry no_draw in
          by_end (IsProvidedNarrowly p memory m q n i r) path.ending refl
          (λ unknown_so. absurd (known_end p memory m stands terms asked depends plain keeps_plain kept q b start explored.opening n few left starts path ended (narrow_along ended) unknown_so))
          (λ key place is missed_so.
          subst (λ o. CoversNarrowEnd p memory m q n b path.vars path.conds o i) is covers r left
          (subst (IsNarrowlyClosed memory (numbers_at (length b.uses + 1)) b path.vars path.conds) is closed) missed_so)
          isnt accounts.1.1

  -- ---- ends of which one is told

  module _ (found : PureFound) (along : IsMetAlong memory m stands terms asked depends plain keeps_plain kept q e path found) where
    early : take e.count v ≡ a.values
    early =
        let counted : e.count ≡ length start.vars = explored.entry.count in
        let many : length start.vars ≡ length a.values = sym begins.meets.proper.one_each in
        ap (λ k. take k v) (counted ∙ many) ∙ ap (take (length a.values)) accounts.1.0.values ∙ take-append_seam a.values accounts.1.0.new_values

    met_so : Satisfies path.vars v path.conds → IsMetWith p memory m q.name r.args r.heap found.spec
    met_so met =
        let (variables, (entered, meets)) = along.met p n explored v r.args a.own met (subst (λ u. HaveValues u (variables_from 0 (any_for_each q.params)) r.args) (sym early) a.arguments)
        (subst (λ u. stands start.memory u a.own) (sym early) begins.heap)
        in
        record {
          of_procedure = along.of_procedure;
          variables = variables;
          entered = entered;
          own = a.own;
          part = λ k w holds. subst (λ h. Holds h k w) (sym a.union.union) (first_part a.own a.rest a.union.disjoint k w holds);
          meets = meets;
        }

    module _ (founds : List PureFound) where
      abbrev after_founds : List PureFound
      after_founds = founds ++ found ∷ []

      some_met : (is_cut : Bool) → found.cut ≡ is_cut → Satisfies path.vars v path.conds → SomeIsMet p memory m q.name after_founds is_cut r.args r.heap
      some_met is_cut marked met = record { number = length founds; found = found; is_found = at_end_of founds found; as_marked = marked; met = met_so met }

      is_of : (x : End) → whole_end ≡ x → run_of p m q.name r.args r.heap r.counter [] n ≡ x
      is_of x is = is_whole ∙ is

      told_so : (how : PureEnd) → path.ending ≡ Some how → IsMarkedAs how found.cut → IsTold how → StandsAfter p m stands [] s0 start path v path.steps (Some how) → IsCovered p memory m q n after_founds r
      told_so (returned t) ends_so marked told (s, (x, (inl (k, (steps, at, last)), is))) =
          let none : miss_at p m s ≡ None = none_missed p m [] s x last (λ fails. subst IsFailed is.ending.1.1 fails) in
          let so : (run_of p m q.name r.args r.heap r.counter [] n).ending ≡ machine.returned is.ending.0 = ap (λ (y : End). y.ending) (is_of (end_beside a.rest x) (whole_is k s x steps at last none)) ∙ is.ending.1.1 in
          record { finished = λ finishes. some_met false marked (met_at (returned t) s x is); cut_off = λ off. absurd (no_finish _ is.ending.0 so off) }
      told_so (threw t place) ends_so marked told (s, (x, (inl (k, (steps, at, last)), is))) =
          let none : miss_at p m s ≡ None = none_missed p m [] s x last (λ fails. subst IsFailed is.ending.1.1 fails) in
          let so : (run_of p m q.name r.args r.heap r.counter [] n).ending ≡ machine.threw is.ending.0 place = ap (λ (y : End). y.ending) (is_of (end_beside a.rest x) (whole_is k s x steps at last none)) ∙ is.ending.1.1 in
          record { finished = λ finishes. some_met false marked (met_at (threw t place) s x is); cut_off = λ off. absurd (no_throw _ is.ending.0 place so off) }
      told_so cut ends_so marked told (s, (x, (inr (at, is_end), is))) =
          let all : path.steps ≡ n = cut_last (met_at cut s x is) ends_so in
          let so : (run_of p m q.name r.args r.heap r.counter [] n).ending ≡ machine.cut =
          ap (λ (y : End). y.ending) is_whole ∙ cut_beside p memory m explored.well_made is_memory [] a.rest s0 stands_beside n s (subst (λ k. reached p m [] k s0 ≡ Some s) all at)
          in
          record { finished = λ finishes. absurd (no_cut _ so finishes); cut_off = λ off. some_met true marked (met_at cut s x is) }
      told_so (returned t) ends_so marked told (s, (x, (inr (at, is_end), is))) =
          not_cut x.ending (λ cut_so. let no : machine.returned is.ending.0 ≡ machine.cut = sym is.ending.1.1 ∙ cut_so in absurd (cc)) (ap (λ (y : End). y.ending) is_end)
      told_so (threw t place) ends_so marked told (s, (x, (inr (at, is_end), is))) =
          not_cut x.ending (λ cut_so. let no : machine.threw is.ending.0 place ≡ machine.cut = sym is.ending.1.1 ∙ cut_so in absurd (cc)) (ap (λ (y : End). y.ending) is_end)
      told_so cut ends_so marked told (s, (x, (inl (k, (steps, at, last)), is))) = absurd (subst IsOver is.ending (step_over p m [] s x last))
      told_so (failed t place) ends_so marked told after = absurd told
      told_so (missed key place) ends_so marked told after = absurd told
      told_so vanished ends_so marked told after = absurd told
      told_so (unknown place reason) ends_so marked told after = absurd told

      known_told : (how : PureEnd) → IsTold how → IsUnknown (Some how) → ⊥
      known_told (unknown place reason) told unknown_so = told
      known_told (returned t) told unknown_so = unknown_so
      known_told (threw t place) told unknown_so = unknown_so
      known_told cut told unknown_so = unknown_so
      known_told (failed t place) told unknown_so = unknown_so
      known_told (missed key place) told unknown_so = unknown_so
      known_told vanished told unknown_so = unknown_so

      pub covered_by_told : IsToldEnd path.ending → IsCovered p memory m q n after_founds r
      covered_by_told told = by path.ending refl told accounts.1.1
        where
          by : (o : Option PureEnd) → path.ending ≡ o → IsToldEnd o → StandsAfter p m stands [] s0 start path v path.steps o ⊎ (IsUnknown o × Satisfies path.vars v path.conds) → IsCovered p memory m q n after_founds r
          by None is told what = absurd told
          by (Some how) is told (inl after) = told_so how is (along.marked how is).1 told after
          by (Some how) is told (inr (unknown_so, met)) = absurd (known_told how told unknown_so)

-- ---- what is told, and the first path

pub told_there : (o : Option PureEnd) → IsToldEnd o → (how : PureEnd) × ((o ≡ Some how) × IsTold how)
told_there (Some how) told = (how, (refl, told))
told_there None told = absurd told

module _ {S : Type 0} (p : PureParts) (memory : MemoryName) (m : Actions) (is_memory : IsMemory memory m) (stands : S → List PureValue → Heap → Type 0) (terms : S → StateTerms)
    (asked : List ℕ → List PureTerm → List PureTerm × List PureTerm) (kept : S → Type 0) (q : PureProc) (n : ℕ) (b : PureBeginning) (r : PureRun) (wanted : IsWanted p memory m q n r)
    (a : Awaits q.params r.args r.heap r.counter n b) where
  -- the run without the rest doesn't end for want of input
  pub has_input : is_well_made p ≡ true → ¬ IsInputFault (run p m [] n (start_state p q.name r.args a.own r.counter)).ending
  has_input made fault =
      let parts = union_parts memory r.heap a.own a.rest a.union wanted.proper.heap in
      let s0 = start_state p q.name r.args a.own r.counter in
      let stands_so : StandsBeside memory s0 a.rest = record {
        heap = parts.0;
        rest_heap = parts.1;
        compatible = record { disjoint = a.union.disjoint; union_well_formed = subst IsWellFormed a.union.union wanted.proper.heap.well_formed };
        proper = subst (λ h. IsProperState memory (start_state p q.name r.args h r.counter)) a.union.union (starts_proper p memory q.name r.args r.heap r.counter wanted.proper);
      } in
      let same = (runs_without_a_failure_are_local p memory m [] s0 a.rest made is_memory stands_so n (fault_sound (run p m [] n s0).ending fault)).same in
      let whole : run_of p m q.name r.args r.heap r.counter [] n ≡ end_beside a.rest (run p m [] n s0) = ap (λ h. run_of p m q.name r.args h r.counter [] n) a.union.union ∙ same in
      no_fault (end_beside a.rest (run p m [] n s0)) (subst EndsWell whole wanted.ending) fault

  -- the first path accounts for the run
  pub first_accounts : (start : PurePath S) → IsOpening stands terms kept q start → find_proc p.procs q.name ≡ Some q → BeginsWith stands b.vars a.values a.own start
      → AccountsFor p m stands [] (start_state p q.name r.args a.own r.counter) start a.values start
  first_accounts start opening found begins =
      let first = opening.begins.is in
      accounts_first p m stands terms asked n start [] a.values (start_state p q.name r.args a.own r.counter) (ap (λ (x : PurePath S). x.ending) first) (ap (λ (x : PurePath S). x.steps) first)
      ((beginnings_stand stands terms (λ s low high. ⊤)).starts p q (variables_from 0 (any_for_each q.params)) start.vars start.conds start.memory start opening.begins found a.values r.args a.own r.counter
      a.arguments begins.meets.proper begins.meets.true_there begins.heap a.below)
