-- Along paths of a simple program that begin bare nothing is left undecided.
use Rattle.std.proofs.Common.{◌≡◌, ⊎_elim, inl, inr, ℕ, ◌+◌, ◌<◌, ◌≤◌, nat_lt, ℤ, pos, neg_ℤ, List, [], ◌∷◌, ◌++◌, length, true, Option, Some, None, IsSome, IsTrue, refl, sym, ap, subst, ◌∙◌, arith}
use Rattle.std.specs.FinMap.{empty}
use Rattle.std.specs.List.{list_all}
use Rattle.std.specs.Option.{option_map, option_or}
use Rattle.std.proofs.lemmas.Bool.{and_parts, and_from, ltb-true}
use Rattle.gil_values.specs.declared.places.Place.{Place}
use Rattle.gil_values.specs.Pure.{PureValue}
use Rattle.gil_values.specs.Symbols.{AreBelow}
use Rattle.gil_values.proofs.OperatorSymbols.{none_contained}
use Rattle.gil_syntax.specs.Programs.{find_proc}
use Rattle.gil_syntax.specs.Pure.{PureProc, PureParts, PureNumberedCommand}
use Rattle.gil_syntax.specs.Simple.{is_simple_command}
use Rattle.gil_syntax.specs.Valid.{is_among}
use Rattle.gil_machine.specs.Run.{reached, start as start_state}
use Rattle.gil_machine.specs.State.{State, End}
use Rattle.gil_machine.specs.Step.{command_of}
use Rattle.gil_machine.proofs.Entries.{tests_start_proper}
use Rattle.gil_machine.proofs.Proper.{starts_proper}
use Rattle.mem_model.specs.declared.keys.MemoryName.{MemoryName}
use Rattle.mem_model.specs.Actions.{Actions, IsMemory}
use Rattle.mem_model.specs.Heaps.{Heap}
use Rattle.checked_runs.specs.Specifications.{result_name}
use Rattle.checked_runs.proofs.Runs.{reached_proper}
use Rattle.fresh_atoms.proofs.Atoms.{fresh_atoms_are_constant}
use Rattle.pure_terms.specs.declared.queries.Query.{Query}
use Rattle.pure_terms.specs.declared.variables.Sort.{Sort}
use Rattle.pure_terms.specs.declared.variables.Var.{Var}
use Rattle.pure_terms.specs.Fragment.{has_fragment_form}
use Rattle.pure_terms.specs.Kinds.{same_sort}
use Rattle.pure_terms.specs.Meaning.{truth, all_true, IsProper, IsOver, AreVariablesOf, Satisfies}
use Rattle.pure_terms.specs.Pure.{PureTerm, PureAtom, term_of, variables}
use Rattle.pure_terms.proofs.VariableLaws.{stay_when_tables_grow}
use Rattle.sym_evaluation.specs.Meaning.{HaveValues}
use Rattle.sym_step.specs.Exploring.{IsFrom, IsEndedFrom}
use Rattle.sym_step.specs.ExplorationLaws.{IsBeside}
use Rattle.sym_step.specs.Plain.{IsAtSimple, grown}
use Rattle.sym_step.specs.Runs.{EndsAfter, StandsAfter}
use Rattle.sym_step.specs.Trails.{IsTrail}
use Rattle.sym_step.proofs.Kept.{trails_keep, trails_replay}
use Rattle.sym_step.proofs.Plain.{trails_stay_plain}
use Rattle.sym_model.specs.Laws.{IsPlainWithin, IsDecidedWithin}
use Rattle.sym_model.specs.Lists.{Each}
use Rattle.sym_model.specs.Pure.{PureKey}
use Rattle.sym_model.specs.Terms.{StateTerms, AreEachOver}
use Rattle.sym_model.proofs.ListLaws.{same_some, not_none, each_to, each_append, each_left, each_right}
use Rattle.sym_paths.specs.Meaning.{Stands, command_of_frames, end_terms}
use Rattle.sym_paths.specs.Pure.{PureFrame, PureEnd, returned, failed, threw, missed, vanished, cut, unknown, PurePath}
use Rattle.sym_paths.specs.Steps.{IsUnknown, IsPlainPath, narrow_bound}
use Rattle.sym_paths.proofs.Beginning.{beginnings_stand}
use Rattle.bi_beginnings.specs.Beginnings.{any_for_each, variables_from, first_beginning, PureBeginning, IsBare, BeginsBare}
use Rattle.bi_beginnings.specs.Fixing.{IsKeyAtNewSymbol}
use Rattle.bi_beginnings.proofs.Params.{all_at, proc_at}
use Rattle.bi_specifications.specs.Shape.{MayBeSaid}
use Rattle.bi_specifications.specs.Specified.{PureEntry, IsExplored}
use Rattle.bi_specifications.proofs.Grown.{IsGrown, ended_grown, ended_drew, all_fresh}
use Rattle.bi_specifications.proofs.RunsAlong.{symbols_from}
use Rattle.bi_specifications.proofs.Saying.{names_fresh}
use Rattle.bi_specifications.proofs.Valuing.{symbols_are_next, symbols_proper, all_below}
use Rattle.biabduce.specs.Decided.{IsDecidable, IsDecided, IsClosed}
use Rattle.biabduce.specs.Narrowly.{LeavesAlone}
use Rattle.biabduce.specs.Sound.{PureInference}
use Rattle.biabduce.specs.View.{asked_view}
use Rattle.biabduce.proofs.Missed.{at_new_symbol, missed_own}

-- ---- no value

none_proper : (vars : List Sort) → vars ≡ [] → IsProper vars []
none_proper vars none = record {
  one_each = ap length (sym none);
  sorts = λ x sort w in_table at. not_none at;
  fresh = λ x y n w in_table at less at_y. not_none at;
}

none_below : AreBelow 0 []
none_below = all_below 0 [] tt

-- ---- conditions over new symbols

module _ (vars : List Sort) (fresh : list_all (same_sort Sort.Fresh) vars ≡ true) (v w : List PureValue) (proper : IsProper vars v) (other : IsProper vars w) where
  same_without : (a : PureAtom) (u : List PureValue) → variables (term_of a) ≡ [] → truth u a ≡ truth [] a
  same_without a u none = stay_when_tables_grow.truths a [] [] u (subst (AreVariablesOf []) (sym none) (λ x has. absurd (none_contained x has))) refl

  -- no variable has a number below 0
  none_early : (xs : List Var) → list_all (λ (x : Var). nat_lt x.number 0) xs ≡ true → xs ≡ []
  none_early [] early = refl
  none_early (x ∷ xs) early =
      let less : x.number < 0 = ltb-true x.number 0 (and_parts (nat_lt x.number 0) (list_all (λ (y : Var). nat_lt y.number 0) xs) early).0 in
      absurd (omega (arith, less))

  -- each has one truth
  same_truth : (a : PureAtom) → IsOver vars (term_of a) → has_fragment_form a ≡ true → truth v a ≡ truth w a
  same_truth a over form =
      ⊎_elim (λ names. fresh_atoms_are_constant [] vars a v w refl fresh over form names proper other)
      (λ early. let none = none_early (variables (term_of a)) early in same_without a v none ∙ sym (same_without a w none))
      (names_fresh vars 0 fresh (term_of a) over)

  all_so : (conds : List PureAtom) → Each (λ a. IsOver vars (term_of a)) conds → Each (λ a. IsTrue (has_fragment_form a)) conds → all_true w conds ≡ true → all_true v conds ≡ true
  all_so [] over forms all = refl
  all_so (a ∷ conds) over forms all =
      let (here, later) = and_parts (truth w a) (all_true w conds) all in
      and_from (truth v a) (all_true v conds) (same_truth a over.0 forms.0 ∙ here) (all_so conds over.1 forms.1 later)

-- ---- simple programs

module _ (p : PureParts) (simple : list_all (λ q. list_all (λ c. is_simple_command c.command) q.body) p.procs ≡ true) where
  simple_of : (f : List ℕ) (o : Option PureProc) (i : ℕ) (c : PureNumberedCommand) → find_proc p.procs f ≡ o → command_of o i ≡ Some c → is_simple_command c.command ≡ true
  simple_of f (Some q) i c found at =
      let (j, there) = proc_at p.procs f q found in
      all_at (λ d. is_simple_command d.command) q.body i c at (all_at (λ r. list_all (λ d. is_simple_command d.command) r.body) p.procs j q there simple)
  simple_of f None i c found at = not_none at

  simple_there : (frames : List PureFrame) (c : PureNumberedCommand) → command_of_frames p frames ≡ Some c → is_simple_command c.command ≡ true
  simple_there [] c at = not_none at
  simple_there (frame ∷ frames) c at = simple_of frame.procedure (find_proc p.procs frame.procedure) frame.next c refl at

  -- each command on a trail is of simple form
  each_simple : {S : Type 0} (m : Actions) (stands : S → List PureValue → Heap → Type 0) (terms : S → StateTerms) (asked : List ℕ → List PureTerm → List PureTerm × List PureTerm) (start path : PurePath S)
      (earlier : List (PurePath S)) → IsTrail p m stands terms asked start earlier path → Each (IsAtSimple p) earlier
  each_simple m stands terms asked start path [] trail = tt
  each_simple m stands terms asked start path (before ∷ earlier) (next, trail) =
      let (c, at) = next.at_command in
      ((c, (at, simple_there before.stack c at)), each_simple m stands terms asked start before earlier trail)

-- ---- explored paths

module _ {S : Type 0} (p : PureParts) (memory : MemoryName) (m : Actions) (stands : S → List PureValue → Heap → Type 0) (terms : S → StateTerms)
    (asked : List ℕ → List PureTerm → List PureTerm × List PureTerm) (depends : S → List ℕ → List PureTerm → List PureValue → Heap → PureTerm → Type 0) (plain : S → ℤ → ℤ → Type 0) (keeps_plain : Type 0)
    (kept : S → Type 0) (q : PureProc) (e : PureEntry) (path : PurePath S) (n : ℕ) (explored : IsExplored memory m stands terms asked depends plain keeps_plain kept q e path p n)
    (decidable : IsDecidable keeps_plain p memory m q.name) (few : n ≤ 10000) (bare : BeginsBare stands plain explored.start) where
  abbrev start : PurePath S
  start = explored.start

  going : start.ending ≡ None
  going = ap (λ (x : PurePath S). x.ending) explored.opening.begins.is

  no_steps : start.steps ≡ 0
  no_steps = ap (λ (x : PurePath S). x.steps) explored.opening.begins.is

  no_params : q.params ≡ []
  no_params =
      let (r, (found, none)) = decidable.entry in
      let same : q ≡ r = same_some (sym explored.found ∙ found) in
      ap (λ (x : PureProc). x.params) same ∙ none

  module _ (r : PurePath S) (from : IsFrom p m stands terms asked depends plain keeps_plain n start r) where
    counted : length from.earlier ≤ n
    counted =
        let all : r.steps ≡ start.steps + length from.earlier = (trails_keep p m stands terms asked).steps start r from.earlier from.trail in
        let within : r.steps ≤ n = from.within in
        let none : start.steps ≡ 0 = no_steps in
        omega (arith, all, within, none)

    narrow : grown (length from.earlier) 0 ≤ narrow_bound
    narrow = let within : length from.earlier ≤ n = counted in (trails_stay_plain p m stands terms asked plain).narrow (length from.earlier) (omega (arith, within, few))

    simple : Each (IsAtSimple p) from.earlier
    simple = each_simple p decidable.simple m stands terms asked start r from.earlier from.trail

    is_known : ¬ IsUnknown r.ending
    is_known =
        (trails_stay_plain p m stands terms asked plain).known start r from.earlier 0 from.trail (from.simple decidable.plain) simple narrow bare.plain_path
        (λ unknown. subst IsUnknown going unknown)

    is_plain : IsPlainPath plain (grown (length from.earlier) 0) r
    is_plain = (trails_stay_plain p m stands terms asked plain).plain_path start r from.earlier 0 from.trail (from.simple decidable.plain) simple narrow bare.plain_path

    have_forms : Each (λ a. IsTrue (has_fragment_form a)) r.conds
    have_forms =
        each_to (IsDecidedWithin (neg_ℤ (pos (grown (length from.earlier) 0))) (pos (grown (length from.earlier) 0))) (λ a. IsTrue (has_fragment_form a)) r.conds (λ a is. is.0) is_plain.conds

  known_end : ¬ IsUnknown path.ending
  known_end = by explored.ended
    where
      by : IsEndedFrom p m stands terms asked depends plain keeps_plain n start path → ¬ IsUnknown path.ending
      by (inl (from, some)) = is_known path from
      by (inr (last, (from, goes, steps, is))) = λ unknown. subst IsUnknown (ap (λ (x : PurePath S). x.ending) is) unknown

  all_forms : Each (λ a. IsTrue (has_fragment_form a)) path.conds
  all_forms = by explored.ended
    where
      by : IsEndedFrom p m stands terms asked depends plain keeps_plain n start path → Each (λ a. IsTrue (has_fragment_form a)) path.conds
      by (inl (from, some)) = have_forms path from
      by (inr (last, (from, goes, steps, is))) = subst (λ (x : PurePath S). Each (λ a. IsTrue (has_fragment_form a)) x.conds) (sym is) (have_forms last from)

  has_grown : IsGrown terms start path
  has_grown = ended_grown p m stands terms asked start depends plain keeps_plain n path explored.opening.over explored.opening.is_met known_end explored.ended

  module _ (no_draw : path.drawn ≡ []) where
    new_symbols : list_all (same_sort Sort.Fresh) path.vars ≡ true
    new_symbols =
        let drew = ended_drew p m stands terms asked start (ap (λ (x : PurePath S). x.drawn) explored.opening.begins.is) depends plain keeps_plain n path explored.ended in
        ap (list_all (same_sort Sort.Fresh)) (drew.vars ∙ ap (λ xs. xs ++ drew.more) bare.no_variable) ∙ all_fresh (length start.vars) drew.more (sym drew.drawn ∙ no_draw)

    pub may_be_said : MayBeSaid q e path
    may_be_said = record {
      no_result = ap (λ xs. is_among xs result_name) no_params;
      over = has_grown.over.conds;
      forms = all_forms;
    }

    -- ---- the run along the path

    abbrev symbols : List PureValue
    symbols = symbols_from 0 (length path.vars)

    abbrev s0 : State
    s0 = start_state p q.name [] empty 0

    symbols_fit : IsProper path.vars symbols
    symbols_fit = symbols_proper [] [] 0 path.vars new_symbols (none_proper [] refl) none_below

    symbols_meet : Satisfies path.vars symbols path.conds
    symbols_meet = record {
      proper = symbols_fit;
      true_there = all_so path.vars new_symbols symbols has_grown.met.0 symbols_fit has_grown.met.1.proper path.conds has_grown.over.conds all_forms has_grown.met.1.true_there;
    }

    stands_first : Stands stands start [] s0
    stands_first =
        (beginnings_stand stands terms plain).starts p q (variables_from 0 (any_for_each q.params)) start.vars start.conds start.memory start explored.opening.begins explored.found [] [] empty 0
        (subst (λ params. HaveValues [] (variables_from 0 (any_for_each params)) []) (sym no_params) refl) (none_proper start.vars bare.no_variable)
        (subst (λ (cs : List PureAtom). IsTrue (all_true [] cs)) (sym bare.no_condition) refl) bare.no_key none_below

    module _ (from : IsFrom p m stands terms asked depends plain keeps_plain n start path) where
      beside : IsBeside p m stands terms asked [] [] symbols s0 start from.earlier path
      beside = record {
        trail = from.trail;
        going = going;
        over = explored.opening.over;
        stands_for = stands_first;
        follows = record {
          new_vars = path.vars;
          new_values = symbols;
          vars = ap (λ xs. xs ++ path.vars) (sym bare.no_variable);
          values = refl;
          in_turn = symbols_are_next [] 0 0 path.vars new_symbols;
        };
      }

      after : StandsAfter p m stands [] s0 start path symbols (length from.earlier) path.ending
      after = (trails_replay p m stands terms asked).stands_after [] [] symbols s0 start from.earlier path beside symbols_meet known_end

      come_to : (s : State) (x : End) → EndsAfter p m [] s0 (length from.earlier) s x → (k : ℕ) × (reached p m [] k s0 ≡ Some s)
      come_to s x (inl (k, (steps, at, last))) = (k, at)
      come_to s x (inr (at, is_end)) = (length from.earlier, at)

      -- a key that the path missed is at a symbol that the run took
      missed_along : IsMemory memory m → (key : PureKey) (place : Place) → path.ending ≡ Some (missed key place) → IsKeyAtNewSymbol memory path.vars key
      missed_along is_memory key place is =
          let (s, (x, (ends, stands_so))) = subst (StandsAfter p m stands [] s0 start path symbols (length from.earlier)) is after in
          let (missing, (named, misses, ends_so)) = stands_so.ending in
          let (k, at) = come_to s x ends in
          let plain_terms = subst (λ o. Each (IsPlainWithin (neg_ℤ (pos (grown (length from.earlier) 0))) (pos (grown (length from.earlier) 0))) (end_terms o)) is (is_plain path from).ending in
          let over_terms = subst (λ o. AreEachOver path.vars (end_terms o)) is has_grown.over.ending in
          let first_proper = starts_proper p memory q.name [] empty 0 (tests_start_proper p memory q.name q explored.found no_params) in
          let proper = reached_proper p m [] memory explored.well_made is_memory k s0 s first_proper at in
          at_new_symbol path.vars new_symbols symbols memory key missing plain_terms.0.0 over_terms.0 named (missed_own memory m decidable.own_keys p s proper missing explored.well_made misses)

    missed_there : IsMemory memory m → (key : PureKey) (place : Place) → path.ending ≡ Some (missed key place) → IsKeyAtNewSymbol memory path.vars key
    missed_there is_memory key place is = by explored.ended
      where
        by : IsEndedFrom p m stands terms asked depends plain keeps_plain n start path → IsKeyAtNewSymbol memory path.vars key
        by (inl (from, some)) = missed_along from is_memory key place is
        by (inr (last, (from, goes, steps, is_cut))) = let no : Some cut ≡ Some (missed key place) = sym (ap (λ (x : PurePath S). x.ending) is_cut) ∙ is in absurd (cc)

    pub closed : IsMemory memory m → IsClosed memory path.vars path.ending
    closed is_memory = by path.ending refl
      where
        by : (o : Option PureEnd) → path.ending ≡ o → IsClosed memory path.vars o
        by (Some (missed key place)) is = missed_there is_memory key place is
        by (Some (unknown place reason)) is = absurd (known_end (subst IsUnknown (sym is) tt))
        by (Some (returned t)) is = tt
        by (Some (failed t place)) is = tt
        by (Some (threw t place)) is = tt
        by (Some vanished) is = tt
        by (Some cut) is = tt
        by None is = tt

-- ---- inference under way

pub first_decided : (q : PureProc) (i : PureInference) → q.params ≡ [] → i ≡ record { left = first_beginning q ∷ []; founds = []; undecided = None } → IsDecided i
first_decided q i none is =
    subst IsDecided (sym is) (record { left = (record { no_variable = ap any_for_each none; no_use = refl; no_condition = refl }, tt); decided = refl })

pub alone_decided : (i j : PureInference) → LeavesAlone i j → IsDecided i → IsDecided j
alone_decided i j alone decided = record { left = subst (Each IsBare) (sym alone.left) decided.left; decided = alone.undecided ∙ decided.decided }

-- nothing was begun
pub begun_decided : (i j : PureInference) (more : List PureBeginning) → j ≡ record i { left = i.left ++ more } → more ≡ [] → IsDecided i → IsDecided j
begun_decided i j more is none decided =
    subst IsDecided (sym is) (record { left = each_append IsBare i.left more decided.left (subst (Each IsBare) (sym none) tt); decided = decided.decided })

pub none_of : (o : Option Query) → ¬ (IsSome o) → option_map asked_view o ≡ None
none_of None none = refl
none_of (Some x) none = absurd (none refl)

pub any_decided : (i j : PureInference) (o : Option Query) → j ≡ record i { undecided = option_or i.undecided (option_map asked_view o) } → ¬ (IsSome o) → IsDecided i → IsDecided j
any_decided i j o is none decided =
    subst IsDecided (sym is)
    (record { left = decided.left; decided = (λ k. option_or (decided.decided k) (option_map asked_view o)) ∙ none_of o none })

-- the last beginning is taken out
pub taken_decided : (i : PureInference) (rest : List PureBeginning) (b : PureBeginning) → i.left ≡ rest ++ b ∷ [] → IsDecided i → IsBare b × IsDecided (record i { left = rest })
taken_decided i rest b is decided =
    let all = subst (Each IsBare) is decided.left in
    ((each_right IsBare rest (b ∷ []) all).0, record { left = each_left IsBare rest (b ∷ []) all; decided = decided.decided })

pub nothing_left : (o : Option Query) → option_map asked_view o ≡ None → o ≡ None
nothing_left None none = refl
nothing_left (Some x) none = cc
