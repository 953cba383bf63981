-- A step of exploration keeps trails and accounts.
use Rattle.std.proofs.Common.{◌≡◌, ◌⊎◌, ⊎_elim, inl, inr, ℕ, suc, ◌+◌, ◌<◌, ◌≤◌, ℤ, List, [], ◌∷◌, ◌++◌, Option, Some, None, is_some, IsSome, IsTrue, false, true, refl, sym, ap, subst, arith, true≢false}
use Rattle.std.specs.Option.{option_map}
use Rattle.std.proofs.lemmas.List.{append-nil, append_assoc}
use Rattle.gil_values.specs.Pure.{PureValue}
use Rattle.gil_syntax.specs.Programs.{find_proc}
use Rattle.gil_syntax.specs.Pure.{PureParts, PureNumberedCommand}
use Rattle.gil_syntax.specs.Simple.{is_simple_command}
use Rattle.gil_machine.specs.Run.{run, reached}
use Rattle.gil_machine.specs.State.{State, End, Step, goes_on, ends, end_at, IsOver}
use Rattle.gil_machine.specs.State as machine
use Rattle.gil_machine.specs.Step.{command_of, step}
use Rattle.mem_model.specs.Actions.{Actions}
use Rattle.mem_model.specs.Heaps.{Heap}
use Rattle.pure_terms.specs.Meaning.{Satisfies}
use Rattle.pure_terms.specs.Pure.{PureTerm, PureAtom}
use Rattle.sym_engine.specs.Lawful.{IsOwnAt, IsAskedByMemoryAt}
use Rattle.sym_step.specs.Exploring.{MayGoOn, cut_off, IsFrom, IsEndedFrom, KeepTrails, KeepAccounts, CoverRuns}
use Rattle.sym_step.specs.Plain.{StaysPlain}
use Rattle.sym_step.specs.Runs.{StandsAt, StandsAfter, AccountsFor}
use Rattle.sym_step.specs.Trails.{IsNextPath}
use Rattle.sym_step.proofs.ExplorationSteps.{counter_at, draws_at, both_extend}
use Rattle.sym_step.proofs.RunSteps.{ends_stay}
use Rattle.sym_step.proofs.Trails.{stands_next}
use Rattle.sym_model.specs.Lists.{Each, OneOf}
use Rattle.sym_model.specs.Terms.{StateTerms}
use Rattle.sym_model.proofs.ListLaws.{each_append, each_at, each_by_place, each_left, each_right, one_left, one_right, one_parts}
use Rattle.sym_paths.specs.Forms.{NeedsWhatMatters}
use Rattle.sym_paths.specs.Meaning.{Stands, StandsForStep, command_of_frames, command_of_path}
use Rattle.sym_paths.specs.Origins.{Follows}
use Rattle.sym_paths.specs.Pure.{PureFrame, PurePath}
use Rattle.sym_paths.specs.Steps.{Extends, HasInput, IsInputFault, IsUnknown, IsPlainPath, StaysWithin, Grows, IsRecorded, IsExact, ChoosesAlike, HoldsAlong, AddsOwn, Assumes, NeedsNoForm, StaysSatisfiable, IsRightlyUnknown, AreNextPaths}
use Rattle.sym_step.specs.Stepping.{AreAtCommands}

-- an end that is for want of input is over
fault_is_over : (e : machine.Ending) → IsInputFault e → IsOver e
fault_is_over (machine.no_input k) is = tt
fault_is_over (machine.bad_input k) is = tt
fault_is_over (machine.returned v) is = tt
fault_is_over (machine.failed v place) is = tt
fault_is_over (machine.threw v place) is = tt
fault_is_over machine.vanished is = tt
fault_is_over machine.cut is = absurd is

one_zip : {A : Type 0} (P Q R : A → Type 0) (xs : List A) → ((x : A) → P x → Q x → R x) → Each P xs → OneOf Q xs → OneOf R xs
one_zip P Q R [] f all one = absurd one
one_zip P Q R (x ∷ xs) f all (inl here) = inl (f x all.0 here)
one_zip P Q R (x ∷ xs) f all (inr later) = inr (one_zip P Q R xs f all.1 later)

module _ {S : Type 0} (p : PureParts) (m : Actions) (stands : S → List PureValue → Heap → Type 0) (terms : S → StateTerms)
    (asked : List ℕ → List PureTerm → List PureTerm × List PureTerm) where
  abbrev pub IsNext : PurePath S → PurePath S → Type 0
  IsNext = IsNextPath p m stands terms asked

  -- the paths of a step are next paths
  pub are_next : (path : PurePath S) (nexts : List (PurePath S)) → path.ending ≡ None → (c : PureNumberedCommand) → command_of_path p path ≡ Some c
      → AreNextPaths p m stands terms (IsOwnAt stands terms asked m p path) (IsAskedByMemoryAt stands terms asked m p path) path nexts → Each (IsNext path) nexts
  are_next path nexts still c at laws = each_by_place (IsNext path) nexts (λ i next place. record {
    going = still;
    at_command = (c, at);
    growth = each_at (Grows terms path) nexts i next laws.growth place;
    recorded = each_at (IsRecorded p m path) nexts i next laws.recorded place;
    exact = each_at (IsExact p m stands path) nexts i next laws.exact place;
    choices = each_at (ChoosesAlike p m stands path) nexts i next laws.choices place;
    along = each_at (HoldsAlong p m stands path) nexts i next laws.along place;
    own_conditions = each_at (AddsOwn (IsOwnAt stands terms asked m p path) path) nexts i next laws.own_conditions place;
    assumes = each_at (Assumes p (IsOwnAt stands terms asked m p path) (IsAskedByMemoryAt stands terms asked m p path) path) nexts i next laws.assumes place;
    origin = each_at (Follows p m terms path) nexts i next laws.origin place;
    no_form = each_at (NeedsNoForm path) nexts i next laws.no_form place;
    satisfiable = each_at (StaysSatisfiable path) nexts i next laws.satisfiable place;
    unknown_rightly = each_at (λ q. IsRightlyUnknown p path q q.ending) nexts i next laws.unknown_rightly place;
  })

  -- ---- accounts

  module _ (bound : ℕ) where
    has_input : (inputs : List PureValue) (s0 s : State) (n : ℕ) (r : Step) → reached p m inputs n s0 ≡ Some s → n < bound → ¬ IsInputFault (run p m inputs bound s0).ending → step p m inputs s ≡ r → HasInput r
    has_input inputs s0 s n (goes_on t) at below fine is = tt
    has_input inputs s0 s n (ends e) at below fine is =
        λ fault. fine (subst (λ (x : End). IsInputFault x.ending) (sym (ends_stay p m inputs s0 s (suc n) e (inl (n, (refl, at, is))) bound (omega arith) (fault_is_over e.ending fault))) fault)

    abbrev Accounts : PurePath S → List PureValue → List PureValue → State → PurePath S → Type 0
    Accounts start inputs v0 s0 = AccountsFor p m stands inputs s0 start v0

    account_next : (start path next : PurePath S) (inputs v0 v : List PureValue) (s0 s : State) (first : Extends inputs s0 start path v0 v) → StandsAt p m stands inputs s0 start path v path.steps s
        → (w : List PureValue) → IsNext path next → Extends inputs s path next v w
        → StandsForStep p m stands next w s next.ending (step p m inputs s) ⊎ (IsUnknown next.ending × Satisfies next.vars w next.conds) → Accounts start inputs v0 s0 next
    account_next start path next inputs v0 v s0 s first at w nx ext what = (
      w,
      (
        both_extend inputs s0 start path next v0 v w s first ext (counter_at s0.counter s.counter start.vars path.vars first.new_vars first.vars at.symbols) (draws_at s0.draws s.draws start.vars path.vars first.new_vars first.vars at.draws),
        ⊎_elim
            (λ stood. let counted : suc path.steps ≡ next.steps = let more : next.steps ≡ path.steps + 1 = nx.growth.steps in omega (arith, more) in
            inl (subst (λ n. StandsAfter p m stands inputs s0 start next w n next.ending) counted (stands_next p m stands terms asked inputs s0 start path next v w path.steps s nx at stood)))
            inr what,
      ),
    )

    at_open : (start path : PurePath S) (inputs v : List PureValue) (s0 : State) → path.ending ≡ None
        → StandsAfter p m stands inputs s0 start path v path.steps path.ending ⊎ (IsUnknown path.ending × Satisfies path.vars v path.conds) → (s : State) × StandsAt p m stands inputs s0 start path v path.steps s
    at_open start path inputs v s0 still (inl after) = subst (StandsAfter p m stands inputs s0 start path v path.steps) still after
    at_open start path inputs v s0 still (inr other) = absurd (subst IsUnknown still other.0)

    abbrev Covered : List PureValue → List PureValue → State → PurePath S → PurePath S → Type 0
    Covered inputs v s path next =
        (w : List PureValue) × (Extends inputs s path next v w
        × (StandsForStep p m stands next w s next.ending (step p m inputs s) ⊎ (IsUnknown next.ending × Satisfies next.vars w next.conds)))

    pub accounts_next : (path : PurePath S) (nexts : List (PurePath S)) (own by_memory : PureAtom → Type 0) → path.ending ≡ None → path.steps < bound → Each (IsNext path) nexts → AreNextPaths p m stands terms own by_memory path nexts
        → (start : PurePath S) (inputs v0 : List PureValue) (s0 : State) → ¬ IsInputFault (run p m inputs bound s0).ending → Accounts start inputs v0 s0 path → OneOf (Accounts start inputs v0 s0) nexts
    accounts_next path nexts own by_memory still below each laws start inputs v0 s0 fine (v, (first, after)) =
        let (s, at) = at_open start path inputs v s0 still after in
        let covered = laws.cover inputs v s at.stands_for (has_input inputs s0 s path.steps (step p m inputs s) at.comes_to below fine refl) in
        one_zip (IsNext path) (Covered inputs v s path) (Accounts start inputs v0 s0) nexts
        (λ next nx (w, (ext, what)). account_next start path next inputs v0 v s0 s first at w nx ext what) each covered

    -- a path without an end that did as many steps as the bound is cut, and accounts for what it accounted for
    pub accounts_cut : (path : PurePath S) → path.ending ≡ None → (start : PurePath S) (inputs v0 : List PureValue) (s0 : State) → Accounts start inputs v0 s0 path → Accounts start inputs v0 s0 (cut_off path)
    accounts_cut path still start inputs v0 s0 (v, (first, after)) =
        let (s, at) = at_open start path inputs v s0 still after in (
          v,
          (
            record { new_vars = first.new_vars; new_values = first.new_values; vars = first.vars; values = first.values; in_turn = first.in_turn },
            inl (
              s,
              (
                end_at s machine.cut,
                (
                  inr (at.comes_to, refl),
                  record {
                    proper = at.stands_for.proper;
                    meets = at.stands_for.meets;
                    ending = refl;
                    memory = at.stands_for.memory;
                    symbols_below = at.stands_for.symbols_below;
                    draws = at.stands_for.draws;
                  },
                ),
              ),
            ),
          ),
        )

    pub accounts_first : (start : PurePath S) (inputs v0 : List PureValue) (s0 : State) → start.ending ≡ None → start.steps ≡ 0 → Stands stands start v0 s0 → Accounts start inputs v0 s0 start
    accounts_first start inputs v0 s0 still first is = (
      v0,
      (
        record { new_vars = []; new_values = []; vars = sym (append-nil start.vars); values = sym (append-nil v0); in_turn = tt },
        inl
            (subst (StandsAfter p m stands inputs s0 start start v0 start.steps) (sym still)
            (s0, record { comes_to = ap (λ n. reached p m inputs n s0) first; stands_for = is; symbols = refl; draws = refl })),
      ),
    )

    -- ---- trails

    module _ (depends : S → List ℕ → List PureTerm → List PureValue → Heap → PureTerm → Type 0) (plain : S → ℤ → ℤ → Type 0) (keeps_plain : Type 0) where
      abbrev From : PurePath S → PurePath S → Type 0
      From = IsFrom p m stands terms asked depends plain keeps_plain bound

      next_from : (start path : PurePath S) → From start path → path.steps < bound → (next : PurePath S) → IsNext path next → (keeps_plain → StaysPlain p plain path next) → NeedsWhatMatters p stands depends path next → From start next
      next_from start path from below next nx stays needs = record {
        earlier = path ∷ from.earlier;
        trail = (nx, from.trail);
        within = let more : next.steps ≡ path.steps + 1 = nx.growth.steps in omega (arith, more, below);
        simple = λ keeps. (stays keeps, from.simple keeps);
        forms = (needs, from.forms);
      }

      pub nexts_from : (path : PurePath S) (nexts : List (PurePath S)) → path.steps < bound → Each (IsNext path) nexts → (keeps_plain → StaysWithin p (λ c. IsTrue (is_simple_command c)) (IsPlainPath plain) path nexts)
          → Each (NeedsWhatMatters p stands depends path) nexts → (start : PurePath S) → From start path → Each (From start) nexts
      nexts_from path [] below each stays needs start from = tt
      nexts_from path (next ∷ nexts) below each stays needs start from = (
        next_from start path from below next each.0 (λ keeps b (c, (at, simple)) narrow is. (stays keeps c b at simple narrow is).0) needs.0,
        nexts_from path nexts below each.1 (λ keeps c b at simple narrow is. (stays keeps c b at simple narrow is).1) needs.1 start from,
      )

      pub cut_from : (start path : PurePath S) → path.ending ≡ None → bound ≤ path.steps → From start path → IsEndedFrom p m stands terms asked depends plain keeps_plain bound start (cut_off path)
      cut_from start path still past from = let within : path.steps ≤ bound = from.within in inr (path, (from, still, omega (arith, within, past), refl))

  -- ---- steps that may be done

  pub nexts_go_on : (path : PurePath S) (nexts : List (PurePath S)) → Each (IsNext path) nexts → Each (λ next. next.ending ≡ None → AreAtCommands p next.stack) nexts → Each (MayGoOn p terms) nexts
  nexts_go_on path [] each placed = tt
  nexts_go_on path (next ∷ nexts) each placed =
      ((λ still early. record { no_end = still; steps = early; placed = placed.0 still; over = each.0.growth.over }), nexts_go_on path nexts each.1 placed.1)

some_command : (o : Option PureNumberedCommand) → IsSome o → (c : PureNumberedCommand) × (o ≡ Some c)
some_command (Some c) is = (c, refl)
some_command None is = absurd (true≢false (sym is))

-- a frame that runs stands at a command
pub at_a_command : (p : PureParts) (fs : List PureFrame) → AreAtCommands p fs → (c : PureNumberedCommand) × (command_of_frames p fs ≡ Some c)
at_a_command p [] placed = absurd placed
at_a_command p (f ∷ fs) placed = some_command (command_of (find_proc p.procs f.procedure) f.next) placed.0.command

-- ---- lists of paths that are left

-- the last path is taken out
pub rest_keeps : {A : Type 0} (P : A → Type 0) (all rest : List A) (x : A) → all ≡ rest ++ x ∷ [] → Each P all → Each P rest × P x
rest_keeps P all rest x is each = let both : Each P (rest ++ x ∷ []) = subst (Each P) is each in (each_left P rest (x ∷ []) both, (each_right P rest (x ∷ []) both).0)

pub last_or_rest : {A : Type 0} (P : A → Type 0) (all rest : List A) (x : A) → all ≡ rest ++ x ∷ [] → OneOf P all → P x ⊎ OneOf P rest
last_or_rest P all rest x is one = ⊎_elim inr (λ last. inl (⊎_elim (λ here. here) absurd last)) (one_parts P rest (x ∷ []) (subst (OneOf P) is one))

-- it is handed out, with what it becomes
pub one_handed : {A : Type 0} (P : A → Type 0) (all rest : List A) (x y : A) → all ≡ rest ++ x ∷ [] → (P x → P y) → OneOf P all → OneOf P (y ∷ [] ++ rest)
one_handed P all rest x y is f one = ⊎_elim (λ here. inl (f here)) inr (last_or_rest P all rest x is one)

-- others take its place
pub one_replaced : {A : Type 0} (P : A → Type 0) (all rest more : List A) (x : A) → all ≡ rest ++ x ∷ [] → (P x → OneOf P more) → OneOf P all → OneOf P (rest ++ more)
one_replaced P all rest more x is f one = ⊎_elim (λ here. one_right P rest more (f here)) (one_left P rest more) (last_or_rest P all rest x is one)

pub each_replaced : {A : Type 0} (P : A → Type 0) (all rest more : List A) (x : A) → all ≡ rest ++ x ∷ [] → (P x → Each P more) → Each P all → Each P (rest ++ more)
each_replaced P all rest more x is f each = let (before, last) = rest_keeps P all rest x is each in each_append P rest more before (f last)

module _ {S : Type 0} (p : PureParts) (m : Actions) (stands : S → List PureValue → Heap → Type 0) (terms : S → StateTerms)
    (asked : List ℕ → List PureTerm → List PureTerm × List PureTerm) (depends : S → List ℕ → List PureTerm → List PureValue → Heap → PureTerm → Type 0) (plain : S → ℤ → ℤ → Type 0) (keeps_plain : Type 0) (bound : ℕ) (old all rest : List (PurePath S)) (path : PurePath S) (is : all ≡ rest ++ path ∷ []) where
  abbrev Comes : PurePath S → PurePath S → Type 0
  Comes = IsFrom p m stands terms asked depends plain keeps_plain bound

  abbrev Ended : PurePath S → PurePath S → Type 0
  Ended = IsEndedFrom p m stands terms asked depends plain keeps_plain bound

  abbrev For : PurePath S → List PureValue → List PureValue → State → PurePath S → Type 0
  For start inputs v0 s0 = AccountsFor p m stands inputs s0 start v0

  pub placed_rest : Each (MayGoOn p terms) all → Each (MayGoOn p terms) rest
  placed_rest placed = (rest_keeps (MayGoOn p terms) all rest path is placed).0

  pub placed_last : Each (MayGoOn p terms) all → MayGoOn p terms path
  placed_last placed = (rest_keeps (MayGoOn p terms) all rest path is placed).1

  pub placed_more : (nexts : List (PurePath S)) → Each (MayGoOn p terms) nexts → Each (MayGoOn p terms) all → Each (MayGoOn p terms) (rest ++ nexts)
  placed_more nexts new placed = each_replaced (MayGoOn p terms) all rest nexts path is (λ before. new) placed

  pub trails_handed : (ended : PurePath S) → ((start : PurePath S) → Comes start path → Ended start ended) → KeepTrails p m stands terms asked depends plain keeps_plain bound old [] all → KeepTrails p m stands terms asked depends plain keeps_plain bound old (ended ∷ []) rest
  trails_handed ended become trails start from =
      let (before, last) = rest_keeps (Comes start) all rest path is (trails start from).1 in
      ((become start last, tt), before)

  pub trails_more : (nexts : List (PurePath S)) → ((start : PurePath S) → Comes start path → Each (Comes start) nexts) → KeepTrails p m stands terms asked depends plain keeps_plain bound old [] all → KeepTrails p m stands terms asked depends plain keeps_plain bound old [] (rest ++ nexts)
  trails_more nexts go trails start from = (tt, each_replaced (Comes start) all rest nexts path is (go start) (trails start from).1)

  pub cover_handed : (ended : PurePath S) → ((start : PurePath S) (inputs v0 : List PureValue) (s0 : State) → For start inputs v0 s0 path → For start inputs v0 s0 ended) → KeepAccounts p m stands bound old all
      → KeepAccounts p m stands bound old (ended ∷ [] ++ rest)
  cover_handed ended keeps cover start inputs v0 s0 fine one = one_handed (For start inputs v0 s0) all rest path ended is (keeps start inputs v0 s0) (cover start inputs v0 s0 fine one)

  pub cover_more : (nexts : List (PurePath S)) → ((start : PurePath S) (inputs v0 : List PureValue) (s0 : State) → ¬ IsInputFault (run p m inputs bound s0).ending → For start inputs v0 s0 path → OneOf (For start inputs v0 s0) nexts)
      → KeepAccounts p m stands bound old all → KeepAccounts p m stands bound old (rest ++ nexts)
  cover_more nexts go cover start inputs v0 s0 fine one = one_replaced (For start inputs v0 s0) all rest nexts path is (go start inputs v0 s0 fine) (cover start inputs v0 s0 fine one)

  -- a step of the path
  pub stepped : (nexts left : List (PurePath S)) → left ≡ rest ++ nexts → path.ending ≡ None → path.steps < bound → path.steps < 10000
      → AreNextPaths p m stands terms (IsOwnAt stands terms asked m p path) (IsAskedByMemoryAt stands terms asked m p path) path nexts → Each (λ next. next.ending ≡ None → AreAtCommands p next.stack) nexts
      → (keeps_plain → StaysWithin p (λ c. IsTrue (is_simple_command c)) (IsPlainPath plain) path nexts) → Each (NeedsWhatMatters p stands depends path) nexts → Each (MayGoOn p terms) all
      → KeepTrails p m stands terms asked depends plain keeps_plain bound old [] all → KeepAccounts p m stands bound old all
      → Each (MayGoOn p terms) left × KeepTrails p m stands terms asked depends plain keeps_plain bound old [] left × KeepAccounts p m stands bound old left
  stepped nexts left same going below early laws placed stays needs may trails cover =
      let (command, at) = at_a_command p path.stack (placed_last may going early).placed in
      let each = are_next p m stands terms asked path nexts going command at laws in (
        subst (Each (MayGoOn p terms)) (sym same) (placed_more nexts (nexts_go_on p m stands terms asked path nexts each placed) may),
        subst (KeepTrails p m stands terms asked depends plain keeps_plain bound old []) (sym same) (trails_more nexts (nexts_from p m stands terms asked bound depends plain keeps_plain path nexts below each stays needs) trails),
        subst (KeepAccounts p m stands bound old) (sym same) (cover_more nexts (accounts_next p m stands terms asked bound path nexts (IsOwnAt stands terms asked m p path) (IsAskedByMemoryAt stands terms asked m p path) going below each laws) cover),
      )

-- ---- ends as the code sees them

pub has_end : {A B : Type 0} (f : A → B) (o : Option A) → is_some o ≡ true → IsSome (option_map f o)
has_end f (Some x) is = refl
has_end f None is = absurd (true≢false (sym is))

pub has_no_end : {A B : Type 0} (f : A → B) (o : Option A) → is_some o ≡ false → option_map f o ≡ None
has_no_end f None is = refl
has_no_end f (Some x) is = absurd (true≢false is)

-- ---- all ended paths

-- whatever one of the paths that are left accounts for, one that was handed out or one that is left now does
pub cover_pushed : {S : Type 0} (p : PureParts) (m : Actions) (stands : S → List PureValue → Heap → Type 0) (bound : ℕ) (start : PurePath S) (ended left handed now : List (PurePath S))
    → CoverRuns p m stands bound start (ended ++ left) → KeepAccounts p m stands bound left (handed ++ now) → CoverRuns p m stands bound start ((ended ++ handed) ++ now)
cover_pushed p m stands bound start ended left handed now cover keep inputs v0 s0 is fine =
    let For = AccountsFor p m stands inputs s0 start v0 in
    subst (OneOf For) (sym (append_assoc ended handed now))
    (⊎_elim (λ old. one_left For ended (handed ++ now) old) (λ other. one_right For ended (handed ++ now) (keep start inputs v0 s0 fine other)) (one_parts For ended left (cover inputs v0 s0 is fine)))

-- no path is left
pub cover_finished : {S : Type 0} (p : PureParts) (m : Actions) (stands : S → List PureValue → Heap → Type 0) (bound : ℕ) (start : PurePath S) (ended left now : List (PurePath S))
    → CoverRuns p m stands bound start (ended ++ left) → KeepAccounts p m stands bound left now → now ≡ [] → CoverRuns p m stands bound start ended
cover_finished p m stands bound start ended left now cover keep none inputs v0 s0 is fine =
    let For = AccountsFor p m stands inputs s0 start v0 in
    ⊎_elim (λ old. old) (λ other. absurd (subst (OneOf For) none (keep start inputs v0 s0 fine other))) (one_parts For ended left (cover inputs v0 s0 is fine))
