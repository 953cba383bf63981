-- Explorations whose paths runs reach, and whose cause is one with its runs.
use Rattle.std.proofs.Common.{◌≡◌, ⊎_elim, ℕ, ◌+◌, ◌<◌, ◌≤◌, List, [], ◌∷◌, ◌++◌, Option, Some, None, IfSome, refl, sym, subst, arith}
use Rattle.gil_values.specs.Pure.{PureValue}
use Rattle.gil_syntax.specs.Pure.{PureParts}
use Rattle.mem_model.specs.declared.keys.MemoryName.{MemoryName}
use Rattle.mem_model.specs.Actions.{Actions}
use Rattle.mem_model.specs.Heaps.{Heap}
use Rattle.sym_model.specs.Laws.{IsMeaning}
use Rattle.sym_model.specs.Lists.{Each, OneOf}
use Rattle.sym_model.specs.Terms.{StateTerms}
use Rattle.sym_model.proofs.ListLaws.{each_append, one_with}
use Rattle.checked_paths.specs.Causes.{cause_view, shown_of}
use Rattle.checked_paths.specs.Covering.{FollowsOn, AreNexts}
use Rattle.checked_paths.specs.declared.nexts.Cause.{Cause}
use Rattle.checked_paths.specs.Exactness.{IsExactNext, AreExact, AddsOnly}
use Rattle.checked_paths.specs.Meaning.{MayGoOn}
use Rattle.checked_paths.specs.Pure.{PureEntry, PureChecking, PureNext, further, over, caused}
use Rattle.checked_rows.specs.Asking.{MayAskAt}
use Rattle.call_rows.specs.Uses.{AreUsedThere}
use Rattle.spec_causes.specs.Reaching.{IsFoundCause}
use Rattle.spec_causes.proofs.Reached.{next_reached, cause_found, cut_found}
use Rattle.spec_exploration.specs.Calls.{IsUsedByRuns}
use Rattle.spec_exploration.specs.Exploring.{PureExploration, furthers, AreTaken, IsCutAt, IsReachedWithin, IsReachedNext, AreReached}
use Rattle.spec_exploration.proofs.Calls.{names_used_by_runs}
use Rattle.spec_exploration.proofs.Taking.{each_zip, further_each, last_apart}

if_some : {A : Type 0} (o : Option A) (P : A → Type 0) → ((x : A) → o ≡ Some x → P x) → IfSome o P
if_some None P holds = tt
if_some (Some x) P holds = holds x refl

some_holds : {A : Type 0} (o : Option A) (P : A → Type 0) (x : A) → o ≡ Some x → IfSome o P → P x
some_holds o P x is holds = subst (λ r. IfSome r P) is holds

module _ {S : Type 0} (p : PureParts) (memory : MemoryName) (m : Actions) (stands : S → List PureValue → Heap → Type 0) (terms : S → StateTerms) (e : PureEntry) (most : ℕ) where
  abbrev Within : PureChecking S → Type 0
  Within = IsReachedWithin p memory m stands terms e most

  abbrev ReachedNext : PureNext S → Type 0
  ReachedNext = IsReachedNext p memory m stands terms e most

  abbrev All : PureExploration S → Type 0
  All = AreReached p memory m stands terms e most

  abbrev Used : List ℕ → Type 0
  Used = IsUsedByRuns p memory m e.spec most

  abbrev Found : Cause → Type 0
  Found c = IsFoundCause p memory m e most (cause_view c)

  found_among : (ns : List (PureNext S)) (c : Cause) → Each ReachedNext ns → OneOf (λ n. n ≡ caused c) ns → Found c
  found_among ns c each one = one_with ReachedNext (λ n. n ≡ caused c) ns each one (λ n reached is. subst ReachedNext is reached)

  pub taken_reached : (before after : PureExploration S) (ns : List (PureNext S)) → All before → Each ReachedNext ns → AreTaken before ns after → All after
  taken_reached before after ns reached each taken = record {
    left = subst (Each Within) (sym taken.left) (each_append Within before.left (furthers ns) reached.left (further_each Within ReachedNext (λ y is. is) ns each));
    cause = if_some after.cause Found (λ c is.
        ⊎_elim (λ (old : before.cause ≡ Some c). some_holds before.cause Found c old reached.cause) (λ one. found_among ns c each one) (taken.cause c is));
    uses = subst (Each Used) (sym taken.uses) reached.uses;
  }

  pub starts_reached : (first : PureExploration S) (starts : List (PureNext S)) → Each ReachedNext starts → AreTaken (record { left = []; cause = None; uses = [] }) starts first → All first
  starts_reached first starts each taken = taken_reached (record { left = []; cause = None; uses = [] }) first starts (record { left = tt; cause = tt; uses = tt }) each taken

  pub all_but_last : (old : PureExploration S) (rest : List (PureChecking S)) (x : PureChecking S) → old.left ≡ rest ++ x ∷ [] → All old → All (record old { left = rest }) × Within x
  all_but_last old rest x is reached =
      let both = last_apart Within old.left rest x is reached.left in
      (record { left = both.0; cause = reached.cause; uses = reached.uses }, both.1)

  module _ (meaning : IsMeaning memory stands terms) (x : PureChecking S) (within : Within x) (may : MayGoOn p terms e x) where
    -- an answer is exact, and adds only conditions that the command may ask
    abbrev IsExactAsking : PureNext S → Type 0
    IsExactAsking n = IsExactNext p memory m stands e x n × AddsOnly (MayAskAt p e x) x n

    next_within : x.path.steps < most → (n : PureNext S) → FollowsOn p terms e x n → IsExactAsking n → ReachedNext n
    next_within early (further y) follows (followed, asks) =
        let one_more : y.path.steps ≡ x.path.steps + 1 = follows.1 in
        record { reached = next_reached memory m stands terms meaning p e x within.reached may y followed asks one_more; within = omega (arith, early, one_more) }
    next_within early over follows is = tt
    next_within early (caused cause) follows (right, asks) = cause_found memory m stands terms meaning p e x within.reached may most early (cause_view cause) right asks

    pub step_reached : (before after : PureExploration S) (names : List (List ℕ)) (ns : List (PureNext S)) → x.path.steps < most → AreNexts p memory m stands terms e x names ns → AreExact p memory m stands e x ns
        → Each (AddsOnly (MayAskAt p e x) x) ns → AreUsedThere p m stands e x names → AreTaken (record before { uses = before.uses ++ names }) ns after → All before → All after
    step_reached before after names ns early laws exact asked used taken reached =
        taken_reached (record before { uses = before.uses ++ names }) after ns
        (record {
          left = reached.left;
          cause = reached.cause;
          uses = each_append Used before.uses names reached.uses (names_used_by_runs p memory m stands terms e most meaning x within.reached may early names used);
        })
        (each_zip (FollowsOn p terms e x) IsExactAsking ReachedNext ns (next_within early) laws.follow
        (each_zip (IsExactNext p memory m stands e x) (AddsOnly (MayAskAt p e x) x) IsExactAsking ns (λ n is adds. (is, adds)) exact asked)) taken

    cut_is_found : (c : Cause) → most ≤ x.path.steps → IsCutAt p x.path (cause_view c) → Found c
    cut_is_found c late (here, (place, is)) =
        let early : x.path.steps ≤ most = within.within in
        subst (IsFoundCause p memory m e most) (sym is) (cut_found memory m stands terms meaning p e x within.reached may most here (shown_of here x.path) (omega (arith, late, early)) place refl)

    pub cut_reached : (before after : PureExploration S) (c : Cause) → most ≤ x.path.steps → IsCutAt p x.path (cause_view c) → AreTaken before (caused c ∷ []) after → All before → All after
    cut_reached before after c late cut taken reached = taken_reached before after (caused c ∷ []) reached (cut_is_found c late cut, tt) taken
