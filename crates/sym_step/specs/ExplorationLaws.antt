-- What holds of every path with a trail.
use Rattle.std.specs.Prelude.{◌≡◌, ◌⊎◌, ℕ, ◌+◌, ◌≤◌, List, [], ◌∷◌, length, false, Some, None, IsTrue}
use Rattle.gil_values.specs.Pure.{PureValue}
use Rattle.gil_syntax.specs.Pure.{PureParts}
use Rattle.gil_machine.specs.Run.{run}
use Rattle.gil_machine.specs.State.{State, End, IsOver}
use Rattle.mem_model.specs.Actions.{Actions}
use Rattle.mem_model.specs.Heaps.{Heap}
use Rattle.pure_terms.specs.Meaning.{all_true, Satisfies}
use Rattle.pure_terms.specs.Pure.{PureTerm, PureAtom}
use Rattle.sym_engine.specs.Lawful.{IsOwnAt}
use Rattle.sym_step.specs.Runs.{EndsAfter, ComesTo, MakesChoices, StandsAfter}
use Rattle.sym_step.specs.Trails.{IsTrail, IsAssumedOn}
use Rattle.sym_model.specs.Lists.{Each, OneOf, IsAmong}
use Rattle.sym_model.specs.Meaning.{has_open}
use Rattle.sym_model.specs.Terms.{StateTerms}
use Rattle.sym_paths.specs.Meaning.{Stands, IsOverTable}
use Rattle.sym_paths.specs.Pure.{cut, PurePath}
use Rattle.sym_paths.specs.Steps.{Extends, IsUnknown}

-- What a run within n steps came to is its end, with every larger bound too if it isn't cut.
abbrev pub EndsAreOfRuns : Type 0
EndsAreOfRuns =
    (p : PureParts) (m : Actions) (inputs : List PureValue) (s0 s : State) (n : ℕ) (e : End) → EndsAfter p m inputs s0 n s e
    → (run p m inputs n s0 ≡ e) × ((bound : ℕ) → n ≤ bound → IsOver e.ending → run p m inputs bound s0 ≡ e)

module _ {S : Type 0} (p : PureParts) (m : Actions) (stands : S → List PureValue → Heap → Type 0) (terms : S → StateTerms)
    (asked : List ℕ → List PureTerm → List PureTerm × List PureTerm) where
  -- A run beside a trail: the start has no end and stands for s0, where the run begins; the valuation has the symbols and the inputs of
  -- the run for the variables that the path has more.
  pub record IsBeside (inputs v0 v : List PureValue) (s0 : State) (start : PurePath S) (earlier : List (PurePath S)) (path : PurePath S)
      : Type 0 where
    pub trail : IsTrail p m stands terms asked start earlier path
    pub going : start.ending ≡ None
    pub over : IsOverTable terms start
    pub stands_for : Stands stands start v0 s0
    pub follows : Extends inputs s0 start path v0 v

  -- Replay: where the valuation meets the conditions, the run makes the steps and choices of the path, and the path stands for what it
  -- comes to. Of an unknown path without `Open` the choices hold as well.
  pub record TrailsReplay : Type 0 where
    pub stands_after : (inputs v0 v : List PureValue) (s0 : State) (start : PurePath S) (earlier : List (PurePath S)) (path : PurePath S)
        → IsBeside inputs v0 v s0 start earlier path → Satisfies path.vars v path.conds → ¬ IsUnknown path.ending
        → StandsAfter p m stands inputs s0 start path v (length earlier) path.ending
    pub chooses : (inputs v0 v : List PureValue) (s0 : State) (start : PurePath S) (earlier : List (PurePath S)) (path : PurePath S)
        → IsBeside inputs v0 v s0 start earlier path → Satisfies path.vars v path.conds
        → (¬ IsUnknown path.ending) ⊎ (has_open path.conds ≡ false)
        → MakesChoices p m inputs s0 start (length earlier) path × ComesTo p m inputs s0 (length earlier) path.ending
    -- no step ends a run by a cut, so no path whose conditions are met ends so by its steps
    pub never_cut : (inputs v0 v : List PureValue) (s0 : State) (start : PurePath S) (earlier : List (PurePath S)) (path : PurePath S)
        → IsBeside inputs v0 v s0 start earlier path → Satisfies path.vars v path.conds → ¬ (path.ending ≡ Some cut)

  -- Along: where the valuation meets what is assumed, and the run comes so far with the choices of the path, it meets the conditions.
  abbrev pub TrailsHoldAlong : Type 0
  TrailsHoldAlong =
      (inputs v0 v : List PureValue) (s0 : State) (start : PurePath S) (earlier : List (PurePath S)) (path : PurePath S)
      → IsBeside inputs v0 v s0 start earlier path → Satisfies path.vars v path.given
      → MakesChoices p m inputs s0 start (length earlier) path → ComesTo p m inputs s0 (length earlier) path.ending
      → IsTrue (all_true v path.conds)

  -- Where a valuation follows a run beside a trail and meets the conditions, its first values do so for the path before.
  abbrev pub TrailsMayEndBefore : Type 0
  TrailsMayEndBefore =
      (inputs v0 v : List PureValue) (s0 : State) (start before path : PurePath S) (earlier : List (PurePath S))
      → IsBeside inputs v0 v s0 start (before ∷ earlier) path → Satisfies path.vars v path.conds
      → (w : List PureValue) × (IsBeside inputs v0 w s0 start earlier before × Satisfies before.vars w before.conds)

  -- where a condition comes from: it is one of the start's, or a command's own on the trail
  abbrev pub IsTraced : PurePath S → List (PurePath S) → PureAtom → Type 0
  IsTraced start earlier a =
      IsAmong a start.conds ⊎ OneOf (λ path. IsOwnAt stands terms asked m p path a) earlier

  -- what holds of a path by its trail alone
  pub record TrailsKeep : Type 0 where
    pub steps : (start path : PurePath S) (earlier : List (PurePath S)) → IsTrail p m stands terms asked start earlier path
        → path.steps ≡ start.steps + length earlier
    pub over : (start path : PurePath S) (earlier : List (PurePath S)) → IsTrail p m stands terms asked start earlier path
        → IsOverTable terms start → IsOverTable terms path
    pub traced : (start path : PurePath S) (earlier : List (PurePath S)) → IsTrail p m stands terms asked start earlier path
        → Each (IsTraced start earlier) path.conds
    pub assumed : (start path : PurePath S) (earlier : List (PurePath S)) → IsTrail p m stands terms asked start earlier path
        → Each (λ a. IsAmong a start.conds) start.given → Each (λ a. IsAmong a path.conds) path.given
    pub assumed_on : (start path : PurePath S) (earlier : List (PurePath S)) → IsTrail p m stands terms asked start earlier path
        → Each (λ a. IsAmong a start.given ⊎ IsAssumedOn p m stands terms asked earlier a) path.given
    pub satisfiable : (start path : PurePath S) (earlier : List (PurePath S)) (v : List PureValue)
        → IsTrail p m stands terms asked start earlier path → Satisfies start.vars v start.conds → ¬ IsUnknown path.ending
        → (w : List PureValue) × Satisfies path.vars w path.conds
