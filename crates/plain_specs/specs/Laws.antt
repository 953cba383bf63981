-- What holds of contained specifications.
use Rattle.std.specs.Prelude.{◌≡◌, ℕ, List, false, Some, IsTrue}
use Rattle.gil_values.specs.Pure.{PureValue}
use Rattle.gil_syntax.specs.Evaluation.{Store}
use Rattle.gil_syntax.specs.Programs.{find_spec}
use Rattle.gil_syntax.specs.Pure.{PureSpec, PureParts}
use Rattle.gil_syntax.specs.Valid.{IsValid}
use Rattle.gil_syntax.specs.WellMade.{is_well_made}
use Rattle.mem_model.specs.declared.keys.MemoryName.{MemoryName}
use Rattle.mem_model.specs.Actions.{Actions}
use Rattle.assert_logic.specs.Modes.{HasModes}
use Rattle.checked_runs.specs.Checked.{Checked, HasNoFault, UsesOnly, IsReachedIn}
use Rattle.plain_specs.specs.Contained.{IsContained, RunsAlone}

-- No checked run of the specification has a fault, uses another specification, or is under way after this many steps.
pub record HasOnlyGoodRuns (p : PureParts) (memory : MemoryName) (m : Actions) (s : PureSpec) (n : ℕ) : Type 0 where
  pub no_fault : HasNoFault p memory m s
  pub uses_none : UsesOnly p memory m (λ (x : List ℕ). false) s
  pub none_is_cut : (args : List PureValue) (variables : Store) (c : Checked)
      → ¬ IsReachedIn p memory m (record { spec = s; args = args; variables = variables }) n c

-- Where the runs of a contained specification do as it tells, its checked runs are those runs.
abbrev pub ContainedSpecificationsAreDecided : Type 0
ContainedSpecificationsAreDecided =
    (p : PureParts) (memory : MemoryName) (m : Actions) (s : PureSpec) (n : ℕ)
    → IsTrue (is_well_made p) → IsValid p → HasModes p memory → find_spec p.specs s.name ≡ Some s → IsContained p s
    → RunsAlone p memory m s n → HasOnlyGoodRuns p memory m s n
