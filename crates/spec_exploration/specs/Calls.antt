-- Calls by specification in the checked runs of a specification.
use Rattle.std.specs.Prelude.{◌≡◌, ◌⊎◌, ℕ, ◌<◌, List}
use Rattle.gil_values.specs.Pure.{PureValue}
use Rattle.gil_syntax.specs.Evaluation.{Store}
use Rattle.gil_syntax.specs.Pure.{PureParts, PureSpec}
use Rattle.mem_model.specs.declared.keys.MemoryName.{MemoryName}
use Rattle.mem_model.specs.Actions.{Actions}
use Rattle.checked_runs.specs.Checked.{Checked, Entry, IsReachedIn}
use Rattle.pure_terms.specs.declared.variables.Sort.{Sort}
use Rattle.pure_terms.specs.Fragment.{InFragment}
use Rattle.pure_terms.specs.Pure.{PureAtom}
use Rattle.checked_paths.specs.Pure.{PureEntry}
use Rattle.checked_paths.specs.Trails.{Runs}
use Rattle.call_rows.specs.Uses.{UsesNamed}
use Rattle.spec_causes.specs.Causes.{RunsWherever, IsReachable}

-- A run makes so many steps from the start, and by the next one it calls by the specification of this name.
pub record CallsAfter (p : PureParts) (memory : MemoryName) (m : Actions) (steps : ℕ) (name : List ℕ) (entry : Entry) (start : Checked)
    : Type 0 where
  pub state : Checked
  pub choices : List ℕ
  pub runs : Runs p memory m entry start steps choices state
  pub uses : UsesNamed p m name state

module _ (p : PureParts) (memory : MemoryName) (m : Actions) (spec : PureSpec) (most : ℕ) (name : List ℕ) where
  -- A checked run of the specification makes fewer steps than the bound, and by the next one it calls by the specification of this name.
  pub record CallsInRun : Type 0 where
    pub args : List PureValue
    pub variables : Store
    pub steps : ℕ
    pub within : steps < most
    pub state : Checked
    pub reached : IsReachedIn p memory m (record { spec = spec; args = args; variables = variables }) steps state
    pub uses : UsesNamed p m name state

  -- The conditions of adding the precondition aren't in the fragment. Others go on from them, and can be met where those can. Wherever they are
  -- met, a checked run of the specification makes fewer steps than the bound, and by the next one it calls by the specification of this name.
  pub record CallsWhereMet : Type 0 where
    pub entry : PureEntry
    pub of_spec : entry.spec ≡ spec
    pub vars : List Sort
    pub conds : List PureAtom
    pub reachable : IsReachable p memory m entry vars conds
    pub outside : ¬ InFragment reachable.first
    pub steps : ℕ
    pub within : steps < most
    pub runs : RunsWherever p memory m entry vars conds (λ w ent start. CallsAfter p memory m steps name ent start)

  abbrev pub IsUsedByRuns : Type 0
  IsUsedByRuns = CallsInRun ⊎ CallsWhereMet
