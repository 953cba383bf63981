-- Checked runs that a bound doesn't cut.
use Rattle.std.specs.Prelude.{ℕ, List}
use Rattle.gil_values.specs.Pure.{PureValue}
use Rattle.gil_syntax.specs.Evaluation.{Store}
use Rattle.gil_syntax.specs.Pure.{PureParts, PureSpec}
use Rattle.mem_model.specs.declared.keys.MemoryName.{MemoryName}
use Rattle.mem_model.specs.Actions.{Actions}
use Rattle.checked_runs.specs.Checked.{Checked, IsReachedIn}

-- no checked run of the specification is under way after as many steps as the bound
abbrev pub NoneIsCut : PureParts → MemoryName → Actions → ℕ → PureSpec → Type 0
NoneIsCut p memory m most spec =
    (args : List PureValue) (variables : Store) (c : Checked)
    → ¬ IsReachedIn p memory m (record { spec = spec; args = args; variables = variables }) most c
