-- Specifications of which no checked run begins.
use Rattle.std.specs.Prelude.{ℕ, List, Bool}
use Rattle.gil_values.specs.Pure.{PureValue}
use Rattle.gil_syntax.specs.Evaluation.{Store}
use Rattle.gil_syntax.specs.Pure.{PureSpec, PureParts}
use Rattle.mem_model.specs.declared.keys.MemoryName.{MemoryName}
use Rattle.mem_model.specs.Actions.{Actions}
use Rattle.checked_runs.specs.Checked.{Checked, IsStart, HasNoFault, UsesOnly}

-- in no program and in no memory a checked run of the specification begins, whatever its arguments and variables
abbrev pub HasNoStart : PureSpec → Type 0
HasNoStart s =
    (p : PureParts) (memory : MemoryName) (m : Actions) (args : List PureValue) (variables : Store) (c : Checked)
    → ¬ IsStart p memory m (record { spec = s; args = args; variables = variables }) c

abbrev pub VacuousSpecificationsHaveNoRun : Type 0
VacuousSpecificationsHaveNoRun =
    (s : PureSpec) → HasNoStart s → (p : PureParts) (memory : MemoryName) (m : Actions)
    → HasNoFault p memory m s × ((chosen : List ℕ → Bool) → UsesOnly p memory m chosen s)
