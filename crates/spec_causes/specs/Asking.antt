-- What the commands on the way of a checked run may ask, of terms that have the values of its names.
use Rattle.std.specs.Prelude.{◌≡◌, ℕ, zero, suc, List, [], ◌++◌, Option, Some}
use Rattle.gil_values.specs.Pure.{PureValue}
use Rattle.gil_syntax.specs.Pure.{PureParts, PureNumberedCommand}
use Rattle.gil_machine.specs.Choices.{with_choice}
use Rattle.gil_machine.specs.Step.{command_at}
use Rattle.mem_model.specs.declared.keys.MemoryName.{MemoryName}
use Rattle.mem_model.specs.Actions.{Actions}
use Rattle.checked_runs.specs.Checked.{Checked, goes_on_to, Entry, names_at}
use Rattle.checked_runs.specs.Specifications.{entry_store}
use Rattle.pure_terms.specs.Pure.{PureAtom}
use Rattle.sym_evaluation.specs.Meaning.{StandsFor}
use Rattle.sym_model.specs.Lists.{Each}
use Rattle.checked_paths.specs.Choosing.{LeadsAlong}
use Rattle.checked_rows.specs.Asking.{NamesThere, MayAsk}

-- The command at which the run stands may ask the condition, of terms that have the values of its names under the valuation: of those of its
-- store, of those of logic commands, and of those at the entry.
pub record AsksThere (p : PureParts) (entry : Entry) (w : List PureValue) (c : Checked) (a : PureAtom) : Type 0 where
  pub command : PureNumberedCommand
  pub there : command_at p c.machine.current ≡ Some command
  pub names : NamesThere
  pub running : StandsFor w names.running c.machine.current.store
  pub logic : StandsFor w names.logic (names_at entry c)
  pub at_entry : StandsFor w names.entry (entry_store entry.spec entry.args entry.variables)
  pub may_ask : MayAsk p entry.spec names command.command a

module _ (p : PureParts) (memory : MemoryName) (m : Actions) (entry : Entry) (w : List PureValue) where
  -- one step more of runs: the command there makes its choice, and may ask the further conditions
  pub record OneMore (Before : List ℕ → List PureAtom → Checked → Type 0) (choices : List ℕ) (asked : List PureAtom) (c : Checked)
      : Type 0 where
    pub before : Checked
    pub earlier : List ℕ
    pub asked_before : List PureAtom
    pub runs : Before earlier asked_before before
    pub chosen : Option ℕ
    pub leads : LeadsAlong p memory m entry before chosen (goes_on_to c)
    pub choices_are : choices ≡ earlier ++ with_choice chosen []
    pub more : List PureAtom
    pub asks : Each (AsksThere p entry w before) more
    pub asked_are : asked ≡ asked_before ++ more

  -- A checked run from the state makes so many steps and these choices, and comes to the other state. The commands on its way may ask these
  -- conditions, one after another.
  abbrev pub RunsAsking : Checked → ℕ → List ℕ → List PureAtom → Checked → Type 0
  RunsAsking c0 zero choices asked c = (c ≡ c0) × (choices ≡ []) × (asked ≡ [])
  RunsAsking c0 (suc n) choices asked c = OneMore (RunsAsking c0 n) choices asked c
