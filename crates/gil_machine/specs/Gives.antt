-- What evaluation in the code may answer where it has an outcome in 128 bits: exactly that, or want of memory.
use Rattle.std.specs.Prelude.{◌≡◌, Option, Some, None, Result, Ok, Err}
use Rattle.gil_values.specs.declared.apply.OpFault.{OpFault}
use Rattle.gil_values.specs.declared.apply.OpFault.TheVariants as operators
use Rattle.gil_values.specs.declared.tree.Value.{Value}
use Rattle.gil_values.specs.declared.tree.Values.{Values}
use Rattle.gil_values.specs.Operators.{wrong_kind, zero_divisor, out_of_range, unset_variable}
use Rattle.gil_values.specs.View.{value_view, values_view}
use Rattle.gil_machine.specs.declared.faults.EvaluationFault.{EvaluationFault}
use Rattle.gil_machine.specs.declared.faults.EvaluationFault.TheVariants.{WrongKind, Zero, Range, Unset, Number, Memory}
use Rattle.gil_machine.specs.Held.{HeldFault, of_table, too_wide, HeldOutcome, HeldOutcomes}

abbrev pub of_operator : OpFault → EvaluationFault
of_operator operators.WrongKind = WrongKind
of_operator operators.Zero = Zero
of_operator operators.Range = Range
of_operator operators.Number = Number
of_operator operators.Memory = Memory

-- the fault of evaluation that a fault of the code is; want of memory is none
abbrev pub held_fault : EvaluationFault → Option HeldFault
held_fault WrongKind = Some (of_table wrong_kind)
held_fault Zero = Some (of_table zero_divisor)
held_fault Range = Some (of_table out_of_range)
held_fault Unset = Some (of_table unset_variable)
held_fault Number = Some too_wide
held_fault Memory = None

-- the outcome is this fault, if it is one
abbrev pub IsFault : {X : Type 0} → Option HeldFault → Result X HeldFault → Type 0
IsFault (Some fault) outcome = outcome ≡ Err fault
IsFault None outcome = Unit {0}

abbrev pub Gives : Result Value EvaluationFault → HeldOutcome → Type 0
Gives (Ok v) outcome = outcome ≡ Ok (value_view v)
Gives (Err fault) outcome = IsFault (held_fault fault) outcome

abbrev pub GivesAll : Result Values EvaluationFault → HeldOutcomes → Type 0
GivesAll (Ok vs) outcome = outcome ≡ Ok (values_view vs)
GivesAll (Err fault) outcome = IsFault (held_fault fault) outcome
