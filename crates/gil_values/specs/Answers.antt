-- What a call of an operator may answer where the table gives an outcome. Each answer but want of memory tells that
-- outcome exactly: numbers of the table have no range, and those of the code go from -2^127 to 2^127 - 1.
use Rattle.std.specs.Prelude.{◌≡◌, ◌↔◌, IsOk, Result, Ok, Err, FitsSigned}
use Rattle.std.specs.Int.{w128}
use Rattle.gil_values.specs.declared.apply.OpFault.{OpFault}
use Rattle.gil_values.specs.declared.apply.OpFault.TheVariants.{WrongKind, Zero, Range, Number, Memory}
use Rattle.gil_values.specs.declared.tree.Value.{Value}
use Rattle.gil_values.specs.Operators.{Outcome, wrong_kind, zero_divisor, out_of_range}
use Rattle.gil_values.specs.Pure.{PureValue, integer}
use Rattle.gil_values.specs.View.{value_view}

-- the code can hold the value: where it is a whole number, it is one of i128
abbrev pub IsHeld : PureValue → Type 0
IsHeld (integer n) = FitsSigned w128 n
IsHeld _ = Unit {0}

-- the outcome is a whole number that the code cannot hold
abbrev pub IsTooWide : Outcome → Type 0
IsTooWide (Ok (integer n)) = ¬ (FitsSigned w128 n)
IsTooWide _ = ⊥

-- what a call may answer, by cases on the answer
abbrev pub Answers : Result Value OpFault → Outcome → Type 0
Answers (Ok v) outcome = (outcome ≡ Ok (value_view v)) × IsHeld (value_view v)
Answers (Err WrongKind) outcome = outcome ≡ Err wrong_kind
Answers (Err Zero) outcome = outcome ≡ Err zero_divisor
Answers (Err Range) outcome = outcome ≡ Err out_of_range
Answers (Err Number) outcome = IsTooWide outcome
Answers (Err Memory) outcome = Unit {0}

-- the outcome is a value that the code can hold
abbrev pub IsHeldOutcome : Outcome → Type 0
IsHeldOutcome (Ok v) = IsHeld v
IsHeldOutcome (Err fault) = ⊥

-- each answer comes exactly at its outcome
pub record IsExact (answer : Result Value OpFault) (outcome : Outcome) : Type 0 where
  pub value : IsOk answer ↔ IsHeldOutcome outcome
  pub kinds : (answer ≡ Err WrongKind) ↔ (outcome ≡ Err wrong_kind)
  pub zero : (answer ≡ Err Zero) ↔ (outcome ≡ Err zero_divisor)
  pub range : (answer ≡ Err Range) ↔ (outcome ≡ Err out_of_range)
  pub number : (answer ≡ Err Number) ↔ IsTooWide outcome

abbrev pub AnswersAreExact : Type 0
AnswersAreExact =
    (answer : Result Value OpFault) (outcome : Outcome) → Answers answer outcome → ¬ (answer ≡ Err Memory) → IsExact answer outcome
