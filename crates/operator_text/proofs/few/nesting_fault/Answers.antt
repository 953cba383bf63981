use Rattle.std.proofs.Common.{refl, arith}
use Rattle.gil_grammar.specs.Nesting.{IsNested}
use Rattle.operator_text.specs.Few.{AreFewFrom}
use Rattle.operator_text.proofs.TwoFaults.{only_brackets, only_operators, brackets_earlier, operators_earlier, some_fault, no_fault}
use Rattle.operator_text.proofs.few.nesting_fault.Goals as goal

pub returns-then-brackets-operators-clause-some : goal.returns-then-brackets-operators-clause-some
returns-then-brackets-operators-clause-some c =
    operators_earlier c.args.cursor c.in-Some-Some.brackets c.in-Some-Some.operators
    (some_fault IsNested c.nesting_fault.result c.in-Some-Some.brackets c.args.cursor c.args.cursor refl c.in-Some-Some.is-0 c.nesting_fault.ensures.some)
    (some_fault (AreFewFrom 0) c.operator_fault-operators.result c.in-Some-Some.operators c.args.cursor c.copy.result c.copy.ensures c.in-Some-Some.is-1 c.operator_fault-operators.ensures.some)
    (omega (arith, c.if-brackets-operators.true))

pub returns-else-brackets-operators-clause-some : goal.returns-else-brackets-operators-clause-some
returns-else-brackets-operators-clause-some c =
    brackets_earlier c.args.cursor c.in-Some-Some.brackets c.in-Some-Some.operators
    (some_fault IsNested c.nesting_fault.result c.in-Some-Some.brackets c.args.cursor c.args.cursor refl c.in-Some-Some.is-0 c.nesting_fault.ensures.some)
    (some_fault (AreFewFrom 0) c.operator_fault-operators.result c.in-Some-Some.operators c.args.cursor c.copy.result c.copy.ensures c.in-Some-Some.is-1 c.operator_fault-operators.ensures.some)
    (omega (arith, c.if-brackets-operators.false))

pub returns-in-Some-None-clause-some : goal.returns-in-Some-None-clause-some
returns-in-Some-None-clause-some c =
    only_brackets c.args.cursor c.in-Some-None.brackets
    (some_fault IsNested c.nesting_fault.result c.in-Some-None.brackets c.args.cursor c.args.cursor refl c.in-Some-None.is-0 c.nesting_fault.ensures.some)
    (no_fault (AreFewFrom 0) c.operator_fault-operators.result c.args.cursor c.copy.result c.copy.ensures c.in-Some-None.is-1 c.operator_fault-operators.ensures.none)

pub returns-in-None-Some-clause-some : goal.returns-in-None-Some-clause-some
returns-in-None-Some-clause-some c =
    only_operators c.args.cursor c.in-None-Some.operators
    (some_fault (AreFewFrom 0) c.operator_fault-operators.result c.in-None-Some.operators c.args.cursor c.copy.result c.copy.ensures c.in-None-Some.is-1 c.operator_fault-operators.ensures.some)
    (no_fault IsNested c.nesting_fault.result c.args.cursor c.args.cursor refl c.in-None-Some.is-0 c.nesting_fault.ensures.none)
