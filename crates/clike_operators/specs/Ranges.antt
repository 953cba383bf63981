-- The range of whole numbers, and which values are false.
use Rattle.std.specs.Prelude.{ℕ, ℤ, pos, negsuc, Bool, ◌&&◌, ◌||◌, int_le, if◌then◌else◌, codes}
use Rattle.gil_values.specs.declared.kinds.Kind.TheVariants.{Null}
use Rattle.gil_values.specs.declared.places.Place.{Place}
use Rattle.gil_values.specs.Equality.{same_value}
use Rattle.gil_values.specs.Pure.{PureValue, integer, text, kind}
use Rattle.gil_machine.specs.State.{vanished}
use Rattle.source_language.specs.Completions.{Situation, Completion, over, end_of, fails}
use Rattle.source_operators.specs.Operands.{Then}
use Rattle.clike_operators.specs.declared.pieces.Beyond.{Beyond}
use Rattle.clike_operators.specs.declared.pieces.Beyond.TheVariants.{Overflows, Vanishes}

-- the greatest `int`, 2^31 - 1, and the least one, -2^31
abbrev pub greatest : ℤ
greatest = pos 2147483647

abbrev pub least : ℤ
least = negsuc 2147483647

abbrev pub is_int : ℤ → Bool
is_int n = int_le n greatest && int_le least n

-- where a number out of range leads
abbrev pub beyond : Beyond → Place → Situation → Completion
beyond Overflows here s = fails (text (codes "overflow")) here s
beyond Vanishes here s = over (end_of vanished s)

-- what is done with a number in range; another one leads beyond, and another value fails
abbrev pub ranged : PureValue → Beyond → Place → Situation → Then → Completion
ranged (integer n) out here s go = if is_int n then go (integer n) s else beyond out here s
ranged _ out here s go = fails (text (codes "type")) here s

abbrev pub number : ℕ → PureValue
number n = integer (pos n)

-- 0 and NULL are false, and no other value
abbrev pub is_false : PureValue → Bool
is_false v = same_value v (number 0) || same_value v (kind Null)
