-- What was printed is read again, whatever follows that is no part of it.
use Rattle.std.specs.Prelude.{◌≡◌, ℕ, false, List, ◌++◌, length, Some}
use Rattle.gil_values.specs.Pure.{PureValue}
use Rattle.gil_values.specs.Printed.{printed_value}
use Rattle.gil_lexer.specs.Bytes.{begins, is_name_byte}
use Rattle.value_text.specs.Reading.{value_at}
use Rattle.value_text.specs.Writable.{IsWritableValue}

-- no byte of a name or a number follows
abbrev pub EndsWord : List ℕ → Type 0
EndsWord rest = begins is_name_byte rest ≡ false

-- A writable value that was printed is read again.
abbrev pub ValuesAgain : Type 0
ValuesAgain =
    (v : PureValue) (rest : List ℕ) → IsWritableValue v → EndsWord rest
    → value_at (length (printed_value v ++ rest)) (printed_value v ++ rest) ≡ Some (v, rest)

-- What is read as a value, within any depth of lists, is writable.
abbrev pub OnlyWritable : Type 0
OnlyWritable = (n : ℕ) (bytes : List ℕ) (v : PureValue) (rest : List ℕ) → value_at n bytes ≡ Some (v, rest) → IsWritableValue v
