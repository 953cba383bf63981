-- The text in While that a sweep of a size tests: a program that asserts each number from 1 to the size once, of a value that it draws,
-- writes to a record and reads again.
use Rattle.std.specs.Prelude.{◌≡◌, ℕ, ◌+◌, ◌-◌, ◌*◌, ◌/◌, min, List, [], ◌∷◌, ◌++◌, codes}
use Rattle.std.specs.List.{flat_map, range_with_len}
use Rattle.gil_values.specs.Printed.{numeral}

-- each line ends with LF
abbrev pub line : List ℕ → List ℕ
line characters = characters ++ 10 ∷ []

-- a line with a number in it
abbrev pub numbered_line : List ℕ → ℕ → List ℕ → List ℕ
numbered_line before number behind = line (before ++ numeral number ++ behind)

-- ---- functions

-- a function asserts 50 numbers, and the last one what is left of them
abbrev pub functions : ℕ → List ℕ
functions size = range_with_len 0 ((size + 49) / 50)

abbrev pub asserted : ℕ → ℕ → List ℕ
asserted size function = range_with_len (50 * function + 1) (min 50 (size - 50 * function))

-- ---- lines

-- draws a value, and takes it to be the number
abbrev pub drawn_lines : ℕ → List ℕ
drawn_lines number =
    line (codes "x = input int;") ++ numbered_line (codes "assume((") number (codes " <= x));")
    ++ numbered_line (codes "assume((x <= ") number (codes "));")

-- writes the value to the record, reads it again, and asserts that it is the number
abbrev pub kept_lines : ℕ → List ℕ
kept_lines number =
    line (codes "a.v = x;") ++ line (codes "y = a.v;") ++ numbered_line (codes "assert((y = ") number (codes "));")

abbrev pub assertion_lines : ℕ → List ℕ
assertion_lines number = drawn_lines number ++ kept_lines number

abbrev pub call_line : ℕ → List ℕ
call_line function = numbered_line (codes "r = w") function (codes "(a);")

-- what stands behind the statements of a function
abbrev pub end_lines : List ℕ
end_lines = line (codes "return 0;") ++ line (codes "}")

-- makes the record and hands it to each function in turn
abbrev pub main_lines : ℕ → List ℕ
main_lines size =
    line (codes "func main() {") ++ line (codes "a = new {v: 0};") ++ flat_map call_line (functions size) ++ end_lines

abbrev pub function_lines : ℕ → ℕ → List ℕ
function_lines size function =
    numbered_line (codes "func w") function (codes "(a) {") ++ flat_map assertion_lines (asserted size function) ++ end_lines

unfoldable pub made_text : ℕ → List ℕ
made_text size = main_lines size ++ flat_map (function_lines size) (functions size)

-- the numbers that the functions assert are those from 1 to the size, each once and in their order
abbrev pub AssertsEachOnce : Type 0
AssertsEachOnce = (size : ℕ) → flat_map (asserted size) (functions size) ≡ range_with_len 1 size
