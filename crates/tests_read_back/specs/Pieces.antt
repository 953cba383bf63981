-- Pieces of bytes that stand behind one another.
use Rattle.std.specs.Prelude.{◌≡◌, ℕ, List, ◌++◌, length, Some, codes, IsTrue}
use Rattle.std.specs.Char.{is_ascii_digit}
use Rattle.std.specs.List.{list_all}
use Rattle.std.specs.Str.Parse.{digits_value}
use Rattle.gil_values.specs.Printed.{numeral}
use Rattle.value_text.specs.Reading.{Reading}

-- the bytes are digits that write how many bytes the piece has, a line feed, the piece and the rest
abbrev pub IsPiece : List ℕ → List ℕ → List ℕ → Type 0
IsPiece bytes piece rest =
    (digits : List ℕ) × IsTrue (list_all is_ascii_digit digits) × (digits_value 10 digits ≡ length piece)
    × (bytes ≡ digits ++ (codes "\n" ++ piece ++ rest))

-- the bytes are the numeral of how many bytes the piece has, a line feed, the piece and the rest
abbrev pub IsWritten : List ℕ → List ℕ → List ℕ → Type 0
IsWritten bytes piece rest = bytes ≡ numeral (length piece) ++ (codes "\n" ++ piece ++ rest)

abbrev pub split : List ℕ → List ℕ → Reading (List ℕ)
split piece rest = Some (piece, rest)
