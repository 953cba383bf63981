-- The printed form of a value, as reports write it and, but for symbols, as programs spell it.
use Rattle.std.specs.Prelude.{◌≡◌, ℕ, zero, suc, ◌+◌, ◌<◌, ℤ, pos, negsuc, Bool, true, false, List, [], ◌∷◌, ◌++◌, map, slice_get, Some, ◌==◌, if◌then◌else◌, codes}
use Rattle.std.specs.Int.Digits.{digits_of}
use Rattle.std.specs.List.{flat_map, join_by}
use Rattle.std.specs.Str.Parse.{digits_value}
use Rattle.gil_values.specs.declared.kinds.Kind.{Kind}
use Rattle.gil_values.specs.declared.kinds.Kind.TheVariants.{Int, Bool as Boolean, Str, Sym, Kind as OfKinds, Proc, List as OfLists, Undef, Null}
use Rattle.gil_values.specs.Pure.{PureValue, integer, boolean, text, symbol, kind, procedure, list, PureValues, no_values, value_and}

abbrev pub kind_name : Kind → List ℕ
kind_name Int = codes "Int"
kind_name Boolean = codes "Bool"
kind_name Str = codes "Str"
kind_name Sym = codes "Sym"
kind_name OfKinds = codes "Kind"
kind_name Proc = codes "Proc"
kind_name OfLists = codes "List"
kind_name Undef = codes "Undef"
kind_name Null = codes "Null"

abbrev pub truth_name : Bool → List ℕ
truth_name true = codes "true"
truth_name false = codes "false"

-- a character within a text literal: \" for a double quote, \\ for a backslash, \n for LF, any other as itself
abbrev pub literal_character : ℕ → List ℕ
literal_character c = if c == 34 then codes "\\\"" else (if c == 92 then codes "\\\\" else (if c == 10 then codes "\\n" else c ∷ []))

-- a text between double quotes
abbrev pub text_literal : List ℕ → List ℕ
text_literal cs = codes "\"" ++ flat_map literal_character cs ++ codes "\""

-- the decimal digits of a number of any size, the most significant first, and `0` for 0
unfoldable pub numeral : ℕ → List ℕ
numeral zero = codes "0"
numeral (suc n) = map (λ digit. 48 + digit) (digits_of 10 (suc n))

-- with a minus sign where the number is negative
abbrev pub signed_numeral : ℤ → List ℕ
signed_numeral (pos n) = numeral n
signed_numeral (negsuc n) = codes "-" ++ numeral (suc n)

abbrev mutual
  pub printed_value : PureValue → List ℕ
  printed_value (integer n) = signed_numeral n
  printed_value (boolean b) = truth_name b
  printed_value (text cs) = text_literal cs
  printed_value (symbol n) = codes "$" ++ numeral n
  printed_value (kind k) = kind_name k
  printed_value (procedure name) = codes "@" ++ name
  printed_value (list vs) = codes "[" ++ join_by (λ printed. printed) (codes ", ") (printed_values vs) ++ codes "]"

  pub printed_values : PureValues → List (List ℕ)
  printed_values no_values = []
  printed_values (value_and v vs) = printed_value v ∷ printed_values vs

-- A numeral is that of its number: its digits write the number, and the first of them isn't 0 but for 0 itself.
pub record NumeralsTell : Type 0 where
  pub value : (n : ℕ) → digits_value 10 (numeral n) ≡ n
  pub leading : (n : ℕ) → 0 < n → ¬ (slice_get (numeral n) 0 ≡ Some 48)

-- Two whole numbers that are printed alike are the same, and so are two symbols.
pub record PrintingTellsNumbers : Type 0 where
  pub integers : (m n : ℤ) → printed_value (integer m) ≡ printed_value (integer n) → m ≡ n
  pub symbols : (m n : ℕ) → printed_value (symbol m) ≡ printed_value (symbol n) → m ≡ n
