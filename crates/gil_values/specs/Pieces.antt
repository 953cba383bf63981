-- Printed places and lists of values.
use Rattle.std.specs.Prelude.{ℕ, zero, suc, List, [], ◌++◌, codes}
use Rattle.gil_values.specs.Pure.{PureValue, list, from_list}
use Rattle.gil_values.specs.Printed.{numeral, printed_value}
use Rattle.gil_values.specs.declared.places.Place.{Place}

-- `main:4`
abbrev pub printed_place : Place → List ℕ
printed_place p = p.proc ++ codes ":" ++ numeral p.at

-- values in brackets, as a list value is printed
abbrev pub printed_list : List PureValue → List ℕ
printed_list vs = printed_value (list (from_list vs))

-- what stands before an element of a printed list, by its number: the separator, but nothing before the first
abbrev pub separator_before : List ℕ → ℕ → List ℕ
separator_before separator zero = []
separator_before separator (suc index) = separator
