-- The symbols of values: which occur in one, and which numbers lie above all of them. Symbols are the uninterpreted
-- symbols of Gillian, Part I (PLDI 2020); a symbol is its number.
use Rattle.std.specs.Prelude.{ℕ, ◌<◌, List, [], ◌∷◌, ◌++◌, Contains}
use Rattle.gil_values.specs.Pure.{PureValue, integer, boolean, text, symbol, kind, procedure, list, PureValues, no_values, value_and}

abbrev mutual
  pub symbols : PureValue → List ℕ
  symbols (symbol n) = n ∷ []
  symbols (list vs) = symbols_of_elements vs
  symbols (integer n) = []
  symbols (boolean b) = []
  symbols (text cs) = []
  symbols (kind k) = []
  symbols (procedure name) = []

  pub symbols_of_elements : PureValues → List ℕ
  symbols_of_elements no_values = []
  symbols_of_elements (value_and v vs) = symbols v ++ symbols_of_elements vs

abbrev pub symbols_of_all : List PureValue → List ℕ
symbols_of_all [] = []
symbols_of_all (v ∷ vs) = symbols v ++ symbols_of_all vs

-- the symbol occurs in the value, or in some value of the list
abbrev pub OccursIn : ℕ → PureValue → Type 0
OccursIn n v = Contains (symbols v) n

abbrev pub OccursAmong : ℕ → List PureValue → Type 0
OccursAmong n vs = Contains (symbols_of_all vs) n

-- each symbol in the value, or in some value of the list, is below the counter
abbrev pub IsBelow : ℕ → PureValue → Type 0
IsBelow counter v = (n : ℕ) → OccursIn n v → n < counter

abbrev pub AreBelow : ℕ → List PureValue → Type 0
AreBelow counter vs = (n : ℕ) → OccursAmong n vs → n < counter
