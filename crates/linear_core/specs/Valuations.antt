-- Valuations with the numbers that nodes got.
use Rattle.std.specs.Prelude.{ℕ, ◌+◌, ℤ, ◌-ℤ◌, List, [], ◌∷◌, false}
use Rattle.gil_values.specs.Pure.{PureValue, integer, boolean, text, symbol, list, no_values}
use Rattle.pure_terms.specs.declared.variables.Sort.{Sort}
use Rattle.linear_core.specs.declared.walks.Reach.{Reach}
use Rattle.linear_core.specs.Walks.{number_at}

-- the number of a variable is counted from that of the node 0
abbrev pub counted : List Reach → ℕ → ℤ
counted reaches x = number_at reaches (x + 1) -ℤ number_at reaches 0

-- the value of a variable: its number, or some value of its sort; a symbol has the number of its variable
abbrev pub value_for : ℤ → ℕ → Sort → PureValue
value_for n x Sort.Int = integer n
value_for n x Sort.Bool = boolean false
value_for n x Sort.Str = text []
value_for n x Sort.Sym = symbol x
value_for n x Sort.Fresh = symbol x
value_for n x Sort.List = list no_values
value_for n x Sort.Any = boolean false

-- the values of the variables from x on
abbrev pub values_from : List Reach → ℕ → List Sort → List PureValue
values_from reaches x [] = []
values_from reaches x (s ∷ ss) = value_for (counted reaches x) x s ∷ values_from reaches (x + 1) ss
