-- Other names for symbols.
use Rattle.std.specs.Prelude.{◌≡◌, ℕ, List}
use Rattle.std.specs.List.{Contains}
use Rattle.gil_values.specs.Pure.{PureValue, integer, boolean, text, symbol, kind, procedure, list, PureValues, no_values, value_and}

-- the value with each symbol given another number
abbrev mutual
  pub renamed : (ℕ → ℕ) → PureValue → PureValue
  renamed f (symbol n) = symbol (f n)
  renamed f (list vs) = list (renamed_elements f vs)
  renamed f (integer n) = integer n
  renamed f (boolean b) = boolean b
  renamed f (text cs) = text cs
  renamed f (kind k) = kind k
  renamed f (procedure name) = procedure name

  pub renamed_elements : (ℕ → ℕ) → PureValues → PureValues
  renamed_elements f no_values = no_values
  renamed_elements f (value_and v vs) = value_and (renamed f v) (renamed_elements f vs)

-- different symbols of the list stay different
abbrev pub IsOneToOneOn : List ℕ → (ℕ → ℕ) → Type 0
IsOneToOneOn ns f = (m n : ℕ) → Contains ns m → Contains ns n → f m ≡ f n → m ≡ n
