-- What a value is: pure data, without addresses and capacities.
use Rattle.std.specs.Prelude.{◌≡◌, ℕ, suc, ◌+◌, ℤ, List, [], ◌∷◌, Bool, refl}
use Rattle.std.proofs.Common.{ap}
use Rattle.gil_values.specs.declared.kinds.Kind.{Kind}
use Rattle.gil_values.specs.declared.kinds.Kind.TheVariants.{Int, Bool as Boolean, Str, Sym, Kind as OfKinds, Proc, List as OfLists}

-- Whole numbers have no range here. A text and a procedure's name are their characters, a symbol is its number.
mutual
  pub data PureValue : Type 0 where
    integer : ℤ → PureValue
    boolean : Bool → PureValue
    text : List ℕ → PureValue
    symbol : ℕ → PureValue
    kind : Kind → PureValue
    procedure : List ℕ → PureValue
    list : PureValues → PureValue

  pub data PureValues : Type 0 where
    no_values : PureValues
    value_and : PureValue → PureValues → PureValues

-- a list of values as the elements of a list value, and back
abbrev pub from_list : List PureValue → PureValues
from_list [] = no_values
from_list (v ∷ vs) = value_and v (from_list vs)

abbrev pub to_list : PureValues → List PureValue
to_list no_values = []
to_list (value_and v vs) = v ∷ to_list vs

pub to_list-from_list : (vs : List PureValue) → to_list (from_list vs) ≡ vs
to_list-from_list [] = refl
to_list-from_list (v ∷ vs) = ap (λ rest. v ∷ rest) (to_list-from_list vs)

pub from_list-to_list : (vs : PureValues) → from_list (to_list vs) ≡ vs
from_list-to_list no_values = refl
from_list-to_list (value_and v vs) = ap (value_and v) (from_list-to_list vs)

-- the kind of a value
abbrev pub kind_of : PureValue → Kind
kind_of (integer n) = Int
kind_of (boolean b) = Boolean
kind_of (text cs) = Str
kind_of (symbol n) = Sym
kind_of (kind k) = OfKinds
kind_of (procedure name) = Proc
kind_of (list vs) = OfLists

-- how many values a value holds, itself included
abbrev mutual
  pub value_size : PureValue → ℕ
  value_size (list vs) = suc (values_size vs)
  value_size _ = 1

  pub values_size : PureValues → ℕ
  values_size no_values = 0
  values_size (value_and v vs) = value_size v + values_size vs
