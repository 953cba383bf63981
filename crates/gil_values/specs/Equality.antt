-- Equality of values: of one kind, and then of what they hold. Lists are equal where they are so element by element.
use Rattle.std.specs.Prelude.{◌≡◌, ◌↔◌, IsTrue, ℕ, List, Bool, true, false, ◌&&◌, nat_eq}
use Rattle.std.specs.Ordering.{int_eq}
use Rattle.std.specs.Str.{bytes_eq}
use Rattle.gil_values.specs.declared.kinds.Kind.{Kind}
use Rattle.gil_values.specs.declared.kinds.Kind.TheVariants.{Int, Bool as Boolean, Str, Sym, Kind as OfKinds, Proc, List as OfLists, Undef, Null}
use Rattle.gil_values.specs.Pure.{PureValue, integer, boolean, text, symbol, kind, procedure, list, PureValues, no_values, value_and, from_list}

-- the kinds in their order
abbrev pub kind_number : Kind → ℕ
kind_number Int = 0
kind_number Boolean = 1
kind_number Str = 2
kind_number Sym = 3
kind_number OfKinds = 4
kind_number Proc = 5
kind_number OfLists = 6
kind_number Undef = 7
kind_number Null = 8

abbrev pub same_kind : Kind → Kind → Bool
same_kind k l = nat_eq (kind_number k) (kind_number l)

abbrev pub same_boolean : Bool → Bool → Bool
same_boolean true b = b
same_boolean false true = false
same_boolean false false = true

abbrev mutual
  pub same_value : PureValue → PureValue → Bool
  same_value (integer m) (integer n) = int_eq m n
  same_value (boolean a) (boolean b) = same_boolean a b
  same_value (text s) (text t) = bytes_eq s t
  same_value (symbol m) (symbol n) = nat_eq m n
  same_value (kind k) (kind l) = same_kind k l
  same_value (procedure f) (procedure g) = bytes_eq f g
  same_value (list vs) (list ws) = same_values vs ws
  same_value _ _ = false

  pub same_values : PureValues → PureValues → Bool
  same_values no_values no_values = true
  same_values (value_and v vs) (value_and w ws) = same_value v w && same_values vs ws
  same_values _ _ = false

-- two lists are the same where they are so element by element
abbrev pub same_elements : List PureValue → List PureValue → Bool
same_elements vs ws = same_values (from_list vs) (from_list ws)

-- Values are equal exactly where they are the same pure data.
abbrev pub EqualityIsIdentity : Type 0
EqualityIsIdentity = (v w : PureValue) → IsTrue (same_value v w) ↔ (v ≡ w)
