-- Values of which it is easy to see that they are proper.
use Rattle.std.specs.Prelude.{◌≡◌, ℕ, ◌^◌, pos, neg_ℤ, List, length, slice_get, Bool, true, false, ◌&&◌, if◌then◌else◌, Some, nat_eq, nat_le}
use Rattle.gil_values.specs.Pure.{PureValue, integer, boolean, text, symbol, kind, procedure, list}
use Rattle.pure_terms.specs.declared.variables.Sort.{Sort}
use Rattle.pure_terms.specs.Kinds.{has_sort, same_sort}
use Rattle.pure_terms.specs.Numbers.{is_between}

-- a number from -2^125 to 2^125, a symbol that isn't above the variable's number, or a value without numbers and symbols
abbrev pub is_tame : ℕ → PureValue → Bool
is_tame x (integer n) = is_between (neg_ℤ (pos (2 ^ 125))) (pos (2 ^ 125)) n
is_tame x (symbol n) = nat_le n x
is_tame x (list vs) = false
is_tame x (boolean b) = true
is_tame x (text cs) = true
is_tame x (kind k) = true
is_tame x (procedure name) = true

-- the symbol with the variable's number
abbrev pub is_own_symbol : ℕ → PureValue → Bool
is_own_symbol x (symbol n) = nat_eq n x
is_own_symbol x w = false

-- such a value of the sort; that of a Fresh variable is its own symbol
abbrev pub is_tame_for : ℕ → Sort → PureValue → Bool
is_tame_for x s w = has_sort s w && (if same_sort s Sort.Fresh then is_own_symbol x w else is_tame x w)

-- there is such a value for each variable
pub record AreTame (vars : List Sort) (v : List PureValue) : Type 0 where
  pub one_each : length v ≡ length vars
  pub each : (x : ℕ) (s : Sort) (w : PureValue) → slice_get vars x ≡ Some s → slice_get v x ≡ Some w → is_tame_for x s w ≡ true
