-- Terms of the fragment whose values are read off a valuation, without a value that is made anew.
use Rattle.std.specs.Prelude.{ℤ, ◌+ℤ◌, ◌-ℤ◌, int_lt, int_le, List, slice_get, Bool, true, false, ◌&&◌, if◌then◌else◌, Option, Some, None, IsTrue}
use Rattle.std.specs.Option.{is_some, option_map}
use Rattle.std.specs.List.{list_all}
use Rattle.gil_values.specs.declared.kinds.Kind.{Kind}
use Rattle.gil_values.specs.declared.operators.UnOp.{UnOp}
use Rattle.gil_values.specs.declared.operators.BinOp.{BinOp}
use Rattle.gil_values.specs.Equality.{same_kind, same_value}
use Rattle.gil_values.specs.Pure.{PureValue, integer, boolean, list, kind_of, PureValues, no_values, value_and}
use Rattle.pure_terms.specs.declared.literals.Literal.{Literal}
use Rattle.pure_terms.specs.declared.variables.Sort.{Sort}
use Rattle.pure_terms.specs.Deciding.{has_moderate_numbers}
use Rattle.pure_terms.specs.Fragment.{has_fragment_form, has_narrow_literals}
use Rattle.pure_terms.specs.Meaning.{literal_value, IsProper, IsOver}
use Rattle.pure_terms.specs.Numbers.{is_held}
use Rattle.pure_terms.specs.Pure.{PureTerm, literal, variable, list_of, unary_of, binary_of, PureTerms, no_terms, term_and, PureAtom, term_of}

-- ---- whole numbers

abbrev pub integer_in : Option PureValue → Option ℤ
integer_in (Some (integer n)) = Some n
integer_in _ = None

-- the number, where the code can hold it
abbrev pub held : ℤ → Option ℤ
held n = if is_held n then Some n else None

abbrev pub shifted : BinOp → Option ℤ → Option ℤ → Option ℤ
shifted BinOp.Add (Some m) (Some n) = held (m +ℤ n)
shifted BinOp.Subtract (Some m) (Some n) = held (m -ℤ n)
shifted _ _ _ = None

-- the number that a literal or a variable is, or one plus or minus another
abbrev pub number_at : List PureValue → PureTerm → Option ℤ
number_at v (literal (Literal.Int n)) = Some n
number_at v (variable x) = integer_in (slice_get v x.number)
number_at v (binary_of op s t) = shifted op (number_at v s) (number_at v t)
number_at v _ = None

-- ---- simple terms

-- each variable has a value, and each number that is made is one that the code can hold
abbrev mutual
  pub is_readable : List PureValue → PureTerm → Bool
  is_readable v (literal l) = true
  is_readable v (variable x) = is_some (slice_get v x.number)
  is_readable v (list_of ts) = are_readable v ts
  is_readable v (unary_of op t) = false
  is_readable v (binary_of op s t) = is_some (number_at v (binary_of op s t))

  pub are_readable : List PureValue → PureTerms → Bool
  are_readable v no_terms = true
  are_readable v (term_and t ts) = is_readable v t && are_readable v ts

abbrev pub is_number : Option ℤ → PureValue → Bool
is_number (Some n) w = same_value (integer n) w
is_number None w = false

abbrev pub is_same : Option PureValue → PureValue → Bool
is_same (Some u) w = same_value u w
is_same None w = false

-- the term has this value
abbrev mutual
  pub is_at : List PureValue → PureTerm → PureValue → Bool
  is_at v (literal l) w = same_value (literal_value l) w
  is_at v (variable x) w = is_same (slice_get v x.number) w
  is_at v (list_of ts) (list ws) = are_at v ts ws
  is_at v (list_of ts) w = false
  is_at v (unary_of op t) w = false
  is_at v (binary_of op s t) w = is_number (number_at v (binary_of op s t)) w

  pub are_at : List PureValue → PureTerms → PureValues → Bool
  are_at v no_terms no_values = true
  are_at v (term_and t ts) (value_and w ws) = is_at v t w && are_at v ts ws
  are_at v _ _ = false

abbrev pub is_at_some : List PureValue → PureTerm → Option PureValue → Bool
is_at_some v t (Some w) = is_at v t w
is_at_some v t None = false

abbrev pub is_at_number : List PureValue → PureTerm → Option ℤ → Bool
is_at_number v t (Some n) = is_at v t (integer n)
is_at_number v t None = false

-- the terms have the same value
abbrev mutual
  pub are_same : List PureValue → PureTerm → PureTerm → Bool
  are_same v (list_of ss) (list_of ts) = lists_are_same v ss ts
  are_same v (list_of ss) (variable x) = is_at_some v (list_of ss) (slice_get v x.number)
  are_same v (list_of ss) t = false
  are_same v (literal l) t = is_at v t (literal_value l)
  are_same v (variable x) t = is_at_some v t (slice_get v x.number)
  are_same v (unary_of op s) t = false
  are_same v (binary_of op r s) t = is_at_number v t (number_at v (binary_of op r s))

  pub lists_are_same : List PureValue → PureTerms → PureTerms → Bool
  lists_are_same v no_terms no_terms = true
  lists_are_same v (term_and s ss) (term_and t ts) = are_same v s t && lists_are_same v ss ts
  lists_are_same v _ _ = false

-- ---- terms of the fragment

abbrev pub boolean_in : Option PureValue → Option Bool
boolean_in (Some (boolean b)) = Some b
boolean_in _ = None

-- whether the value of a variable has this kind
abbrev pub is_kind_at : List PureValue → PureTerm → Kind → Option Bool
is_kind_at v (variable x) k = option_map (λ w. same_kind (kind_of w) k) (slice_get v x.number)
is_kind_at v _ k = None

abbrev pub kind_at : List PureValue → PureTerm → PureTerm → Option Bool
kind_at v (unary_of UnOp.Kind t) (literal (Literal.Kind k)) = is_kind_at v t k
kind_at v _ _ = None

abbrev pub equal_at : List PureValue → PureTerm → PureTerm → Option Bool
equal_at v s t = if is_readable v s && is_readable v t then Some (are_same v s t) else None

abbrev pub either_truth : Option Bool → Option Bool → Option Bool
either_truth (Some b) o = Some b
either_truth None o = o

abbrev pub ordered : BinOp → Option ℤ → Option ℤ → Option Bool
ordered BinOp.Less (Some m) (Some n) = Some (int_lt m n)
ordered BinOp.LessOrEqual (Some m) (Some n) = Some (int_le m n)
ordered _ _ _ = None

abbrev pub compared_at : List PureValue → BinOp → PureTerm → PureTerm → Option Bool
compared_at v BinOp.Equal s t = either_truth (kind_at v s t) (equal_at v s t)
compared_at v op s t = ordered op (number_at v s) (number_at v t)

-- the truth of a Bool variable, of an equality, of an order and of a test of a kind
abbrev pub truth_at : List PureValue → PureTerm → Option Bool
truth_at v (variable x) = boolean_in (slice_get v x.number)
truth_at v (binary_of op s t) = compared_at v op s t
truth_at v _ = None

-- The atom is one of the fragment, and the valuation is proper for a table with its variables and has numbers from -2^125 to
-- 2^125 alone.
pub record IsModerate (v : List PureValue) (a : PureAtom) : Type 0 where
  pub vars : List Sort
  pub proper : IsProper vars v
  pub over : IsOver vars (term_of a)
  pub form : IsTrue (has_fragment_form a)
  pub literals : IsTrue (has_narrow_literals a)
  pub numbers : IsTrue (list_all has_moderate_numbers v)
