-- The operator table, on whole numbers without range: a value, or the fault that a failing run ends with.
-- Kinds are tested first, and then zero or the range of a list. Gillian, Part I, leaves the operators open; division
-- truncates towards zero and the remainder has the dividend's sign, as in ISO/IEC 9899:2011, 6.5.5.
use Rattle.std.specs.Prelude.{ℕ, ℤ, pos, negsuc, neg_ℤ, ◌+ℤ◌, ◌-ℤ◌, ◌*ℤ◌, int_div, int_rem, int_lt, int_le, List, ◌++◌, length, slice_get, Bool, not, ◌&&◌, ◌||◌, if◌then◌else◌, Option, Some, None, Result, Ok, Err, codes}
use Rattle.std.specs.Ordering.{int_eq}
use Rattle.gil_values.specs.declared.operators.UnOp.{UnOp}
use Rattle.gil_values.specs.declared.operators.UnOp.TheVariants.{Not, Neg, Len, Kind}
use Rattle.gil_values.specs.declared.operators.BinOp.{BinOp}
use Rattle.gil_values.specs.declared.operators.BinOp.TheVariants.{Add, Subtract, Multiply, Divide, Remainder, Equal, Less, LessOrEqual, And, Or, Append, Nth}
use Rattle.gil_values.specs.Pure.{PureValue, integer, boolean, text, kind, list, from_list, to_list, kind_of}
use Rattle.gil_values.specs.Equality.{same_value}

-- why an expression has no value
pub data Fault : Type 0 where
  wrong_kind : Fault
  zero_divisor : Fault
  out_of_range : Fault
  unset_variable : Fault

-- the text that a run fails with
abbrev pub fault_text : Fault → List ℕ
fault_text wrong_kind = codes "type"
fault_text zero_divisor = codes "zero"
fault_text out_of_range = codes "range"
fault_text unset_variable = codes "unset"

abbrev pub Outcome : Type 0
Outcome = Result PureValue Fault

-- what an operator of two whole numbers does at any two values, and the same of booleans
abbrev pub on_integers : (ℤ → ℤ → Outcome) → PureValue → PureValue → Outcome
on_integers f (integer m) (integer n) = f m n
on_integers f _ _ = Err wrong_kind

abbrev pub on_booleans : (Bool → Bool → Outcome) → PureValue → PureValue → Outcome
on_booleans f (boolean a) (boolean b) = f a b
on_booleans f _ _ = Err wrong_kind

-- a division has no value where the divisor is 0
abbrev pub unless_zero : (ℤ → ℤ → ℤ) → ℤ → ℤ → Outcome
unless_zero f m n = if int_eq n (pos 0) then Err zero_divisor else Ok (integer (f m n))

-- the joined texts or lists
abbrev pub appended : PureValue → PureValue → Outcome
appended (text s) (text t) = Ok (text (s ++ t))
appended (list vs) (list ws) = Ok (list (from_list (to_list vs ++ to_list ws)))
appended _ _ = Err wrong_kind

abbrev pub element_or_fault : Option PureValue → Outcome
element_or_fault (Some v) = Ok v
element_or_fault None = Err out_of_range

-- the element of a list at a whole number, counted from 0
abbrev pub element_at : List PureValue → ℤ → Outcome
element_at vs (pos i) = element_or_fault (slice_get vs i)
element_at vs (negsuc i) = Err out_of_range

abbrev pub element : PureValue → PureValue → Outcome
element (list vs) (integer i) = element_at (to_list vs) i
element _ _ = Err wrong_kind

abbrev pub negation : PureValue → Outcome
negation (boolean b) = Ok (boolean (not b))
negation _ = Err wrong_kind

abbrev pub opposite : PureValue → Outcome
opposite (integer n) = Ok (integer (neg_ℤ n))
opposite _ = Err wrong_kind

abbrev pub size : PureValue → Outcome
size (text s) = Ok (integer (pos (length s)))
size (list vs) = Ok (integer (pos (length (to_list vs))))
size _ = Err wrong_kind

-- the table: operators of one value
abbrev pub unary : UnOp → PureValue → Outcome
unary Not v = negation v
unary Neg v = opposite v
unary Len v = size v
unary Kind v = Ok (kind (kind_of v))

-- the table: operators of two values
abbrev pub binary : BinOp → PureValue → PureValue → Outcome
binary Add v w = on_integers (λ m n. Ok (integer (m +ℤ n))) v w
binary Subtract v w = on_integers (λ m n. Ok (integer (m -ℤ n))) v w
binary Multiply v w = on_integers (λ m n. Ok (integer (m *ℤ n))) v w
binary Divide v w = on_integers (unless_zero int_div) v w
binary Remainder v w = on_integers (unless_zero int_rem) v w
binary Equal v w = Ok (boolean (same_value v w))
binary Less v w = on_integers (λ m n. Ok (boolean (int_lt m n))) v w
binary LessOrEqual v w = on_integers (λ m n. Ok (boolean (int_le m n))) v w
binary And v w = on_booleans (λ a b. Ok (boolean (a && b))) v w
binary Or v w = on_booleans (λ a b. Ok (boolean (a || b))) v w
binary Append v w = appended v w
binary Nth v w = element v w
