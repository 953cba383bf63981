-- Laws of the operator table, in the words of the subject.
use Rattle.std.specs.Prelude.{◌≡◌, ◌↔◌, ◌⊎◌, ◌<◌, ◌^◌, ℕ, ℤ, pos, neg_ℤ, ◌+ℤ◌, ◌-ℤ◌, ◌*ℤ◌, ◌≤ℤ◌, ◌<ℤ◌, unsigned_abs, FitsSigned, List, ◌∷◌, ◌++◌, length, Bool, true, false, ◌&&◌, ◌||◌, Ok, Err}
use Rattle.std.specs.Int.{w128}
use Rattle.gil_values.specs.declared.kinds.Kind.{Kind}
use Rattle.gil_values.specs.declared.kinds.Kind.TheVariants.{Int, Bool as Boolean, Str, List as OfLists}
use Rattle.gil_values.specs.declared.operators.UnOp.{UnOp}
use Rattle.gil_values.specs.declared.operators.UnOp.TheVariants.{Not, Neg, Len, Kind as KindOf}
use Rattle.gil_values.specs.declared.operators.BinOp.{BinOp}
use Rattle.gil_values.specs.declared.operators.BinOp.TheVariants.{Add, Subtract, Multiply, Divide, Remainder, Equal, Less, LessOrEqual, And, Or, Append, Nth}
use Rattle.gil_values.specs.Equality.{same_kind}
use Rattle.gil_values.specs.Operators.{unary, binary, wrong_kind, zero_divisor, out_of_range}
use Rattle.gil_values.specs.Pure.{PureValue, integer, boolean, text, kind, list, from_list, kind_of}

-- ---- kinds

-- the kinds that an operator of one value takes
abbrev pub takes : UnOp → Kind → Bool
takes Not k = same_kind Boolean k
takes Neg k = same_kind Int k
takes Len k = same_kind Str k || same_kind OfLists k
takes KindOf k = true

-- the kinds that an operator of two values takes
abbrev pub takes_both : BinOp → Kind → Kind → Bool
takes_both Equal k l = true
takes_both And k l = same_kind Boolean k && same_kind Boolean l
takes_both Or k l = same_kind Boolean k && same_kind Boolean l
takes_both Append k l = (same_kind Str k && same_kind Str l) || (same_kind OfLists k && same_kind OfLists l)
takes_both Nth k l = same_kind OfLists k && same_kind Int l
takes_both _ k l = same_kind Int k && same_kind Int l

-- The fault of kinds comes exactly at kinds that the operator doesn't take, whatever else is wrong with the values.
abbrev pub KindsFirst : Type 0
KindsFirst = (op : UnOp) (v : PureValue) → (unary op v ≡ Err wrong_kind) ↔ (takes op (kind_of v) ≡ false)

abbrev pub KindsOfBothFirst : Type 0
KindsOfBothFirst = (op : BinOp) (v w : PureValue) → (binary op v w ≡ Err wrong_kind) ↔ (takes_both op (kind_of v) (kind_of w) ≡ false)

-- ---- division

-- q and r are the quotient and the remainder of m by n, of ISO/IEC 9899:2011, 6.5.5: the quotient is truncated towards
-- zero, so the remainder is smaller than the divisor and isn't of the other sign than the dividend
pub record IsTruncatedDivision (m n q r : ℤ) : Type 0 where
  pub whole : (q *ℤ n) +ℤ r ≡ m
  pub smaller : unsigned_abs r < unsigned_abs n
  pub not_negative : pos 0 ≤ℤ m → pos 0 ≤ℤ r
  pub not_positive : m ≤ℤ pos 0 → r ≤ℤ pos 0

abbrev pub DivisionTruncates : Type 0
DivisionTruncates = (m n q r : ℤ) → IsTruncatedDivision m n q r
    ↔ ((binary Divide (integer m) (integer n) ≡ Ok (integer q)) × (binary Remainder (integer m) (integer n) ≡ Ok (integer r)))

abbrev pub divides : BinOp → Bool
divides Divide = true
divides Remainder = true
divides _ = false

-- The fault of zero comes exactly where a whole number is divided by 0.
abbrev pub ZeroDivides : Type 0
ZeroDivides = (op : BinOp) (v w : PureValue) → (binary op v w ≡ Err zero_divisor)
    ↔ ((divides op ≡ true) × (kind_of v ≡ Int) × (w ≡ integer (pos 0)))

-- ---- numbers

-- what the code can hold
abbrev pub CodeNumbers : Type 0
CodeNumbers = (n : ℤ) → FitsSigned w128 n ↔ ((neg_ℤ (pos (2 ^ 127)) ≤ℤ n) × (n <ℤ pos (2 ^ 127)))

abbrev pub LessOrders : Type 0
LessOrders = (m n : ℤ) → (binary Less (integer m) (integer n) ≡ Ok (boolean true)) ↔ (m <ℤ n)

abbrev pub LessOrEqualOrders : Type 0
LessOrEqualOrders = (m n : ℤ) → (binary LessOrEqual (integer m) (integer n) ≡ Ok (boolean true)) ↔ (m ≤ℤ n)

-- ---- equality

-- `=` has a boolean at any two values, and it is true exactly where they are the same.
abbrev pub EqualTells : Type 0
EqualTells = (v w : PureValue) →
    ((binary Equal v w ≡ Ok (boolean true)) ↔ (v ≡ w)) × ((binary Equal v w ≡ Ok (boolean false)) ↔ (¬ (v ≡ w)))

-- ---- texts and lists

abbrev pub AppendJoinsTexts : Type 0
AppendJoinsTexts = (s t u : List ℕ) → (binary Append (text s) (text t) ≡ Ok (text u)) ↔ (u ≡ s ++ t)

abbrev pub AppendJoinsLists : Type 0
AppendJoinsLists = (vs ws us : List PureValue) →
    (binary Append (list (from_list vs)) (list (from_list ws)) ≡ Ok (list (from_list us))) ↔ (us ≡ vs ++ ws)

-- v stands in the list with i elements before it
abbrev pub StandsAt : List PureValue → ℤ → PureValue → Type 0
StandsAt vs i v = (before : List PureValue) × (after : List PureValue) × ((vs ≡ before ++ v ∷ after) × (i ≡ pos (length before)))

abbrev pub NthCounts : Type 0
NthCounts = (vs : List PureValue) (i : ℤ) (v : PureValue) → (binary Nth (list (from_list vs)) (integer i) ≡ Ok v) ↔ StandsAt vs i v

-- The fault of range comes exactly at `nth` of a list with a number that is no place of it.
abbrev pub RangeIsOfLists : Type 0
RangeIsOfLists = (vs : List PureValue) (i : ℤ) →
    (binary Nth (list (from_list vs)) (integer i) ≡ Err out_of_range) ↔ ((i <ℤ pos 0) ⊎ (pos (length vs) ≤ℤ i))

abbrev pub OnlyNthHasRange : Type 0
OnlyNthHasRange = (op : BinOp) (v w : PureValue) → binary op v w ≡ Err out_of_range → op ≡ Nth

-- ---- arithmetic, booleans, sizes and kinds

-- Sums, differences, products and opposites are those of whole numbers.
abbrev pub AddsNumbers : Type 0
AddsNumbers = (m n r : ℤ) → (binary Add (integer m) (integer n) ≡ Ok (integer r)) ↔ (r ≡ m +ℤ n)

abbrev pub SubtractsNumbers : Type 0
SubtractsNumbers = (m n r : ℤ) → (binary Subtract (integer m) (integer n) ≡ Ok (integer r)) ↔ (r ≡ m -ℤ n)

abbrev pub MultipliesNumbers : Type 0
MultipliesNumbers = (m n r : ℤ) → (binary Multiply (integer m) (integer n) ≡ Ok (integer r)) ↔ (r ≡ m *ℤ n)

abbrev pub NegatesNumbers : Type 0
NegatesNumbers = (n r : ℤ) → (unary Neg (integer n) ≡ Ok (integer r)) ↔ (r ≡ neg_ℤ n)

-- `not` is true of false alone, `and` of true twice, `or` where one side is true.
abbrev pub NotTurns : Type 0
NotTurns = (a : Bool) → (unary Not (boolean a) ≡ Ok (boolean true)) ↔ (a ≡ false)

abbrev pub AndIsBoth : Type 0
AndIsBoth = (a b : Bool) → (binary And (boolean a) (boolean b) ≡ Ok (boolean true)) ↔ ((a ≡ true) × (b ≡ true))

abbrev pub OrIsEither : Type 0
OrIsEither = (a b : Bool) → (binary Or (boolean a) (boolean b) ≡ Ok (boolean true)) ↔ ((a ≡ true) ⊎ (b ≡ true))

-- `len` counts characters and elements.
abbrev pub LenCountsCharacters : Type 0
LenCountsCharacters = (s : List ℕ) (n : ℤ) → (unary Len (text s) ≡ Ok (integer n)) ↔ (n ≡ pos (length s))

abbrev pub LenCountsElements : Type 0
LenCountsElements = (vs : List PureValue) (n : ℤ) → (unary Len (list (from_list vs)) ≡ Ok (integer n)) ↔ (n ≡ pos (length vs))

-- `kind` has a kind at every value.
abbrev pub KindTells : Type 0
KindTells = (v : PureValue) (k : Kind) → (unary KindOf v ≡ Ok (kind k)) ↔ (k ≡ kind_of v)
