-- The forms that the shipped rules answer on, and their answers.
use Rattle.std.specs.Prelude.{ℤ, pos, length, true, ◌&&◌, if◌then◌else◌, Option, Some, None}
use Rattle.std.specs.Option.{option_map}
use Rattle.gil_values.specs.declared.operators.UnOp.{UnOp}
use Rattle.gil_values.specs.declared.operators.BinOp.{BinOp}
use Rattle.pure_terms.specs.declared.literals.Literal.{Literal}
use Rattle.pure_terms.specs.Equality.{same_unary, same_binary, same_term}
use Rattle.pure_terms.specs.Folding.{element_term}
use Rattle.pure_terms.specs.Pure.{PureTerm, literal, list_of, unary_of, binary_of, to_list}

abbrev pub number : ℤ → PureTerm
number n = literal (Literal.Int n)

-- the left operand where the right one is the number
abbrev pub left_of : ℤ → PureTerm → PureTerm → Option PureTerm
left_of n s t = if same_term t (number n) then Some s else None

-- the other operand where one is the number
abbrev pub other_of : ℤ → PureTerm → PureTerm → Option PureTerm
other_of n s t = if same_term t (number n) then Some s else left_of n t s

-- what is made of the operands of this operator
abbrev pub of_operands : BinOp → (PureTerm → PureTerm → Option PureTerm) → PureTerm → Option PureTerm
of_operands op f (binary_of other s t) = if same_binary op other then f s t else None
of_operands op f _ = None

-- the operand of an operator that stands twice, one within the other
abbrev pub of_twice : UnOp → PureTerm → Option PureTerm
of_twice op (unary_of outer (unary_of inner t)) = if same_unary op outer && same_unary op inner then Some t else None
of_twice op _ = None

-- `(t + 0)` and `(0 + t)` are t
abbrev pub plus_zero : PureTerm → Option PureTerm
plus_zero = of_operands BinOp.Add (other_of (pos 0))

-- `(t - 0)` is t
abbrev pub minus_zero : PureTerm → Option PureTerm
minus_zero = of_operands BinOp.Subtract (left_of (pos 0))

-- `(t * 0)` and `(0 * t)` are 0
abbrev pub times_zero : PureTerm → Option PureTerm
times_zero = of_operands BinOp.Multiply (λ s t. option_map (λ _. number (pos 0)) (other_of (pos 0) s t))

-- `(t * 1)` and `(1 * t)` are t
abbrev pub times_one : PureTerm → Option PureTerm
times_one = of_operands BinOp.Multiply (other_of (pos 1))

-- `not(not(t))` is t
abbrev pub not_not : PureTerm → Option PureTerm
not_not = of_twice UnOp.Not

-- `neg(neg(t))` is t
abbrev pub neg_neg : PureTerm → Option PureTerm
neg_neg = of_twice UnOp.Neg

-- `(t = t)` is true
abbrev pub same_equal : PureTerm → Option PureTerm
same_equal = of_operands BinOp.Equal (λ s t. if same_term s t then Some (literal (Literal.Bool true)) else None)

-- `len` of a list term is the number of its elements
abbrev pub len_list : PureTerm → Option PureTerm
len_list (unary_of UnOp.Len (list_of ts)) = Some (number (pos (length (to_list ts))))
len_list _ = None

-- `nth` of a list term at a literal within it is its element
abbrev pub nth_list : PureTerm → Option PureTerm
nth_list (binary_of BinOp.Nth (list_of ts) (literal (Literal.Int i))) = element_term ts i
nth_list _ = None
