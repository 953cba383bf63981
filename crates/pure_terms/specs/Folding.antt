-- Folding: what is put in the place of an operator's term where its operands tell more of its value.
use Rattle.std.specs.Prelude.{ℤ, pos, negsuc, ◌+ℤ◌, ◌-ℤ◌, slice_get, Bool, true, false, if◌then◌else◌, Option, Some, None}
use Rattle.std.specs.Option.{option_and_then}
use Rattle.std.specs.Result.{result_ok}
use Rattle.gil_values.specs.declared.operators.UnOp.{UnOp}
use Rattle.gil_values.specs.declared.operators.BinOp.{BinOp}
use Rattle.gil_values.specs.Operators.{unary, binary}
use Rattle.gil_values.specs.Pure.{PureValue, integer, boolean, text, symbol, kind, procedure, list}
use Rattle.pure_terms.specs.declared.literals.Literal.{Literal}
use Rattle.pure_terms.specs.Meaning.{literal_value}
use Rattle.pure_terms.specs.Numbers.{is_held}
use Rattle.pure_terms.specs.Pure.{PureTerm, literal, list_of, unary_of, binary_of, PureTerms, to_list}

-- the literal that is this value, where there is one that the code can hold
abbrev pub literal_of : PureValue → Option Literal
literal_of (integer n) = if is_held n then Some (Literal.Int n) else None
literal_of (boolean b) = Some (Literal.Bool b)
literal_of (text cs) = Some (Literal.Str cs)
literal_of (kind k) = Some (Literal.Kind k)
literal_of (procedure name) = Some (Literal.Proc name)
literal_of (symbol n) = None
literal_of (list vs) = None

abbrev pub literal_or : PureTerm → Option Literal → PureTerm
literal_or t (Some l) = literal l
literal_or t None = t

abbrev pub term_or : PureTerm → Option PureTerm → PureTerm
term_or t (Some u) = u
term_or t None = t

-- the literal that an operator makes of literals
abbrev pub computed_unary : UnOp → Literal → Option Literal
computed_unary op l = option_and_then literal_of (result_ok (unary op (literal_value l)))

abbrev pub computed_binary : BinOp → Literal → Literal → Option Literal
computed_binary op k l = option_and_then literal_of (result_ok (binary op (literal_value k) (literal_value l)))

abbrev pub are_both_not : UnOp → UnOp → Bool
are_both_not UnOp.Not UnOp.Not = true
are_both_not _ _ = false

-- a literal is computed, and `not(not(t))` is t
abbrev pub folded_unary : UnOp → PureTerm → PureTerm
folded_unary op (literal l) = literal_or (unary_of op (literal l)) (computed_unary op l)
folded_unary op (unary_of inner t) = if are_both_not op inner then t else unary_of op (unary_of inner t)
folded_unary op t = unary_of op t

-- `t OP n`, where the code can hold n
abbrev pub shift : PureTerm → BinOp → ℤ → Option PureTerm
shift t op n = if is_held n then Some (binary_of op t (literal (Literal.Int n))) else None

-- one shift for two: `((t INNER m) OP n)` by plus and minus
abbrev pub joined_shift : PureTerm → BinOp → ℤ → BinOp → ℤ → Option PureTerm
joined_shift t BinOp.Add m BinOp.Add n = shift t BinOp.Add (m +ℤ n)
joined_shift t BinOp.Add m BinOp.Subtract n = shift t BinOp.Add (m -ℤ n)
joined_shift t BinOp.Subtract m BinOp.Add n = shift t BinOp.Add (n -ℤ m)
joined_shift t BinOp.Subtract m BinOp.Subtract n = shift t BinOp.Subtract (m +ℤ n)
joined_shift t _ m _ n = None

abbrev pub element_term : PureTerms → ℤ → Option PureTerm
element_term ts (pos i) = slice_get (to_list ts) i
element_term ts (negsuc i) = None

abbrev pub is_nth : BinOp → Bool
is_nth BinOp.Nth = true
is_nth _ = false

-- literals are computed, `((t + m) + n)` is one sum, and `nth` of a list term at a literal is its element
abbrev pub folded_with_literal : BinOp → PureTerm → Literal → PureTerm
folded_with_literal op (literal k) l = literal_or (binary_of op (literal k) (literal l)) (computed_binary op k l)
folded_with_literal op (binary_of inner t (literal (Literal.Int m))) (Literal.Int n) =
    term_or (binary_of op (binary_of inner t (literal (Literal.Int m))) (literal (Literal.Int n))) (joined_shift t inner m op n)
folded_with_literal op (list_of ts) (Literal.Int i) =
    if is_nth op then term_or (binary_of op (list_of ts) (literal (Literal.Int i))) (element_term ts i)
    else binary_of op (list_of ts) (literal (Literal.Int i))
folded_with_literal op s l = binary_of op s (literal l)

abbrev pub folded_binary : BinOp → PureTerm → PureTerm → PureTerm
folded_binary op s (literal l) = folded_with_literal op s l
folded_binary op s t = binary_of op s t
