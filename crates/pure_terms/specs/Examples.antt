-- Small terms and atoms, for the rows that show what the definitions mean.
use Rattle.std.specs.Prelude.{ℕ, pos, List, [], ◌∷◌, Bool, true, codes}
use Rattle.gil_values.specs.declared.kinds.Kind.{Kind}
use Rattle.gil_values.specs.declared.operators.UnOp.{UnOp}
use Rattle.gil_values.specs.declared.operators.BinOp.{BinOp}
use Rattle.gil_values.specs.Pure.{PureValue, boolean, integer, kind, list, no_values, procedure, symbol, text, value_and}
use Rattle.pure_terms.specs.declared.literals.Literal.{Literal}
use Rattle.pure_terms.specs.declared.variables.Sort.{Sort}
use Rattle.pure_terms.specs.Pure.{PureTerm, literal, variable, list_of, unary_of, binary_of, from_list, PureAtom, positive, negative}

abbrev pub number : ℕ → PureTerm
number n = literal (Literal.Int (pos n))

abbrev pub truth_of : Bool → PureTerm
truth_of b = literal (Literal.Bool b)

abbrev pub kind_term : Kind → PureTerm
kind_term k = literal (Literal.Kind k)

abbrev pub of_sort : Sort → ℕ → PureTerm
of_sort s n = variable (record { number = n; sort = s })

-- the Int variables 0 and 1, and other variables with the number 0
abbrev pub x : PureTerm
x = of_sort Sort.Int 0

abbrev pub y : PureTerm
y = of_sort Sort.Int 1

abbrev pub b : PureTerm
b = of_sort Sort.Bool 0

abbrev pub any : PureTerm
any = of_sort Sort.Any 0

abbrev pub list_variable : PureTerm
list_variable = of_sort Sort.List 0

abbrev pub pair : PureTerm → PureTerm → PureTerm
pair s t = list_of (from_list (s ∷ t ∷ []))

abbrev pub plus : PureTerm → PureTerm → PureTerm
plus s t = binary_of BinOp.Add s t

abbrev pub minus : PureTerm → PureTerm → PureTerm
minus s t = binary_of BinOp.Subtract s t

abbrev pub over : PureTerm → PureTerm → PureTerm
over s t = binary_of BinOp.Divide s t

abbrev pub equals : PureTerm → PureTerm → PureTerm
equals s t = binary_of BinOp.Equal s t

abbrev pub at_most : PureTerm → PureTerm → PureTerm
at_most s t = binary_of BinOp.LessOrEqual s t

abbrev pub opposite : PureTerm → PureTerm
opposite t = unary_of UnOp.Not t

abbrev pub kind_term_of : PureTerm → PureTerm
kind_term_of t = unary_of UnOp.Kind t

-- ((1 / 0) = 1)
abbrev pub one_by_zero_is_one : PureTerm
one_by_zero_is_one = equals (over (number 1) (number 0)) (number 1)

-- a value of each kind
abbrev pub one_of_each : List PureValue
one_of_each = integer (pos 5) ∷ boolean true ∷ text (codes "a") ∷ symbol 7 ∷ kind Kind.Null ∷ procedure (codes "f") ∷ list no_values ∷ []

-- a fresh variable after a list, and before one
abbrev pub list_then_fresh : List Sort
list_then_fresh = Sort.List ∷ Sort.Fresh ∷ []

abbrev pub fresh_then_list : List Sort
fresh_then_list = Sort.Fresh ∷ Sort.List ∷ []

-- [$7]
abbrev pub list_of_seven : PureValue
list_of_seven = list (value_and (symbol 7) no_values)

-- (x <= 1); not((x <= 0));
abbrev pub x_is_one : List PureAtom
x_is_one = positive (at_most x (number 1)) ∷ negative (at_most x (number 0)) ∷ []

-- (x <= 0); not((x <= 0));
abbrev pub x_is_none : List PureAtom
x_is_none = positive (at_most x (number 0)) ∷ negative (at_most x (number 0)) ∷ []
