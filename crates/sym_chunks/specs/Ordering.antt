-- Comparing numbers: the conditions under which one term's value is less than another's, or at most it.
use Rattle.std.specs.Prelude.{int_lt, int_le, ◌++◌, if◌then◌else◌}
use Rattle.gil_values.specs.declared.operators.BinOp.{BinOp}
use Rattle.pure_terms.specs.declared.literals.Literal.{Literal}
use Rattle.pure_terms.specs.Pure.{PureTerm, literal, binary_of, positive}
use Rattle.sym_model.specs.Alternatives.{Alternatives, never, always, given, both, by_comparison}
use Rattle.sym_model.specs.Comparing.{compared}
use Rattle.sym_model.specs.Cores.{zero_term}
use Rattle.sym_model.specs.Terms.{may_be_ordered}

abbrev pub less_than : PureTerm → PureTerm → PureTerm
less_than s t = binary_of BinOp.Less s t

abbrev pub not_above : PureTerm → PureTerm → PureTerm
not_above s t = binary_of BinOp.LessOrEqual s t

-- two literals that are numbers are compared by themselves
abbrev pub literals_less : PureTerm → PureTerm → Alternatives
literals_less (literal (Literal.Int m)) (literal (Literal.Int n)) = if int_lt m n then always else never
literals_less _ _ = never

abbrev pub literals_at_most : PureTerm → PureTerm → Alternatives
literals_at_most (literal (Literal.Int m)) (literal (Literal.Int n)) = if int_le m n then always else never
literals_at_most _ _ = never

-- the value of s is less than that of t, or at most it; never where one surely is no number
abbrev pub less : PureTerm → PureTerm → Alternatives
less s t =
    if may_be_ordered s t then by_comparison (compared s t) never (literals_less s t) (given (positive (less_than s t))) else never

abbrev pub at_most : PureTerm → PureTerm → Alternatives
at_most s t =
    if may_be_ordered s t then by_comparison (compared s t) always (literals_at_most s t) (given (positive (not_above s t))) else never

-- an offset is outside a bound, or inside it
abbrev pub outside : PureTerm → PureTerm → Alternatives
outside i n = less i zero_term ++ at_most n i

abbrev pub inside : PureTerm → PureTerm → Alternatives
inside i n = both (at_most zero_term i) (less i n)
