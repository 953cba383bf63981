-- The parts of answers, as both forms of a report write them.
use Rattle.std.specs.Prelude.{ℕ, List, ◌++◌, codes}
use Rattle.std.specs.List.{join_by}
use Rattle.gil_values.specs.Printed.{printed_value}
use Rattle.gil_syntax.specs.Pure.{PureSpec}
use Rattle.pure_terms.specs.declared.variables.Sort.{Sort}
use Rattle.pure_terms.specs.declared.variables.Sort.TheVariants.{Int, Bool, Str, Sym, Any, List as ListSort, Fresh}
use Rattle.syntax_print.specs.Assertions.{printed_block, printed_params, printed_posts, printed_variables}
use Rattle.syntax_print.specs.Expressions.{printed_expr}
use Rattle.gil_report.specs.declared.answers.Lack.{Lack}
use Rattle.gil_report.specs.declared.answers.Lack.TheVariants.{Missing, Post, Invariant, CallPre, FoldBody, Cut}
use Rattle.gil_report.specs.Pure.{PureBinding, PureCondition, holds, has_value}

-- `[0, 1, 1]`
abbrev pub bracketed : {X : Type 0} → (X → List ℕ) → List X → List ℕ
bracketed printed xs = codes "[" ++ join_by printed (codes ", ") xs ++ codes "]"

abbrev pub printed_sort : Sort → List ℕ
printed_sort Int = codes "int"
printed_sort Bool = codes "bool"
printed_sort Str = codes "str"
printed_sort Sym = codes "sym"
printed_sort ListSort = codes "list"
printed_sort Any = codes "any"
printed_sort Fresh = codes "fresh"

-- `x = 7`
abbrev pub printed_binding : PureBinding → List ℕ
printed_binding b = b.name ++ codes " = " ++ printed_value b.value

-- `(x < 3)`   `open(x)`
abbrev pub printed_condition : PureCondition → List ℕ
printed_condition (holds e) = printed_expr e
printed_condition (has_value e) = codes "open(" ++ printed_expr e ++ codes ")"

-- `spec f(x: int) [] { emp } { (ret = x) }`, as a program spells it, without the end of its line
abbrev pub printed_specification : PureSpec → List ℕ
printed_specification s =
    codes "spec " ++ s.name ++ codes "(" ++ printed_params s.params ++ codes ") " ++ printed_variables s.logicals
    ++ codes " " ++ printed_block s.pre ++ printed_posts s.posts s.errors

abbrev pub lack_word : Lack → List ℕ
lack_word Missing = codes "missing"
lack_word Post = codes "post"
lack_word Invariant = codes "invariant"
lack_word CallPre = codes "callpre"
lack_word FoldBody = codes "foldbody"
lack_word Cut = codes "cut"
