-- Names of source programs, and names that only compiled programs have. A name of a source program has no '$'.
use Rattle.std.specs.Prelude.{◌≡◌, ℕ, zero, suc, ◌+◌, List, [], ◌∷◌, ◌++◌, Bool, true, false, not, ◌&&◌, nat_eq, if◌then◌else◌, Option, Some, None, IsTrue, codes}
use Rattle.std.specs.List.{list_all, list_any}
use Rattle.gil_values.specs.Printed.{numeral}
use Rattle.gil_syntax.specs.Pure.{PureExpr, literal, name, logical, list_of, unary_of, binary_of, PureExprs, no_exprs, expr_and}
use Rattle.gil_syntax.specs.Evaluation.{Store, value_of}
use Rattle.source_language.specs.Pure.{PureInvariant}

-- the code of '$'
abbrev pub dollar : ℕ
dollar = 36

abbrev pub is_source_name : List ℕ → Bool
is_source_name x = not (list_any (nat_eq dollar) x)

-- an expression of a source program: it names no temporary and no logical variable
abbrev mutual
  pub is_source_expr : PureExpr → Bool
  is_source_expr (literal v) = true
  is_source_expr (name x) = is_source_name x
  is_source_expr (logical x) = false
  is_source_expr (list_of es) = are_source_exprs es
  is_source_expr (unary_of op e) = is_source_expr e
  is_source_expr (binary_of op d e) = is_source_expr d && is_source_expr e

  pub are_source_exprs : PureExprs → Bool
  are_source_exprs no_exprs = true
  are_source_exprs (expr_and e es) = is_source_expr e && are_source_exprs es

-- an invariant of a source program: the variables that may change are its own
abbrev pub has_source_invariant : Option PureInvariant → Bool
has_source_invariant None = true
has_source_invariant (Some i) = list_all is_source_name i.names

-- the temporary of a number: t$0, t$1 and so on
abbrev pub temporary : ℕ → List ℕ
temporary i = codes "t$" ++ numeral i

-- so many temporaries from a number on
abbrev pub temporaries_from : ℕ → ℕ → List (List ℕ)
temporaries_from i zero = []
temporaries_from i (suc n) = temporary i ∷ temporaries_from (i + 1) n

-- the variable in which a value that is thrown is handled
abbrev pub caught : List ℕ
caught = codes "e$"

-- the names that the commands of statements assign besides those of the source: so many temporaries, and then the other one where they do
abbrev pub own_names : ℕ → Bool → List (List ℕ)
own_names n catches = if catches then temporaries_from 0 n ++ caught ∷ [] else temporaries_from 0 n

-- the second store gives each name of a source program the value that the first one gives it
abbrev pub IsExtendedBy : Store → Store → Type 0
IsExtendedBy s t = (x : List ℕ) → IsTrue (is_source_name x) → value_of t x ≡ value_of s x
