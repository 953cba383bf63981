-- Printed parameters and assertions.
use Rattle.std.specs.Prelude.{ℕ, List, [], ◌∷◌, ◌++◌, codes}
use Rattle.std.specs.List.{flat_map, join_by}
use Rattle.gil_syntax.specs.declared.assertions.Param.{Param}
use Rattle.gil_syntax.specs.declared.assertions.SpecSort.{SpecSort}
use Rattle.gil_syntax.specs.declared.assertions.SpecSort.TheVariants as sorts
use Rattle.gil_syntax.specs.Pure.{PurePredUse, PureItem, pure, uses}
use Rattle.syntax_print.specs.Expressions.{printed_expr, printed_exprs}

-- what stands behind the name of a parameter or of a logical variable: `: int`. The sort any is left out.
abbrev pub printed_sort : SpecSort → List ℕ
printed_sort sorts.Int = codes ": int"
printed_sort sorts.Bool = codes ": bool"
printed_sort sorts.Str = codes ": str"
printed_sort sorts.Sym = codes ": sym"
printed_sort sorts.List = codes ": list"
printed_sort sorts.Any = []

abbrev pub printed_param : Param → List ℕ
printed_param q = q.name ++ printed_sort q.sort

-- x: sort, ..
abbrev pub printed_params : List Param → List ℕ
printed_params ps = join_by printed_param (codes ", ") ps

-- [#x: sort, ..]
abbrev pub printed_variables : List Param → List ℕ
printed_variables ps = codes "[" ++ printed_params ps ++ codes "]"

-- What follows a semicolon within brackets, if anything does, stands behind a blank.
abbrev pub behind_semicolon : {X : Type 0} → (List X → List ℕ) → List X → List ℕ
behind_semicolon printed [] = []
behind_semicolon printed (x ∷ xs) = codes " " ++ printed (x ∷ xs)

-- name(e, ..; e, ..)
abbrev pub printed_use : PurePredUse → List ℕ
printed_use u = u.pred ++ codes "(" ++ printed_exprs u.ins ++ codes ";" ++ behind_semicolon printed_exprs u.outs ++ codes ")"

abbrev pub printed_item : PureItem → List ℕ
printed_item (pure e) = printed_expr e
printed_item (uses u) = printed_use u

-- emp   item * .. * item
abbrev pub printed_assertion : List PureItem → List ℕ
printed_assertion [] = codes "emp"
printed_assertion (item ∷ items) = join_by printed_item (codes " * ") (item ∷ items)

-- { assertion }
abbrev pub printed_block : List PureItem → List ℕ
printed_block items = codes "{ " ++ printed_assertion items ++ codes " }"

-- throw { assertion }
abbrev pub printed_error : List PureItem → List ℕ
printed_error items = codes "throw " ++ printed_block items

-- postconditions and error postconditions, each behind a blank
abbrev pub printed_posts : List (List PureItem) → List (List PureItem) → List ℕ
printed_posts posts errors =
    flat_map (λ items. codes " " ++ printed_block items) posts ++ flat_map (λ items. codes " " ++ printed_error items) errors

-- { assertion } .. { assertion }
abbrev pub printed_blocks : List (List PureItem) → List ℕ
printed_blocks blocks = join_by printed_block (codes " ") blocks
