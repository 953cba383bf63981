-- Reading specifications from the front of bytes, as functions: what the readers answer.
use Rattle.std.specs.Prelude.{ℕ, Bool, true, false, not, ◌==◌, if◌then◌else◌, List, [], ◌∷◌, length, Some, None, is_some, codes}
use Rattle.std.specs.Str.{bytes_eq}
use Rattle.gil_values.specs.declared.operators.UnOp.{UnOp}
use Rattle.gil_values.specs.declared.operators.UnOp.TheVariants as unary
use Rattle.gil_values.specs.declared.operators.BinOp.{BinOp}
use Rattle.gil_values.specs.declared.operators.BinOp.TheVariants as binary
use Rattle.gil_lexer.specs.Bytes.{begins}
use Rattle.gil_syntax.specs.declared.assertions.Param.{Param}
use Rattle.gil_syntax.specs.declared.assertions.SpecSort.{SpecSort}
use Rattle.gil_syntax.specs.declared.assertions.SpecSort.TheVariants as sorts
use Rattle.gil_syntax.specs.Pure.{PureExpr, unary_of, binary_of, PurePredUse, PureItem, pure, uses, PureSpec}
use Rattle.value_text.specs.Reading.{Reading, ◌>>=◌, ◌or_else◌, behind, behind_or, word_by, many_at, with_front, name_at, before_no_comma, behind_comma, bracketed_at}
use Rattle.expression_text.specs.Reading.{marked_name_at, any_expression_at}

-- elements up to the byte that closes their list, with commas between them
abbrev pub elements_until : {X : Type 0} → ℕ → (List ℕ → Reading X) → List ℕ → Reading (List X)
elements_until stop read bytes =
    if begins (λ b. b == stop) bytes then Some ([], bytes)
    else (read bytes >>= λ x. with_front (x.0 ∷ []) (many_at before_no_comma (behind_comma read) (length x.1) x.1))

-- ---- parameters

abbrev pub word_at : List ℕ → Reading SpecSort
word_at bytes =
    word_by (codes "int") sorts.Int bytes or_else word_by (codes "bool") sorts.Bool bytes or_else word_by (codes "str") sorts.Str bytes
    or_else word_by (codes "sym") sorts.Sym bytes or_else word_by (codes "list") sorts.List bytes

-- any, where no sort stands there
abbrev pub sort_at : List ℕ → Reading SpecSort
sort_at bytes = behind_or (behind (codes ": ") bytes) word_at (Some (sorts.Any, bytes))

unfoldable pub param_at : List ℕ → Reading Param
param_at bytes = do
  x ← name_at bytes
  sort ← sort_at x.1
  Some (record { name = x.0; sort = sort.0 }, sort.1)

unfoldable pub logical_at : List ℕ → Reading Param
logical_at bytes = do
  x ← marked_name_at bytes
  sort ← sort_at x.1
  Some (record { name = x.0; sort = sort.0 }, sort.1)

abbrev pub params_at : List ℕ → Reading (List Param)
params_at bytes = elements_until 41 param_at bytes

abbrev pub logicals_at : List ℕ → Reading (List Param)
logicals_at bytes = bracketed_at logical_at bytes

-- ---- items

abbrev pub is_written_between : BinOp → Bool
is_written_between binary.Nth = false
is_written_between _ = true

abbrev pub is_negation : UnOp → Bool
is_negation unary.Not = true
is_negation _ = false

abbrev pub may_be_item : PureExpr → Bool
may_be_item (unary_of op e) = is_negation op
may_be_item (binary_of op d e) = is_written_between op
may_be_item _ = false

unfoldable pub pure_at : List ℕ → Reading PureItem
pure_at bytes = any_expression_at bytes >>= λ e. if may_be_item e.0 then Some (pure e.0, e.1) else None

-- what follows the semicolon of a use
abbrev pub outs_at : List ℕ → Reading (List PureExpr)
outs_at bytes = behind_or (behind (codes " ") bytes) (elements_until 41 any_expression_at) (Some ([], bytes))

unfoldable pub handed_at : List ℕ → List ℕ → Reading PureItem
handed_at x bytes = do
  inner ← behind (codes "(") bytes
  ins ← elements_until 59 any_expression_at inner
  after ← behind (codes ";") ins.1
  outs ← outs_at after
  rest ← behind (codes ")") outs.1
  Some (uses (record { pred = x; ins = ins.0; outs = outs.0 }), rest)

unfoldable pub use_at : List ℕ → Reading PureItem
use_at bytes = name_at bytes >>= λ x. if bytes_eq x.0 (codes "not") then None else handed_at x.0 x.1

-- an expression in parentheses, one behind `not`, or a use of a predicate
abbrev pub item_at : List ℕ → Reading PureItem
item_at bytes =
    if begins (λ b. b == 40) bytes then pure_at bytes
    else (if is_some (behind (codes "not(") bytes) then pure_at bytes
    else use_at bytes)

-- ---- assertions

abbrev pub before_no_star : List ℕ → Bool
before_no_star bytes = not (is_some (behind (codes " * ") bytes))

abbrev pub behind_star : List ℕ → Reading PureItem
behind_star bytes = behind (codes " * ") bytes >>= item_at

unfoldable pub some_items_at : List ℕ → Reading (List PureItem)
some_items_at bytes = do
  x ← item_at bytes
  with_front (x.0 ∷ []) (many_at before_no_star behind_star (length x.1) x.1)

unfoldable pub items_at : List ℕ → Reading (List PureItem)
items_at bytes = do
  xs ← some_items_at bytes
  rest ← behind (codes " }") xs.1
  Some (xs.0, rest)

unfoldable pub nothing_at : List ℕ → Reading (List PureItem)
nothing_at bytes = behind (codes "}") bytes >>= λ rest. Some ([], rest)

-- `{ emp }`   `{ item * .. }`
abbrev pub block_at : List ℕ → Reading (List PureItem)
block_at bytes = behind_or (behind (codes "{ emp ") bytes) nothing_at (behind (codes "{ ") bytes >>= items_at)

-- ---- postconditions

abbrev pub before_no_post : List ℕ → Bool
before_no_post bytes = not (is_some (behind (codes " {") bytes))

abbrev pub post_at : List ℕ → Reading (List PureItem)
post_at bytes = behind (codes " ") bytes >>= block_at

abbrev pub before_no_error : List ℕ → Bool
before_no_error bytes = not (is_some (behind (codes " throw ") bytes))

abbrev pub error_at : List ℕ → Reading (List PureItem)
error_at bytes = behind (codes " throw ") bytes >>= block_at

abbrev pub posts_at : List ℕ → Reading (List (List PureItem))
posts_at bytes = with_front [] (many_at before_no_post post_at (length bytes) bytes)

abbrev pub errors_at : List ℕ → Reading (List (List PureItem))
errors_at bytes = with_front [] (many_at before_no_error error_at (length bytes) bytes)

-- ---- specifications, behind their first word

unfoldable pub specification_at : List ℕ → Reading PureSpec
specification_at bytes = do
  x ← name_at bytes
  before_params ← behind (codes "(") x.1
  params ← params_at before_params
  before_logicals ← behind (codes ") ") params.1
  logicals ← logicals_at before_logicals
  before_pre ← behind (codes " ") logicals.1
  pre ← block_at before_pre
  posts ← posts_at pre.1
  errors ← errors_at posts.1
  Some (record { name = x.0; params = params.0; logicals = logicals.0; pre = pre.0; posts = posts.0; errors = errors.0 }, errors.1)
