-- Reading parameters and assertions.
use Rattle.std.specs.Prelude.{ℕ, zero, suc, Bool, List, [], ◌∷◌, length, Option, Some, None, if◌then◌else◌}
use Rattle.gil_lexer.specs.declared.forms.Form.{Form}
use Rattle.gil_lexer.specs.declared.forms.Form.TheVariants as forms
use Rattle.gil_lexer.specs.declared.words.Word.TheVariants as words
use Rattle.gil_lexer.specs.declared.signs.Sign.{Sign}
use Rattle.gil_lexer.specs.declared.signs.Sign.TheVariants.{LeftParenthesis, RightParenthesis, LeftBracket, RightBracket, LeftBrace, RightBrace, Comma, Semicolon, Colon, Star}
use Rattle.gil_lexemes.specs.declared.standing.Lexeme.{Lexeme}
use Rattle.gil_lexemes.specs.Lists.{with_front, more_at, separated_at}
use Rattle.gil_lexemes.specs.Reading.{Reading, ◌>>=◌, first_form, behind, is_sign, is_word, sign_at, word_at, name_at, logical_at}
use Rattle.gil_syntax.specs.declared.assertions.Param.{Param}
use Rattle.gil_syntax.specs.declared.assertions.SpecSort.{SpecSort}
use Rattle.gil_syntax.specs.declared.assertions.SpecSort.TheVariants.{Any}
use Rattle.gil_syntax.specs.Pure.{PureExpr, PurePredUse, PureItem, pure, uses}
use Rattle.gil_grammar.specs.declared.positions.Position.{Position}
use Rattle.gil_grammar.specs.declared.positions.Position.TheVariants.{Assertion, Predicate}
use Rattle.gil_grammar.specs.declared.positions.Naming.{Naming}
use Rattle.gil_grammar.specs.declared.positions.Naming.TheVariants.{Program, Logical}
use Rattle.gil_grammar.specs.declared.positions.Extent.{Extent}
use Rattle.gil_grammar.specs.declared.positions.Extent.TheVariants.{Whole, Longest}
use Rattle.gil_grammar.specs.declared.positions.Opening.{Opening}
use Rattle.gil_grammar.specs.declared.positions.Opening.TheVariants.{Brace, Throw}
use Rattle.gil_grammar.specs.Nesting.{most_open}
use Rattle.gil_grammar.specs.Reading.Vocabulary.{sort_of_word, word_of, named_at}
use Rattle.gil_grammar.specs.Reading.Expressions.{expr_at}

-- ---- parameters

abbrev pub variable_at : Naming → List Lexeme → Reading (List ℕ)
variable_at Program ls = name_at ls
variable_at Logical ls = logical_at ls

-- a colon and a sort, or else the sort any
unfoldable pub sort_at : List Lexeme → Reading SpecSort
sort_at ls =
    if is_sign Colon (first_form ls)
    then (word_of (first_form (behind ls)) >>= λ word. sort_of_word word >>= λ sort. Some (sort, behind (behind ls)))
    else Some (Any, ls)

unfoldable pub param_at : Naming → List Lexeme → Reading Param
param_at naming ls = do
  x ← variable_at naming ls
  sort ← sort_at x.1
  Some (record { name = x.0; sort = sort.0 }, sort.1)

abbrev pub params_at : Naming → Sign → List Lexeme → Reading (List Param)
params_at naming closing ls = separated_at (param_at naming) closing Comma ls

-- [#x : sort, ..]
unfoldable pub variables_at : List Lexeme → Reading (List Param)
variables_at ls = do
  inner ← sign_at LeftBracket ls
  ps ← params_at Logical RightBracket inner
  rest ← sign_at RightBracket ps.1
  Some (ps.0, rest)

-- ---- items

abbrev pub expression_at : Position → List Lexeme → Reading PureExpr
expression_at position ls = expr_at most_open position ls

abbrev pub expressions_at : Position → Sign → List Lexeme → Reading (List PureExpr)
expressions_at position closing ls = separated_at (expr_at most_open position) closing Comma ls

-- name(e, ..; e, ..)
unfoldable pub use_at : List Lexeme → Reading PurePredUse
use_at ls = do
  x ← named_at Predicate ls
  in_place ← sign_at LeftParenthesis x.1
  given ← expressions_at Assertion Semicolon in_place
  out_place ← sign_at Semicolon given.1
  gives ← expressions_at Assertion RightParenthesis out_place
  rest ← sign_at RightParenthesis gives.1
  Some (record { pred = x.0; ins = given.0; outs = gives.0 }, rest)

abbrev pub pure_at : List Lexeme → Reading PureItem
pure_at ls = expression_at Assertion ls >>= λ e. Some (pure e.0, e.1)

abbrev pub uses_at : List Lexeme → Reading PureItem
uses_at ls = use_at ls >>= λ u. Some (uses u.0, u.1)

abbrev pub item_by : Option Form → List Lexeme → Reading PureItem
item_by (Some (forms.Sign LeftParenthesis)) ls = pure_at ls
item_by (Some (forms.Word words.Not)) ls = pure_at ls
item_by _ ls = uses_at ls

unfoldable pub item_at : List Lexeme → Reading PureItem
item_at ls = item_by (first_form ls) ls

-- ---- assertions

unfoldable pub assertion_at : List Lexeme → Reading (List PureItem)
assertion_at ls =
    if is_word words.Emp (first_form ls)
    then Some ([], behind ls)
    else (item_at ls >>= λ item. with_front (item.0 ∷ []) (more_at item_at (length item.1) Star item.1))

-- { assertion }
unfoldable pub block_at : List Lexeme → Reading (List PureItem)
block_at ls = do
  inner ← sign_at LeftBrace ls
  items ← assertion_at inner
  rest ← sign_at RightBrace items.1
  Some (items.0, rest)

-- throw { assertion }
unfoldable pub error_at : List Lexeme → Reading (List PureItem)
error_at ls = word_at words.Throw ls >>= λ block. block_at block

-- ---- assertions in braces, one after another

-- whether an assertion in braces may begin with a token of this form
abbrev pub opens_by : Opening → Option Form → Bool
opens_by Brace = is_sign LeftBrace
opens_by Throw = is_word words.Throw

abbrev pub opened_at : Opening → List Lexeme → Reading (List PureItem)
opened_at Brace = block_at
opened_at Throw = error_at

-- where no assertion in braces is read, that one alone is left out, or none is read at all
abbrev pub without_block : Extent → List Lexeme → Reading (List (List PureItem))
without_block Whole ls = None
without_block Longest ls = Some ([], ls)

abbrev pub block_and : Extent → List Lexeme → Reading (List PureItem) → (List Lexeme → Reading (List (List PureItem)))
    → Reading (List (List PureItem))
block_and extent ls None more = without_block extent ls
block_and extent ls (Some block) more = with_front (block.0 ∷ []) (more block.1)

-- as many as there are, up to n
unfoldable pub more_blocks : Opening → Extent → ℕ → List Lexeme → Reading (List (List PureItem))
more_blocks opening extent zero ls = Some ([], ls)
more_blocks opening extent (suc n) ls =
    if opens_by opening (first_form ls)
    then block_and extent ls (opened_at opening ls) (more_blocks opening extent n)
    else Some ([], ls)

-- at least one
unfoldable pub blocks_at : Opening → Extent → List Lexeme → Reading (List (List PureItem))
blocks_at opening extent ls =
    opened_at opening ls >>= λ block. with_front (block.0 ∷ []) (more_blocks opening extent (length block.1) block.1)

-- postconditions, and then error postconditions: at least one of either
unfoldable pub posts_at : Extent → List Lexeme → Reading (List (List PureItem) × List (List PureItem))
posts_at extent ls =
    if opens_by Throw (first_form ls)
    then (blocks_at Throw extent ls >>= λ errors. Some (([], errors.0), errors.1))
    else (
    blocks_at Brace extent ls >>= λ posts.
    more_blocks Throw extent (length posts.1) posts.1 >>= λ errors. Some ((posts.0, errors.0), errors.1)
    )
