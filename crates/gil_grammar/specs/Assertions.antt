-- The lexemes of parameters and assertions.
use Rattle.std.specs.Prelude.{◌≡◌, ◌⊎◌, ℕ, Bool, true, false, List, [], ◌∷◌, IsTrue}
use Rattle.gil_values.specs.declared.operators.UnOp.TheVariants as unary
use Rattle.gil_values.specs.declared.operators.BinOp.{BinOp}
use Rattle.gil_values.specs.declared.operators.BinOp.TheVariants as binary
use Rattle.gil_lexer.specs.declared.signs.Sign.TheVariants as signs
use Rattle.gil_lexer.specs.declared.words.Word.TheVariants as words
use Rattle.gil_lexemes.specs.declared.standing.Lexeme.{Lexeme}
use Rattle.gil_lexemes.specs.declared.standing.Lexeme.TheVariants.{Name, Word, Logical, Sign}
use Rattle.gil_syntax.specs.declared.assertions.Param.{Param}
use Rattle.gil_syntax.specs.declared.assertions.SpecSort.TheVariants.{Any}
use Rattle.gil_syntax.specs.Pure.{PureExpr, unary_of, binary_of, PurePredUse, PureItem, pure, uses}
use Rattle.gil_grammar.specs.declared.positions.Position.TheVariants.{Assertion, Predicate}
use Rattle.gil_grammar.specs.Lists.{SpellsEach, SpellsSome, SpellsSeparated}
use Rattle.gil_grammar.specs.Expressions.{SpellsExpr, SpellsExprs}
use Rattle.gil_grammar.specs.Vocabulary.{opening_parenthesis, closing_parenthesis, opening_bracket, closing_bracket, opening_brace, closing_brace, comma, semicolon, colon, sort_word, IsNameAt}

-- name   name : sort. A sort that is missing is any. The name is a lexeme of this form: a name, or a logical name.
abbrev pub SpellsParam : (List ℕ → Lexeme) → Param → List Lexeme → List Lexeme → Type 0
SpellsParam form q from rest =
    (from ≡ form q.name ∷ colon ∷ Word (sort_word q.sort) ∷ rest) ⊎ ((q.sort ≡ Any) × (from ≡ form q.name ∷ rest))

-- parameters, with commas between them
abbrev pub SpellsParams : List Param → List Lexeme → List Lexeme → Type 0
SpellsParams ps from rest = SpellsSeparated (SpellsParam Name) comma ps from rest

-- [#x : sort, ..]
abbrev pub SpellsVariables : List Param → List Lexeme → List Lexeme → Type 0
SpellsVariables ps from rest =
    (inner : List Lexeme) × (from ≡ opening_bracket ∷ inner) × SpellsSeparated (SpellsParam Logical) comma ps inner (closing_bracket ∷ rest)

-- name(e, ..; e, ..)
abbrev pub SpellsUse : PurePredUse → List Lexeme → List Lexeme → Type 0
SpellsUse u from rest =
    (lexeme : Lexeme) × (ins outs : List Lexeme) × IsNameAt Predicate u.pred lexeme × (from ≡ lexeme ∷ opening_parenthesis ∷ ins)
    × SpellsExprs Assertion u.ins ins (semicolon ∷ outs) × SpellsExprs Assertion u.outs outs (closing_parenthesis ∷ rest)

-- (e op e) and not(e): the expressions that are items
abbrev pub is_written_between : BinOp → Bool
is_written_between binary.Nth = false
is_written_between _ = true

abbrev pub may_be_item : PureExpr → Bool
may_be_item (unary_of unary.Not e) = true
may_be_item (binary_of op d e) = is_written_between op
may_be_item _ = false

abbrev pub SpellsItem : PureItem → List Lexeme → List Lexeme → Type 0
SpellsItem (pure e) from rest = IsTrue (may_be_item e) × SpellsExpr Assertion e from rest
SpellsItem (uses u) from rest = SpellsUse u from rest

-- emp   item * .. * item
abbrev pub SpellsAssertion : List PureItem → List Lexeme → List Lexeme → Type 0
SpellsAssertion [] from rest = from ≡ Word words.Emp ∷ rest
SpellsAssertion (item ∷ items) from rest = SpellsSeparated SpellsItem (Sign signs.Star) (item ∷ items) from rest

-- { assertion }
abbrev pub SpellsBlock : List PureItem → List Lexeme → List Lexeme → Type 0
SpellsBlock items from rest =
    (inner : List Lexeme) × (from ≡ opening_brace ∷ inner) × SpellsAssertion items inner (closing_brace ∷ rest)

-- throw { assertion }
abbrev pub SpellsError : List PureItem → List Lexeme → List Lexeme → Type 0
SpellsError items from rest = (block : List Lexeme) × (from ≡ Word words.Throw ∷ block) × SpellsBlock items block rest

-- { assertion } .. { assertion }, at least one
abbrev pub SpellsBlocks : List (List PureItem) → List Lexeme → List Lexeme → Type 0
SpellsBlocks blocks from rest = SpellsSome SpellsBlock blocks from rest

-- { postcondition } .. throw { error postcondition } .., at least one of either
abbrev pub SpellsPosts : List (List PureItem) → List (List PureItem) → List Lexeme → List Lexeme → Type 0
SpellsPosts [] errors from rest = SpellsSome SpellsError errors from rest
SpellsPosts (post ∷ posts) errors from rest =
    (middle : List Lexeme) × SpellsEach SpellsBlock (post ∷ posts) from middle × SpellsEach SpellsError errors middle rest
