-- The lexemes of statements, blocks and functions. Expressions, specifications, predicates and what only proofs look at are those of
-- GIL.
use Rattle.std.specs.Prelude.{◌≡◌, ◌⊎◌, ℕ, false, List, ◌∷◌, length, Some}
use Rattle.gil_lexer.specs.declared.words.Word.{Word}
use Rattle.gil_lexer.specs.declared.words.Word.TheVariants as words
use Rattle.gil_lexemes.specs.declared.standing.Lexeme.{Lexeme}
use Rattle.gil_lexemes.specs.declared.standing.Lexeme.TheVariants.{Name, Word as OfWord}
use Rattle.gil_lexemes.specs.Reading.{first_form, is_word}
use Rattle.gil_grammar.specs.declared.positions.Position.TheVariants.{Command}
use Rattle.gil_grammar.specs.Commands.{SpellsNames}
use Rattle.gil_grammar.specs.Expressions.{SpellsExpr, SpellsExprs}
use Rattle.gil_grammar.specs.Lists.{SpellsSeparated}
use Rattle.gil_grammar.specs.Vocabulary.{opening_parenthesis, closing_parenthesis, opening_brace, closing_brace, comma, semicolon, colon, input_word}
use Rattle.source_text.specs.Grammar.{Braced}
use Rattle.source_text.specs.Logic.{SpellsLogic, SpellsInvariant}
use Rattle.source_text.specs.Vocabulary.{equals, dot}
use Rattle.while_lang.specs.Pure.{PureField, PureStatement, assign, input, symbol, new, lookup, call, mutate, dispose, assert, assume, if_else, while, return, fail, logic, PureBlock, no_statements, statement_and, PureFunction}

-- name: e
abbrev pub SpellsField : PureField → List Lexeme → List Lexeme → Type 0
SpellsField f from rest = (value : List Lexeme) × (from ≡ Name f.name ∷ colon ∷ value) × SpellsExpr Command f.value value rest

-- else { .. }. Without it the block has no statement, and no `else` follows, with which no statement begins.
abbrev pub Otherwise : PureBlock → (List Lexeme → List Lexeme → Type 0) → List Lexeme → List Lexeme → Type 0
Otherwise off spells from rest =
    ((off ≡ no_statements) × (from ≡ rest) × (is_word words.Else (first_form rest) ≡ false))
    ⊎ ((block : List Lexeme) × (from ≡ OfWord words.Else ∷ block) × Braced spells block rest)

-- Where the last so many lexemes of a text begin is said by place.
module _ (place : ℕ → ℕ) where
  -- The lexemes from begin with the statement, and rest follows:
  --   x = e;   x = input sort;   x = symbol;   x = new {p: e, ..};   x = y.p;   x = f(e, ..);   y.p = e;   dispose e;
  --   assert(e);   assume(e);   if (e) block   if (e) block else block   while (e) block   while (e) invariant block
  --   return e;   fail e;   fold use;   unfold use;   assert { assertion };
  abbrev mutual
    pub SpellsStatement : PureStatement → List Lexeme → List Lexeme → Type 0
    SpellsStatement (assign x e) from rest =
        (value : List Lexeme) × (from ≡ Name x ∷ equals ∷ value) × SpellsExpr Command e value (semicolon ∷ rest)
    SpellsStatement (input x k) from rest =
        (word : Word) × (input_word k ≡ Some word) × (from ≡ Name x ∷ equals ∷ OfWord words.Input ∷ OfWord word ∷ semicolon ∷ rest)
    SpellsStatement (symbol x) from rest = from ≡ Name x ∷ equals ∷ OfWord words.Symbol ∷ semicolon ∷ rest
    SpellsStatement (new x fields) from rest =
        (inner : List Lexeme) × (from ≡ Name x ∷ equals ∷ OfWord words.New ∷ opening_brace ∷ inner)
        × SpellsSeparated SpellsField comma fields inner (closing_brace ∷ semicolon ∷ rest)
    SpellsStatement (lookup x y p) from rest = from ≡ Name x ∷ equals ∷ Name y ∷ dot ∷ Name p ∷ semicolon ∷ rest
    SpellsStatement (call x f es) from rest =
        (arguments : List Lexeme) × (from ≡ Name x ∷ equals ∷ Name f ∷ opening_parenthesis ∷ arguments)
        × SpellsExprs Command es arguments (closing_parenthesis ∷ semicolon ∷ rest)
    SpellsStatement (mutate y p e) from rest =
        (value : List Lexeme) × (from ≡ Name y ∷ dot ∷ Name p ∷ equals ∷ value) × SpellsExpr Command e value (semicolon ∷ rest)
    SpellsStatement (dispose e) from rest =
        (value : List Lexeme) × (from ≡ OfWord words.Dispose ∷ value) × SpellsExpr Command e value (semicolon ∷ rest)
    SpellsStatement (assert e) from rest =
        (guard : List Lexeme) × (from ≡ OfWord words.Assert ∷ opening_parenthesis ∷ guard)
        × SpellsExpr Command e guard (closing_parenthesis ∷ semicolon ∷ rest)
    SpellsStatement (assume e) from rest =
        (guard : List Lexeme) × (from ≡ OfWord words.Assume ∷ opening_parenthesis ∷ guard)
        × SpellsExpr Command e guard (closing_parenthesis ∷ semicolon ∷ rest)
    SpellsStatement (if_else e on off) from rest =
        (guard block after : List Lexeme) × (from ≡ OfWord words.If ∷ opening_parenthesis ∷ guard)
        × SpellsExpr Command e guard (closing_parenthesis ∷ block) × Braced (SpellsStatements on) block after × Otherwise off (SpellsStatements off) after rest
    SpellsStatement (while e invariant body) from rest =
        (guard after block : List Lexeme) × (from ≡ OfWord words.While ∷ opening_parenthesis ∷ guard)
        × SpellsExpr Command e guard (closing_parenthesis ∷ after) × SpellsInvariant invariant after block
        × Braced (SpellsStatements body) block rest
    SpellsStatement (return e) from rest =
        (value : List Lexeme) × (from ≡ OfWord words.Return ∷ value) × SpellsExpr Command e value (semicolon ∷ rest)
    SpellsStatement (fail e) from rest =
        (value : List Lexeme) × (from ≡ OfWord words.Fail ∷ value) × SpellsExpr Command e value (semicolon ∷ rest)
    SpellsStatement (logic c) from rest = SpellsLogic c from rest

    -- statements one after another, each with the byte at which it begins
    pub SpellsStatements : PureBlock → List Lexeme → List Lexeme → Type 0
    SpellsStatements no_statements from rest = from ≡ rest
    SpellsStatements (statement_and at c body) from rest =
        (after : List Lexeme) × (at ≡ place (length from)) × SpellsStatement c from after × SpellsStatements body after rest

  -- { statement .. }
  abbrev pub SpellsBlock : PureBlock → List Lexeme → List Lexeme → Type 0
  SpellsBlock body from rest = Braced (SpellsStatements body) from rest

  abbrev pub SpellsElse : PureBlock → List Lexeme → List Lexeme → Type 0
  SpellsElse off from rest = Otherwise off (SpellsStatements off) from rest

  -- func name(x, ..) block, with the byte at which it begins
  abbrev pub SpellsFunction : PureFunction → List Lexeme → List Lexeme → Type 0
  SpellsFunction f from rest =
      (params body : List Lexeme) × (f.at ≡ place (length from))
      × (from ≡ OfWord words.Func ∷ Name f.name ∷ opening_parenthesis ∷ params)
      × SpellsNames f.params params (closing_parenthesis ∷ body) × SpellsBlock f.body body rest
