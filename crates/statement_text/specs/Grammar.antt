-- The lexemes of the statements that every source language has, over those of the expressions and the simple statements of a language.
use Rattle.std.specs.Prelude.{◌≡◌, ◌⊎◌, ℕ, Bool, true, false, List, ◌∷◌, length}
use Rattle.gil_lexer.specs.declared.words.Word.TheVariants as words
use Rattle.gil_lexemes.specs.declared.standing.Lexeme.{Lexeme}
use Rattle.gil_lexemes.specs.declared.standing.Lexeme.TheVariants.{Name, Word as OfWord}
use Rattle.gil_lexemes.specs.Reading.{first_form, is_word}
use Rattle.gil_grammar.specs.Vocabulary.{opening_parenthesis, closing_parenthesis, semicolon}
use Rattle.source_text.specs.Grammar.{Braced}
use Rattle.source_text.specs.Logic.{SpellsLogic, SpellsInvariant}
use Rattle.source_statements.specs.Pure.{PureStatement, simple, assert, assume, if_else, while, return, logic, try_catch, PureBlock, no_statements, statement_and}

-- what begins with the first lexemes and is followed by the second ones
abbrev pub Spelling : Type 0 → Type 1
Spelling X = X → List Lexeme → List Lexeme → Type 0

-- how a language spells its expressions, and its simple statements, to their last `;`; whether it has `try`
pub record Spellings (E S : Type 0) : Type 1 where
  pub expression : Spelling E
  pub simple : Spelling S
  pub has_try : Bool

-- else { .. }. Without it the block has no statement, and no `else` follows, with which no statement begins.
abbrev pub Otherwise : {E S : Type 0} → PureBlock E S → (List Lexeme → List Lexeme → Type 0) → List Lexeme → List Lexeme → Type 0
Otherwise off spells from rest =
    ((off ≡ no_statements) × (from ≡ rest) × (is_word words.Else (first_form rest) ≡ false))
    ⊎ ((block : List Lexeme) × (from ≡ OfWord words.Else ∷ block) × Braced spells block rest)

-- Where the last so many lexemes of a text begin is said by place.
module _ {E S : Type 0} (g : Spellings E S) (place : ℕ → ℕ) where
  -- The lexemes from begin with the statement, and rest follows: a simple statement, or
  --   assert(e);   assume(e);   if (e) block   if (e) block else block   while (e) block   while (e) invariant block   return e;
  --   fold use;   unfold use;   assert { assertion };   and in a language that has it try block catch (x) block
  abbrev mutual
    pub SpellsStatement : PureStatement E S → List Lexeme → List Lexeme → Type 0
    SpellsStatement (simple c) from rest = g.simple c from rest
    SpellsStatement (assert e) from rest =
        (guard : List Lexeme) × (from ≡ OfWord words.Assert ∷ opening_parenthesis ∷ guard)
        × g.expression e guard (closing_parenthesis ∷ semicolon ∷ rest)
    SpellsStatement (assume e) from rest =
        (guard : List Lexeme) × (from ≡ OfWord words.Assume ∷ opening_parenthesis ∷ guard)
        × g.expression e guard (closing_parenthesis ∷ semicolon ∷ rest)
    SpellsStatement (if_else e on off) from rest =
        (guard block after : List Lexeme) × (from ≡ OfWord words.If ∷ opening_parenthesis ∷ guard)
        × g.expression e guard (closing_parenthesis ∷ block) × Braced (SpellsStatements on) block after
        × Otherwise off (SpellsStatements off) after rest
    SpellsStatement (while e invariant body) from rest =
        (guard after block : List Lexeme) × (from ≡ OfWord words.While ∷ opening_parenthesis ∷ guard)
        × g.expression e guard (closing_parenthesis ∷ after) × SpellsInvariant invariant after block
        × Braced (SpellsStatements body) block rest
    SpellsStatement (return e) from rest =
        (value : List Lexeme) × (from ≡ OfWord words.Return ∷ value) × g.expression e value (semicolon ∷ rest)
    SpellsStatement (logic c) from rest = SpellsLogic c from rest
    SpellsStatement (try_catch body x handler) from rest =
        (block other : List Lexeme) × (g.has_try ≡ true) × (from ≡ OfWord words.Try ∷ block)
        × Braced (SpellsStatements body) block (OfWord words.Catch ∷ opening_parenthesis ∷ Name x ∷ closing_parenthesis ∷ other)
        × Braced (SpellsStatements handler) other rest

    -- statements one after another, each with the byte at which it begins
    pub SpellsStatements : PureBlock E S → List Lexeme → List Lexeme → Type 0
    SpellsStatements no_statements from rest = from ≡ rest
    SpellsStatements (statement_and at c body) from rest =
        (after : List Lexeme) × (at ≡ place (length from)) × SpellsStatement c from after × SpellsStatements body after rest

  -- { statement .. }
  abbrev pub SpellsBlock : PureBlock E S → List Lexeme → List Lexeme → Type 0
  SpellsBlock body from rest = Braced (SpellsStatements body) from rest

  abbrev pub SpellsElse : PureBlock E S → List Lexeme → List Lexeme → Type 0
  SpellsElse off from rest = Otherwise off (SpellsStatements off) from rest
