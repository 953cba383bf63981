-- The lexemes of the C-like statements without statements in them. What `int` and stars declare isn't checked.
use Rattle.std.specs.Prelude.{◌≡◌, ◌⊎◌, ℕ, zero, suc, List, ◌∷◌, Option, Some, None}
use Rattle.gil_lexer.specs.declared.signs.Sign.TheVariants as signs
use Rattle.gil_lexer.specs.declared.words.Word.TheVariants.{Int, Input, Malloc, Free}
use Rattle.gil_lexemes.specs.declared.standing.Lexeme.{Lexeme}
use Rattle.gil_lexemes.specs.declared.standing.Lexeme.TheVariants.{Name, Word, Sign}
use Rattle.gil_grammar.specs.Vocabulary.{opening_parenthesis, closing_parenthesis, semicolon}
use Rattle.source_operators.specs.Pure.{constant, prefixed, joined}
use Rattle.source_text.specs.Vocabulary.{equals}
use Rattle.operator_text.specs.Grammar as operators
use Rattle.operator_text.specs.Pieces as pieces
use Rattle.operator_text.specs.Signs.{tight}
use Rattle.clike_operators.specs.declared.trees.Prefix.TheVariants.{Pointee}
use Rattle.clike_operators.specs.declared.trees.Joint.TheVariants.{Cell}
use Rattle.clike_operators.specs.Pure.{PureExpression}
use Rattle.clike_operators.specs.Ranges.{number}
use Rattle.clike_lang.specs.Pure.{PureSimple, assign, input, malloc, call, free, store}
use Rattle.clike_grammar.specs.Signs.{clike_signs}

abbrev pub SpellsExpressionAt : ℕ → PureExpression → List Lexeme → List Lexeme → Type 0
SpellsExpressionAt k e from rest = operators.SpellsExpression clike_signs k e from rest

abbrev pub SpellsExpression : PureExpression → List Lexeme → List Lexeme → Type 0
SpellsExpression e from rest = pieces.SpellsWhole clike_signs e from rest

-- so many stars in front of lexemes
abbrev pub stars : ℕ → List Lexeme → List Lexeme
stars zero ls = ls
stars (suc n) ls = Sign signs.Star ∷ stars n ls

-- int x, with stars between
abbrev pub SpellsDeclared : List ℕ → List Lexeme → List Lexeme → Type 0
SpellsDeclared x from rest = (n : ℕ) × (from ≡ Word Int ∷ stars n (Name x ∷ rest))

-- x = or int x =
abbrev pub SpellsTarget : List ℕ → List Lexeme → List Lexeme → Type 0
SpellsTarget x from value = (from ≡ Name x ∷ equals ∷ value) ⊎ SpellsDeclared x from (equals ∷ value)

-- (e);
abbrev pub SpellsArgument : PureExpression → List Lexeme → List Lexeme → Type 0
SpellsArgument e from rest = pieces.SpellsArgument clike_signs e from rest

-- f(e, ..);
abbrev pub SpellsCall : List ℕ → List PureExpression → List Lexeme → List Lexeme → Type 0
SpellsCall f es from rest =
    (inner : List Lexeme) × (from ≡ Name f ∷ opening_parenthesis ∷ inner) × pieces.SpellsArguments clike_signs es inner rest

-- the pointer and the offset of a place: of `*a`, which is `a[0]`, and of `a[b]`
abbrev pub place_parts : PureExpression → Option (PureExpression × PureExpression)
place_parts (prefixed Pointee a) = Some (a, constant (number 0))
place_parts (joined Cell a b) = Some (a, b)
place_parts _ = None

-- x = e;   x = input();   x = malloc(e);   x = f(e, ..);   f(e, ..);   free(e);   *a = c;   a[b] = c;   and `int` before a variable
abbrev pub SpellsSimple : PureSimple → List Lexeme → List Lexeme → Type 0
SpellsSimple (assign x e) from rest = (value : List Lexeme) × SpellsTarget x from value × SpellsExpression e value (semicolon ∷ rest)
SpellsSimple (input x) from rest = SpellsTarget x from (Word Input ∷ opening_parenthesis ∷ closing_parenthesis ∷ semicolon ∷ rest)
SpellsSimple (malloc x e) from rest = (value : List Lexeme) × SpellsTarget x from (Word Malloc ∷ value) × SpellsArgument e value rest
SpellsSimple (call (Some x) f es) from rest = (value : List Lexeme) × SpellsTarget x from value × SpellsCall f es value rest
SpellsSimple (call None f es) from rest = SpellsCall f es from rest
SpellsSimple (free e) from rest = (value : List Lexeme) × (from ≡ Word Free ∷ value) × SpellsArgument e value rest
SpellsSimple (store a b c) from rest =
    (place : PureExpression) × (value : List Lexeme) × (place_parts place ≡ Some (a, b))
    × SpellsExpressionAt tight place from (equals ∷ value) × SpellsExpression c value (semicolon ∷ rest)
