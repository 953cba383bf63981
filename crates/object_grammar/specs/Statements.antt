-- The lexemes of the statements of the object language without statements in them.
use Rattle.std.specs.Prelude.{◌≡◌, ◌⊎◌, ℕ, List, ◌∷◌, Some}
use Rattle.gil_lexer.specs.declared.words.Word as word
use Rattle.gil_lexer.specs.declared.words.Word.TheVariants.{Let, Input, Create, Proto, Has, Delete, Setproto, Fail, Throw}
use Rattle.gil_lexemes.specs.declared.standing.Lexeme.{Lexeme}
use Rattle.gil_lexemes.specs.declared.standing.Lexeme.TheVariants.{Name, Word}
use Rattle.gil_grammar.specs.Vocabulary.{opening_parenthesis, semicolon, input_word}
use Rattle.source_operators.specs.Pure.{joined}
use Rattle.source_text.specs.Vocabulary.{equals}
use Rattle.operator_text.specs.Grammar as operators
use Rattle.operator_text.specs.Pieces as pieces
use Rattle.operator_text.specs.Signs.{tight}
use Rattle.object_operators.specs.declared.trees.Joint.TheVariants.{Property}
use Rattle.object_operators.specs.Pure.{PureExpression}
use Rattle.object_lang.specs.Pure.{PureSimple, assign, input, create, proto, has, call, set, delete, set_proto, fail, throw}
use Rattle.object_grammar.specs.Signs.{object_signs}

abbrev pub SpellsExpression : PureExpression → List Lexeme → List Lexeme → Type 0
SpellsExpression e from rest = pieces.SpellsWhole object_signs e from rest

-- x = or let x =
abbrev pub SpellsTarget : List ℕ → List Lexeme → List Lexeme → Type 0
SpellsTarget x from value = (from ≡ Name x ∷ equals ∷ value) ⊎ (from ≡ Word Let ∷ Name x ∷ equals ∷ value)

-- a[b] or a.p, outside brackets and behind no operator
abbrev pub SpellsPlace : PureExpression → PureExpression → List Lexeme → List Lexeme → Type 0
SpellsPlace a b from rest = operators.SpellsExpression object_signs tight (joined Property a b) from rest

-- x = e;   x = input sort;   x = create(e);   x = proto(e);   x = has(a, b);   x = f(e, ..), where f is an expression;   each with `let` or without;
-- a[b] = c;   delete a[b];   setproto(a, b);   fail e;   throw e;
abbrev pub SpellsSimple : PureSimple → List Lexeme → List Lexeme → Type 0
SpellsSimple (assign x e) from rest = (value : List Lexeme) × SpellsTarget x from value × pieces.SpellsValue object_signs e value rest
SpellsSimple (input x k) from rest = (sort : word.Word) × (input_word k ≡ Some sort) × SpellsTarget x from (Word Input ∷ Word sort ∷ semicolon ∷ rest)
SpellsSimple (create x e) from rest = (value : List Lexeme) × SpellsTarget x from (Word Create ∷ value) × pieces.SpellsArgument object_signs e value rest
SpellsSimple (proto x e) from rest = (value : List Lexeme) × SpellsTarget x from (Word Proto ∷ value) × pieces.SpellsArgument object_signs e value rest
SpellsSimple (has x a b) from rest = (value : List Lexeme) × SpellsTarget x from (Word Has ∷ value) × pieces.SpellsPair object_signs a b value rest
SpellsSimple (call x f es) from rest =
    (value inner : List Lexeme) × SpellsTarget x from value × SpellsExpression f value (opening_parenthesis ∷ inner)
    × pieces.SpellsArguments object_signs es inner rest
SpellsSimple (set a b c) from rest = (value : List Lexeme) × SpellsPlace a b from (equals ∷ value) × pieces.SpellsValue object_signs c value rest
SpellsSimple (delete a b) from rest = (place : List Lexeme) × (from ≡ Word Delete ∷ place) × SpellsPlace a b place (semicolon ∷ rest)
SpellsSimple (set_proto a b) from rest = (pair : List Lexeme) × (from ≡ Word Setproto ∷ pair) × pieces.SpellsPair object_signs a b pair rest
SpellsSimple (fail e) from rest = (value : List Lexeme) × (from ≡ Word Fail ∷ value) × pieces.SpellsValue object_signs e value rest
SpellsSimple (throw e) from rest = (value : List Lexeme) × (from ≡ Word Throw ∷ value) × pieces.SpellsValue object_signs e value rest
