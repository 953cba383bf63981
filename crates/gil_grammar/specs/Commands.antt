-- The lexemes of commands.
use Rattle.std.specs.Prelude.{◌≡◌, ℕ, ℤ, Bool, true, false, List, ◌∷◌, Option, Some, None}
use Rattle.gil_lexer.specs.declared.words.Word.{Word}
use Rattle.gil_lexer.specs.declared.words.Word.TheVariants as words
use Rattle.gil_lexemes.specs.declared.standing.Lexeme.{Lexeme}
use Rattle.gil_lexemes.specs.declared.standing.Lexeme.TheVariants.{Name, Word as OfWord, Number}
use Rattle.gil_syntax.specs.Pure.{PureCommand, assign, call, act, usym, isym, ifgoto, return, fail, throw, vanish, fold_use, unfold_use, assert_that, loop_invariant}
use Rattle.gil_grammar.specs.declared.positions.Position.TheVariants.{Command, Action}
use Rattle.gil_grammar.specs.Assertions.{SpellsBlock, SpellsUse, SpellsVariables}
use Rattle.gil_grammar.specs.Expressions.{SpellsExpr, SpellsExprs}
use Rattle.gil_grammar.specs.Lists.{SpellsSeparated}
use Rattle.gil_grammar.specs.Vocabulary.{opening_parenthesis, closing_parenthesis, comma, semicolon, becomes, input_word, IsNameAt}

-- a variable or a parameter, as a name
abbrev pub SpellsName : List ℕ → List Lexeme → List Lexeme → Type 0
SpellsName x from rest = from ≡ Name x ∷ rest

-- names, with commas between them
abbrev pub SpellsNames : List (List ℕ) → List Lexeme → List Lexeme → Type 0
SpellsNames xs from rest = SpellsSeparated SpellsName comma xs from rest

-- catch label, or nothing
abbrev pub SpellsHandler : Option ℤ → List Lexeme → List Lexeme → Type 0
SpellsHandler None from rest = from ≡ rest
SpellsHandler (Some label) from rest = from ≡ OfWord words.Catch ∷ Number label ∷ rest

-- The lexemes from begin with the command, without its `;`, and rest follows:
--   x := e   x := call e(e, ..)   x := call e(e, ..) catch i   x := do action(e, ..)   x := usym   x := isym sort
--   ifgoto e i   return e   fail e   throw e   vanish
--   fold use   unfold use   assert { assertion }   invariant (x, ..) [#x : sort, ..] { assertion }
abbrev pub SpellsCommand : PureCommand → List Lexeme → List Lexeme → Type 0
SpellsCommand (assign x e) from rest = (value : List Lexeme) × (from ≡ Name x ∷ becomes ∷ value) × SpellsExpr Command e value rest
SpellsCommand (call x e es handler) from rest =
    (callee arguments behind : List Lexeme) × (from ≡ Name x ∷ becomes ∷ OfWord words.Call ∷ callee)
    × SpellsExpr Command e callee (opening_parenthesis ∷ arguments) × SpellsExprs Command es arguments (closing_parenthesis ∷ behind)
    × SpellsHandler handler behind rest
SpellsCommand (act x action es) from rest =
    (lexeme : Lexeme) × (arguments : List Lexeme) × IsNameAt Action action lexeme
    × (from ≡ Name x ∷ becomes ∷ OfWord words.Do ∷ lexeme ∷ opening_parenthesis ∷ arguments)
    × SpellsExprs Command es arguments (closing_parenthesis ∷ rest)
SpellsCommand (usym x) from rest = from ≡ Name x ∷ becomes ∷ OfWord words.Usym ∷ rest
SpellsCommand (isym x k) from rest =
    (word : Word) × (input_word k ≡ Some word) × (from ≡ Name x ∷ becomes ∷ OfWord words.Isym ∷ OfWord word ∷ rest)
SpellsCommand (ifgoto e i) from rest =
    (guard : List Lexeme) × (from ≡ OfWord words.Ifgoto ∷ guard) × SpellsExpr Command e guard (Number i ∷ rest)
SpellsCommand (return e) from rest = (value : List Lexeme) × (from ≡ OfWord words.Return ∷ value) × SpellsExpr Command e value rest
SpellsCommand (fail e) from rest = (value : List Lexeme) × (from ≡ OfWord words.Fail ∷ value) × SpellsExpr Command e value rest
SpellsCommand (throw e) from rest = (value : List Lexeme) × (from ≡ OfWord words.Throw ∷ value) × SpellsExpr Command e value rest
SpellsCommand vanish from rest = from ≡ OfWord words.Vanish ∷ rest
SpellsCommand (fold_use u) from rest = (inner : List Lexeme) × (from ≡ OfWord words.Fold ∷ inner) × SpellsUse u inner rest
SpellsCommand (unfold_use u) from rest = (inner : List Lexeme) × (from ≡ OfWord words.Unfold ∷ inner) × SpellsUse u inner rest
SpellsCommand (assert_that items) from rest = (block : List Lexeme) × (from ≡ OfWord words.Assert ∷ block) × SpellsBlock items block rest
SpellsCommand (loop_invariant xs ps items) from rest =
    (names variables block : List Lexeme) × (from ≡ OfWord words.Invariant ∷ opening_parenthesis ∷ names)
    × SpellsNames xs names (closing_parenthesis ∷ variables) × SpellsVariables ps variables block × SpellsBlock items block rest

-- a command and its `;`
abbrev pub SpellsStatement : PureCommand → List Lexeme → List Lexeme → Type 0
SpellsStatement c from rest = SpellsCommand c from (semicolon ∷ rest)

-- the commands that the source languages share, of which assertions are made
abbrev pub is_logic : PureCommand → Bool
is_logic (fold_use u) = true
is_logic (unfold_use u) = true
is_logic (assert_that items) = true
is_logic (loop_invariant xs ps items) = true
is_logic _ = false
