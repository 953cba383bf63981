-- The lexemes of what only proofs look at, which are those of GIL, and of what stands in braces; and the reading of them.
use Rattle.std.specs.Prelude.{◌≡◌, List, ◌∷◌, Option, Some, None, if◌then◌else◌}
use Rattle.gil_lexer.specs.declared.words.Word.{Word}
use Rattle.gil_lexer.specs.declared.words.Word.TheVariants as words
use Rattle.gil_lexer.specs.declared.signs.Sign.TheVariants.{Semicolon}
use Rattle.gil_lexemes.specs.declared.standing.Lexeme.{Lexeme}
use Rattle.gil_lexemes.specs.Reading.{Reading, ◌>>=◌, first_form, is_word, sign_at}
use Rattle.gil_syntax.specs.Pure as gil
use Rattle.gil_grammar.specs.Commands.{SpellsCommand}
use Rattle.gil_grammar.specs.Vocabulary.{semicolon}
use Rattle.gil_grammar.specs.Reading.Commands.{logic_by}
use Rattle.source_language.specs.Compiled.{logic_command}
use Rattle.source_language.specs.Pure.{PureLogic, fold_use, unfold_use, assert_that, invariant_by_itself, PureInvariant}

-- fold use;   unfold use;   assert { assertion };   invariant (x, ..) [#n, ..] { assertion };
abbrev pub SpellsLogic : PureLogic → List Lexeme → List Lexeme → Type 0
SpellsLogic c from rest = SpellsCommand (logic_command c) from (semicolon ∷ rest)

-- the invariant of a loop, where it has one
abbrev pub SpellsInvariant : Option PureInvariant → List Lexeme → List Lexeme → Type 0
SpellsInvariant None from rest = from ≡ rest
SpellsInvariant (Some i) from rest = SpellsCommand (gil.loop_invariant i.names i.logicals i.items) from rest

-- ---- reading

-- what only proofs look at, of the command of GIL
abbrev pub logic_of : gil.PureCommand → Option PureLogic
logic_of (gil.fold_use u) = Some (fold_use u)
logic_of (gil.unfold_use u) = Some (unfold_use u)
logic_of (gil.assert_that items) = Some (assert_that items)
logic_of (gil.loop_invariant xs ps items) = Some (invariant_by_itself (record { names = xs; logicals = ps; items = items }))
logic_of _ = None

-- from the word on
unfoldable pub logic_at : Word → List Lexeme → Reading PureLogic
logic_at word ls = do
  c ← logic_by word ls
  l ← logic_of c.0
  rest ← sign_at Semicolon c.1
  Some (l, rest)

abbrev pub invariant_of : gil.PureCommand → Option PureInvariant
invariant_of (gil.loop_invariant xs ps items) = Some (record { names = xs; logicals = ps; items = items })
invariant_of _ = None

unfoldable pub one_invariant_at : List Lexeme → Reading (Option PureInvariant)
one_invariant_at ls = do
  c ← logic_by words.Invariant ls
  i ← invariant_of c.0
  Some (Some i, c.1)

-- an invariant, where the word `invariant` comes next
unfoldable pub invariant_at : List Lexeme → Reading (Option PureInvariant)
invariant_at ls = if is_word words.Invariant (first_form ls) then one_invariant_at ls else Some (None, ls)
