-- The lexemes of procedures, specifications and predicates.
use Rattle.std.specs.Prelude.{◌≡◌, List, ◌∷◌, map}
use Rattle.gil_lexer.specs.declared.words.Word.TheVariants as words
use Rattle.gil_lexemes.specs.declared.standing.Lexeme.{Lexeme}
use Rattle.gil_lexemes.specs.declared.standing.Lexeme.TheVariants.{Name, Word}
use Rattle.gil_syntax.specs.Pure.{PureCommand, PureNumberedCommand, PureProc, PureSpec, PurePredDef}
use Rattle.gil_syntax.specs.Programs.{numbered_from}
use Rattle.gil_syntax.specs.Valid.{ProgramItem, a_proc, a_spec, a_pred}
use Rattle.gil_grammar.specs.declared.positions.Position.TheVariants.{Predicate}
use Rattle.gil_grammar.specs.Assertions.{SpellsParams, SpellsVariables, SpellsBlock, SpellsBlocks, SpellsPosts}
use Rattle.gil_grammar.specs.Commands.{SpellsNames, SpellsStatement}
use Rattle.gil_grammar.specs.Lists.{SpellsEach}
use Rattle.gil_grammar.specs.Vocabulary.{opening_parenthesis, closing_parenthesis, opening_brace, closing_brace, semicolon, IsNameAt}

abbrev pub commands_of : List PureNumberedCommand → List PureCommand
commands_of body = map (λ c. c.command) body

-- proc name(x, ..) { command; .. }. The number of a command is its index, from 0.
abbrev pub SpellsProc : PureProc → List Lexeme → List Lexeme → Type 0
SpellsProc q from rest =
    (params body : List Lexeme) × (from ≡ Word words.Proc ∷ Name q.name ∷ opening_parenthesis ∷ params)
    × SpellsNames q.params params (closing_parenthesis ∷ opening_brace ∷ body)
    × SpellsEach SpellsStatement (commands_of q.body) body (closing_brace ∷ rest)
    × (q.body ≡ numbered_from 0 (commands_of q.body))

-- spec name(x : sort, ..) [#x : sort, ..] { precondition } { postcondition } .. throw { error postcondition } ..
abbrev pub SpellsSpec : PureSpec → List Lexeme → List Lexeme → Type 0
SpellsSpec s from rest =
    (params variables pre posts : List Lexeme) × (from ≡ Word words.Spec ∷ Name s.name ∷ opening_parenthesis ∷ params)
    × SpellsParams s.params params (closing_parenthesis ∷ variables) × SpellsVariables s.logicals variables pre
    × SpellsBlock s.pre pre posts × SpellsPosts s.posts s.errors posts rest

-- pred name(x : sort, ..; x : sort, ..) [#x : sort, ..] { case } ..
abbrev pub SpellsPred : PurePredDef → List Lexeme → List Lexeme → Type 0
SpellsPred d from rest =
    (lexeme : Lexeme) × (ins outs variables cases : List Lexeme) × IsNameAt Predicate d.name lexeme
    × (from ≡ Word words.Pred ∷ lexeme ∷ opening_parenthesis ∷ ins)
    × SpellsParams d.ins ins (semicolon ∷ outs) × SpellsParams d.outs outs (closing_parenthesis ∷ variables)
    × SpellsVariables d.logicals variables cases × SpellsBlocks d.cases cases rest

abbrev pub SpellsProgramItem : ProgramItem → List Lexeme → List Lexeme → Type 0
SpellsProgramItem (a_proc q) from rest = SpellsProc q from rest
SpellsProgramItem (a_spec s) from rest = SpellsSpec s from rest
SpellsProgramItem (a_pred d) from rest = SpellsPred d from rest
