-- Reading procedures, specifications and predicates.
use Rattle.std.specs.Prelude.{List, length, Some, None}
use Rattle.gil_lexer.specs.declared.words.Word.{Word}
use Rattle.gil_lexer.specs.declared.words.Word.TheVariants as words
use Rattle.gil_lexer.specs.declared.signs.Sign.TheVariants.{LeftParenthesis, RightParenthesis, LeftBrace, RightBrace, Semicolon}
use Rattle.gil_lexemes.specs.declared.standing.Lexeme.{Lexeme}
use Rattle.gil_lexemes.specs.Lists.{each_until}
use Rattle.gil_lexemes.specs.Reading.{Reading, ◌>>=◌, first_form, behind, sign_at, name_at}
use Rattle.gil_syntax.specs.Pure.{PureNumberedCommand, PureProc, PureSpec, PurePredDef}
use Rattle.gil_syntax.specs.Programs.{numbered_from}
use Rattle.gil_syntax.specs.Valid.{ProgramItem, a_proc, a_spec, a_pred}
use Rattle.gil_grammar.specs.declared.positions.Position.TheVariants.{Predicate}
use Rattle.gil_grammar.specs.declared.positions.Naming.TheVariants.{Program}
use Rattle.gil_grammar.specs.declared.positions.Extent.{Extent}
use Rattle.gil_grammar.specs.declared.positions.Extent.TheVariants.{Whole}
use Rattle.gil_grammar.specs.declared.positions.Opening.TheVariants.{Brace}
use Rattle.gil_grammar.specs.Reading.Vocabulary.{word_of, named_at}
use Rattle.gil_grammar.specs.Reading.Assertions.{params_at, variables_at, block_at, blocks_at, posts_at}
use Rattle.gil_grammar.specs.Reading.Commands.{names_at, statement_at}

-- the commands up to the closing brace, each with its index as its number
unfoldable pub body_at : List Lexeme → Reading (List PureNumberedCommand)
body_at ls = each_until statement_at (length ls) RightBrace ls >>= λ cs. Some (numbered_from 0 cs.0, cs.1)

-- behind the word `proc`
unfoldable pub proc_at : List Lexeme → Reading PureProc
proc_at ls = do
  x ← name_at ls
  inner ← sign_at LeftParenthesis x.1
  xs ← names_at RightParenthesis inner
  outer ← sign_at RightParenthesis xs.1
  body ← sign_at LeftBrace outer
  commands ← body_at body
  rest ← sign_at RightBrace commands.1
  Some (record { name = x.0; params = xs.0; body = commands.0 }, rest)

-- behind the word `spec`
unfoldable pub spec_at : Extent → List Lexeme → Reading PureSpec
spec_at extent ls = do
  x ← name_at ls
  inner ← sign_at LeftParenthesis x.1
  ps ← params_at Program RightParenthesis inner
  variables ← sign_at RightParenthesis ps.1
  vs ← variables_at variables
  pre ← block_at vs.1
  posts ← posts_at extent pre.1
  Some (record { name = x.0; params = ps.0; logicals = vs.0; pre = pre.0; posts = posts.0.0; errors = posts.0.1 }, posts.1)

-- behind the word `pred`
unfoldable pub pred_at : Extent → List Lexeme → Reading PurePredDef
pred_at extent ls = do
  x ← named_at Predicate ls
  in_place ← sign_at LeftParenthesis x.1
  given ← params_at Program Semicolon in_place
  out_place ← sign_at Semicolon given.1
  gives ← params_at Program RightParenthesis out_place
  variables ← sign_at RightParenthesis gives.1
  vs ← variables_at variables
  cases ← blocks_at Brace extent vs.1
  Some (record { name = x.0; ins = given.0; outs = gives.0; logicals = vs.0; cases = cases.0 }, cases.1)

-- an item, by its word
abbrev pub a_proc_at : List Lexeme → Reading ProgramItem
a_proc_at ls = proc_at (behind ls) >>= λ q. Some (a_proc q.0, q.1)

abbrev pub a_spec_at : List Lexeme → Reading ProgramItem
a_spec_at ls = spec_at Whole (behind ls) >>= λ s. Some (a_spec s.0, s.1)

abbrev pub a_pred_at : List Lexeme → Reading ProgramItem
a_pred_at ls = pred_at Whole (behind ls) >>= λ d. Some (a_pred d.0, d.1)

abbrev pub item_by : Word → List Lexeme → Reading ProgramItem
item_by words.Proc ls = a_proc_at ls
item_by words.Spec ls = a_spec_at ls
item_by words.Pred ls = a_pred_at ls
item_by _ ls = None

unfoldable pub item_at : List Lexeme → Reading ProgramItem
item_at ls = word_of (first_form ls) >>= λ word. item_by word ls
