-- Reading commands.
use Rattle.std.specs.Prelude.{ℕ, ℤ, List, Option, Some, None, if◌then◌else◌}
use Rattle.gil_lexer.specs.declared.forms.Form.{Form}
use Rattle.gil_lexer.specs.declared.forms.Form.TheVariants as forms
use Rattle.gil_lexer.specs.declared.words.Word.{Word}
use Rattle.gil_lexer.specs.declared.words.Word.TheVariants as words
use Rattle.gil_lexer.specs.declared.signs.Sign.{Sign}
use Rattle.gil_lexer.specs.declared.signs.Sign.TheVariants.{LeftParenthesis, RightParenthesis, Comma, Semicolon, ColonEqual}
use Rattle.gil_lexemes.specs.declared.standing.Lexeme.{Lexeme}
use Rattle.gil_lexemes.specs.Lists.{separated_at}
use Rattle.gil_lexemes.specs.Reading.{Reading, ◌>>=◌, first_form, behind, is_word, sign_at, name_at, number_at}
use Rattle.gil_syntax.specs.Pure.{PureCommand, assign, call, act, usym, isym, ifgoto, return, fail, throw, vanish, fold_use, unfold_use, assert_that, loop_invariant}
use Rattle.gil_grammar.specs.declared.positions.Position.TheVariants.{Command, Action}
use Rattle.gil_grammar.specs.Reading.Vocabulary.{input_of_word, word_of, named_at}
use Rattle.gil_grammar.specs.Reading.Assertions.{expression_at, expressions_at, use_at, block_at, variables_at}

-- ---- what is assigned to the variable x, behind the word that begins it

abbrev pub assign_at : List ℕ → List Lexeme → Reading PureCommand
assign_at x ls = expression_at Command ls >>= λ e. Some (assign x e.0, e.1)

-- the label behind `catch`, or none
unfoldable pub handler_at : List Lexeme → Reading (Option ℤ)
handler_at ls =
    if is_word words.Catch (first_form ls)
    then (number_at (behind ls) >>= λ label. Some (Some label.0, label.1))
    else Some (None, ls)

-- e(e, ..), and the label of its handler
unfoldable pub call_at : List ℕ → List Lexeme → Reading PureCommand
call_at x ls = do
  callee ← expression_at Command ls
  inner ← sign_at LeftParenthesis callee.1
  es ← expressions_at Command RightParenthesis inner
  rest ← sign_at RightParenthesis es.1
  handler ← handler_at rest
  Some (call x callee.0 es.0 handler.0, handler.1)

-- action(e, ..)
unfoldable pub act_at : List ℕ → List Lexeme → Reading PureCommand
act_at x ls = do
  action ← named_at Action ls
  inner ← sign_at LeftParenthesis action.1
  es ← expressions_at Command RightParenthesis inner
  rest ← sign_at RightParenthesis es.1
  Some (act x action.0 es.0, rest)

-- a sort of inputs
unfoldable pub isym_at : List ℕ → List Lexeme → Reading PureCommand
isym_at x ls = do
  word ← word_of (first_form ls)
  k ← input_of_word word
  Some (isym x k, behind ls)

abbrev pub assigned_by : Option Form → List ℕ → List Lexeme → Reading PureCommand
assigned_by (Some (forms.Word words.Call)) x ls = call_at x (behind ls)
assigned_by (Some (forms.Word words.Do)) x ls = act_at x (behind ls)
assigned_by (Some (forms.Word words.Usym)) x ls = Some (usym x, behind ls)
assigned_by (Some (forms.Word words.Isym)) x ls = isym_at x (behind ls)
assigned_by _ x ls = assign_at x ls

abbrev pub assigned_at : List ℕ → List Lexeme → Reading PureCommand
assigned_at x ls = assigned_by (first_form ls) x ls

-- x := ..
unfoldable pub assignment_at : List Lexeme → Reading PureCommand
assignment_at ls = do
  x ← name_at ls
  value ← sign_at ColonEqual x.1
  assigned_at x.0 value

-- ---- the other commands, behind the word that begins them

-- e i
unfoldable pub ifgoto_at : List Lexeme → Reading PureCommand
ifgoto_at ls = do
  e ← expression_at Command ls
  i ← number_at e.1
  Some (ifgoto e.0 i.0, i.1)

abbrev pub return_at : List Lexeme → Reading PureCommand
return_at ls = expression_at Command ls >>= λ e. Some (return e.0, e.1)

abbrev pub fail_at : List Lexeme → Reading PureCommand
fail_at ls = expression_at Command ls >>= λ e. Some (fail e.0, e.1)

abbrev pub throw_at : List Lexeme → Reading PureCommand
throw_at ls = expression_at Command ls >>= λ e. Some (throw e.0, e.1)

abbrev pub fold_at : List Lexeme → Reading PureCommand
fold_at ls = use_at ls >>= λ u. Some (fold_use u.0, u.1)

abbrev pub unfold_at : List Lexeme → Reading PureCommand
unfold_at ls = use_at ls >>= λ u. Some (unfold_use u.0, u.1)

abbrev pub assert_at : List Lexeme → Reading PureCommand
assert_at ls = block_at ls >>= λ items. Some (assert_that items.0, items.1)

abbrev pub names_at : Sign → List Lexeme → Reading (List (List ℕ))
names_at closing ls = separated_at name_at closing Comma ls

-- (x, ..) [#x : sort, ..] { assertion }
unfoldable pub invariant_at : List Lexeme → Reading PureCommand
invariant_at ls = do
  inner ← sign_at LeftParenthesis ls
  xs ← names_at RightParenthesis inner
  behind_names ← sign_at RightParenthesis xs.1
  ps ← variables_at behind_names
  items ← block_at ps.1
  Some (loop_invariant xs.0 ps.0 items.0, items.1)

-- a command of which assertions are made, by its word
abbrev pub logic_by : Word → List Lexeme → Reading PureCommand
logic_by words.Fold ls = fold_at (behind ls)
logic_by words.Unfold ls = unfold_at (behind ls)
logic_by words.Assert ls = assert_at (behind ls)
logic_by words.Invariant ls = invariant_at (behind ls)
logic_by _ ls = None

-- a command that isn't an assignment, by its word
abbrev pub worded_by : Word → List Lexeme → Reading PureCommand
worded_by words.Ifgoto ls = ifgoto_at (behind ls)
worded_by words.Return ls = return_at (behind ls)
worded_by words.Fail ls = fail_at (behind ls)
worded_by words.Throw ls = throw_at (behind ls)
worded_by words.Vanish ls = Some (vanish, behind ls)
worded_by word ls = logic_by word ls

abbrev pub command_by : Option Form → List Lexeme → Reading PureCommand
command_by (Some forms.Name) ls = assignment_at ls
command_by (Some (forms.Word word)) ls = worded_by word ls
command_by _ ls = None

unfoldable pub command_at : List Lexeme → Reading PureCommand
command_at ls = command_by (first_form ls) ls

-- a command and its `;`
unfoldable pub statement_at : List Lexeme → Reading PureCommand
statement_at ls = do
  c ← command_at ls
  rest ← sign_at Semicolon c.1
  Some (c.0, rest)
