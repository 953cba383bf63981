-- What is read as a command is spelled so, and what is spelled so is read.
use Rattle.std.proofs.Common.{◌≡◌, ℕ, ℤ, List, [], ◌∷◌, Option, Some, None, refl, sym, ap, ◌∙◌, subst}
use Rattle.gil_lexer.specs.declared.words.Word.{Word}
use Rattle.gil_lexer.specs.declared.words.Word.TheVariants as words
use Rattle.gil_lexer.specs.declared.signs.Sign.{Sign}
use Rattle.gil_lexer.specs.declared.signs.Sign.TheVariants as signs
use Rattle.gil_lexemes.specs.declared.standing.Lexeme.{Lexeme}
use Rattle.gil_lexemes.specs.declared.standing.Lexeme.TheVariants as lexemes
use Rattle.gil_lexemes.specs.Reading.{◌>>=◌, behind, first_form, is_word, sign_at, name_at, number_at}
use Rattle.gil_lexemes.proofs.ReadingLaws.{bind_some, at_word_is, sign_takes, name_takes, number_takes}
use Rattle.gil_syntax.specs.Pure.{PureCommand, assign, call, act, usym, isym, ifgoto, return, fail, throw, vanish, fold_use, unfold_use, assert_that, loop_invariant}
use Rattle.gil_grammar.specs.declared.positions.Position.TheVariants.{Command, Action}
use Rattle.gil_grammar.specs.Commands.{SpellsName, SpellsNames, SpellsHandler, SpellsCommand, SpellsStatement}
use Rattle.gil_grammar.specs.Expressions.{SpellsExpr, SpellsExprs}
use Rattle.gil_grammar.specs.Vocabulary.{becomes}
use Rattle.gil_grammar.specs.Reading.Vocabulary.{input_of_word, word_of, named_at}
use Rattle.gil_grammar.specs.Reading.Assertions.{expression_at, expressions_at, use_at, block_at, variables_at}
use Rattle.gil_grammar.specs.Reading.Commands.{handler_at, call_at, act_at, isym_at, assigned_at, assignment_at, ifgoto_at, names_at, invariant_at, logic_by, worded_by, command_at, statement_at}
use Rattle.gil_grammar.proofs.ListLaws.{Takes, cond_cases, separated_takes}
use Rattle.gil_grammar.proofs.VocabularyLaws.{input_takes, named_takes}
use Rattle.gil_grammar.proofs.AssertionLaws.{in_place, word_of_takes, expression_takes, expressions_take, use_takes, block_takes, variables_take}

-- ---- what is read is spelled

-- the lexemes before a command's parts, where `from` is what stands in front of all
abbrev Behind : List Lexeme → (List Lexeme → List Lexeme) → List Lexeme → Type 0
Behind from front ls = from ≡ front ls

-- what is assigned to x is spelled behind `x :=`
abbrev Assigned : List ℕ → PureCommand → List Lexeme → List Lexeme → Type 0
Assigned x c ls rest = SpellsCommand c (lexemes.Name x ∷ becomes ∷ ls) rest

-- what stands behind a word is spelled with it
abbrev Worded : Word → PureCommand → List Lexeme → List Lexeme → Type 0
Worded word c ls rest = SpellsCommand c (lexemes.Word word ∷ ls) rest

assign_takes : (x : List ℕ) (ls : List Lexeme) (found : PureCommand × List Lexeme) → (expression_at Command ls >>= λ e. Some (assign x e.0, e.1)) ≡ Some found → Assigned x found.0 ls found.1
assign_takes x ls found e =
    let d = bind_some (expression_at Command ls) _ found e in
    in_place (Assigned x) ls (assign x d.0.0) d.0.1 found d.2 (ls, refl, expression_takes Command ls d.0 d.1)

handler_takes : Takes SpellsHandler handler_at
unfolding handler_at
handler_takes ls found e =
    cond_cases (is_word words.Catch (first_form ls)) _ _ found e
    (λ test read.
    let n = bind_some (number_at (behind ls)) _ found read in
    in_place SpellsHandler ls (Some n.0.0) n.0.1 found n.2
    (at_word_is words.Catch ls test ∙ ap (λ (l : List Lexeme). lexemes.Word words.Catch ∷ l) (number_takes (behind ls) n.0 n.1)))
    (λ test ends. in_place SpellsHandler ls None ls found ends refl)

call_takes : (x : List ℕ) (ls : List Lexeme) (found : PureCommand × List Lexeme) → call_at x ls ≡ Some found → Assigned x found.0 (lexemes.Word words.Call ∷ ls) found.1
unfolding call_at
call_takes x ls found e =
    let d = bind_some (expression_at Command ls) _ found e in
    let a = bind_some (sign_at signs.LeftParenthesis d.0.1) _ found d.2 in
    let es = bind_some (expressions_at Command signs.RightParenthesis a.0) _ found a.2 in
    let r = bind_some (sign_at signs.RightParenthesis es.0.1) _ found es.2 in
    let handler = bind_some (handler_at r.0) _ found r.2 in
    in_place (Assigned x) _ (call x d.0.0 es.0.0 handler.0.0) handler.0.1 found handler.2 (
      ls,
      a.0,
      r.0,
      refl,
      subst (SpellsExpr Command d.0.0 ls) (sign_takes signs.LeftParenthesis d.0.1 a.0 a.1) (expression_takes Command ls d.0 d.1),
      subst (SpellsExprs Command es.0.0 a.0) (sign_takes signs.RightParenthesis es.0.1 r.0 r.1) (expressions_take Command signs.RightParenthesis a.0 es.0 es.1),
      handler_takes r.0 handler.0 handler.1,
    )

act_takes : (x : List ℕ) (ls : List Lexeme) (found : PureCommand × List Lexeme) → act_at x ls ≡ Some found → Assigned x found.0 (lexemes.Word words.Do ∷ ls) found.1
unfolding act_at
act_takes x ls found e =
    let action = bind_some (named_at Action ls) _ found e in
    let a = bind_some (sign_at signs.LeftParenthesis action.0.1) _ found action.2 in
    let es = bind_some (expressions_at Command signs.RightParenthesis a.0) _ found a.2 in
    let r = bind_some (sign_at signs.RightParenthesis es.0.1) _ found es.2 in
    let says = named_takes Action ls action.0 action.1 in
    let is : ls ≡ says.0 ∷ lexemes.Sign signs.LeftParenthesis ∷ a.0 = says.2 ∙ ap (λ (l : List Lexeme). says.0 ∷ l) (sign_takes signs.LeftParenthesis action.0.1 a.0 a.1) in
    in_place (Assigned x) _ (act x action.0.0 es.0.0) r.0 found r.2 (
      says.0,
      a.0,
      says.1,
      ap (λ (l : List Lexeme). lexemes.Name x ∷ becomes ∷ lexemes.Word words.Do ∷ l) is,
      subst (SpellsExprs Command es.0.0 a.0) (sign_takes signs.RightParenthesis es.0.1 r.0 r.1) (expressions_take Command signs.RightParenthesis a.0 es.0 es.1),
    )

isym_takes : (x : List ℕ) (ls : List Lexeme) (found : PureCommand × List Lexeme) → isym_at x ls ≡ Some found → Assigned x found.0 (lexemes.Word words.Isym ∷ ls) found.1
unfolding isym_at
isym_takes x ls found e =
    let word = bind_some (word_of (first_form ls)) _ found e in
    let k = bind_some (input_of_word word.0) _ found word.2 in
    in_place (Assigned x) _ (isym x k.0) (behind ls) found k.2
    (word.0, input_takes word.0 k.0 k.1, ap (λ (l : List Lexeme). lexemes.Name x ∷ becomes ∷ lexemes.Word words.Isym ∷ l) (word_of_takes ls word.0 word.1))

assigned_takes : (x : List ℕ) → Takes (Assigned x) (assigned_at x)
assigned_takes x (lexemes.Word words.Call ∷ ls) found e = call_takes x ls found e
assigned_takes x (lexemes.Word words.Do ∷ ls) found e = act_takes x ls found e
assigned_takes x (lexemes.Word words.Usym ∷ ls) found e = in_place (Assigned x) _ (usym x) ls found e refl
assigned_takes x (lexemes.Word words.Isym ∷ ls) found e = isym_takes x ls found e
assigned_takes x [] found e = assign_takes x [] found e
assigned_takes x (l ∷ ls) found e = assign_takes x (l ∷ ls) found e

assignment_takes : Takes SpellsCommand assignment_at
unfolding assignment_at
assignment_takes ls found e =
    let x = bind_some (name_at ls) _ found e in
    let a = bind_some (sign_at signs.ColonEqual x.0.1) _ found x.2 in
    let is : ls ≡ lexemes.Name x.0.0 ∷ becomes ∷ a.0 = name_takes ls x.0 x.1 ∙ ap (λ (l : List Lexeme). lexemes.Name x.0.0 ∷ l) (sign_takes signs.ColonEqual x.0.1 a.0 a.1) in
    subst (λ (l : List Lexeme). SpellsCommand found.0 l found.1) (sym is) (assigned_takes x.0.0 a.0 found a.2)

ifgoto_takes : (ls : List Lexeme) (found : PureCommand × List Lexeme) → ifgoto_at ls ≡ Some found → Worded words.Ifgoto found.0 ls found.1
unfolding ifgoto_at
ifgoto_takes ls found e =
    let d = bind_some (expression_at Command ls) _ found e in
    let i = bind_some (number_at d.0.1) _ found d.2 in
    in_place (Worded words.Ifgoto) ls (ifgoto d.0.0 i.0.0) i.0.1 found i.2
    (ls, refl, subst (SpellsExpr Command d.0.0 ls) (number_takes d.0.1 i.0 i.1) (expression_takes Command ls d.0 d.1))

return_takes : (ls : List Lexeme) (found : PureCommand × List Lexeme) → (expression_at Command ls >>= λ e. Some (return e.0, e.1)) ≡ Some found → Worded words.Return found.0 ls found.1
return_takes ls found e =
    let d = bind_some (expression_at Command ls) _ found e in
    in_place (Worded words.Return) ls (return d.0.0) d.0.1 found d.2 (ls, refl, expression_takes Command ls d.0 d.1)

fail_takes : (ls : List Lexeme) (found : PureCommand × List Lexeme) → (expression_at Command ls >>= λ e. Some (fail e.0, e.1)) ≡ Some found → Worded words.Fail found.0 ls found.1
fail_takes ls found e =
    let d = bind_some (expression_at Command ls) _ found e in
    in_place (Worded words.Fail) ls (fail d.0.0) d.0.1 found d.2 (ls, refl, expression_takes Command ls d.0 d.1)

throw_takes : (ls : List Lexeme) (found : PureCommand × List Lexeme) → (expression_at Command ls >>= λ e. Some (throw e.0, e.1)) ≡ Some found → Worded words.Throw found.0 ls found.1
throw_takes ls found e =
    let d = bind_some (expression_at Command ls) _ found e in
    in_place (Worded words.Throw) ls (throw d.0.0) d.0.1 found d.2 (ls, refl, expression_takes Command ls d.0 d.1)

fold_takes : (ls : List Lexeme) (found : PureCommand × List Lexeme) → (use_at ls >>= λ u. Some (fold_use u.0, u.1)) ≡ Some found → Worded words.Fold found.0 ls found.1
fold_takes ls found e =
    let u = bind_some (use_at ls) _ found e in
    in_place (Worded words.Fold) ls (fold_use u.0.0) u.0.1 found u.2 (ls, refl, use_takes ls u.0 u.1)

unfold_takes : (ls : List Lexeme) (found : PureCommand × List Lexeme) → (use_at ls >>= λ u. Some (unfold_use u.0, u.1)) ≡ Some found → Worded words.Unfold found.0 ls found.1
unfold_takes ls found e =
    let u = bind_some (use_at ls) _ found e in
    in_place (Worded words.Unfold) ls (unfold_use u.0.0) u.0.1 found u.2 (ls, refl, use_takes ls u.0 u.1)

assert_takes : (ls : List Lexeme) (found : PureCommand × List Lexeme) → (block_at ls >>= λ items. Some (assert_that items.0, items.1)) ≡ Some found → Worded words.Assert found.0 ls found.1
assert_takes ls found e =
    let items = bind_some (block_at ls) _ found e in
    in_place (Worded words.Assert) ls (assert_that items.0.0) items.0.1 found items.2 (ls, refl, block_takes ls items.0 items.1)

pub names_take : (closing : Sign) → Takes SpellsNames (names_at closing)
names_take closing = separated_takes SpellsName name_at name_takes closing signs.Comma

invariant_takes : (ls : List Lexeme) (found : PureCommand × List Lexeme) → invariant_at ls ≡ Some found → Worded words.Invariant found.0 ls found.1
unfolding invariant_at
invariant_takes ls found e =
    let a = bind_some (sign_at signs.LeftParenthesis ls) _ found e in
    let xs = bind_some (names_at signs.RightParenthesis a.0) _ found a.2 in
    let b = bind_some (sign_at signs.RightParenthesis xs.0.1) _ found xs.2 in
    let ps = bind_some (variables_at b.0) _ found b.2 in
    let items = bind_some (block_at ps.0.1) _ found ps.2 in
    in_place (Worded words.Invariant) ls (loop_invariant xs.0.0 ps.0.0 items.0.0) items.0.1 found items.2 (
      a.0,
      b.0,
      ps.0.1,
      ap (λ (l : List Lexeme). lexemes.Word words.Invariant ∷ l) (sign_takes signs.LeftParenthesis ls a.0 a.1),
      subst (SpellsNames xs.0.0 a.0) (sign_takes signs.RightParenthesis xs.0.1 b.0 b.1) (names_take signs.RightParenthesis a.0 xs.0 xs.1),
      variables_take b.0 ps.0 ps.1,
      block_takes ps.0.1 items.0 items.1,
    )

-- a logic command is one, and is spelled so
pub logic_takes : (word : Word) (ls : List Lexeme) (found : PureCommand × List Lexeme) → logic_by word (lexemes.Word word ∷ ls) ≡ Some found → Worded word found.0 ls found.1
logic_takes words.Fold ls found e = fold_takes ls found e
logic_takes words.Unfold ls found e = unfold_takes ls found e
logic_takes words.Assert ls found e = assert_takes ls found e
logic_takes words.Invariant ls found e = invariant_takes ls found e
logic_takes _ ls found e = absurd cc

worded_takes : (word : Word) (ls : List Lexeme) (found : PureCommand × List Lexeme) → worded_by word (lexemes.Word word ∷ ls) ≡ Some found → Worded word found.0 ls found.1
worded_takes words.Ifgoto ls found e = ifgoto_takes ls found e
worded_takes words.Return ls found e = return_takes ls found e
worded_takes words.Fail ls found e = fail_takes ls found e
worded_takes words.Throw ls found e = throw_takes ls found e
worded_takes words.Vanish ls found e = in_place (Worded words.Vanish) ls vanish ls found e refl
worded_takes words.Fold ls found e = fold_takes ls found e
worded_takes words.Unfold ls found e = unfold_takes ls found e
worded_takes words.Assert ls found e = assert_takes ls found e
worded_takes words.Invariant ls found e = invariant_takes ls found e
worded_takes _ ls found e = absurd cc

pub command_takes : Takes SpellsCommand command_at
unfolding command_at
command_takes (lexemes.Name x ∷ ls) found e = assignment_takes _ found e
command_takes (lexemes.Word word ∷ ls) found e = worded_takes word ls found e
command_takes _ found e = absurd cc

pub statement_takes : Takes SpellsStatement statement_at
unfolding statement_at
statement_takes ls found e =
    let c = bind_some (command_at ls) _ found e in
    let r = bind_some (sign_at signs.Semicolon c.0.1) _ found c.2 in
    in_place SpellsStatement ls c.0.0 r.0 found r.2 (subst (SpellsCommand c.0.0 ls) (sign_takes signs.Semicolon c.0.1 r.0 r.1) (command_takes ls c.0 c.1))
