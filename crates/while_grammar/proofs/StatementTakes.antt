-- What is read as statements, blocks and functions is spelled so.
use Rattle.std.proofs.Common.{◌≡◌, ℕ, zero, suc, List, [], ◌∷◌, length, Some, refl, sym, ap, ◌∙◌, subst, inl, inr}
use Rattle.gil_lexer.specs.declared.words.Word.{Word}
use Rattle.gil_lexer.specs.declared.words.Word.TheVariants as words
use Rattle.gil_lexer.specs.declared.signs.Sign.TheVariants as signs
use Rattle.gil_lexemes.specs.declared.standing.Lexeme.{Lexeme}
use Rattle.gil_lexemes.specs.declared.standing.Lexeme.TheVariants as lexemes
use Rattle.gil_lexemes.specs.Lists.{separated_at, each_until}
use Rattle.gil_lexemes.specs.Reading.{Reading, ◌>>=◌, behind, first_form, is_sign, is_word, sign_at, name_at}
use Rattle.gil_lexemes.proofs.ReadingLaws.{bind_some, sign_takes, name_takes, at_word_is}
use Rattle.gil_syntax.specs.Pure.{PureExpr}
use Rattle.gil_grammar.specs.declared.positions.Position.TheVariants.{Command}
use Rattle.gil_grammar.specs.Commands.{SpellsNames}
use Rattle.gil_grammar.specs.Expressions.{SpellsExpr, SpellsExprs}
use Rattle.gil_grammar.specs.Lists.{SpellsEach, SpellsSeparated}
use Rattle.gil_grammar.specs.Vocabulary.{opening_parenthesis, closing_parenthesis, closing_brace, comma, semicolon}
use Rattle.gil_grammar.specs.Reading.Assertions.{expression_at, expressions_at}
use Rattle.gil_grammar.specs.Reading.Commands.{names_at}
use Rattle.gil_grammar.specs.Reading.Vocabulary.{word_of, input_of_word}
use Rattle.gil_grammar.proofs.ListLaws.{Takes, cond_cases, separated_takes, each_takes}
use Rattle.gil_grammar.proofs.VocabularyLaws.{input_takes}
use Rattle.gil_grammar.proofs.AssertionLaws.{in_place, word_of_takes, expression_takes, expressions_take}
use Rattle.gil_grammar.proofs.CommandLaws.{names_take}
use Rattle.source_text.specs.Logic as logics
use Rattle.source_text.specs.Logic.{invariant_at}
use Rattle.source_text.specs.Vocabulary.{equals, dot}
use Rattle.source_text.proofs.LogicLaws.{invariant_takes, logic_takes}
use Rattle.while_lang.specs.Pure.{PureStatement, assign, input, symbol, new, lookup, call, mutate, dispose, assert, assume, if_else, while, return, fail, logic, PureBlock, no_statements, PurePlacedStatement, from_placed, PureFunction}
use Rattle.while_grammar.specs.Statements.{SpellsField, SpellsStatement, SpellsElse, SpellsBlock, SpellsStatements, SpellsFunction}
use Rattle.while_grammar.specs.Reading.Statements.{value_at, condition_at, claim_at, field_at, input_at, new_at, lookup_at, call_at, named_at, assigned_at, assignment_at, mutate_at, of_name_at, logic_at, asserted_at, else_at, if_at, while_at, of_word_at, statement_at, placed_at, block_by, block_at, function_at}

-- ---- pieces

-- e;
abbrev pub SpellsValue : PureExpr → List Lexeme → List Lexeme → Type 0
SpellsValue e ls rest = SpellsExpr Command e ls (semicolon ∷ rest)

-- (e)
abbrev pub SpellsCondition : PureExpr → List Lexeme → List Lexeme → Type 0
SpellsCondition e ls rest = (inner : List Lexeme) × (ls ≡ opening_parenthesis ∷ inner) × SpellsExpr Command e inner (closing_parenthesis ∷ rest)

-- (e);
abbrev pub SpellsClaim : PureExpr → List Lexeme → List Lexeme → Type 0
SpellsClaim e ls rest = SpellsCondition e ls (semicolon ∷ rest)

value_takes : Takes SpellsValue value_at
unfolding value_at
value_takes ls found e =
    let d = bind_some (expression_at Command ls) _ found e in
    let r = bind_some (sign_at signs.Semicolon d.0.1) _ found d.2 in
    in_place SpellsValue ls d.0.0 r.0 found r.2 (subst (SpellsExpr Command d.0.0 ls) (sign_takes signs.Semicolon d.0.1 r.0 r.1) (expression_takes Command ls d.0 d.1))

condition_takes : Takes SpellsCondition condition_at
unfolding condition_at
condition_takes ls found e =
    let a = bind_some (sign_at signs.LeftParenthesis ls) _ found e in
    let d = bind_some (expression_at Command a.0) _ found a.2 in
    let r = bind_some (sign_at signs.RightParenthesis d.0.1) _ found d.2 in
    in_place SpellsCondition ls d.0.0 r.0 found r.2 (
      a.0,
      sign_takes signs.LeftParenthesis ls a.0 a.1,
      subst (SpellsExpr Command d.0.0 a.0) (sign_takes signs.RightParenthesis d.0.1 r.0 r.1) (expression_takes Command a.0 d.0 d.1),
    )

claim_takes : Takes SpellsClaim claim_at
unfolding claim_at
claim_takes ls found e =
    let d = bind_some (condition_at ls) _ found e in
    let r = bind_some (sign_at signs.Semicolon d.0.1) _ found d.2 in
    in_place SpellsClaim ls d.0.0 r.0 found r.2 (subst (SpellsCondition d.0.0 ls) (sign_takes signs.Semicolon d.0.1 r.0 r.1) (condition_takes ls d.0 d.1))

field_takes : Takes SpellsField field_at
unfolding field_at
field_takes ls found e =
    let p = bind_some (name_at ls) _ found e in
    let a = bind_some (sign_at signs.Colon p.0.1) _ found p.2 in
    let d = bind_some (expression_at Command a.0) _ found a.2 in
    in_place SpellsField ls (record { name = p.0.0; value = d.0.0 }) d.0.1 found d.2 (
      a.0,
      name_takes ls p.0 p.1 ∙ ap (λ (l : List Lexeme). lexemes.Name p.0.0 ∷ l) (sign_takes signs.Colon p.0.1 a.0 a.1),
      expression_takes Command a.0 d.0 d.1,
    )

module _ (place : ℕ → ℕ) where
  abbrev Spells : PureStatement → List Lexeme → List Lexeme → Type 0
  Spells = SpellsStatement place

  -- ---- what is assigned

  abbrev Assigned : List ℕ → PureStatement → List Lexeme → List Lexeme → Type 0
  Assigned x c ls rest = Spells c (lexemes.Name x ∷ equals ∷ ls) rest

  assign_takes : (x : List ℕ) (ls : List Lexeme) (found : PureStatement × List Lexeme) → (value_at ls >>= λ d. Some (assign x d.0, d.1)) ≡ Some found → Assigned x found.0 ls found.1
  assign_takes x ls found e =
      let d = bind_some (value_at ls) _ found e in
      in_place (Assigned x) ls (assign x d.0.0) d.0.1 found d.2 (ls, refl, value_takes ls d.0 d.1)

  input_takes_all : (x : List ℕ) (ls : List Lexeme) (found : PureStatement × List Lexeme) → input_at x ls ≡ Some found → Assigned x found.0 (lexemes.Word words.Input ∷ ls) found.1
  unfolding input_at
  input_takes_all x ls found e =
      let word = bind_some (word_of (first_form ls)) _ found e in
      let k = bind_some (input_of_word word.0) _ found word.2 in
      let r = bind_some (sign_at signs.Semicolon (behind ls)) _ found k.2 in
      let is : ls ≡ lexemes.Word word.0 ∷ semicolon ∷ r.0 = word_of_takes ls word.0 word.1 ∙ ap (λ (l : List Lexeme). lexemes.Word word.0 ∷ l) (sign_takes signs.Semicolon (behind ls) r.0 r.1) in
      in_place (Assigned x) _ (input x k.0) r.0 found r.2
      (word.0, input_takes word.0 k.0 k.1, ap (λ (l : List Lexeme). lexemes.Name x ∷ equals ∷ lexemes.Word words.Input ∷ l) is)

  symbol_takes : (x : List ℕ) (ls : List Lexeme) (found : PureStatement × List Lexeme) → (sign_at signs.Semicolon ls >>= λ rest. Some (symbol x, rest)) ≡ Some found
      → Assigned x found.0 (lexemes.Word words.Symbol ∷ ls) found.1
  symbol_takes x ls found e =
      let r = bind_some (sign_at signs.Semicolon ls) _ found e in
      in_place (Assigned x) _ (symbol x) r.0 found r.2 (ap (λ (l : List Lexeme). lexemes.Name x ∷ equals ∷ lexemes.Word words.Symbol ∷ l) (sign_takes signs.Semicolon ls r.0 r.1))

  new_takes : (x : List ℕ) (ls : List Lexeme) (found : PureStatement × List Lexeme) → new_at x ls ≡ Some found → Assigned x found.0 (lexemes.Word words.New ∷ ls) found.1
  unfolding new_at
  new_takes x ls found e =
      let a = bind_some (sign_at signs.LeftBrace ls) _ found e in
      let fields = bind_some (separated_at field_at signs.RightBrace signs.Comma a.0) _ found a.2 in
      let b = bind_some (sign_at signs.RightBrace fields.0.1) _ found fields.2 in
      let r = bind_some (sign_at signs.Semicolon b.0) _ found b.2 in
      let closed : fields.0.1 ≡ closing_brace ∷ semicolon ∷ r.0 = sign_takes signs.RightBrace fields.0.1 b.0 b.1 ∙ ap (λ (l : List Lexeme). closing_brace ∷ l) (sign_takes signs.Semicolon b.0 r.0 r.1) in
      in_place (Assigned x) _ (new x fields.0.0) r.0 found r.2 (
        a.0,
        ap (λ (l : List Lexeme). lexemes.Name x ∷ equals ∷ lexemes.Word words.New ∷ l) (sign_takes signs.LeftBrace ls a.0 a.1),
        subst (SpellsSeparated SpellsField comma fields.0.0 a.0) closed (separated_takes SpellsField field_at field_takes signs.RightBrace signs.Comma a.0 fields.0 fields.1),
      )

  lookup_takes : (x : List ℕ) (ls : List Lexeme) (found : PureStatement × List Lexeme) → lookup_at x ls ≡ Some found → Assigned x found.0 ls found.1
  unfolding lookup_at
  lookup_takes x ls found e =
      let y = bind_some (name_at ls) _ found e in
      let a = bind_some (sign_at signs.Dot y.0.1) _ found y.2 in
      let p = bind_some (name_at a.0) _ found a.2 in
      let r = bind_some (sign_at signs.Semicolon p.0.1) _ found p.2 in
      let third : a.0 ≡ lexemes.Name p.0.0 ∷ semicolon ∷ r.0 = name_takes a.0 p.0 p.1 ∙ ap (λ (l : List Lexeme). lexemes.Name p.0.0 ∷ l) (sign_takes signs.Semicolon p.0.1 r.0 r.1) in
      let second : y.0.1 ≡ dot ∷ lexemes.Name p.0.0 ∷ semicolon ∷ r.0 = sign_takes signs.Dot y.0.1 a.0 a.1 ∙ ap (λ (l : List Lexeme). dot ∷ l) third in
      let is : ls ≡ lexemes.Name y.0.0 ∷ dot ∷ lexemes.Name p.0.0 ∷ semicolon ∷ r.0 = name_takes ls y.0 y.1 ∙ ap (λ (l : List Lexeme). lexemes.Name y.0.0 ∷ l) second in
      in_place (Assigned x) _ (lookup x y.0.0 p.0.0) r.0 found r.2 (ap (λ (l : List Lexeme). lexemes.Name x ∷ equals ∷ l) is)

  call_takes : (x : List ℕ) (ls : List Lexeme) (found : PureStatement × List Lexeme) → call_at x ls ≡ Some found → Assigned x found.0 ls found.1
  unfolding call_at
  call_takes x ls found e =
      let f = bind_some (name_at ls) _ found e in
      let a = bind_some (sign_at signs.LeftParenthesis f.0.1) _ found f.2 in
      let es = bind_some (expressions_at Command signs.RightParenthesis a.0) _ found a.2 in
      let b = bind_some (sign_at signs.RightParenthesis es.0.1) _ found es.2 in
      let r = bind_some (sign_at signs.Semicolon b.0) _ found b.2 in
      let closed : es.0.1 ≡ closing_parenthesis ∷ semicolon ∷ r.0 = sign_takes signs.RightParenthesis es.0.1 b.0 b.1 ∙ ap (λ (l : List Lexeme). closing_parenthesis ∷ l) (sign_takes signs.Semicolon b.0 r.0 r.1) in
      let is : ls ≡ lexemes.Name f.0.0 ∷ opening_parenthesis ∷ a.0 = name_takes ls f.0 f.1 ∙ ap (λ (l : List Lexeme). lexemes.Name f.0.0 ∷ l) (sign_takes signs.LeftParenthesis f.0.1 a.0 a.1) in
      in_place (Assigned x) _ (call x f.0.0 es.0.0) r.0 found r.2 (
        a.0,
        ap (λ (l : List Lexeme). lexemes.Name x ∷ equals ∷ l) is,
        subst (SpellsExprs Command es.0.0 a.0) closed (expressions_take Command signs.RightParenthesis a.0 es.0 es.1),
      )

  named_takes : (x : List ℕ) → Takes (Assigned x) (named_at x)
  unfolding named_at
  named_takes x ls found e =
      cond_cases (is_sign signs.Dot (first_form (behind ls))) _ _ found e
      (λ test dotted. lookup_takes x ls found dotted)
      (λ test other.
      cond_cases (is_sign signs.LeftParenthesis (first_form (behind ls))) _ _ found other
      (λ is_call called. call_takes x ls found called)
      (λ no_call value. assign_takes x ls found value))

  assigned_takes : (x : List ℕ) → Takes (Assigned x) (assigned_at x)
  assigned_takes x (lexemes.Name y ∷ ls) found e = named_takes x (lexemes.Name y ∷ ls) found e
  assigned_takes x (lexemes.Word words.Input ∷ ls) found e = input_takes_all x ls found e
  assigned_takes x (lexemes.Word words.Symbol ∷ ls) found e = symbol_takes x ls found e
  assigned_takes x (lexemes.Word words.New ∷ ls) found e = new_takes x ls found e
  assigned_takes x [] found e = assign_takes x [] found e
  assigned_takes x (l ∷ ls) found e = assign_takes x (l ∷ ls) found e

  assignment_takes : Takes Spells assignment_at
  unfolding assignment_at
  assignment_takes ls found e =
      let x = bind_some (name_at ls) _ found e in
      let a = bind_some (sign_at signs.Equal x.0.1) _ found x.2 in
      let is : ls ≡ lexemes.Name x.0.0 ∷ equals ∷ a.0 = name_takes ls x.0 x.1 ∙ ap (λ (l : List Lexeme). lexemes.Name x.0.0 ∷ l) (sign_takes signs.Equal x.0.1 a.0 a.1) in
      subst (λ (l : List Lexeme). Spells found.0 l found.1) (sym is) (assigned_takes x.0.0 a.0 found a.2)

  mutate_takes : Takes Spells mutate_at
  unfolding mutate_at
  mutate_takes ls found e =
      let y = bind_some (name_at ls) _ found e in
      let a = bind_some (sign_at signs.Dot y.0.1) _ found y.2 in
      let p = bind_some (name_at a.0) _ found a.2 in
      let b = bind_some (sign_at signs.Equal p.0.1) _ found p.2 in
      let d = bind_some (value_at b.0) _ found b.2 in
      let third : a.0 ≡ lexemes.Name p.0.0 ∷ equals ∷ b.0 = name_takes a.0 p.0 p.1 ∙ ap (λ (l : List Lexeme). lexemes.Name p.0.0 ∷ l) (sign_takes signs.Equal p.0.1 b.0 b.1) in
      let second : y.0.1 ≡ dot ∷ lexemes.Name p.0.0 ∷ equals ∷ b.0 = sign_takes signs.Dot y.0.1 a.0 a.1 ∙ ap (λ (l : List Lexeme). dot ∷ l) third in
      let is : ls ≡ lexemes.Name y.0.0 ∷ dot ∷ lexemes.Name p.0.0 ∷ equals ∷ b.0 = name_takes ls y.0 y.1 ∙ ap (λ (l : List Lexeme). lexemes.Name y.0.0 ∷ l) second in
      in_place Spells ls (mutate y.0.0 p.0.0 d.0.0) d.0.1 found d.2 (b.0, is, value_takes b.0 d.0 d.1)

  of_name_takes : Takes Spells of_name_at
  unfolding of_name_at
  of_name_takes ls found e =
      cond_cases (is_sign signs.Dot (first_form (behind ls))) _ _ found e
      (λ test dotted. mutate_takes ls found dotted)
      (λ test other. assignment_takes ls found other)

  -- ---- statements that begin with a word

  abbrev Worded : Word → PureStatement → List Lexeme → List Lexeme → Type 0
  Worded word c ls rest = Spells c (lexemes.Word word ∷ ls) rest

  dispose_takes : (ls : List Lexeme) (found : PureStatement × List Lexeme) → (value_at ls >>= λ d. Some (dispose d.0, d.1)) ≡ Some found → Worded words.Dispose found.0 ls found.1
  dispose_takes ls found e =
      let d = bind_some (value_at ls) _ found e in
      in_place (Worded words.Dispose) ls (dispose d.0.0) d.0.1 found d.2 (ls, refl, value_takes ls d.0 d.1)

  return_takes : (ls : List Lexeme) (found : PureStatement × List Lexeme) → (value_at ls >>= λ d. Some (return d.0, d.1)) ≡ Some found → Worded words.Return found.0 ls found.1
  return_takes ls found e =
      let d = bind_some (value_at ls) _ found e in
      in_place (Worded words.Return) ls (return d.0.0) d.0.1 found d.2 (ls, refl, value_takes ls d.0 d.1)

  fail_takes : (ls : List Lexeme) (found : PureStatement × List Lexeme) → (value_at ls >>= λ d. Some (fail d.0, d.1)) ≡ Some found → Worded words.Fail found.0 ls found.1
  fail_takes ls found e =
      let d = bind_some (value_at ls) _ found e in
      in_place (Worded words.Fail) ls (fail d.0.0) d.0.1 found d.2 (ls, refl, value_takes ls d.0 d.1)

  assert_takes : (ls : List Lexeme) (found : PureStatement × List Lexeme) → (claim_at ls >>= λ d. Some (assert d.0, d.1)) ≡ Some found → Worded words.Assert found.0 ls found.1
  assert_takes ls found e =
      let d = bind_some (claim_at ls) _ found e in
      let says = claim_takes ls d.0 d.1 in
      in_place (Worded words.Assert) ls (assert d.0.0) d.0.1 found d.2 (says.0, ap (λ (l : List Lexeme). lexemes.Word words.Assert ∷ l) says.1, says.2)

  assume_takes : (ls : List Lexeme) (found : PureStatement × List Lexeme) → (claim_at ls >>= λ d. Some (assume d.0, d.1)) ≡ Some found → Worded words.Assume found.0 ls found.1
  assume_takes ls found e =
      let d = bind_some (claim_at ls) _ found e in
      let says = claim_takes ls d.0 d.1 in
      in_place (Worded words.Assume) ls (assume d.0.0) d.0.1 found d.2 (says.0, ap (λ (l : List Lexeme). lexemes.Word words.Assume ∷ l) says.1, says.2)

  logic_takes_all : (word : Word) (ls : List Lexeme) (found : PureStatement × List Lexeme) → logic_at word (lexemes.Word word ∷ ls) ≡ Some found → Worded word found.0 ls found.1
  logic_takes_all word ls found e =
      let l = bind_some (logics.logic_at word (lexemes.Word word ∷ ls)) _ found e in
      in_place (Worded word) ls (logic l.0.0) l.0.1 found l.2 (logic_takes word ls l.0 l.1)

  asserted_takes : (ls : List Lexeme) (found : PureStatement × List Lexeme) → asserted_at (lexemes.Word words.Assert ∷ ls) ≡ Some found → Worded words.Assert found.0 ls found.1
  unfolding asserted_at
  asserted_takes ls found e =
      cond_cases (is_sign signs.LeftBrace (first_form ls)) _ _ found e
      (λ test braced. logic_takes_all words.Assert ls found braced)
      (λ test other. assert_takes ls found other)

  -- ---- statements with blocks

  module _ (blocks : List Lexeme → Reading PureBlock) (sound : Takes (SpellsBlock place) blocks) where
    else_takes : (ls : List Lexeme) (found : PureBlock × List Lexeme) → else_at blocks ls ≡ Some found → SpellsElse place found.0 ls found.1
    unfolding else_at
    else_takes ls found e =
        cond_cases (is_word words.Else (first_form ls)) _ _ found e
        (λ test other. inr (behind ls, at_word_is words.Else ls test, sound (behind ls) found other))
        (λ test none. in_place (SpellsElse place) ls no_statements ls found none (inl (refl, refl, test)))

    if_takes : (ls : List Lexeme) (found : PureStatement × List Lexeme) → if_at blocks ls ≡ Some found → Worded words.If found.0 ls found.1
    unfolding if_at
    if_takes ls found e =
        let d = bind_some (condition_at ls) _ found e in
        let on = bind_some (blocks d.0.1) _ found d.2 in
        let off = bind_some (else_at blocks on.0.1) _ found on.2 in
        let says = condition_takes ls d.0 d.1 in
        in_place (Worded words.If) ls (if_else d.0.0 on.0.0 off.0.0) off.0.1 found off.2 (
          says.0,
          d.0.1,
          on.0.1,
          ap (λ (l : List Lexeme). lexemes.Word words.If ∷ l) says.1,
          says.2,
          sound d.0.1 on.0 on.1,
          else_takes on.0.1 off.0 off.1,
        )

    while_takes : (ls : List Lexeme) (found : PureStatement × List Lexeme) → while_at blocks ls ≡ Some found → Worded words.While found.0 ls found.1
    unfolding while_at
    while_takes ls found e =
        let d = bind_some (condition_at ls) _ found e in
        let i = bind_some (invariant_at d.0.1) _ found d.2 in
        let body = bind_some (blocks i.0.1) _ found i.2 in
        let says = condition_takes ls d.0 d.1 in
        in_place (Worded words.While) ls (while d.0.0 i.0.0 body.0.0) body.0.1 found body.2 (
          says.0,
          d.0.1,
          i.0.1,
          ap (λ (l : List Lexeme). lexemes.Word words.While ∷ l) says.1,
          says.2,
          invariant_takes d.0.1 i.0 i.1,
          sound i.0.1 body.0 body.1,
        )

    of_word_takes : (word : Word) (ls : List Lexeme) (found : PureStatement × List Lexeme) → of_word_at blocks word (lexemes.Word word ∷ ls) ≡ Some found → Worded word found.0 ls found.1
    of_word_takes words.Dispose ls found e = dispose_takes ls found e
    of_word_takes words.Assert ls found e = asserted_takes ls found e
    of_word_takes words.Assume ls found e = assume_takes ls found e
    of_word_takes words.If ls found e = if_takes ls found e
    of_word_takes words.While ls found e = while_takes ls found e
    of_word_takes words.Return ls found e = return_takes ls found e
    of_word_takes words.Fail ls found e = fail_takes ls found e
    of_word_takes words.Fold ls found e = logic_takes_all words.Fold ls found e
    of_word_takes words.Unfold ls found e = logic_takes_all words.Unfold ls found e
    of_word_takes words.Invariant ls found e = logic_takes_all words.Invariant ls found e
    of_word_takes _ ls found e = absurd cc

    statement_takes : Takes Spells (statement_at blocks)
    unfolding statement_at
    statement_takes (lexemes.Name x ∷ ls) found e = of_name_takes _ found e
    statement_takes (lexemes.Word word ∷ ls) found e = of_word_takes word ls found e
    statement_takes _ found e = absurd cc

  -- ---- blocks and functions

  abbrev pub SpellsPlaced : PurePlacedStatement → List Lexeme → List Lexeme → Type 0
  SpellsPlaced p ls rest = (p.at ≡ place (length ls)) × SpellsStatement place p.statement ls rest

  -- statements as a list, and as a block
  pub statements : (ps : List PurePlacedStatement) (ls rest : List Lexeme) → SpellsEach SpellsPlaced ps ls rest → SpellsStatements place (from_placed ps) ls rest
  statements [] ls rest h = h
  statements (p ∷ ps) ls rest (after, (at, one), more) = (after, at, one, statements ps after rest more)

  placed_takes : (read : List Lexeme → Reading PureStatement) → Takes Spells read → Takes SpellsPlaced (placed_at place read)
  unfolding placed_at
  placed_takes read sound ls found e =
      let c = bind_some (read ls) _ found e in
      in_place SpellsPlaced ls (record { at = place (length ls); statement = c.0.0 }) c.0.1 found c.2 (refl, sound ls c.0 c.1)

  block_by_takes : (read : List Lexeme → Reading PureStatement) → Takes Spells read → Takes (SpellsBlock place) (block_by place read)
  unfolding block_by
  block_by_takes read sound ls found e =
      let a = bind_some (sign_at signs.LeftBrace ls) _ found e in
      let body = bind_some (each_until (placed_at place read) (length a.0) signs.RightBrace a.0) _ found a.2 in
      let r = bind_some (sign_at signs.RightBrace body.0.1) _ found body.2 in
      let says = statements body.0.0 a.0 body.0.1 (each_takes SpellsPlaced (placed_at place read) (placed_takes read sound) (length a.0) signs.RightBrace a.0 body.0 body.1) in
      in_place (SpellsBlock place) ls (from_placed body.0.0) r.0 found r.2 (
        a.0,
        sign_takes signs.LeftBrace ls a.0 a.1,
        subst (SpellsStatements place (from_placed body.0.0) a.0) (sign_takes signs.RightBrace body.0.1 r.0 r.1) says,
      )

  pub block_takes : (n : ℕ) → Takes (SpellsBlock place) (block_at place n)
  unfolding block_at
  block_takes zero ls found e = absurd cc
  block_takes (suc n) ls found e = block_by_takes (statement_at (block_at place n)) (statement_takes (block_at place n) (block_takes n)) ls found e

  pub function_takes : (ls : List Lexeme) (found : PureFunction × List Lexeme) → function_at place (lexemes.Word words.Func ∷ ls) ≡ Some found
      → SpellsFunction place found.0 (lexemes.Word words.Func ∷ ls) found.1
  unfolding function_at
  function_takes ls found e =
      let x = bind_some (name_at ls) _ found e in
      let a = bind_some (sign_at signs.LeftParenthesis x.0.1) _ found x.2 in
      let xs = bind_some (names_at signs.RightParenthesis a.0) _ found a.2 in
      let b = bind_some (sign_at signs.RightParenthesis xs.0.1) _ found xs.2 in
      let body = bind_some (block_at place (length b.0) b.0) _ found b.2 in
      let head : ls ≡ lexemes.Name x.0.0 ∷ opening_parenthesis ∷ a.0 = name_takes ls x.0 x.1 ∙ ap (λ (l : List Lexeme). lexemes.Name x.0.0 ∷ l) (sign_takes signs.LeftParenthesis x.0.1 a.0 a.1) in
      in_place (SpellsFunction place) _ (record { name = x.0.0; params = xs.0.0; body = body.0.0; at = place (length (lexemes.Word words.Func ∷ ls)) }) body.0.1 found body.2 (
        a.0,
        b.0,
        refl,
        ap (λ (l : List Lexeme). lexemes.Word words.Func ∷ l) head,
        subst (SpellsNames xs.0.0 a.0) (sign_takes signs.RightParenthesis xs.0.1 b.0 b.1) (names_take signs.RightParenthesis a.0 xs.0 xs.1),
        block_takes (length b.0) b.0 body.0 body.1,
      )
