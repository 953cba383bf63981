-- What is read as statements and blocks is spelled so.
use Rattle.std.proofs.Common.{◌≡◌, ℕ, zero, suc, true, List, [], ◌∷◌, length, Some, refl, ap, subst, ◌∙◌, inl, inr}
use Rattle.gil_lexer.specs.declared.words.Word.{Word}
use Rattle.gil_lexer.specs.declared.words.Word.TheVariants as words
use Rattle.gil_lexer.specs.declared.signs.Sign.TheVariants as signs
use Rattle.gil_lexemes.specs.declared.standing.Lexeme.{Lexeme}
use Rattle.gil_lexemes.specs.declared.standing.Lexeme.TheVariants as lexemes
use Rattle.gil_lexemes.specs.Lists.{each_until}
use Rattle.gil_lexemes.specs.Reading.{Reading, ◌>>=◌, behind, first_form, is_sign, is_word, sign_at, word_at, name_at}
use Rattle.gil_lexemes.proofs.ReadingLaws.{bind_some, sign_takes, word_takes, name_takes, at_word_is}
use Rattle.gil_grammar.specs.Lists.{SpellsEach}
use Rattle.gil_grammar.specs.Vocabulary.{opening_parenthesis, closing_parenthesis, semicolon}
use Rattle.gil_grammar.proofs.ListLaws.{Takes, cond_cases, each_takes}
use Rattle.gil_grammar.proofs.AssertionLaws.{in_place}
use Rattle.source_text.specs.Logic as logics
use Rattle.source_text.specs.Logic.{invariant_at}
use Rattle.source_text.proofs.LogicLaws.{invariant_takes, logic_takes}
use Rattle.source_statements.specs.Pure.{PureStatement, simple, assert, assume, if_else, while, return, logic, try_catch, PureBlock, no_statements, PurePlacedStatement, from_placed}
use Rattle.statement_text.specs.Grammar.{Spellings, SpellsStatement, SpellsElse, SpellsBlock, SpellsStatements}
use Rattle.statement_text.specs.Reading.{Readers, value_at, condition_at, claim_at, plain_at, logic_at, asserted_at, else_at, if_at, while_at, caught_at, try_at, tried_at, of_word_at, statement_at, placed_at, block_by, block_at}

module _ {E S : Type 0} (g : Spellings E S) where
  -- e;
  abbrev pub SpellsValue : E → List Lexeme → List Lexeme → Type 0
  SpellsValue e ls rest = g.expression e ls (semicolon ∷ rest)

  -- (e)
  abbrev pub SpellsCondition : E → List Lexeme → List Lexeme → Type 0
  SpellsCondition e ls rest = (inner : List Lexeme) × (ls ≡ opening_parenthesis ∷ inner) × g.expression e inner (closing_parenthesis ∷ rest)

  -- (e);
  abbrev pub SpellsClaim : E → List Lexeme → List Lexeme → Type 0
  SpellsClaim e ls rest = SpellsCondition e ls (semicolon ∷ rest)

  abbrev pub SpellsPlaced : (ℕ → ℕ) → PurePlacedStatement E S → List Lexeme → List Lexeme → Type 0
  SpellsPlaced place p ls rest = (p.at ≡ place (length ls)) × SpellsStatement g place p.statement ls rest

module _ {E S : Type 0} (g : Spellings E S) (r : Readers E S) (same_try : g.has_try ≡ r.has_try)
    (expression_takes : Takes g.expression r.expression_at) (simple_takes : Takes g.simple r.simple_at) where
  value_takes : Takes (SpellsValue g) (value_at r)
  unfolding value_at
  value_takes ls found e =
      let d = bind_some (r.expression_at ls) _ found e in
      let end = bind_some (sign_at signs.Semicolon d.0.1) _ found d.2 in
      in_place (SpellsValue g) ls d.0.0 end.0 found end.2 (subst (g.expression d.0.0 ls) (sign_takes signs.Semicolon d.0.1 end.0 end.1) (expression_takes ls d.0 d.1))

  condition_takes : Takes (SpellsCondition g) (condition_at r)
  unfolding condition_at
  condition_takes ls found e =
      let a = bind_some (sign_at signs.LeftParenthesis ls) _ found e in
      let d = bind_some (r.expression_at a.0) _ found a.2 in
      let end = bind_some (sign_at signs.RightParenthesis d.0.1) _ found d.2 in
      in_place (SpellsCondition g) ls d.0.0 end.0 found end.2 (
        a.0,
        sign_takes signs.LeftParenthesis ls a.0 a.1,
        subst (g.expression d.0.0 a.0) (sign_takes signs.RightParenthesis d.0.1 end.0 end.1) (expression_takes a.0 d.0 d.1),
      )

  claim_takes : Takes (SpellsClaim g) (claim_at r)
  unfolding claim_at
  claim_takes ls found e =
      let d = bind_some (condition_at r ls) _ found e in
      let end = bind_some (sign_at signs.Semicolon d.0.1) _ found d.2 in
      in_place (SpellsClaim g) ls d.0.0 end.0 found end.2 (subst (SpellsCondition g d.0.0 ls) (sign_takes signs.Semicolon d.0.1 end.0 end.1) (condition_takes ls d.0 d.1))

  module _ (place : ℕ → ℕ) where
    abbrev Spells : PureStatement E S → List Lexeme → List Lexeme → Type 0
    Spells = SpellsStatement g place

    plain_takes : Takes Spells (plain_at r)
    plain_takes ls found e =
        let c = bind_some (r.simple_at ls) _ found e in
        in_place Spells ls (simple c.0.0) c.0.1 found c.2 (simple_takes ls c.0 c.1)

    -- ---- statements that begin with a word

    abbrev Worded : Word → PureStatement E S → List Lexeme → List Lexeme → Type 0
    Worded word c ls rest = Spells c (lexemes.Word word ∷ ls) rest

    return_takes : (ls : List Lexeme) (found : PureStatement E S × List Lexeme) → (value_at r ls >>= λ d. Some (return d.0, d.1)) ≡ Some found → Worded words.Return found.0 ls found.1
    return_takes ls found e =
        let d = bind_some (value_at r ls) _ found e in
        in_place (Worded words.Return) ls (return d.0.0) d.0.1 found d.2 (ls, refl, value_takes ls d.0 d.1)

    assert_takes : (ls : List Lexeme) (found : PureStatement E S × List Lexeme) → (claim_at r ls >>= λ d. Some (assert d.0, d.1)) ≡ Some found → Worded words.Assert found.0 ls found.1
    assert_takes ls found e =
        let d = bind_some (claim_at r ls) _ found e in
        let says = claim_takes ls d.0 d.1 in
        in_place (Worded words.Assert) ls (assert d.0.0) d.0.1 found d.2 (says.0, ap (λ (l : List Lexeme). lexemes.Word words.Assert ∷ l) says.1, says.2)

    assume_takes : (ls : List Lexeme) (found : PureStatement E S × List Lexeme) → (claim_at r ls >>= λ d. Some (assume d.0, d.1)) ≡ Some found → Worded words.Assume found.0 ls found.1
    assume_takes ls found e =
        let d = bind_some (claim_at r ls) _ found e in
        let says = claim_takes ls d.0 d.1 in
        in_place (Worded words.Assume) ls (assume d.0.0) d.0.1 found d.2 (says.0, ap (λ (l : List Lexeme). lexemes.Word words.Assume ∷ l) says.1, says.2)

    logic_takes_all : (word : Word) (ls : List Lexeme) (found : PureStatement E S × List Lexeme) → logic_at r word (lexemes.Word word ∷ ls) ≡ Some found → Worded word found.0 ls found.1
    logic_takes_all word ls found e =
        let l = bind_some (logics.logic_at word (lexemes.Word word ∷ ls)) _ found e in
        in_place (Worded word) ls (logic l.0.0) l.0.1 found l.2 (logic_takes word ls l.0 l.1)

    asserted_takes : (ls : List Lexeme) (found : PureStatement E S × List Lexeme) → asserted_at r (lexemes.Word words.Assert ∷ ls) ≡ Some found → Worded words.Assert found.0 ls found.1
    unfolding asserted_at
    asserted_takes ls found e =
        cond_cases (is_sign signs.LeftBrace (first_form ls)) _ _ found e
        (λ test braced. logic_takes_all words.Assert ls found braced)
        (λ test other. assert_takes ls found other)

    -- ---- statements with blocks

    module _ (blocks : List Lexeme → Reading (PureBlock E S)) (sound : Takes (SpellsBlock g place) blocks) where
      else_takes : (ls : List Lexeme) (found : PureBlock E S × List Lexeme) → else_at r blocks ls ≡ Some found → SpellsElse g place found.0 ls found.1
      unfolding else_at
      else_takes ls found e =
          cond_cases (is_word words.Else (first_form ls)) _ _ found e
          (λ test other. inr (behind ls, at_word_is words.Else ls test, sound (behind ls) found other))
          (λ test none. in_place (SpellsElse g place) ls no_statements ls found none (inl (refl, refl, test)))

      if_takes : (ls : List Lexeme) (found : PureStatement E S × List Lexeme) → if_at r blocks ls ≡ Some found → Worded words.If found.0 ls found.1
      unfolding if_at
      if_takes ls found e =
          let d = bind_some (condition_at r ls) _ found e in
          let on = bind_some (blocks d.0.1) _ found d.2 in
          let off = bind_some (else_at r blocks on.0.1) _ found on.2 in
          let says = condition_takes ls d.0 d.1 in
          in_place (Worded words.If) ls (if_else d.0.0 on.0.0 off.0.0) off.0.1 found off.2 (
            says.0,
            d.0.1,
            on.0.1,
            ap (λ (l : List Lexeme). lexemes.Word words.If ∷ l) says.1,
            says.2,
            sound d.0.1 on.0 on.1,
            else_takes on.0.1 off.0 off.1,
          )

      while_takes : (ls : List Lexeme) (found : PureStatement E S × List Lexeme) → while_at r blocks ls ≡ Some found → Worded words.While found.0 ls found.1
      unfolding while_at
      while_takes ls found e =
          let d = bind_some (condition_at r ls) _ found e in
          let i = bind_some (invariant_at d.0.1) _ found d.2 in
          let body = bind_some (blocks i.0.1) _ found i.2 in
          let says = condition_takes ls d.0 d.1 in
          in_place (Worded words.While) ls (while d.0.0 i.0.0 body.0.0) body.0.1 found body.2 (
            says.0,
            d.0.1,
            i.0.1,
            ap (λ (l : List Lexeme). lexemes.Word words.While ∷ l) says.1,
            says.2,
            invariant_takes d.0.1 i.0 i.1,
            sound i.0.1 body.0 body.1,
          )

      caught_takes : (ls : List Lexeme) (found : List ℕ × List Lexeme) → caught_at ls ≡ Some found
          → ls ≡ opening_parenthesis ∷ lexemes.Name found.0 ∷ closing_parenthesis ∷ found.1
      unfolding caught_at
      caught_takes ls found e =
          let a = bind_some (sign_at signs.LeftParenthesis ls) _ found e in
          let x = bind_some (name_at a.0) _ found a.2 in
          let b = bind_some (sign_at signs.RightParenthesis x.0.1) _ found x.2 in
          in_place (λ y l rest. l ≡ opening_parenthesis ∷ lexemes.Name y ∷ closing_parenthesis ∷ rest) ls x.0.0 b.0 found b.2
          (sign_takes signs.LeftParenthesis ls a.0 a.1
          ∙ ap (λ (l : List Lexeme). opening_parenthesis ∷ l) (name_takes a.0 x.0 x.1)
          ∙ ap (λ (l : List Lexeme). opening_parenthesis ∷ lexemes.Name x.0.0 ∷ l) (sign_takes signs.RightParenthesis x.0.1 b.0 b.1))

      try_takes : r.has_try ≡ true → (ls : List Lexeme) (found : PureStatement E S × List Lexeme) → try_at r blocks ls ≡ Some found → Worded words.Try found.0 ls found.1
      unfolding try_at
      try_takes has ls found e =
          let body = bind_some (blocks ls) _ found e in
          let w = bind_some (word_at words.Catch body.0.1) _ found body.2 in
          let x = bind_some (caught_at w.0) _ found w.2 in
          let handler = bind_some (blocks x.0.1) _ found x.2 in
          let rest = word_takes words.Catch body.0.1 w.0 w.1 ∙ ap (λ (l : List Lexeme). lexemes.Word words.Catch ∷ l) (caught_takes w.0 x.0 x.1) in
          in_place (Worded words.Try) ls (try_catch body.0.0 x.0.0 handler.0.0) handler.0.1 found handler.2 (
            ls,
            x.0.1,
            same_try ∙ has,
            refl,
            subst (SpellsBlock g place body.0.0 ls) rest (sound ls body.0 body.1),
            sound x.0.1 handler.0 handler.1,
          )

      tried_takes : (ls : List Lexeme) (found : PureStatement E S × List Lexeme) → tried_at r blocks (lexemes.Word words.Try ∷ ls) ≡ Some found → Worded words.Try found.0 ls found.1
      unfolding tried_at
      tried_takes ls found e = cond_cases r.has_try _ _ found e (λ has read. try_takes has ls found read) (λ has none. absurd (cc none))

      of_word_takes : (word : Word) (ls : List Lexeme) (found : PureStatement E S × List Lexeme) → of_word_at r blocks word (lexemes.Word word ∷ ls) ≡ Some found → Worded word found.0 ls found.1
      of_word_takes words.Assert ls found e = asserted_takes ls found e
      of_word_takes words.Assume ls found e = assume_takes ls found e
      of_word_takes words.If ls found e = if_takes ls found e
      of_word_takes words.While ls found e = while_takes ls found e
      of_word_takes words.Return ls found e = return_takes ls found e
      of_word_takes words.Fold ls found e = logic_takes_all words.Fold ls found e
      of_word_takes words.Unfold ls found e = logic_takes_all words.Unfold ls found e
      of_word_takes words.Invariant ls found e = logic_takes_all words.Invariant ls found e
      of_word_takes words.Try ls found e = tried_takes ls found e
      of_word_takes word ls found e = plain_takes (lexemes.Word word ∷ ls) found e

      statement_takes : Takes Spells (statement_at r blocks)
      unfolding statement_at
      statement_takes (lexemes.Word word ∷ ls) found e = of_word_takes word ls found e
      statement_takes ls found e = plain_takes ls found e

    -- ---- blocks

    -- statements as a list, and as a block
    pub statements : (ps : List (PurePlacedStatement E S)) (ls rest : List Lexeme) → SpellsEach (SpellsPlaced g place) ps ls rest → SpellsStatements g place (from_placed ps) ls rest
    statements [] ls rest h = h
    statements (p ∷ ps) ls rest (after, (at, one), more) = (after, at, one, statements ps after rest more)

    placed_takes : (read : List Lexeme → Reading (PureStatement E S)) → Takes Spells read → Takes (SpellsPlaced g place) (placed_at r place read)
    unfolding placed_at
    placed_takes read sound ls found e =
        let c = bind_some (read ls) _ found e in
        in_place (SpellsPlaced g place) ls (record { at = place (length ls); statement = c.0.0 }) c.0.1 found c.2 (refl, sound ls c.0 c.1)

    block_by_takes : (read : List Lexeme → Reading (PureStatement E S)) → Takes Spells read → Takes (SpellsBlock g place) (block_by r place read)
    unfolding block_by
    block_by_takes read sound ls found e =
        let a = bind_some (sign_at signs.LeftBrace ls) _ found e in
        let body = bind_some (each_until (placed_at r place read) (length a.0) signs.RightBrace a.0) _ found a.2 in
        let end = bind_some (sign_at signs.RightBrace body.0.1) _ found body.2 in
        let says = statements body.0.0 a.0 body.0.1 (each_takes (SpellsPlaced g place) (placed_at r place read) (placed_takes read sound) (length a.0) signs.RightBrace a.0 body.0 body.1) in
        in_place (SpellsBlock g place) ls (from_placed body.0.0) end.0 found end.2 (
          a.0,
          sign_takes signs.LeftBrace ls a.0 a.1,
          subst (SpellsStatements g place (from_placed body.0.0) a.0) (sign_takes signs.RightBrace body.0.1 end.0 end.1) says,
        )

    pub block_takes : (n : ℕ) → Takes (SpellsBlock g place) (block_at r place n)
    unfolding block_at
    block_takes zero ls found e = absurd cc
    block_takes (suc n) ls found e = block_by_takes (statement_at r (block_at r place n)) (statement_takes (block_at r place n) (block_takes n)) ls found e
