-- What is spelled as statements and blocks is read so, where no more brackets are open than may be.
use Rattle.std.proofs.Common.{◌≡◌, ◌⊎◌, ◌≤◌, ℕ, zero, suc, true, false, List, [], ◌∷◌, length, Option, Some, None, refl, sym, ap, ◌∙◌, subst, arith, inl, inr}
use Rattle.gil_lexer.specs.declared.forms.Form.{Form}
use Rattle.gil_lexer.specs.declared.forms.Form.TheVariants as forms
use Rattle.gil_lexer.specs.declared.words.Word.{Word}
use Rattle.gil_lexer.specs.declared.words.Word.TheVariants as words
use Rattle.gil_lexer.specs.declared.signs.Sign.TheVariants as signs
use Rattle.gil_lexemes.specs.declared.standing.Lexeme.{Lexeme}
use Rattle.gil_lexemes.specs.declared.standing.Lexeme.TheVariants as lexemes
use Rattle.gil_lexemes.specs.Reading.{Reading, first_form, same_sign, is_sign}
use Rattle.gil_lexemes.proofs.ReadingLaws.{same_sign-refl, same_word-refl}
use Rattle.gil_grammar.specs.Lists.{SpellsEach}
use Rattle.gil_grammar.specs.Vocabulary.{opening_parenthesis, closing_parenthesis, closing_brace, semicolon}
use Rattle.gil_grammar.proofs.ListLaws.{Again, Reads, ReadsList, NeverBegins, Takes, each_again}
use Rattle.gil_grammar.proofs.NestingLaws.{Nested, nested_tail}
use Rattle.source_language.specs.Pure.{PureLogic, fold_use, unfold_use, assert_that, invariant_by_itself, PureInvariant}
use Rattle.source_text.specs.Logic as logics
use Rattle.source_text.proofs.LogicLaws as laws
use Rattle.source_text.proofs.LogicLaws.{invariant_again}
use Rattle.source_statements.specs.Pure.{PureStatement, simple, assert, assume, if_else, while, return, logic, try_catch, PureBlock, no_statements, statement_and, PurePlacedStatement, from_placed}
use Rattle.statement_text.specs.Grammar.{Spellings, SpellsStatement, SpellsElse, SpellsBlock, SpellsStatements}
use Rattle.statement_text.specs.Reading.{Readers, is_shared_word, is_shared, value_at, condition_at, claim_at, plain_at, asserted_at, else_at, if_at, while_at, caught_at, try_at, tried_at, of_word_at, statement_by, statement_at, placed_at, block_by, block_at}
use Rattle.statement_text.proofs.StatementTakes.{SpellsValue, SpellsCondition, SpellsClaim, SpellsPlaced}

-- What is to be shown of the expressions and simple statements of a language: what is read is spelled, and what is spelled is read, an
-- expression before `;` and before `)`. No simple statement begins with a word of the shared ones, or with `}`.
pub record PiecesRead {E S : Type 0} (g : Spellings E S) (r : Readers E S) : Type 0 where
  pub same_try : g.has_try ≡ r.has_try
  pub expression_takes : Takes g.expression r.expression_at
  pub expression_again : (e : E) (ls rest : List Lexeme) (l : Lexeme) → (l ≡ semicolon) ⊎ (l ≡ closing_parenthesis) → Nested ls
      → g.expression e ls (l ∷ rest) → Reads Nested r.expression_at e ls (l ∷ rest)
  pub simple_takes : Takes g.simple r.simple_at
  pub simple_again : Again Nested g.simple r.simple_at
  pub simple_apart : (c : S) (ls rest : List Lexeme) → g.simple c ls rest → is_shared (first_form ls) ≡ false
  pub simple_never : NeverBegins g.simple signs.RightBrace

two_tails : (l m : Lexeme) (ls : List Lexeme) → Nested (l ∷ m ∷ ls) → Nested ls
two_tails l m ls p = nested_tail m ls (nested_tail l _ p)

-- ---- what blocks are read under: not too many brackets, and no more lexemes than blocks may stand within one another

pub record Room (n : ℕ) (ls : List Lexeme) : Type 0 where
  pub nested : Nested ls
  pub within : length ls ≤ n

pub room_tail : (n : ℕ) (l : Lexeme) (ls : List Lexeme) → Room n (l ∷ ls) → Room n ls
room_tail n l ls p = record { nested = nested_tail l ls p.nested; within = omega (arith, p.within) }

in_room : {X : Type 0} (n : ℕ) (read : List Lexeme → Reading X) (x : X) (ls rest : List Lexeme) → Room n ls → Reads Nested read x ls rest → Reads (Room n) read x ls rest
in_room n read x ls rest p h = record { is = h.is; under = record { nested = h.under; within = omega (arith, h.shorter, p.within) }; shorter = h.shorter }

module _ {E S : Type 0} (g : Spellings E S) (r : Readers E S) (pieces : PiecesRead g r) where
  value_again : Again Nested (SpellsValue g) (value_at r)
  unfolding value_at
  value_again e ls rest p h =
      let read = pieces.expression_again e ls rest semicolon (inl refl) p h in
      record { is = rw (read.is, same_sign-refl signs.Semicolon) refl; under = nested_tail _ rest read.under; shorter = omega (arith, read.shorter) }

  condition_again : Again Nested (SpellsCondition g) (condition_at r)
  unfolding condition_at
  condition_again e ls rest p (inner, is, h) =
      let read = pieces.expression_again e inner rest closing_parenthesis (inr refl) (nested_tail _ inner (subst Nested is p)) h in
      record {
        is = rw (is, same_sign-refl signs.LeftParenthesis, read.is, same_sign-refl signs.RightParenthesis) refl;
        under = nested_tail _ rest read.under;
        shorter = omega (arith, ap length is, read.shorter);
      }

  claim_again : Again Nested (SpellsClaim g) (claim_at r)
  unfolding claim_at
  claim_again e ls rest p h =
      let read = condition_again e ls (semicolon ∷ rest) p h in
      record { is = rw (read.is, same_sign-refl signs.Semicolon) refl; under = nested_tail _ rest read.under; shorter = omega (arith, read.shorter) }

  module _ (place : ℕ → ℕ) where
    abbrev Spells : PureStatement E S → List Lexeme → List Lexeme → Type 0
    Spells = SpellsStatement g place

    module _ (n : ℕ) (blocks : List Lexeme → Reading (PureBlock E S)) (again : Again (Room n) (SpellsBlock g place) blocks) where
      -- ---- statements without blocks

      abbrev ReadsPlain : PureStatement E S → List Lexeme → List Lexeme → Type 0
      ReadsPlain c ls rest = Reads Nested (statement_at r blocks) c ls rest

      of_other_word : (word : Word) (ls : List Lexeme) → is_shared_word word ≡ false → of_word_at r blocks word ls ≡ plain_at r ls
      of_other_word words.Assert ls apart = absurd (cc)
      of_other_word words.Assume ls apart = absurd (cc)
      of_other_word words.If ls apart = absurd (cc)
      of_other_word words.While ls apart = absurd (cc)
      of_other_word words.Return ls apart = absurd (cc)
      of_other_word words.Fold ls apart = absurd (cc)
      of_other_word words.Unfold ls apart = absurd (cc)
      of_other_word words.Invariant ls apart = absurd (cc)
      of_other_word words.Try ls apart = absurd (cc)
      of_other_word _ ls apart = refl

      of_other : (form : Option Form) (ls : List Lexeme) → is_shared form ≡ false → statement_by r blocks form ls ≡ plain_at r ls
      of_other (Some (forms.Word word)) ls apart = of_other_word word ls apart
      of_other None ls apart = refl
      of_other (Some _) ls apart = refl

      simple_again_at : (c : S) (ls rest : List Lexeme) → Nested ls → Spells (simple c) ls rest → ReadsPlain (simple c) ls rest
      unfolding statement_at
      simple_again_at c ls rest p h =
          let read = pieces.simple_again c ls rest p h in
          record { is = of_other (first_form ls) ls (pieces.simple_apart c ls rest h) ∙ rw read.is refl; under = read.under; shorter = read.shorter }

      return_again : (e : E) (ls rest : List Lexeme) → Nested ls → Spells (return e) ls rest → ReadsPlain (return e) ls rest
      unfolding statement_at
      return_again e ls rest p (value, is, h) =
          let read = value_again e value rest (nested_tail _ value (subst Nested is p)) h in
          record { is = rw (is, read.is) refl; under = read.under; shorter = omega (arith, ap length is, read.shorter) }

      assert_again : (e : E) (ls rest : List Lexeme) → Nested ls → Spells (assert e) ls rest → ReadsPlain (assert e) ls rest
      unfolding statement_at asserted_at same_sign
      assert_again e ls rest p (guard, is, h) =
          let read = claim_again e (lexemes.Sign signs.LeftParenthesis ∷ guard) rest (nested_tail _ _ (subst Nested is p)) (guard, refl, h) in
          record { is = rw (is, read.is) refl; under = read.under; shorter = omega (arith, ap length is, read.shorter) }

      assume_again : (e : E) (ls rest : List Lexeme) → Nested ls → Spells (assume e) ls rest → ReadsPlain (assume e) ls rest
      unfolding statement_at
      assume_again e ls rest p (guard, is, h) =
          let read = claim_again e (lexemes.Sign signs.LeftParenthesis ∷ guard) rest (nested_tail _ _ (subst Nested is p)) (guard, refl, h) in
          record { is = rw (is, read.is) refl; under = read.under; shorter = omega (arith, ap length is, read.shorter) }

      logic_again : (c : PureLogic) (ls rest : List Lexeme) → Nested ls → Spells (logic c) ls rest → ReadsPlain (logic c) ls rest
      unfolding statement_at asserted_at same_sign
      logic_again (fold_use u) ls rest p (inner, is, h) =
          let read = laws.logic_again (fold_use u) ls rest p (inner, is, h) in
          let read_is = subst (λ (l : List Lexeme). logics.logic_at words.Fold l ≡ Some (fold_use u, rest)) is read.is in
          record { is = rw (is, read_is) refl; under = read.under; shorter = read.shorter }
      logic_again (unfold_use u) ls rest p (inner, is, h) =
          let read = laws.logic_again (unfold_use u) ls rest p (inner, is, h) in
          let read_is = subst (λ (l : List Lexeme). logics.logic_at words.Unfold l ≡ Some (unfold_use u, rest)) is read.is in
          record { is = rw (is, read_is) refl; under = read.under; shorter = read.shorter }
      logic_again (assert_that items) ls rest p (block, is, (inner, braced, h)) =
          let read = laws.logic_again (assert_that items) ls rest p (block, is, (inner, braced, h)) in
          let whole = is ∙ ap (λ (l : List Lexeme). lexemes.Word words.Assert ∷ l) braced in
          let read_is = subst (λ (l : List Lexeme). logics.logic_at words.Assert l ≡ Some (assert_that items, rest)) whole read.is in
          record { is = rw (whole, read_is) refl; under = read.under; shorter = read.shorter }
      logic_again (invariant_by_itself i) ls rest p (names, variables, block, is, a, b, d) =
          let read = laws.logic_again (invariant_by_itself i) ls rest p (names, variables, block, is, a, b, d) in
          let read_is = subst (λ (l : List Lexeme). logics.logic_at words.Invariant l ≡ Some (invariant_by_itself i, rest)) is read.is in
          record { is = rw (is, read_is) refl; under = read.under; shorter = read.shorter }

      -- ---- statements with blocks

      else_again : (off : PureBlock E S) (ls rest : List Lexeme) → Room n ls → SpellsElse g place off ls rest → ReadsList (Room n) (else_at r blocks) off ls rest
      unfolding else_at
      else_again off ls rest p (inl (none, is, ends)) =
          record { is = rw (is, ends, none) refl; under = subst (Room n) is p; shorter = omega (arith, ap length is) }
      else_again off ls rest p (inr (block, is, h)) =
          let read = again off block rest (room_tail n _ block (subst (Room n) is p)) h in
          record { is = rw (is, same_word-refl words.Else, read.is) refl; under = read.under; shorter = omega (arith, ap length is, read.shorter) }

      if_again : (e : E) (on off : PureBlock E S) (ls rest : List Lexeme) → Room n ls → Spells (if_else e on off) ls rest → Reads (Room n) (statement_at r blocks) (if_else e on off) ls rest
      unfolding statement_at if_at
      if_again e on off ls rest p (guard, block, after, is, h, a, b) =
          let behind_word = room_tail n _ _ (subst (Room n) is p) in
          let cond = in_room n (condition_at r) e (lexemes.Sign signs.LeftParenthesis ∷ guard) block behind_word (condition_again e (lexemes.Sign signs.LeftParenthesis ∷ guard) block behind_word.nested (guard, refl, h)) in
          let first = again on block after cond.under a in
          let second = else_again off after rest first.under b in
          record {
            is = rw (is, cond.is, first.is, second.is) refl;
            under = second.under;
            shorter = omega (arith, ap length is, cond.shorter, first.shorter, second.shorter);
          }

      while_again : (e : E) (i : Option PureInvariant) (body : PureBlock E S) (ls rest : List Lexeme) → Room n ls → Spells (while e i body) ls rest → Reads (Room n) (statement_at r blocks) (while e i body) ls rest
      unfolding statement_at while_at same_sign
      while_again e i body ls rest p (guard, after, block, is, h, a, (inner, braced, b)) =
          let behind_word = room_tail n _ _ (subst (Room n) is p) in
          let cond = in_room n (condition_at r) e (lexemes.Sign signs.LeftParenthesis ∷ guard) after behind_word (condition_again e (lexemes.Sign signs.LeftParenthesis ∷ guard) after behind_word.nested (guard, refl, h)) in
          let inv = invariant_again i after block cond.under.nested a (rw braced refl) in
          let room : Room n block = record { nested = inv.under; within = omega (arith, inv.shorter, cond.under.within) } in
          let read = again body block rest room (inner, braced, b) in
          record {
            is = rw (is, cond.is, inv.is, read.is) refl;
            under = read.under;
            shorter = omega (arith, ap length is, cond.shorter, inv.shorter, read.shorter);
          }

      try_again : (body : PureBlock E S) (x : List ℕ) (handler : PureBlock E S) (ls rest : List Lexeme) → Room n ls → Spells (try_catch body x handler) ls rest → Reads (Room n) (statement_at r blocks) (try_catch body x handler) ls rest
      unfolding statement_at tried_at try_at caught_at
      try_again body x handler ls rest p (block, other, has, is, a, b) =
          let tried : r.has_try ≡ true = sym pieces.same_try ∙ has in
          let first = again body block (caught_lexemes x other) (room_tail n _ block (subst (Room n) is p)) a in
          let room : Room n other = four_tails _ _ _ _ other first.under in
          let second = again handler other rest room b in
          record {
            is = rw (is, tried, first.is, same_word-refl words.Catch, same_sign-refl signs.LeftParenthesis, same_sign-refl signs.RightParenthesis, second.is) refl;
            under = second.under;
            shorter = omega (arith, ap length is, first.shorter, second.shorter);
          }
        where
          caught_lexemes : List ℕ → List Lexeme → List Lexeme
          caught_lexemes y ls = lexemes.Word words.Catch ∷ opening_parenthesis ∷ lexemes.Name y ∷ closing_parenthesis ∷ ls

          four_tails : (k l m o : Lexeme) (ls : List Lexeme) → Room n (k ∷ l ∷ m ∷ o ∷ ls) → Room n ls
          four_tails k l m o ls q = room_tail n o ls (room_tail n m _ (room_tail n l _ (room_tail n k _ q)))

      plain : (c : PureStatement E S) (ls rest : List Lexeme) → Room n ls → ReadsPlain c ls rest → Reads (Room n) (statement_at r blocks) c ls rest
      plain c ls rest p h = in_room n (statement_at r blocks) c ls rest p h

      statement_again : Again (Room n) Spells (statement_at r blocks)
      statement_again (simple c) ls rest p h = plain _ ls rest p (simple_again_at c ls rest p.nested h)
      statement_again (assert e) ls rest p h = plain _ ls rest p (assert_again e ls rest p.nested h)
      statement_again (assume e) ls rest p h = plain _ ls rest p (assume_again e ls rest p.nested h)
      statement_again (if_else e on off) ls rest p h = if_again e on off ls rest p h
      statement_again (while e i body) ls rest p h = while_again e i body ls rest p h
      statement_again (return e) ls rest p h = plain _ ls rest p (return_again e ls rest p.nested h)
      statement_again (logic c) ls rest p h = plain _ ls rest p (logic_again c ls rest p.nested h)
      statement_again (try_catch body x handler) ls rest p h = try_again body x handler ls rest p h

      placed_again : Again (Room n) (SpellsPlaced g place) (placed_at r place (statement_at r blocks))
      unfolding placed_at
      placed_again q ls rest p (at, h) =
          let read = statement_again q.statement ls rest p h in
          record { is = rw read.is (ap (λ k. Some (record { at = k; statement = q.statement }, rest)) (sym at)); under = read.under; shorter = read.shorter }

    -- a statement begins with no brace
    statement_never : (c : PureStatement E S) (ls rest : List Lexeme) → Spells c ls rest → is_sign signs.RightBrace (first_form ls) ≡ false
    statement_never (simple c) ls rest h = pieces.simple_never c ls rest h
    statement_never (assert e) ls rest h = rw (h.1) refl
    statement_never (assume e) ls rest h = rw (h.1) refl
    statement_never (if_else e on off) ls rest h = rw (h.3) refl
    statement_never (while e i body) ls rest h = rw (h.3) refl
    statement_never (return e) ls rest h = rw (h.1) refl
    statement_never (logic (fold_use u)) ls rest h = rw (h.1) refl
    statement_never (logic (unfold_use u)) ls rest h = rw (h.1) refl
    statement_never (logic (assert_that items)) ls rest h = rw (h.1) refl
    statement_never (logic (invariant_by_itself i)) ls rest h = rw (h.3) refl
    statement_never (try_catch body x handler) ls rest h = rw (h.3) refl

    placed_never : NeverBegins (SpellsPlaced g place) signs.RightBrace
    placed_never q ls rest (at, h) = statement_never q.statement ls rest h

    -- a block's statements as a list
    abbrev placed_list : PureBlock E S → List (PurePlacedStatement E S)
    placed_list no_statements = []
    placed_list (statement_and at c body) = record { at = at; statement = c } ∷ placed_list body

    block_of : (body : PureBlock E S) → from_placed (placed_list body) ≡ body
    block_of no_statements = refl
    block_of (statement_and at c body) = ap (statement_and at c) (block_of body)

    each_of : (body : PureBlock E S) (ls rest : List Lexeme) → SpellsStatements g place body ls rest → SpellsEach (SpellsPlaced g place) (placed_list body) ls rest
    each_of no_statements ls rest is = is
    each_of (statement_and at c body) ls rest (after, e, one, more) = (after, (e, one), each_of body after rest more)

    pub block_again : (n : ℕ) → Again (Room n) (SpellsBlock g place) (block_at r place n)
    unfolding block_at block_by
    block_again zero body ls rest p (inner, is, h) = absurd (let count = ap length is in omega (arith, p.within))
    block_again (suc n) body ls rest p (inner, is, h) =
        let q = subst (Room (suc n)) is p in
        let room : Room n inner = record { nested = nested_tail _ inner q.nested; within = omega (arith, q.within) } in
        let statements = placed_again n (block_at r place n) (block_again n) in
        let read = each_again (Room n) (room_tail n) (SpellsPlaced g place) (placed_at r place (statement_at r (block_at r place n))) statements (length inner) signs.RightBrace placed_never (placed_list body) inner (closing_brace ∷ rest) (omega arith) room (each_of body inner _ h) (same_sign-refl signs.RightBrace) in
        record {
          is = rw (is, same_sign-refl signs.LeftBrace, read.is, same_sign-refl signs.RightBrace) (ap (λ b. Some (b, rest)) (block_of body));
          under = record { nested = nested_tail _ rest read.under.nested; within = omega (arith, read.under.within) };
          shorter = omega (arith, ap length is, read.shorter);
        }
