-- What is spelled as statements, blocks and functions is read so, where no more brackets are open than may be.
use Rattle.std.proofs.Common.{◌≡◌, ◌≤◌, ℕ, zero, suc, true, false, List, [], ◌∷◌, length, Option, Some, refl, sym, ap, ◌∙◌, subst, arith, inl, inr}
use Rattle.gil_values.specs.declared.kinds.Kind.TheVariants as kinds
use Rattle.gil_values.specs.declared.operators.UnOp.TheVariants as unary
use Rattle.gil_values.specs.declared.operators.BinOp.TheVariants as binary
use Rattle.gil_values.specs.Pure.{PureValue, integer, boolean, text, symbol as a_symbol, kind, procedure, list}
use Rattle.gil_lexer.specs.declared.words.Word.{Word}
use Rattle.gil_lexer.specs.declared.words.Word.TheVariants as words
use Rattle.gil_lexer.specs.declared.signs.Sign.TheVariants as signs
use Rattle.gil_lexemes.specs.declared.standing.Lexeme.{Lexeme}
use Rattle.gil_lexemes.specs.declared.standing.Lexeme.TheVariants as lexemes
use Rattle.gil_lexemes.specs.Reading.{Reading, first_form, same_sign, is_sign}
use Rattle.gil_lexemes.proofs.ReadingLaws.{same_sign-refl, same_word-refl}
use Rattle.gil_syntax.specs.Pure.{PureExpr, literal, name, logical, list_of, unary_of, binary_of}
use Rattle.gil_grammar.specs.declared.positions.Position.TheVariants.{Command}
use Rattle.gil_grammar.specs.Lists.{SpellsEach}
use Rattle.gil_grammar.specs.Vocabulary.{closing_brace, semicolon, literal_lexeme, IsNameAt}
use Rattle.gil_grammar.proofs.ListLaws.{Again, Reads, ReadsList, NeverBegins, found_is, separated_again, each_again}
use Rattle.gil_grammar.proofs.VocabularyLaws.{input_again}
use Rattle.gil_grammar.proofs.NestingLaws.{Nested, nested_tail, expression_again}
use Rattle.gil_grammar.proofs.AssertionReads.{parenthesis_closes, expressions_again}
use Rattle.gil_grammar.proofs.CommandReads.{names_again}
use Rattle.source_language.specs.Pure.{PureLogic, fold_use, unfold_use, assert_that, invariant_by_itself, PureInvariant}
use Rattle.source_text.specs.Logic as logics
use Rattle.source_text.specs.Vocabulary.{equals}
use Rattle.source_text.proofs.LogicLaws as laws
use Rattle.source_text.proofs.LogicLaws.{invariant_again}
use Rattle.while_lang.specs.Pure.{PureField, PureStatement, assign, input, symbol, new, lookup, call, mutate, dispose, assert, assume, if_else, while, return, fail, logic, PureBlock, no_statements, statement_and, PurePlacedStatement, from_placed, PureFunction}
use Rattle.while_grammar.specs.Statements.{SpellsField, SpellsStatement, SpellsElse, SpellsBlock, SpellsStatements, SpellsFunction}
use Rattle.while_grammar.specs.Reading.Statements.{value_at, condition_at, claim_at, field_at, assign_at, input_at, new_at, lookup_at, call_at, named_at, assigned_at, assignment_at, mutate_at, of_name_at, asserted_at, else_at, if_at, while_at, statement_at, placed_at, block_by, block_at, function_at}
use Rattle.while_grammar.proofs.StatementTakes.{SpellsValue, SpellsCondition, SpellsClaim, SpellsPlaced}

-- ---- pieces

value_again : Again Nested SpellsValue value_at
unfolding value_at
value_again e ls rest p h =
    let read = expression_again Command e ls _ p h in
    record { is = rw (read.is, same_sign-refl signs.Semicolon) refl; under = nested_tail _ rest read.under; shorter = omega (arith, read.shorter) }

condition_again : Again Nested SpellsCondition condition_at
unfolding condition_at
condition_again e ls rest p (inner, is, h) =
    let read = expression_again Command e inner _ (nested_tail _ inner (subst Nested is p)) h in
    record {
      is = rw (is, same_sign-refl signs.LeftParenthesis, read.is, same_sign-refl signs.RightParenthesis) refl;
      under = nested_tail _ rest read.under;
      shorter = omega (arith, ap length is, read.shorter);
    }

claim_again : Again Nested SpellsClaim claim_at
unfolding claim_at
claim_again e ls rest p h =
    let read = condition_again e ls (semicolon ∷ rest) p h in
    record { is = rw (read.is, same_sign-refl signs.Semicolon) refl; under = nested_tail _ rest read.under; shorter = omega (arith, read.shorter) }

two_tails : (l m : Lexeme) (ls : List Lexeme) → Nested (l ∷ m ∷ ls) → Nested ls
two_tails l m ls p = nested_tail m ls (nested_tail l _ p)

four_tails : (l m n o : Lexeme) (ls : List Lexeme) → Nested (l ∷ m ∷ n ∷ o ∷ ls) → Nested ls
four_tails l m n o ls p = two_tails n o ls (two_tails l m _ p)

field_again : Again Nested SpellsField field_at
unfolding field_at
field_again f ls rest p (value, is, h) =
    let read = expression_again Command f.value value rest (two_tails _ _ value (subst Nested is p)) h in
    record { is = rw (is, same_sign-refl signs.Colon, read.is) refl; under = read.under; shorter = omega (arith, ap length is, read.shorter) }

field_never : NeverBegins SpellsField signs.RightBrace
field_never f ls rest (value, is, h) = rw is refl

-- ---- an expression and its `;` are assigned

abbrev Assigns : List Lexeme → Type 0
Assigns ls = (x : List ℕ) → assigned_at x ls ≡ assign_at x ls

literal_assigns : (v : PureValue) (lexeme : Lexeme) (rest : List Lexeme) → literal_lexeme v ≡ Some lexeme → Assigns (lexeme ∷ rest)
literal_assigns (integer n) lexeme rest e = subst (λ (l : Lexeme). Assigns (l ∷ rest)) (found_is _ lexeme e) (λ x. refl)
literal_assigns (boolean true) lexeme rest e = subst (λ (l : Lexeme). Assigns (l ∷ rest)) (found_is _ lexeme e) (λ x. refl)
literal_assigns (boolean false) lexeme rest e = subst (λ (l : Lexeme). Assigns (l ∷ rest)) (found_is _ lexeme e) (λ x. refl)
literal_assigns (text t) lexeme rest e = subst (λ (l : Lexeme). Assigns (l ∷ rest)) (found_is _ lexeme e) (λ x. refl)
literal_assigns (a_symbol n) lexeme rest e = absurd cc
literal_assigns (kind kinds.Int) lexeme rest e = subst (λ (l : Lexeme). Assigns (l ∷ rest)) (found_is _ lexeme e) (λ x. refl)
literal_assigns (kind kinds.Bool) lexeme rest e = subst (λ (l : Lexeme). Assigns (l ∷ rest)) (found_is _ lexeme e) (λ x. refl)
literal_assigns (kind kinds.Str) lexeme rest e = subst (λ (l : Lexeme). Assigns (l ∷ rest)) (found_is _ lexeme e) (λ x. refl)
literal_assigns (kind kinds.Sym) lexeme rest e = subst (λ (l : Lexeme). Assigns (l ∷ rest)) (found_is _ lexeme e) (λ x. refl)
literal_assigns (kind kinds.Kind) lexeme rest e = subst (λ (l : Lexeme). Assigns (l ∷ rest)) (found_is _ lexeme e) (λ x. refl)
literal_assigns (kind kinds.Proc) lexeme rest e = subst (λ (l : Lexeme). Assigns (l ∷ rest)) (found_is _ lexeme e) (λ x. refl)
literal_assigns (kind kinds.List) lexeme rest e = subst (λ (l : Lexeme). Assigns (l ∷ rest)) (found_is _ lexeme e) (λ x. refl)
literal_assigns (kind kinds.Undef) lexeme rest e = subst (λ (l : Lexeme). Assigns (l ∷ rest)) (found_is _ lexeme e) (λ x. refl)
literal_assigns (kind kinds.Null) lexeme rest e = subst (λ (l : Lexeme). Assigns (l ∷ rest)) (found_is _ lexeme e) (λ x. refl)
literal_assigns (procedure f) lexeme rest e = subst (λ (l : Lexeme). Assigns (l ∷ rest)) (found_is _ lexeme e) (λ x. refl)
literal_assigns (list vs) lexeme rest e = absurd cc

named_assigns : (y : List ℕ) (lexeme : Lexeme) (rest : List Lexeme) → IsNameAt Command y lexeme → Assigns (lexeme ∷ semicolon ∷ rest)
unfolding named_at same_sign
named_assigns y lexeme rest (inl says) = rw says (λ x. refl)
named_assigns y lexeme rest (inr (word, says, is)) = absurd (cc says)

assigns_from : (ls other : List Lexeme) → ls ≡ other → Assigns other → Assigns ls
assigns_from ls other is h = subst Assigns (sym is) h

expr_assigns : (e : PureExpr) (ls rest : List Lexeme) → SpellsValue e ls rest → Assigns ls
expr_assigns (literal v) ls rest (lexeme, says, is) = assigns_from ls _ is (literal_assigns v lexeme _ says)
expr_assigns (name y) ls rest (lexeme, says, is) = assigns_from ls _ is (named_assigns y lexeme rest says)
expr_assigns (logical y) ls rest (there, is) = absurd (cc there)
expr_assigns (list_of es) ls rest (inner, is, h) = assigns_from ls _ is (λ x. refl)
expr_assigns (unary_of unary.Not e) ls rest (inner, is, h) = assigns_from ls _ is (λ x. refl)
expr_assigns (unary_of unary.Neg e) ls rest (inner, is, h) = assigns_from ls _ is (λ x. refl)
expr_assigns (unary_of unary.Len e) ls rest (inner, is, h) = assigns_from ls _ is (λ x. refl)
expr_assigns (unary_of unary.Kind e) ls rest (inner, is, h) = assigns_from ls _ is (λ x. refl)
expr_assigns (binary_of binary.Nth d e) ls rest (left, right, is, h, k) = assigns_from ls _ is (λ x. refl)
expr_assigns (binary_of _ d e) ls rest (left, right, is, h, k) = assigns_from ls _ is (λ x. refl)

-- ---- what blocks are read under: not too many brackets, and no more lexemes than blocks may stand within one another

pub record Room (n : ℕ) (ls : List Lexeme) : Type 0 where
  pub nested : Nested ls
  pub within : length ls ≤ n

pub room_tail : (n : ℕ) (l : Lexeme) (ls : List Lexeme) → Room n (l ∷ ls) → Room n ls
room_tail n l ls p = record { nested = nested_tail l ls p.nested; within = omega (arith, p.within) }

in_room : {X : Type 0} (n : ℕ) (read : List Lexeme → Reading X) (x : X) (ls rest : List Lexeme) → Room n ls → Reads Nested read x ls rest → Reads (Room n) read x ls rest
in_room n read x ls rest p h = record { is = h.is; under = record { nested = h.under; within = omega (arith, h.shorter, p.within) }; shorter = h.shorter }

module _ (place : ℕ → ℕ) where
  abbrev Spells : PureStatement → List Lexeme → List Lexeme → Type 0
  Spells = SpellsStatement place

  module _ (n : ℕ) (blocks : List Lexeme → Reading PureBlock) (again : Again (Room n) (SpellsBlock place) blocks) where
    -- ---- statements without blocks

    abbrev ReadsPlain : PureStatement → List Lexeme → List Lexeme → Type 0
    ReadsPlain c ls rest = Reads Nested (statement_at blocks) c ls rest

    begins : (x : List ℕ) (ls value : List Lexeme) → ls ≡ lexemes.Name x ∷ equals ∷ value → statement_at blocks ls ≡ assigned_at x value
    unfolding statement_at of_name_at assignment_at same_sign
    begins x ls value is = rw is refl

    assign_again : (x : List ℕ) (e : PureExpr) (ls rest : List Lexeme) → Nested ls → Spells (assign x e) ls rest → ReadsPlain (assign x e) ls rest
    assign_again x e ls rest p (value, is, h) =
        let read = value_again e value rest (two_tails _ _ value (subst Nested is p)) h in
        record { is = begins x ls value is ∙ expr_assigns e value rest h x ∙ rw read.is refl; under = read.under; shorter = omega (arith, ap length is, read.shorter) }

    input_again_at : (x : List ℕ) (k : _) (ls rest : List Lexeme) → Nested ls → Spells (input x k) ls rest → ReadsPlain (input x k) ls rest
    unfolding input_at
    input_again_at x k ls rest p (word, says, is) = record {
      is = begins x ls _ is ∙ rw (input_again k word says, same_sign-refl signs.Semicolon) refl;
      under = nested_tail _ rest (four_tails _ _ _ _ _ (subst Nested is p));
      shorter = omega (arith, ap length is);
    }

    symbol_again : (x : List ℕ) (ls rest : List Lexeme) → Nested ls → Spells (symbol x) ls rest → ReadsPlain (symbol x) ls rest
    symbol_again x ls rest p is = record {
      is = begins x ls _ is ∙ rw (same_sign-refl signs.Semicolon) refl;
      under = four_tails _ _ _ _ rest (subst Nested is p);
      shorter = omega (arith, ap length is);
    }

    new_again : (x : List ℕ) (fields : List PureField) (ls rest : List Lexeme) → Nested ls → Spells (new x fields) ls rest → ReadsPlain (new x fields) ls rest
    unfolding new_at same_sign
    new_again x fields ls rest p (inner, is, h) =
        let read = separated_again Nested nested_tail SpellsField field_at field_again signs.RightBrace signs.Comma field_never fields inner _ (four_tails _ _ _ _ inner (subst Nested is p)) h refl refl in
        record {
          is = begins x ls _ is ∙ rw read.is refl;
          under = two_tails _ _ rest read.under;
          shorter = omega (arith, ap length is, read.shorter);
        }

    lookup_again : (x y q : List ℕ) (ls rest : List Lexeme) → Nested ls → Spells (lookup x y q) ls rest → ReadsPlain (lookup x y q) ls rest
    unfolding named_at lookup_at same_sign
    lookup_again x y q ls rest p is = record {
      is = begins x ls _ is;
      under = two_tails _ _ rest (four_tails _ _ _ _ _ (subst Nested is p));
      shorter = omega (arith, ap length is);
    }

    call_again : (x f : List ℕ) (es : List PureExpr) (ls rest : List Lexeme) → Nested ls → Spells (call x f es) ls rest → ReadsPlain (call x f es) ls rest
    unfolding named_at call_at same_sign
    call_again x f es ls rest p (arguments, is, h) =
        let read = expressions_again Command signs.RightParenthesis parenthesis_closes es arguments _ (four_tails _ _ _ _ arguments (subst Nested is p)) h in
        record {
          is = begins x ls _ is ∙ rw read.is refl;
          under = two_tails _ _ rest read.under;
          shorter = omega (arith, ap length is, read.shorter);
        }

    mutate_again : (y q : List ℕ) (e : PureExpr) (ls rest : List Lexeme) → Nested ls → Spells (mutate y q e) ls rest → ReadsPlain (mutate y q e) ls rest
    unfolding statement_at of_name_at mutate_at same_sign
    mutate_again y q e ls rest p (value, is, h) =
        let read = value_again e value rest (four_tails _ _ _ _ value (subst Nested is p)) h in
        record { is = rw (is, read.is) refl; under = read.under; shorter = omega (arith, ap length is, read.shorter) }

    -- a statement behind a word, from what is read behind it
    worded : (word : Word) (c : PureStatement) (ls inner rest : List Lexeme) → ls ≡ lexemes.Word word ∷ inner → statement_at blocks (lexemes.Word word ∷ inner) ≡ Some (c, rest) → statement_at blocks ls ≡ Some (c, rest)
    worded word c ls inner rest is read = ap (statement_at blocks) is ∙ read

    dispose_again : (e : PureExpr) (ls rest : List Lexeme) → Nested ls → Spells (dispose e) ls rest → ReadsPlain (dispose e) ls rest
    unfolding statement_at
    dispose_again e ls rest p (value, is, h) =
        let read = value_again e value rest (nested_tail _ value (subst Nested is p)) h in
        record { is = rw (is, read.is) refl; under = read.under; shorter = omega (arith, ap length is, read.shorter) }

    return_again : (e : PureExpr) (ls rest : List Lexeme) → Nested ls → Spells (return e) ls rest → ReadsPlain (return e) ls rest
    unfolding statement_at
    return_again e ls rest p (value, is, h) =
        let read = value_again e value rest (nested_tail _ value (subst Nested is p)) h in
        record { is = rw (is, read.is) refl; under = read.under; shorter = omega (arith, ap length is, read.shorter) }

    fail_again : (e : PureExpr) (ls rest : List Lexeme) → Nested ls → Spells (fail e) ls rest → ReadsPlain (fail e) ls rest
    unfolding statement_at
    fail_again e ls rest p (value, is, h) =
        let read = value_again e value rest (nested_tail _ value (subst Nested is p)) h in
        record { is = rw (is, read.is) refl; under = read.under; shorter = omega (arith, ap length is, read.shorter) }

    assert_again : (e : PureExpr) (ls rest : List Lexeme) → Nested ls → Spells (assert e) ls rest → ReadsPlain (assert e) ls rest
    unfolding statement_at asserted_at same_sign
    assert_again e ls rest p (guard, is, h) =
        let read = claim_again e (lexemes.Sign signs.LeftParenthesis ∷ guard) rest (nested_tail _ _ (subst Nested is p)) (guard, refl, h) in
        record { is = rw (is, read.is) refl; under = read.under; shorter = omega (arith, ap length is, read.shorter) }

    assume_again : (e : PureExpr) (ls rest : List Lexeme) → Nested ls → Spells (assume e) ls rest → ReadsPlain (assume e) ls rest
    unfolding statement_at
    assume_again e ls rest p (guard, is, h) =
        let read = claim_again e (lexemes.Sign signs.LeftParenthesis ∷ guard) rest (nested_tail _ _ (subst Nested is p)) (guard, refl, h) in
        record { is = rw (is, read.is) refl; under = read.under; shorter = omega (arith, ap length is, read.shorter) }

    logic_again : (c : PureLogic) (ls rest : List Lexeme) → Nested ls → Spells (logic c) ls rest → ReadsPlain (logic c) ls rest
    unfolding statement_at asserted_at same_sign
    logic_again (fold_use u) ls rest p (inner, is, h) =
        let read = laws.logic_again (fold_use u) ls rest p (inner, is, h) in
        let read_is = subst (λ (l : List Lexeme). logics.logic_at words.Fold l ≡ Some (fold_use u, rest)) is read.is in
        record { is = rw (is, read_is) refl; under = read.under; shorter = read.shorter }
    logic_again (unfold_use u) ls rest p (inner, is, h) =
        let read = laws.logic_again (unfold_use u) ls rest p (inner, is, h) in
        let read_is = subst (λ (l : List Lexeme). logics.logic_at words.Unfold l ≡ Some (unfold_use u, rest)) is read.is in
        record { is = rw (is, read_is) refl; under = read.under; shorter = read.shorter }
    logic_again (assert_that items) ls rest p (block, is, (inner, braced, h)) =
        let read = laws.logic_again (assert_that items) ls rest p (block, is, (inner, braced, h)) in
        let whole = is ∙ ap (λ (l : List Lexeme). lexemes.Word words.Assert ∷ l) braced in
        let read_is = subst (λ (l : List Lexeme). logics.logic_at words.Assert l ≡ Some (assert_that items, rest)) whole read.is in
        record { is = rw (whole, read_is) refl; under = read.under; shorter = read.shorter }
    logic_again (invariant_by_itself i) ls rest p (names, variables, block, is, a, b, d) =
        let read = laws.logic_again (invariant_by_itself i) ls rest p (names, variables, block, is, a, b, d) in
        let read_is = subst (λ (l : List Lexeme). logics.logic_at words.Invariant l ≡ Some (invariant_by_itself i, rest)) is read.is in
        record { is = rw (is, read_is) refl; under = read.under; shorter = read.shorter }

    -- ---- statements with blocks

    else_again : (off : PureBlock) (ls rest : List Lexeme) → Room n ls → SpellsElse place off ls rest → ReadsList (Room n) (else_at blocks) off ls rest
    unfolding else_at
    else_again off ls rest p (inl (none, is, ends)) =
        record { is = rw (is, ends, none) refl; under = subst (Room n) is p; shorter = omega (arith, ap length is) }
    else_again off ls rest p (inr (block, is, h)) =
        let read = again off block rest (room_tail n _ block (subst (Room n) is p)) h in
        record { is = rw (is, same_word-refl words.Else, read.is) refl; under = read.under; shorter = omega (arith, ap length is, read.shorter) }

    if_again : (e : PureExpr) (on off : PureBlock) (ls rest : List Lexeme) → Room n ls → Spells (if_else e on off) ls rest → Reads (Room n) (statement_at blocks) (if_else e on off) ls rest
    unfolding statement_at if_at
    if_again e on off ls rest p (guard, block, after, is, h, a, b) =
        let behind_word = room_tail n _ _ (subst (Room n) is p) in
        let cond = in_room n condition_at e (lexemes.Sign signs.LeftParenthesis ∷ guard) block behind_word (condition_again e (lexemes.Sign signs.LeftParenthesis ∷ guard) block behind_word.nested (guard, refl, h)) in
        let first = again on block after cond.under a in
        let second = else_again off after rest first.under b in
        record {
          is = rw (is, cond.is, first.is, second.is) refl;
          under = second.under;
          shorter = omega (arith, ap length is, cond.shorter, first.shorter, second.shorter);
        }

    while_again : (e : PureExpr) (i : Option PureInvariant) (body : PureBlock) (ls rest : List Lexeme) → Room n ls → Spells (while e i body) ls rest → Reads (Room n) (statement_at blocks) (while e i body) ls rest
    unfolding statement_at while_at same_sign
    while_again e i body ls rest p (guard, after, block, is, h, a, (inner, braced, b)) =
        let behind_word = room_tail n _ _ (subst (Room n) is p) in
        let cond = in_room n condition_at e (lexemes.Sign signs.LeftParenthesis ∷ guard) after behind_word (condition_again e (lexemes.Sign signs.LeftParenthesis ∷ guard) after behind_word.nested (guard, refl, h)) in
        let inv = invariant_again i after block cond.under.nested a (rw braced refl) in
        let room : Room n block = record { nested = inv.under; within = omega (arith, inv.shorter, cond.under.within) } in
        let read = again body block rest room (inner, braced, b) in
        record {
          is = rw (is, cond.is, inv.is, read.is) refl;
          under = read.under;
          shorter = omega (arith, ap length is, cond.shorter, inv.shorter, read.shorter);
        }

    plain : (c : PureStatement) (ls rest : List Lexeme) → Room n ls → ReadsPlain c ls rest → Reads (Room n) (statement_at blocks) c ls rest
    plain c ls rest p h = in_room n (statement_at blocks) c ls rest p h

    statement_again : Again (Room n) Spells (statement_at blocks)
    statement_again (assign x e) ls rest p h = plain _ ls rest p (assign_again x e ls rest p.nested h)
    statement_again (input x k) ls rest p h = plain _ ls rest p (input_again_at x k ls rest p.nested h)
    statement_again (symbol x) ls rest p h = plain _ ls rest p (symbol_again x ls rest p.nested h)
    statement_again (new x fields) ls rest p h = plain _ ls rest p (new_again x fields ls rest p.nested h)
    statement_again (lookup x y q) ls rest p h = plain _ ls rest p (lookup_again x y q ls rest p.nested h)
    statement_again (call x f es) ls rest p h = plain _ ls rest p (call_again x f es ls rest p.nested h)
    statement_again (mutate y q e) ls rest p h = plain _ ls rest p (mutate_again y q e ls rest p.nested h)
    statement_again (dispose e) ls rest p h = plain _ ls rest p (dispose_again e ls rest p.nested h)
    statement_again (assert e) ls rest p h = plain _ ls rest p (assert_again e ls rest p.nested h)
    statement_again (assume e) ls rest p h = plain _ ls rest p (assume_again e ls rest p.nested h)
    statement_again (if_else e on off) ls rest p h = if_again e on off ls rest p h
    statement_again (while e i body) ls rest p h = while_again e i body ls rest p h
    statement_again (return e) ls rest p h = plain _ ls rest p (return_again e ls rest p.nested h)
    statement_again (fail e) ls rest p h = plain _ ls rest p (fail_again e ls rest p.nested h)
    statement_again (logic c) ls rest p h = plain _ ls rest p (logic_again c ls rest p.nested h)

    placed_again : Again (Room n) (SpellsPlaced place) (placed_at place (statement_at blocks))
    unfolding placed_at
    placed_again q ls rest p (at, h) =
        let read = statement_again q.statement ls rest p h in
        record { is = rw read.is (ap (λ k. Some (record { at = k; statement = q.statement }, rest)) (sym at)); under = read.under; shorter = read.shorter }

  -- a statement begins with no brace
  statement_never : (c : PureStatement) (ls rest : List Lexeme) → Spells c ls rest → is_sign signs.RightBrace (first_form ls) ≡ false
  statement_never (assign x e) ls rest h = rw (h.1) refl
  statement_never (input x k) ls rest h = rw (h.2) refl
  statement_never (symbol x) ls rest is = rw is refl
  statement_never (new x fields) ls rest h = rw (h.1) refl
  statement_never (lookup x y q) ls rest is = rw is refl
  statement_never (call x f es) ls rest h = rw (h.1) refl
  statement_never (mutate y q e) ls rest h = rw (h.1) refl
  statement_never (dispose e) ls rest h = rw (h.1) refl
  statement_never (assert e) ls rest h = rw (h.1) refl
  statement_never (assume e) ls rest h = rw (h.1) refl
  statement_never (if_else e on off) ls rest h = rw (h.3) refl
  statement_never (while e i body) ls rest h = rw (h.3) refl
  statement_never (return e) ls rest h = rw (h.1) refl
  statement_never (fail e) ls rest h = rw (h.1) refl
  statement_never (logic (fold_use u)) ls rest h = rw (h.1) refl
  statement_never (logic (unfold_use u)) ls rest h = rw (h.1) refl
  statement_never (logic (assert_that items)) ls rest h = rw (h.1) refl
  statement_never (logic (invariant_by_itself i)) ls rest h = rw (h.3) refl

  placed_never : NeverBegins (SpellsPlaced place) signs.RightBrace
  placed_never q ls rest (at, h) = statement_never q.statement ls rest h

  -- a block's statements as a list
  abbrev placed_list : PureBlock → List PurePlacedStatement
  placed_list no_statements = []
  placed_list (statement_and at c body) = record { at = at; statement = c } ∷ placed_list body

  block_of : (body : PureBlock) → from_placed (placed_list body) ≡ body
  block_of no_statements = refl
  block_of (statement_and at c body) = ap (statement_and at c) (block_of body)

  each_of : (body : PureBlock) (ls rest : List Lexeme) → SpellsStatements place body ls rest → SpellsEach (SpellsPlaced place) (placed_list body) ls rest
  each_of no_statements ls rest is = is
  each_of (statement_and at c body) ls rest (after, e, one, more) = (after, (e, one), each_of body after rest more)

  pub block_again : (n : ℕ) → Again (Room n) (SpellsBlock place) (block_at place n)
  unfolding block_at block_by
  block_again zero body ls rest p (inner, is, h) = absurd (let count = ap length is in omega (arith, p.within))
  block_again (suc n) body ls rest p (inner, is, h) =
      let q = subst (Room (suc n)) is p in
      let room : Room n inner = record { nested = nested_tail _ inner q.nested; within = omega (arith, q.within) } in
      let statements = placed_again n (block_at place n) (block_again n) in
      let read = each_again (Room n) (room_tail n) (SpellsPlaced place) (placed_at place (statement_at (block_at place n))) statements (length inner) signs.RightBrace placed_never (placed_list body) inner (closing_brace ∷ rest) (omega arith) room (each_of body inner _ h) (same_sign-refl signs.RightBrace) in
      record {
        is = rw (is, same_sign-refl signs.LeftBrace, read.is, same_sign-refl signs.RightBrace) (ap (λ b. Some (b, rest)) (block_of body));
        under = record { nested = nested_tail _ rest read.under.nested; within = omega (arith, read.under.within) };
        shorter = omega (arith, ap length is, read.shorter);
      }

  pub function_again : (f : PureFunction) (ls rest : List Lexeme) → Nested ls → SpellsFunction place f ls rest → Reads Nested (function_at place) f ls rest
  unfolding function_at
  function_again f ls rest p (params, body, at, is, a, b) =
      let under = subst Nested is p in
      let xs = names_again signs.RightParenthesis parenthesis_closes f.params params body (nested_tail _ params (two_tails _ _ _ under)) a in
      let read = block_again (length body) f.body body rest (record { nested = nested_tail _ body xs.under; within = omega arith }) b in
      let begins_at = at ∙ ap (λ (l : List Lexeme). place (length l)) is in
      record {
        is = rw (is, same_sign-refl signs.LeftParenthesis, xs.is, same_sign-refl signs.RightParenthesis, read.is)
            (ap (λ k. Some (record { name = f.name; params = f.params; body = f.body; at = k }, rest)) (sym begins_at));
        under = read.under.nested;
        shorter = omega (arith, ap length is, xs.shorter, read.shorter);
      }
