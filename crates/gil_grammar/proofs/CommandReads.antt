-- What is spelled as a command is read so, where no more brackets are open than may be.
use Rattle.std.proofs.Common.{◌≡◌, ℕ, ℤ, true, false, List, ◌∷◌, length, Option, Some, None, refl, sym, ap, ◌∙◌, subst, arith, inl, inr}
use Rattle.gil_values.specs.declared.kinds.Kind.{Kind}
use Rattle.gil_values.specs.declared.kinds.Kind.TheVariants as kinds
use Rattle.gil_values.specs.Pure.{PureValue, integer, boolean, text, symbol, kind, procedure, list}
use Rattle.gil_values.specs.declared.operators.UnOp.TheVariants as unary
use Rattle.gil_values.specs.declared.operators.BinOp.TheVariants as binary
use Rattle.gil_lexer.specs.declared.words.Word.{Word}
use Rattle.gil_lexer.specs.declared.words.Word.TheVariants as words
use Rattle.gil_lexer.specs.declared.signs.Sign.{Sign}
use Rattle.gil_lexer.specs.declared.signs.Sign.TheVariants as signs
use Rattle.gil_lexemes.specs.declared.standing.Lexeme.{Lexeme}
use Rattle.gil_lexemes.specs.declared.standing.Lexeme.TheVariants as lexemes
use Rattle.gil_lexemes.specs.Reading.{first_form, is_word, name_at}
use Rattle.gil_lexemes.proofs.ReadingLaws.{same_sign-refl, same_word-refl}
use Rattle.gil_syntax.specs.Pure.{PureExpr, literal, name, logical, list_of, unary_of, binary_of, PureCommand, assign, call, act, usym, isym, ifgoto, return, fail, throw, vanish, fold_use, unfold_use, assert_that, loop_invariant}
use Rattle.gil_grammar.specs.declared.positions.Position.TheVariants.{Command, Action}
use Rattle.gil_grammar.specs.Commands.{SpellsName, SpellsNames, SpellsHandler, SpellsCommand, SpellsStatement}
use Rattle.gil_grammar.specs.Expressions.{SpellsExpr}
use Rattle.gil_grammar.specs.Vocabulary.{becomes, literal_lexeme, IsNameAt}
use Rattle.gil_grammar.specs.Reading.Commands.{assign_at, handler_at, call_at, act_at, isym_at, assigned_by, assigned_at, assignment_at, ifgoto_at, names_at, invariant_at, command_at, statement_at}
use Rattle.gil_grammar.proofs.ListLaws.{Again, Reads, ReadsList, NeverBegins, found_is, separated_again}
use Rattle.gil_grammar.proofs.VocabularyLaws.{input_again, named_again}
use Rattle.gil_grammar.proofs.NestingLaws.{Nested, nested_tail, expression_again}
use Rattle.gil_grammar.proofs.AssertionReads.{IsClosing, parenthesis_closes, expressions_again, use_again, block_again, variables_again}

-- ---- an expression begins with no word that a command has behind `:=`

abbrev IsValue : List Lexeme → Type 0
IsValue ls = (x : List ℕ) → assigned_by (first_form ls) x ls ≡ assign_at x ls

literal_is_value : (v : PureValue) (lexeme : Lexeme) (rest : List Lexeme) → literal_lexeme v ≡ Some lexeme → IsValue (lexeme ∷ rest)
literal_is_value (integer n) lexeme rest e = subst (λ (l : Lexeme). IsValue (l ∷ rest)) (found_is _ lexeme e) (λ x. refl)
literal_is_value (boolean true) lexeme rest e = subst (λ (l : Lexeme). IsValue (l ∷ rest)) (found_is _ lexeme e) (λ x. refl)
literal_is_value (boolean false) lexeme rest e = subst (λ (l : Lexeme). IsValue (l ∷ rest)) (found_is _ lexeme e) (λ x. refl)
literal_is_value (text t) lexeme rest e = subst (λ (l : Lexeme). IsValue (l ∷ rest)) (found_is _ lexeme e) (λ x. refl)
literal_is_value (symbol n) lexeme rest e = absurd cc
literal_is_value (kind kinds.Int) lexeme rest e = subst (λ (l : Lexeme). IsValue (l ∷ rest)) (found_is _ lexeme e) (λ x. refl)
literal_is_value (kind kinds.Bool) lexeme rest e = subst (λ (l : Lexeme). IsValue (l ∷ rest)) (found_is _ lexeme e) (λ x. refl)
literal_is_value (kind kinds.Str) lexeme rest e = subst (λ (l : Lexeme). IsValue (l ∷ rest)) (found_is _ lexeme e) (λ x. refl)
literal_is_value (kind kinds.Sym) lexeme rest e = subst (λ (l : Lexeme). IsValue (l ∷ rest)) (found_is _ lexeme e) (λ x. refl)
literal_is_value (kind kinds.Kind) lexeme rest e = subst (λ (l : Lexeme). IsValue (l ∷ rest)) (found_is _ lexeme e) (λ x. refl)
literal_is_value (kind kinds.Proc) lexeme rest e = subst (λ (l : Lexeme). IsValue (l ∷ rest)) (found_is _ lexeme e) (λ x. refl)
literal_is_value (kind kinds.List) lexeme rest e = subst (λ (l : Lexeme). IsValue (l ∷ rest)) (found_is _ lexeme e) (λ x. refl)
literal_is_value (kind kinds.Undef) lexeme rest e = subst (λ (l : Lexeme). IsValue (l ∷ rest)) (found_is _ lexeme e) (λ x. refl)
literal_is_value (kind kinds.Null) lexeme rest e = subst (λ (l : Lexeme). IsValue (l ∷ rest)) (found_is _ lexeme e) (λ x. refl)
literal_is_value (procedure f) lexeme rest e = subst (λ (l : Lexeme). IsValue (l ∷ rest)) (found_is _ lexeme e) (λ x. refl)
literal_is_value (list vs) lexeme rest e = absurd cc

named_is_value : (x : List ℕ) (lexeme : Lexeme) (rest : List Lexeme) → IsNameAt Command x lexeme → IsValue (lexeme ∷ rest)
named_is_value x lexeme rest (inl says) = rw says (λ y. refl)
named_is_value x lexeme rest (inr (word, says, named)) = absurd (cc says)

value_from : (ls other : List Lexeme) → ls ≡ other → IsValue other → IsValue ls
value_from ls other is h = subst IsValue (sym is) h

expr_is_value : (e : PureExpr) (ls rest : List Lexeme) → SpellsExpr Command e ls rest → IsValue ls
expr_is_value (literal v) ls rest (lexeme, says, is) = value_from ls _ is (literal_is_value v lexeme rest says)
expr_is_value (name x) ls rest (lexeme, says, is) = value_from ls _ is (named_is_value x lexeme rest says)
expr_is_value (logical x) ls rest (there, is) = absurd (cc there)
expr_is_value (list_of es) ls rest (inner, is, h) = value_from ls _ is (λ x. refl)
expr_is_value (unary_of unary.Not e) ls rest (inner, is, h) = value_from ls _ is (λ x. refl)
expr_is_value (unary_of unary.Neg e) ls rest (inner, is, h) = value_from ls _ is (λ x. refl)
expr_is_value (unary_of unary.Len e) ls rest (inner, is, h) = value_from ls _ is (λ x. refl)
expr_is_value (unary_of unary.Kind e) ls rest (inner, is, h) = value_from ls _ is (λ x. refl)
expr_is_value (binary_of binary.Nth d e) ls rest (left, right, is, h, k) = value_from ls _ is (λ x. refl)
expr_is_value (binary_of _ d e) ls rest (left, right, is, h, k) = value_from ls _ is (λ x. refl)

-- ---- commands

-- an assignment is read as what is read behind its `:=`
assigned_again : (x : List ℕ) (ls value : List Lexeme) → ls ≡ lexemes.Name x ∷ becomes ∷ value → command_at ls ≡ assigned_at x value
unfolding command_at assignment_at
assigned_again x ls value is = rw (is, same_sign-refl signs.ColonEqual) refl

name_never : (closing : Sign) → NeverBegins SpellsName closing
name_never closing x ls rest is = rw is refl

name_again : Again Nested SpellsName name_at
name_again x ls rest p is = record { is = rw is refl; under = nested_tail _ rest (subst Nested is p); shorter = omega (arith, ap length is) }

pub names_again : (closing : Sign) → IsClosing closing → (xs : List (List ℕ)) (ls rest : List Lexeme) → Nested ls
    → SpellsNames xs ls (lexemes.Sign closing ∷ rest) → ReadsList Nested (names_at closing) xs ls (lexemes.Sign closing ∷ rest)
names_again closing h xs ls rest p spells =
    separated_again Nested nested_tail SpellsName name_at name_again closing signs.Comma (name_never closing) xs ls _ p spells (same_sign-refl closing) h.comma

two_tails : (l m : Lexeme) (ls : List Lexeme) → Nested (l ∷ m ∷ ls) → Nested ls
two_tails l m ls p = nested_tail m ls (nested_tail l _ p)

three_tails : (l m n : Lexeme) (ls : List Lexeme) → Nested (l ∷ m ∷ n ∷ ls) → Nested ls
three_tails l m n ls p = nested_tail n ls (two_tails l m _ p)

command_assign : (x : List ℕ) (e : PureExpr) (ls rest : List Lexeme) → Nested ls → SpellsCommand (assign x e) ls rest → Reads Nested command_at (assign x e) ls rest
command_assign x e ls rest p (value, is, h) =
    let read = expression_again Command e value rest (two_tails _ _ value (subst Nested is p)) h in
    record {
      is = assigned_again x ls value is ∙ expr_is_value e value rest h x ∙ rw read.is refl;
      under = read.under;
      shorter = omega (arith, ap length is, read.shorter);
    }

-- what follows a call without handler is no `catch`
abbrev EndsHandler : Option ℤ → List Lexeme → Type 0
EndsHandler None rest = is_word words.Catch (first_form rest) ≡ false
EndsHandler (Some label) rest = Unit {0}

handler_again : (handler : Option ℤ) (ls rest : List Lexeme) → Nested ls → SpellsHandler handler ls rest → EndsHandler handler rest → ReadsList Nested handler_at handler ls rest
unfolding handler_at
handler_again None ls rest p is ends = record { is = rw (is, ends) refl; under = subst Nested is p; shorter = omega (arith, ap length is) }
handler_again (Some label) ls rest p is ends = record {
  is = rw (is, same_word-refl words.Catch) refl;
  under = two_tails _ _ rest (subst Nested is p);
  shorter = omega (arith, ap length is);
}

command_call : (x : List ℕ) (e : PureExpr) (es : List PureExpr) (handler : Option ℤ) (ls rest : List Lexeme) → Nested ls → SpellsCommand (call x e es handler) ls rest → EndsHandler handler rest
    → Reads Nested command_at (call x e es handler) ls rest
unfolding call_at
command_call x e es handler ls rest p (callee, arguments, after, is, h, k, j) ends =
    let read = expression_again Command e callee _ (three_tails _ _ _ callee (subst Nested is p)) h in
    let given = expressions_again Command signs.RightParenthesis parenthesis_closes es arguments after (nested_tail _ arguments read.under) k in
    let label = handler_again handler after rest (nested_tail _ after given.under) j ends in
    record {
      is = assigned_again x ls _ is ∙ rw (read.is, same_sign-refl signs.LeftParenthesis, given.is, same_sign-refl signs.RightParenthesis, label.is) refl;
      under = label.under;
      shorter = omega (arith, ap length is, read.shorter, given.shorter, label.shorter);
    }

command_act : (x action : List ℕ) (es : List PureExpr) (ls rest : List Lexeme) → Nested ls → SpellsCommand (act x action es) ls rest → Reads Nested command_at (act x action es) ls rest
unfolding act_at
command_act x action es ls rest p (lexeme, arguments, named, is, k) =
    let given = expressions_again Command signs.RightParenthesis parenthesis_closes es arguments rest (two_tails _ _ arguments (three_tails _ _ _ _ (subst Nested is p))) k in
    record {
      is = assigned_again x ls _ is ∙ rw (named_again Action action lexeme _ named, same_sign-refl signs.LeftParenthesis, given.is, same_sign-refl signs.RightParenthesis) refl;
      under = nested_tail _ rest given.under;
      shorter = omega (arith, ap length is, given.shorter);
    }

command_isym : (x : List ℕ) (k : Kind) (ls rest : List Lexeme) → Nested ls → SpellsCommand (isym x k) ls rest → Reads Nested command_at (isym x k) ls rest
unfolding isym_at
command_isym x k ls rest p (word, says, is) = record {
  is = assigned_again x ls _ is ∙ rw (input_again k word says) refl;
  under = nested_tail _ rest (three_tails _ _ _ _ (subst Nested is p));
  shorter = omega (arith, ap length is);
}

-- a command that begins with a word, from what is read behind it
worded_again : (word : Word) (c : PureCommand) (ls inner rest : List Lexeme) → ls ≡ lexemes.Word word ∷ inner → Reads Nested (λ l. command_at (lexemes.Word word ∷ l)) c inner rest → Reads Nested command_at c ls rest
worded_again word c ls inner rest is read = record {
  is = ap command_at is ∙ read.is;
  under = read.under;
  shorter = omega (arith, ap length is, read.shorter);
}

-- what follows a command doesn't go on it
abbrev pub Ends : PureCommand → List Lexeme → Type 0
Ends (call x e es handler) rest = EndsHandler handler rest
Ends _ rest = Unit {0}

pub command_again : (c : PureCommand) (ls rest : List Lexeme) → Nested ls → SpellsCommand c ls rest → Ends c rest → Reads Nested command_at c ls rest
unfolding command_at ifgoto_at invariant_at
command_again (assign x e) ls rest p h ends = command_assign x e ls rest p h
command_again (call x e es handler) ls rest p h ends = command_call x e es handler ls rest p h ends
command_again (act x action es) ls rest p h ends = command_act x action es ls rest p h
command_again (usym x) ls rest p is ends = record { is = assigned_again x ls _ is; under = three_tails _ _ _ rest (subst Nested is p); shorter = omega (arith, ap length is) }
command_again (isym x k) ls rest p h ends = command_isym x k ls rest p h
command_again (ifgoto e i) ls rest p (guard, is, h) ends =
    let read = expression_again Command e guard _ (nested_tail _ guard (subst Nested is p)) h in
    worded_again words.Ifgoto _ ls guard rest is (record { is = rw read.is refl; under = nested_tail _ rest read.under; shorter = omega (arith, read.shorter) })
command_again (return e) ls rest p (value, is, h) ends =
    let read = expression_again Command e value rest (nested_tail _ value (subst Nested is p)) h in
    worded_again words.Return _ ls value rest is (record { is = rw read.is refl; under = read.under; shorter = read.shorter })
command_again (fail e) ls rest p (value, is, h) ends =
    let read = expression_again Command e value rest (nested_tail _ value (subst Nested is p)) h in
    worded_again words.Fail _ ls value rest is (record { is = rw read.is refl; under = read.under; shorter = read.shorter })
command_again (throw e) ls rest p (value, is, h) ends =
    let read = expression_again Command e value rest (nested_tail _ value (subst Nested is p)) h in
    worded_again words.Throw _ ls value rest is (record { is = rw read.is refl; under = read.under; shorter = read.shorter })
command_again vanish ls rest p is ends = record { is = ap command_at is; under = nested_tail _ rest (subst Nested is p); shorter = omega (arith, ap length is) }
command_again (fold_use u) ls rest p (inner, is, h) ends =
    let read = use_again u inner rest (nested_tail _ inner (subst Nested is p)) h in
    worded_again words.Fold _ ls inner rest is (record { is = rw read.is refl; under = read.under; shorter = read.shorter })
command_again (unfold_use u) ls rest p (inner, is, h) ends =
    let read = use_again u inner rest (nested_tail _ inner (subst Nested is p)) h in
    worded_again words.Unfold _ ls inner rest is (record { is = rw read.is refl; under = read.under; shorter = read.shorter })
command_again (assert_that items) ls rest p (block, is, h) ends =
    let read = block_again items block rest (nested_tail _ block (subst Nested is p)) h in
    worded_again words.Assert _ ls block rest is (record { is = rw read.is refl; under = read.under; shorter = read.shorter })
command_again (loop_invariant xs ps items) ls rest p (names, variables, block, is, a, b, d) ends =
    let xs' = names_again signs.RightParenthesis parenthesis_closes xs names variables (two_tails _ _ names (subst Nested is p)) a in
    let ps' = variables_again ps variables block (nested_tail _ variables xs'.under) b in
    let items' = block_again items block rest ps'.under d in
    worded_again words.Invariant _ ls _ rest is (record {
      is = rw (same_sign-refl signs.LeftParenthesis, xs'.is, same_sign-refl signs.RightParenthesis, ps'.is, items'.is) refl;
      under = items'.under;
      shorter = omega (arith, xs'.shorter, ps'.shorter, items'.shorter);
    })

-- a semicolon goes on no command
semicolon_ends : (c : PureCommand) (rest : List Lexeme) → Ends c (lexemes.Sign signs.Semicolon ∷ rest)
semicolon_ends (call x e es None) rest = refl
semicolon_ends (call x e es (Some label)) rest = tt
semicolon_ends _ rest = tt

pub statement_again : Again Nested SpellsStatement statement_at
unfolding statement_at
statement_again c ls rest p h =
    let read = command_again c ls _ p h (semicolon_ends c rest) in
    record { is = rw (read.is, same_sign-refl signs.Semicolon) refl; under = nested_tail _ rest read.under; shorter = omega (arith, read.shorter) }

-- a command begins with no brace
pub statement_never : NeverBegins SpellsStatement signs.RightBrace
statement_never (assign x e) ls rest h = rw (h.1) refl
statement_never (call x e es handler) ls rest h = rw (h.3) refl
statement_never (act x action es) ls rest h = rw (h.3) refl
statement_never (usym x) ls rest is = rw is refl
statement_never (isym x k) ls rest h = rw (h.2) refl
statement_never (ifgoto e i) ls rest h = rw (h.1) refl
statement_never (return e) ls rest h = rw (h.1) refl
statement_never (fail e) ls rest h = rw (h.1) refl
statement_never (throw e) ls rest h = rw (h.1) refl
statement_never vanish ls rest is = rw is refl
statement_never (fold_use u) ls rest h = rw (h.1) refl
statement_never (unfold_use u) ls rest h = rw (h.1) refl
statement_never (assert_that items) ls rest h = rw (h.1) refl
statement_never (loop_invariant xs ps items) ls rest h = rw (h.3) refl
