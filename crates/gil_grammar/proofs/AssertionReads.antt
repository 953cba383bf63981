-- What is spelled as parameters and assertions is read so, where no more brackets are open than may be.
use Rattle.std.proofs.Common.{◌≡◌, ◌≤◌, ℕ, zero, suc, true, false, List, [], ◌∷◌, length, Some, None, refl, sym, ap, ◌∙◌, subst, arith, inl, inr}
use Rattle.gil_values.specs.declared.operators.UnOp.TheVariants as unary
use Rattle.gil_values.specs.declared.operators.BinOp.TheVariants as binary
use Rattle.gil_lexer.specs.declared.forms.Form.TheVariants as forms
use Rattle.gil_lexer.specs.declared.words.Word.{Word}
use Rattle.gil_lexer.specs.declared.words.Word.TheVariants as words
use Rattle.gil_lexer.specs.declared.signs.Sign.{Sign}
use Rattle.gil_lexer.specs.declared.signs.Sign.TheVariants as signs
use Rattle.gil_lexemes.specs.declared.standing.Lexeme.{Lexeme}
use Rattle.gil_lexemes.specs.declared.standing.Lexeme.TheVariants as lexemes
use Rattle.gil_lexemes.specs.Reading.{Reading, first_form, same_sign, is_sign, same_word, is_word}
use Rattle.gil_lexemes.proofs.ReadingLaws.{bind_some, same_sign-refl, same_word-refl}
use Rattle.gil_syntax.specs.declared.assertions.Param.{Param}
use Rattle.gil_syntax.specs.Pure.{PureExpr, unary_of, binary_of, PureItem, pure, uses}
use Rattle.gil_grammar.specs.declared.positions.Position.{Position}
use Rattle.gil_grammar.specs.declared.positions.Position.TheVariants.{Assertion, Predicate}
use Rattle.gil_grammar.specs.declared.positions.Naming.{Naming}
use Rattle.gil_grammar.specs.declared.positions.Naming.TheVariants.{Program, Logical}
use Rattle.gil_grammar.specs.Assertions.{SpellsParam, SpellsVariables, SpellsUse, SpellsItem, SpellsAssertion, SpellsBlock}
use Rattle.gil_grammar.specs.Expressions.{SpellsExpr, SpellsExprs}
use Rattle.gil_grammar.specs.Lists.{SpellsMore, SpellsSeparated}
use Rattle.gil_grammar.specs.Nesting.{most_open}
use Rattle.gil_grammar.specs.Vocabulary.{comma, word_name, IsNameAt}
use Rattle.gil_grammar.specs.Reading.Expressions.{expr_at}
use Rattle.gil_grammar.specs.Reading.Assertions.{variable_at, sort_at, param_at, params_at, variables_at, expressions_at, use_at, pure_at, uses_at, item_by, item_at, assertion_at, block_at}
use Rattle.gil_grammar.proofs.ListLaws.{Again, Reads, ReadsList, NeverBegins, more_again, separated_again}
use Rattle.gil_grammar.proofs.VocabularyLaws.{sort_again, named_again}
use Rattle.gil_grammar.proofs.ExpressionLaws.{expr_never}
use Rattle.gil_grammar.proofs.NestingLaws.{Nested, nested_tail, expression_again}
use Rattle.gil_grammar.proofs.AssertionLaws.{named_as}

-- ---- closing signs

-- what holds of a sign that closes a list
pub record IsClosing (closing : Sign) : Type 0 where
  pub comma : same_sign closing signs.Comma ≡ false
  pub colon : same_sign closing signs.Colon ≡ false
  pub parenthesis : same_sign signs.LeftParenthesis closing ≡ false
  pub bracket : same_sign signs.LeftBracket closing ≡ false

pub parenthesis_closes : IsClosing signs.RightParenthesis
unfolding same_sign
parenthesis_closes = record { comma = refl; colon = refl; parenthesis = refl; bracket = refl }

pub bracket_closes : IsClosing signs.RightBracket
unfolding same_sign
bracket_closes = record { comma = refl; colon = refl; parenthesis = refl; bracket = refl }

pub semicolon_closes : IsClosing signs.Semicolon
unfolding same_sign
semicolon_closes = record { comma = refl; colon = refl; parenthesis = refl; bracket = refl }

comma_is_no_colon : same_sign signs.Comma signs.Colon ≡ false
unfolding same_sign
comma_is_no_colon = refl

-- ---- parameters

-- a parameter behind which no colon follows
abbrev Ending : Naming → Param → List Lexeme → List Lexeme → Type 0
Ending naming q ls rest = SpellsParam (named_as naming) q ls rest × (is_sign signs.Colon (first_form rest) ≡ false)

variable_again : (naming : Naming) (x : List ℕ) (rest : List Lexeme) → variable_at naming (named_as naming x ∷ rest) ≡ Some (x, rest)
variable_again Program x rest = refl
variable_again Logical x rest = refl

param_again : (naming : Naming) → Again Nested (Ending naming) (param_at naming)
unfolding param_at sort_at
param_again naming q ls rest p (inl is, ends) =
    record {
      is = rw (is, variable_again naming q.name _, same_sign-refl signs.Colon, sort_again q.sort) refl;
      under = nested_tail _ rest (nested_tail _ _ (nested_tail _ _ (subst Nested is p)));
      shorter = omega (arith, ap length is);
    }
param_again naming q ls rest p (inr (any, is), ends) = record {
  is = rw (is, variable_again naming q.name rest, ends) (ap (λ s. Some (record { name = q.name; sort = s }, rest)) (sym any));
  under = nested_tail _ rest (subst Nested is p);
  shorter = omega (arith, ap length is);
}

more_first : (naming : Naming) (qs : List Param) (ls rest : List Lexeme) → SpellsMore (SpellsParam (named_as naming)) comma qs ls rest → is_sign signs.Colon (first_form rest) ≡ false → is_sign signs.Colon (first_form ls) ≡ false
more_first naming [] ls rest h ends = rw h ends
more_first naming (q ∷ qs) ls rest (inner, after, is, one, more) ends = rw is comma_is_no_colon

more_endings : (naming : Naming) (qs : List Param) (ls rest : List Lexeme) → SpellsMore (SpellsParam (named_as naming)) comma qs ls rest → is_sign signs.Colon (first_form rest) ≡ false → SpellsMore (Ending naming) comma qs ls rest
more_endings naming [] ls rest h ends = h
more_endings naming (q ∷ qs) ls rest (inner, after, is, one, more) ends = (inner, after, is, (one, more_first naming qs after rest more ends), more_endings naming qs after rest more ends)

endings : (naming : Naming) (qs : List Param) (ls rest : List Lexeme) → SpellsSeparated (SpellsParam (named_as naming)) comma qs ls rest → is_sign signs.Colon (first_form rest) ≡ false → SpellsSeparated (Ending naming) comma qs ls rest
endings naming [] ls rest h ends = h
endings naming (q ∷ qs) ls rest (after, one, more) ends = (after, (one, more_first naming qs after rest more ends), more_endings naming qs after rest more ends)

named_first : (naming : Naming) (sign : Sign) (x : List ℕ) (ls rest : List Lexeme) → ls ≡ named_as naming x ∷ rest → is_sign sign (first_form ls) ≡ false
named_first Program sign x ls rest is = rw is refl
named_first Logical sign x ls rest is = rw is refl

ending_never : (naming : Naming) (sign : Sign) → NeverBegins (Ending naming) sign
ending_never naming sign q ls rest (inl is, ends) = named_first naming sign q.name ls _ is
ending_never naming sign q ls rest (inr (any, is), ends) = named_first naming sign q.name ls _ is

-- parameters up to a closing sign
pub params_again : (naming : Naming) (closing : Sign) → IsClosing closing → (qs : List Param) (ls rest : List Lexeme) → Nested ls
    → SpellsSeparated (SpellsParam (named_as naming)) comma qs ls (lexemes.Sign closing ∷ rest) → ReadsList Nested (params_at naming closing) qs ls (lexemes.Sign closing ∷ rest)
params_again naming closing h qs ls rest p spells =
    separated_again Nested nested_tail (Ending naming) (param_at naming) (param_again naming) closing signs.Comma (ending_never naming closing) qs ls _ p
    (endings naming qs ls _ spells h.colon) (same_sign-refl closing) h.comma

pub variables_again : Again Nested SpellsVariables variables_at
unfolding variables_at
variables_again qs ls rest p (inner, is, spells) =
    let ps = params_again Logical signs.RightBracket bracket_closes qs inner rest (nested_tail _ inner (subst Nested is p)) spells in
    record {
      is = rw (is, same_sign-refl signs.LeftBracket, ps.is, same_sign-refl signs.RightBracket) refl;
      under = nested_tail _ rest ps.under;
      shorter = omega (arith, ap length is, ps.shorter);
    }

-- ---- expressions and uses

pub expressions_again : (position : Position) (closing : Sign) → IsClosing closing → (es : List PureExpr) (ls rest : List Lexeme) → Nested ls
    → SpellsExprs position es ls (lexemes.Sign closing ∷ rest) → ReadsList Nested (expressions_at position closing) es ls (lexemes.Sign closing ∷ rest)
expressions_again position closing h es ls rest p spells =
    separated_again Nested nested_tail (SpellsExpr position) (expr_at most_open position) (expression_again position) closing signs.Comma
    (expr_never position closing h.parenthesis h.bracket) es ls _ p spells (same_sign-refl closing) h.comma

pub use_again : Again Nested SpellsUse use_at
unfolding use_at
use_again u ls rest p (lexeme, ins, outs, named, is, a, b) =
    let given = expressions_again Assertion signs.Semicolon semicolon_closes u.ins ins outs (nested_tail _ ins (nested_tail lexeme _ (subst Nested is p))) a in
    let gives = expressions_again Assertion signs.RightParenthesis parenthesis_closes u.outs outs rest (nested_tail _ outs given.under) b in
    record {
      is = rw (is, named_again Predicate u.pred lexeme _ named, same_sign-refl signs.LeftParenthesis, given.is, same_sign-refl signs.Semicolon, gives.is, same_sign-refl signs.RightParenthesis) refl;
      under = nested_tail _ rest gives.under;
      shorter = omega (arith, ap length is, given.shorter, gives.shorter);
    }

-- ---- items

pure_again : (e : PureExpr) (ls rest : List Lexeme) → Nested ls → SpellsExpr Assertion e ls rest → item_at ls ≡ pure_at ls → Reads Nested item_at (pure e) ls rest
pure_again e ls rest p spells is_pure =
    let read = expression_again Assertion e ls rest p spells in
    record { is = is_pure ∙ rw read.is refl; under = read.under; shorter = read.shorter }

bracket_is_pure : (ls inner : List Lexeme) → ls ≡ lexemes.Sign signs.LeftParenthesis ∷ inner → item_at ls ≡ pure_at ls
unfolding item_at
bracket_is_pure ls inner is = rw is refl

not_is_pure : (ls inner : List Lexeme) → ls ≡ lexemes.Word words.Not ∷ inner → item_at ls ≡ pure_at ls
unfolding item_at
not_is_pure ls inner is = rw is refl

predicate_word : (word : Word) (x : List ℕ) (ls : List Lexeme) → word_name Predicate word ≡ Some x → item_by (Some (forms.Word word)) ls ≡ uses_at ls
predicate_word words.List x ls e = refl
predicate_word words.Proto x ls e = refl
predicate_word _ x ls e = absurd cc

named_uses : (x : List ℕ) (lexeme : Lexeme) (ls rest : List Lexeme) → ls ≡ lexeme ∷ rest → IsNameAt Predicate x lexeme → item_at ls ≡ uses_at ls
unfolding item_at
named_uses x lexeme ls rest is (inl says) = rw (is, says) refl
named_uses x lexeme ls rest is (inr (word, says, named)) = rw (is, named) (predicate_word word x _ says)

pub item_again : Again Nested SpellsItem item_at
item_again (pure (unary_of unary.Not e)) ls rest p (may, h) = pure_again (unary_of unary.Not e) ls rest p h (not_is_pure ls _ h.1)
item_again (pure (binary_of binary.Nth d e)) ls rest p (may, h) = absurd (cc may)
item_again (pure (binary_of binary.Add d e)) ls rest p (may, h) = pure_again _ ls rest p h (bracket_is_pure ls _ h.2)
item_again (pure (binary_of binary.Subtract d e)) ls rest p (may, h) = pure_again _ ls rest p h (bracket_is_pure ls _ h.2)
item_again (pure (binary_of binary.Multiply d e)) ls rest p (may, h) = pure_again _ ls rest p h (bracket_is_pure ls _ h.2)
item_again (pure (binary_of binary.Divide d e)) ls rest p (may, h) = pure_again _ ls rest p h (bracket_is_pure ls _ h.2)
item_again (pure (binary_of binary.Remainder d e)) ls rest p (may, h) = pure_again _ ls rest p h (bracket_is_pure ls _ h.2)
item_again (pure (binary_of binary.Equal d e)) ls rest p (may, h) = pure_again _ ls rest p h (bracket_is_pure ls _ h.2)
item_again (pure (binary_of binary.Less d e)) ls rest p (may, h) = pure_again _ ls rest p h (bracket_is_pure ls _ h.2)
item_again (pure (binary_of binary.LessOrEqual d e)) ls rest p (may, h) = pure_again _ ls rest p h (bracket_is_pure ls _ h.2)
item_again (pure (binary_of binary.And d e)) ls rest p (may, h) = pure_again _ ls rest p h (bracket_is_pure ls _ h.2)
item_again (pure (binary_of binary.Or d e)) ls rest p (may, h) = pure_again _ ls rest p h (bracket_is_pure ls _ h.2)
item_again (pure (binary_of binary.Append d e)) ls rest p (may, h) = pure_again _ ls rest p h (bracket_is_pure ls _ h.2)
item_again (pure _) ls rest p (may, h) = absurd (cc may)
item_again (uses u) ls rest p h =
    let read = use_again u ls rest p h in
    record { is = named_uses u.pred h.0 ls _ h.4 h.3 ∙ rw read.is refl; under = read.under; shorter = read.shorter }

-- ---- assertions

not_is_no_emp : same_word words.Not words.Emp ≡ false
unfolding same_word
not_is_no_emp = refl

predicate_is_no_emp : (word : Word) (x : List ℕ) → word_name Predicate word ≡ Some x → same_word word words.Emp ≡ false
unfolding same_word
predicate_is_no_emp words.List x e = refl
predicate_is_no_emp words.Proto x e = refl
predicate_is_no_emp _ x e = absurd cc

named_is_no_emp : (x : List ℕ) (lexeme : Lexeme) (ls rest : List Lexeme) → ls ≡ lexeme ∷ rest → IsNameAt Predicate x lexeme → is_word words.Emp (first_form ls) ≡ false
named_is_no_emp x lexeme ls rest is (inl says) = rw (is, says) refl
named_is_no_emp x lexeme ls rest is (inr (word, says, named)) = rw (is, named) (predicate_is_no_emp word x says)

bracket_is_no_emp : (ls rest : List Lexeme) → ls ≡ lexemes.Sign signs.LeftParenthesis ∷ rest → is_word words.Emp (first_form ls) ≡ false
bracket_is_no_emp ls rest is = rw is refl

item_is_no_emp : (item : PureItem) (ls rest : List Lexeme) → SpellsItem item ls rest → is_word words.Emp (first_form ls) ≡ false
item_is_no_emp (pure (unary_of unary.Not e)) ls rest (may, h) = rw (h.1) not_is_no_emp
item_is_no_emp (pure (binary_of binary.Nth d e)) ls rest (may, h) = absurd (cc may)
item_is_no_emp (pure (binary_of binary.Add d e)) ls rest (may, h) = bracket_is_no_emp ls _ h.2
item_is_no_emp (pure (binary_of binary.Subtract d e)) ls rest (may, h) = bracket_is_no_emp ls _ h.2
item_is_no_emp (pure (binary_of binary.Multiply d e)) ls rest (may, h) = bracket_is_no_emp ls _ h.2
item_is_no_emp (pure (binary_of binary.Divide d e)) ls rest (may, h) = bracket_is_no_emp ls _ h.2
item_is_no_emp (pure (binary_of binary.Remainder d e)) ls rest (may, h) = bracket_is_no_emp ls _ h.2
item_is_no_emp (pure (binary_of binary.Equal d e)) ls rest (may, h) = bracket_is_no_emp ls _ h.2
item_is_no_emp (pure (binary_of binary.Less d e)) ls rest (may, h) = bracket_is_no_emp ls _ h.2
item_is_no_emp (pure (binary_of binary.LessOrEqual d e)) ls rest (may, h) = bracket_is_no_emp ls _ h.2
item_is_no_emp (pure (binary_of binary.And d e)) ls rest (may, h) = bracket_is_no_emp ls _ h.2
item_is_no_emp (pure (binary_of binary.Or d e)) ls rest (may, h) = bracket_is_no_emp ls _ h.2
item_is_no_emp (pure (binary_of binary.Append d e)) ls rest (may, h) = bracket_is_no_emp ls _ h.2
item_is_no_emp (pure _) ls rest (may, h) = absurd (cc may)
item_is_no_emp (uses u) ls rest h = named_is_no_emp u.pred h.0 ls _ h.4 h.3

-- an assertion up to a closing brace
brace_is_no_star : same_sign signs.RightBrace signs.Star ≡ false
unfolding same_sign
brace_is_no_star = refl

assertion_again : (items : List PureItem) (ls rest : List Lexeme) → Nested ls → SpellsAssertion items ls (lexemes.Sign signs.RightBrace ∷ rest) → Reads Nested assertion_at items ls (lexemes.Sign signs.RightBrace ∷ rest)
unfolding assertion_at
assertion_again [] ls rest p is = record {
  is = rw (is, same_word-refl words.Emp) refl;
  under = nested_tail _ _ (subst Nested is p);
  shorter = omega (arith, ap length is);
}
assertion_again (item ∷ items) ls rest p (after, one, more) =
    let first = item_again item ls after p one in
    let others = more_again Nested nested_tail SpellsItem item_at item_again (length after) signs.Star items after _ (omega arith) first.under more brace_is_no_star in
    record {
      is = rw (item_is_no_emp item ls after one, first.is, others.is) refl;
      under = others.under;
      shorter = omega (arith, first.shorter, others.shorter);
    }

pub block_again : Again Nested SpellsBlock block_at
unfolding block_at
block_again items ls rest p (inner, is, spells) =
    let read = assertion_again items inner rest (nested_tail _ inner (subst Nested is p)) spells in
    record {
      is = rw (is, same_sign-refl signs.LeftBrace, read.is, same_sign-refl signs.RightBrace) refl;
      under = nested_tail _ rest read.under;
      shorter = omega (arith, ap length is, read.shorter);
    }
