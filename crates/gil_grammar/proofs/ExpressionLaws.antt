-- What is read as an expression is spelled so, and what is spelled so is read.
use Rattle.std.proofs.Common.{◌≡◌, ◌≤◌, ◌<◌, max, ℕ, zero, suc, true, false, List, [], ◌∷◌, length, Some, refl, sym, ap, ◌∙◌, subst, arith, inl, inr}
use Rattle.std.specs.Prelude.{is_some}
use Rattle.gil_values.specs.declared.kinds.Kind.TheVariants as kinds
use Rattle.gil_values.specs.declared.operators.UnOp.{UnOp}
use Rattle.gil_values.specs.declared.operators.UnOp.TheVariants as unary
use Rattle.gil_values.specs.declared.operators.BinOp.{BinOp}
use Rattle.gil_values.specs.declared.operators.BinOp.TheVariants as binary
use Rattle.gil_values.specs.Pure.{PureValue, integer, boolean, text, symbol, kind, procedure, list}
use Rattle.gil_lexer.specs.declared.words.Word.{Word}
use Rattle.gil_lexer.specs.declared.words.Word.TheVariants as words
use Rattle.gil_lexer.specs.declared.signs.Sign.{Sign}
use Rattle.gil_lexer.specs.declared.signs.Sign.TheVariants as signs
use Rattle.gil_lexemes.specs.declared.standing.Lexeme.{Lexeme}
use Rattle.gil_lexemes.specs.declared.standing.Lexeme.TheVariants as lexemes
use Rattle.gil_lexemes.specs.Lists.{separated_at}
use Rattle.gil_lexemes.specs.Reading.{Reading, ◌>>=◌, behind, first_form, same_sign, is_sign, sign_at}
use Rattle.gil_lexemes.proofs.ReadingLaws.{bind_some, sign_takes, same_sign-refl}
use Rattle.gil_syntax.specs.Pure.{PureExpr, literal, name, logical, list_of, unary_of, binary_of, PureExprs, no_exprs, expr_and, from_list, to_list}
use Rattle.gil_grammar.specs.declared.positions.Position.{Position}
use Rattle.gil_grammar.specs.declared.positions.Position.TheVariants as positions
use Rattle.gil_grammar.specs.Expressions.{SpellsExpr, SpellsElements, SpellsMoreElements, SpellsExprs}
use Rattle.gil_grammar.specs.Lists.{SpellsMore, SpellsSeparated}
use Rattle.gil_grammar.specs.Vocabulary.{between_operands, before_operands, literal_lexeme, unary_word, closing_parenthesis, comma, IsNameAt}
use Rattle.gil_grammar.specs.Reading.Vocabulary.{operator_of, word_value, unary_of_word, named_at}
use Rattle.gil_grammar.specs.Reading.Expressions.{word_leaf, leaf_at, infix_at, nth_at, unary_at, list_at, bracketed_at, opens, expr_at}
use Rattle.gil_grammar.proofs.ListLaws.{Takes, Again, NeverBegins, found_is, cond_cases, separated_takes, separated_again}
use Rattle.gil_grammar.proofs.VocabularyLaws.{word_value_takes, unary_takes, operator_takes, named_takes, serving_word}

-- ---- what is read is spelled

-- the value that was found, in place of its parts
in_found : (position : Position) (ls : List Lexeme) (e : PureExpr) (rest : List Lexeme) (found : PureExpr × List Lexeme)
    → Some (e, rest) ≡ Some found → SpellsExpr position e ls rest → SpellsExpr position found.0 ls found.1
in_found position ls e rest found is h = subst (λ (f : PureExpr × List Lexeme). SpellsExpr position f.0 ls f.1) (found_is (e, rest) found is) h

infix_takes : (position : Position) (inner : List Lexeme → Reading PureExpr) → Takes (SpellsExpr position) inner → Takes (SpellsExpr position) (infix_at inner)
unfolding infix_at
infix_takes position inner sound ls found e =
    let a = bind_some (sign_at signs.LeftParenthesis ls) _ found e in
    let d = bind_some (inner a.0) _ found a.2 in
    let op = bind_some (operator_of (first_form d.0.1)) _ found d.2 in
    let f = bind_some (inner (behind d.0.1)) _ found op.2 in
    let r = bind_some (sign_at signs.RightParenthesis f.0.1) _ found f.2 in
    let says = operator_takes d.0.1 op.0 op.1 in
    in_found position ls (binary_of op.0 d.0.0 f.0.0) r.0 found r.2 (
      a.0,
      behind d.0.1,
      sign_takes signs.LeftParenthesis ls a.0 a.1 ∙ sym (says.1 a.0),
      subst (SpellsExpr position d.0.0 a.0) says.0 (sound a.0 d.0 d.1),
      subst (SpellsExpr position f.0.0 (behind d.0.1)) (sign_takes signs.RightParenthesis f.0.1 r.0 r.1) (sound (behind d.0.1) f.0 f.1),
    )

nth_takes : (position : Position) (inner : List Lexeme → Reading PureExpr) → Takes (SpellsExpr position) inner
    → (ls : List Lexeme) (found : PureExpr × List Lexeme) → nth_at inner (lexemes.Word words.Nth ∷ ls) ≡ Some found → SpellsExpr position found.0 (lexemes.Word words.Nth ∷ ls) found.1
unfolding nth_at
nth_takes position inner sound ls found e =
    let a = bind_some (sign_at signs.LeftParenthesis ls) _ found e in
    let d = bind_some (inner a.0) _ found a.2 in
    let b = bind_some (sign_at signs.Comma d.0.1) _ found d.2 in
    let f = bind_some (inner b.0) _ found b.2 in
    let r = bind_some (sign_at signs.RightParenthesis f.0.1) _ found f.2 in
    in_found position _ (binary_of binary.Nth d.0.0 f.0.0) r.0 found r.2 (
      a.0,
      b.0,
      ap (λ (l : List Lexeme). lexemes.Word words.Nth ∷ l) (sign_takes signs.LeftParenthesis ls a.0 a.1),
      subst (SpellsExpr position d.0.0 a.0) (sign_takes signs.Comma d.0.1 b.0 b.1) (sound a.0 d.0 d.1),
      subst (SpellsExpr position f.0.0 b.0) (sign_takes signs.RightParenthesis f.0.1 r.0 r.1) (sound b.0 f.0 f.1),
    )

unary_at_takes : (position : Position) (inner : List Lexeme → Reading PureExpr) → Takes (SpellsExpr position) inner → (op : UnOp) (ls : List Lexeme) (found : PureExpr × List Lexeme)
    → unary_at op inner (lexemes.Word (unary_word op) ∷ ls) ≡ Some found → SpellsExpr position found.0 (lexemes.Word (unary_word op) ∷ ls) found.1
unfolding unary_at
unary_at_takes position inner sound op ls found e =
    let a = bind_some (sign_at signs.LeftParenthesis ls) _ found e in
    let d = bind_some (inner a.0) _ found a.2 in
    let r = bind_some (sign_at signs.RightParenthesis d.0.1) _ found d.2 in
    in_found position _ (unary_of op d.0.0) r.0 found r.2 (
      a.0,
      ap (λ (l : List Lexeme). lexemes.Word (unary_word op) ∷ l) (sign_takes signs.LeftParenthesis ls a.0 a.1),
      subst (SpellsExpr position d.0.0 a.0) (sign_takes signs.RightParenthesis d.0.1 r.0 r.1) (sound a.0 d.0 d.1),
    )

-- the elements of a list as a list, and back
more_elements : (position : Position) (es : List PureExpr) (ls rest : List Lexeme) → SpellsMore (SpellsExpr position) comma es ls rest → SpellsMoreElements position (from_list es) ls rest
more_elements position [] ls rest h = h
more_elements position (e ∷ es) ls rest (inner, after, is, one, more) = (inner, after, is, one, more_elements position es after rest more)

elements : (position : Position) (es : List PureExpr) (ls rest : List Lexeme) → SpellsExprs position es ls rest → SpellsElements position (from_list es) ls rest
elements position [] ls rest h = h
elements position (e ∷ es) ls rest (after, one, more) = (after, one, more_elements position es after rest more)

list_takes : (position : Position) (inner : List Lexeme → Reading PureExpr) → Takes (SpellsExpr position) inner → Takes (SpellsExpr position) (list_at inner)
unfolding list_at
list_takes position inner sound ls found e =
    let a = bind_some (sign_at signs.LeftBracket ls) _ found e in
    let es = bind_some (separated_at inner signs.RightBracket signs.Comma a.0) _ found a.2 in
    let r = bind_some (sign_at signs.RightBracket es.0.1) _ found es.2 in
    let spelled = separated_takes (SpellsExpr position) inner sound signs.RightBracket signs.Comma a.0 es.0 es.1 in
    in_found position ls (list_of (from_list es.0.0)) r.0 found r.2 (
      a.0,
      sign_takes signs.LeftBracket ls a.0 a.1,
      elements position es.0.0 a.0 _ (subst (SpellsExprs position es.0.0 a.0) (sign_takes signs.RightBracket es.0.1 r.0 r.1) spelled),
    )

word_bracketed_takes : (position : Position) (inner : List Lexeme → Reading PureExpr) → Takes (SpellsExpr position) inner → (word : Word) (ls : List Lexeme) (found : PureExpr × List Lexeme)
    → (unary_of_word word >>= λ op. unary_at op inner (lexemes.Word word ∷ ls)) ≡ Some found → SpellsExpr position found.0 (lexemes.Word word ∷ ls) found.1
word_bracketed_takes position inner sound word ls found e =
    let op = bind_some (unary_of_word word) _ found e in
    let is = unary_takes word op.0 op.1 in
    subst (λ (w : Word). SpellsExpr position found.0 (lexemes.Word w ∷ ls) found.1) is
    (unary_at_takes position inner sound op.0 ls found (subst (λ (w : Word). unary_at op.0 inner (lexemes.Word w ∷ ls) ≡ Some found) (sym is) op.2))

bracketed_takes : (position : Position) (inner : List Lexeme → Reading PureExpr) → Takes (SpellsExpr position) inner → Takes (SpellsExpr position) (bracketed_at inner)
bracketed_takes position inner sound (lexemes.Sign signs.LeftParenthesis ∷ ls) found e = infix_takes position inner sound _ found e
bracketed_takes position inner sound (lexemes.Sign signs.LeftBracket ∷ ls) found e = list_takes position inner sound _ found e
bracketed_takes position inner sound (lexemes.Word words.Nth ∷ ls) found e = nth_takes position inner sound ls found e
bracketed_takes position inner sound (lexemes.Word words.Not ∷ ls) found e = word_bracketed_takes position inner sound words.Not ls found e
bracketed_takes position inner sound (lexemes.Word words.Neg ∷ ls) found e = word_bracketed_takes position inner sound words.Neg ls found e
bracketed_takes position inner sound (lexemes.Word words.Len ∷ ls) found e = word_bracketed_takes position inner sound words.Len ls found e
bracketed_takes position inner sound (lexemes.Word words.Kind ∷ ls) found e = word_bracketed_takes position inner sound words.Kind ls found e
bracketed_takes position inner sound _ found e = absurd cc

word_leaf_takes : (position : Position) (word : Word) (ls : List Lexeme) (found : PureExpr × List Lexeme) → word_leaf word position (lexemes.Word word ∷ ls) ≡ Some found
    → SpellsExpr position found.0 (lexemes.Word word ∷ ls) found.1
word_leaf_takes position word ls found e =
    cond_cases (is_some (word_value word)) _ _ found e
    (λ test value.
    let v = bind_some (word_value word) _ found value in
    in_found position _ (literal v.0) ls found v.2 (lexemes.Word word, word_value_takes word v.0 v.1, refl))
    (λ test named.
    let x = bind_some (named_at position (lexemes.Word word ∷ ls)) _ found named in
    in_found position _ (name x.0.0) x.0.1 found x.2 (named_takes position _ x.0 x.1))

leaf_takes : (position : Position) → Takes (SpellsExpr position) (leaf_at position)
leaf_takes position [] found e = absurd cc
leaf_takes position (lexemes.Name x ∷ ls) found e = in_found position _ (name x) ls found e (lexemes.Name x, inl refl, refl)
leaf_takes position (lexemes.Word word ∷ ls) found e = word_leaf_takes position word ls found e
leaf_takes positions.Assertion (lexemes.Logical x ∷ ls) found e = in_found positions.Assertion _ (logical x) ls found e (refl, refl)
leaf_takes position (lexemes.Procedure x ∷ ls) found e = in_found position _ (literal (procedure x)) ls found e (lexemes.Procedure x, refl, refl)
leaf_takes position (lexemes.Number n ∷ ls) found e = in_found position _ (literal (integer n)) ls found e (lexemes.Number n, refl, refl)
leaf_takes position (lexemes.Literal x ∷ ls) found e = in_found position _ (literal (text x)) ls found e (lexemes.Literal x, refl, refl)
leaf_takes position _ found e = absurd cc

-- what is read as an expression is spelled so
pub expr_takes : (n : ℕ) (position : Position) → Takes (SpellsExpr position) (expr_at n position)
unfolding expr_at
expr_takes zero position ls found e =
    cond_cases (opens (first_form ls)) _ _ found e (λ test none. absurd cc) (λ test leaf. leaf_takes position ls found leaf)
expr_takes (suc n) position ls found e =
    cond_cases (opens (first_form ls)) _ _ found e
    (λ test bracketed. bracketed_takes position (expr_at n position) (expr_takes n position) ls found bracketed)
    (λ test leaf. leaf_takes position ls found leaf)

-- ---- what is spelled is read

-- how many brackets are open at most within an expression
abbrev mutual
  pub depth : PureExpr → ℕ
  depth (list_of es) = suc (depths es)
  depth (unary_of op e) = suc (depth e)
  depth (binary_of op d e) = suc (max (depth d) (depth e))
  depth _ = 0

  pub depths : PureExprs → ℕ
  depths no_exprs = 0
  depths (expr_and e es) = max (depth e) (depths es)

-- an expression in which at most n brackets are open
abbrev pub SpellsWithin : ℕ → Position → PureExpr → List Lexeme → List Lexeme → Type 0
SpellsWithin n position e ls rest = (depth e ≤ n) × SpellsExpr position e ls rest

before_longer : (op : BinOp) (rest : List Lexeme) → length rest < length (before_operands op rest)
before_longer binary.Nth rest = omega arith
before_longer _ rest = omega arith

-- an expression has a lexeme
mutual
  pub expr_shortens : (position : Position) (e : PureExpr) (ls rest : List Lexeme) → SpellsExpr position e ls rest → length rest < length ls
  expr_shortens position (literal v) ls rest (lexeme, says, is) = omega (arith, ap length is)
  expr_shortens position (name x) ls rest (lexeme, says, is) = omega (arith, ap length is)
  expr_shortens position (logical x) ls rest (there, is) = omega (arith, ap length is)
  expr_shortens position (list_of es) ls rest (inner, is, h) = omega (arith, ap length is, elements_shorten position es inner _ h)
  expr_shortens position (unary_of op e) ls rest (inner, is, h) = omega (arith, ap length is, expr_shortens position e inner _ h)
  expr_shortens position (binary_of op d e) ls rest (left, right, is, h, k) =
      omega (arith, ap length is, before_longer op left, expr_shortens position d left _ h, expr_shortens position e right _ k)

  elements_shorten : (position : Position) (es : PureExprs) (ls rest : List Lexeme) → SpellsElements position es ls rest → length rest ≤ length ls
  elements_shorten position no_exprs ls rest is = omega (arith, ap length is)
  elements_shorten position (expr_and e es) ls rest (after, h, k) = omega (arith, expr_shortens position e ls after h, more_elements_shorten position es after rest k)

  more_elements_shorten : (position : Position) (es : PureExprs) (ls rest : List Lexeme) → SpellsMoreElements position es ls rest → length rest ≤ length ls
  more_elements_shorten position no_exprs ls rest is = omega (arith, ap length is)
  more_elements_shorten position (expr_and e es) ls rest (inner, after, is, h, k) =
      omega (arith, ap length is, expr_shortens position e inner after h, more_elements_shorten position es after rest k)

-- an expression begins with no closing sign
literal_never : (sign : Sign) (v : PureValue) (lexeme : Lexeme) (rest : List Lexeme) → literal_lexeme v ≡ Some lexeme → is_sign sign (first_form (lexeme ∷ rest)) ≡ false
literal_never sign (integer n) lexeme rest e = rw (sym (found_is _ lexeme e)) refl
literal_never sign (boolean b) lexeme rest e = rw (sym (found_is _ lexeme e)) refl
literal_never sign (text t) lexeme rest e = rw (sym (found_is _ lexeme e)) refl
literal_never sign (symbol n) lexeme rest e = absurd cc
literal_never sign (kind k) lexeme rest e = rw (sym (found_is _ lexeme e)) refl
literal_never sign (procedure f) lexeme rest e = rw (sym (found_is _ lexeme e)) refl
literal_never sign (list vs) lexeme rest e = absurd cc

pub named_never : (sign : Sign) (position : Position) (x : List ℕ) (lexeme : Lexeme) (rest : List Lexeme) → IsNameAt position x lexeme → is_sign sign (first_form (lexeme ∷ rest)) ≡ false
named_never sign position x lexeme rest (inl is) = rw is refl
named_never sign position x lexeme rest (inr (word, says, is)) = rw is refl

before_never : (sign : Sign) (op : BinOp) (rest : List Lexeme) → same_sign signs.LeftParenthesis sign ≡ false → is_sign sign (first_form (before_operands op rest)) ≡ false
before_never sign binary.Nth rest e = refl
before_never sign _ rest e = e

pub expr_never : (position : Position) (sign : Sign) → same_sign signs.LeftParenthesis sign ≡ false → same_sign signs.LeftBracket sign ≡ false → NeverBegins (SpellsExpr position) sign
expr_never position sign a b (literal v) ls rest (lexeme, says, is) = rw is (literal_never sign v lexeme rest says)
expr_never position sign a b (name x) ls rest (lexeme, says, is) = rw is (named_never sign position x lexeme rest says)
expr_never position sign a b (logical x) ls rest (there, is) = rw is refl
expr_never position sign a b (list_of es) ls rest (inner, is, h) = rw is b
expr_never position sign a b (unary_of op e) ls rest (inner, is, h) = rw is refl
expr_never position sign a b (binary_of op d e) ls rest (left, right, is, h, k) = rw is (before_never sign op left a)

-- ---- literals and names

-- the lexemes are read as a literal or a name
abbrev IsLeaf : Position → PureExpr → List Lexeme → List Lexeme → Type 0
IsLeaf position e ls rest = (opens (first_form ls) ≡ false) × (leaf_at position ls ≡ Some (e, rest))

literal_leaf : (position : Position) (v : PureValue) (lexeme : Lexeme) (rest : List Lexeme) → literal_lexeme v ≡ Some lexeme → IsLeaf position (literal v) (lexeme ∷ rest) rest
literal_leaf position (integer n) lexeme rest e = rw (sym (found_is _ lexeme e)) (refl, refl)
literal_leaf position (boolean true) lexeme rest e = rw (sym (found_is _ lexeme e)) (refl, refl)
literal_leaf position (boolean false) lexeme rest e = rw (sym (found_is _ lexeme e)) (refl, refl)
literal_leaf position (text t) lexeme rest e = rw (sym (found_is _ lexeme e)) (refl, refl)
literal_leaf position (symbol n) lexeme rest e = absurd cc
literal_leaf position (kind kinds.Int) lexeme rest e = rw (sym (found_is _ lexeme e)) (refl, refl)
literal_leaf position (kind kinds.Bool) lexeme rest e = rw (sym (found_is _ lexeme e)) (refl, refl)
literal_leaf position (kind kinds.Str) lexeme rest e = rw (sym (found_is _ lexeme e)) (refl, refl)
literal_leaf position (kind kinds.Sym) lexeme rest e = rw (sym (found_is _ lexeme e)) (refl, refl)
literal_leaf position (kind kinds.Kind) lexeme rest e = rw (sym (found_is _ lexeme e)) (refl, refl)
literal_leaf position (kind kinds.Proc) lexeme rest e = rw (sym (found_is _ lexeme e)) (refl, refl)
literal_leaf position (kind kinds.List) lexeme rest e = rw (sym (found_is _ lexeme e)) (refl, refl)
literal_leaf position (kind kinds.Undef) lexeme rest e = rw (sym (found_is _ lexeme e)) (refl, refl)
literal_leaf position (kind kinds.Null) lexeme rest e = rw (sym (found_is _ lexeme e)) (refl, refl)
literal_leaf position (procedure f) lexeme rest e = rw (sym (found_is _ lexeme e)) (refl, refl)
literal_leaf position (list vs) lexeme rest e = absurd cc

name_leaf_again : (position : Position) (x : List ℕ) (lexeme : Lexeme) (rest : List Lexeme) → IsNameAt position x lexeme → IsLeaf position (name x) (lexeme ∷ rest) rest
name_leaf_again position x lexeme rest (inl is) = rw is (refl, refl)
name_leaf_again position x lexeme rest (inr (word, says, is)) =
    let serves = serving_word position word x says in
    rw is (serves.1, rw (serves.0, says) refl)

logical_leaf_again : (position : Position) (x : List ℕ) (rest : List Lexeme) → position ≡ positions.Assertion → IsLeaf position (logical x) (lexemes.Logical x ∷ rest) rest
logical_leaf_again positions.Assertion x rest e = (refl, refl)
logical_leaf_again _ x rest e = absurd cc

leaf_again : (n : ℕ) (position : Position) (e : PureExpr) (ls rest : List Lexeme) → IsLeaf position e ls rest → expr_at n position ls ≡ Some (e, rest)
unfolding expr_at
leaf_again zero position e ls rest h = rw (h.0) (h.1)
leaf_again (suc n) position e ls rest h = rw (h.0) (h.1)

-- ---- expressions with brackets

bracketed_again : (n : ℕ) (position : Position) (e : PureExpr) (ls rest : List Lexeme) → opens (first_form ls) ≡ true → bracketed_at (expr_at n position) ls ≡ Some (e, rest) → expr_at (suc n) position ls ≡ Some (e, rest)
unfolding expr_at
bracketed_again n position e ls rest test h = rw test h

unary_read : (op : UnOp) (inner : List Lexeme → Reading PureExpr) (e : PureExpr) (operand rest : List Lexeme) → inner operand ≡ Some (e, closing_parenthesis ∷ rest)
    → let ls : List Lexeme = lexemes.Word (unary_word op) ∷ lexemes.Sign signs.LeftParenthesis ∷ operand in (opens (first_form ls) ≡ true) × (bracketed_at inner ls ≡ Some (unary_of op e, rest))
unfolding unary_at
unary_read unary.Not inner e operand rest h = (refl, rw (same_sign-refl signs.LeftParenthesis, h, same_sign-refl signs.RightParenthesis) refl)
unary_read unary.Neg inner e operand rest h = (refl, rw (same_sign-refl signs.LeftParenthesis, h, same_sign-refl signs.RightParenthesis) refl)
unary_read unary.Len inner e operand rest h = (refl, rw (same_sign-refl signs.LeftParenthesis, h, same_sign-refl signs.RightParenthesis) refl)
unary_read unary.Kind inner e operand rest h = (refl, rw (same_sign-refl signs.LeftParenthesis, h, same_sign-refl signs.RightParenthesis) refl)

binary_read : (op : BinOp) (inner : List Lexeme → Reading PureExpr) (d e : PureExpr) (left right rest : List Lexeme)
    → inner left ≡ Some (d, between_operands op ∷ right) → inner right ≡ Some (e, closing_parenthesis ∷ rest)
    → (opens (first_form (before_operands op left)) ≡ true) × (bracketed_at inner (before_operands op left) ≡ Some (binary_of op d e, rest))
unfolding infix_at nth_at
binary_read binary.Nth inner d e left right rest h k = (refl, rw (same_sign-refl signs.LeftParenthesis, h, same_sign-refl signs.Comma, k, same_sign-refl signs.RightParenthesis) refl)
binary_read _ inner d e left right rest h k = (refl, rw (same_sign-refl signs.LeftParenthesis, h, k, same_sign-refl signs.RightParenthesis) refl)

-- elements in which at most n brackets are open
within_more : (n : ℕ) (position : Position) (es : PureExprs) (ls rest : List Lexeme) → depths es ≤ n → SpellsMoreElements position es ls rest → SpellsMore (SpellsWithin n position) comma (to_list es) ls rest
within_more n position no_exprs ls rest deep h = h
within_more n position (expr_and e es) ls rest deep (inner, after, is, one, more) = (inner, after, is, (omega arith, one), within_more n position es after rest (omega arith) more)

within : (n : ℕ) (position : Position) (es : PureExprs) (ls rest : List Lexeme) → depths es ≤ n → SpellsElements position es ls rest → SpellsSeparated (SpellsWithin n position) comma (to_list es) ls rest
within n position no_exprs ls rest deep h = h
within n position (expr_and e es) ls rest deep (after, one, more) = (after, (omega arith, one), within_more n position es after rest (omega arith) more)

from_list-to_list : (es : PureExprs) → from_list (to_list es) ≡ es
from_list-to_list no_exprs = refl
from_list-to_list (expr_and e es) = ap (expr_and e) (from_list-to_list es)

bracket_is_no_comma : same_sign signs.RightBracket signs.Comma ≡ false
unfolding same_sign
bracket_is_no_comma = refl

parenthesis_is_no_bracket : same_sign signs.LeftParenthesis signs.RightBracket ≡ false
unfolding same_sign
parenthesis_is_no_bracket = refl

bracket_is_no_bracket : same_sign signs.LeftBracket signs.RightBracket ≡ false
unfolding same_sign
bracket_is_no_bracket = refl

-- nothing is asked of the lexemes
abbrev Anything : List Lexeme → Type 0
Anything ls = Unit {0}

list_read : (n : ℕ) (position : Position) → Again Anything (SpellsWithin n position) (expr_at n position) → (es : PureExprs) (inner rest : List Lexeme) → depths es ≤ n
    → SpellsElements position es inner (lexemes.Sign signs.RightBracket ∷ rest) → list_at (expr_at n position) (lexemes.Sign signs.LeftBracket ∷ inner) ≡ Some (list_of es, rest)
unfolding list_at
list_read n position again es inner rest deep h =
    let never : NeverBegins (SpellsWithin n position) signs.RightBracket = λ e ls after k. expr_never position signs.RightBracket parenthesis_is_no_bracket bracket_is_no_bracket e ls after k.1 in
    let read = separated_again Anything (λ l ls p. p) (SpellsWithin n position) (expr_at n position) again signs.RightBracket signs.Comma never
    (to_list es) inner (lexemes.Sign signs.RightBracket ∷ rest) tt (within n position es inner _ deep h) (same_sign-refl signs.RightBracket) bracket_is_no_comma in
    rw (same_sign-refl signs.LeftBracket, read.is, same_sign-refl signs.RightBracket, from_list-to_list es) refl

-- what is spelled as an expression is read so
pub expr_again : (n : ℕ) (position : Position) (e : PureExpr) (ls rest : List Lexeme) → SpellsWithin n position e ls rest → expr_at n position ls ≡ Some (e, rest)
expr_again n position (literal v) ls rest (deep, (lexeme, says, is)) = ap (expr_at n position) is ∙ leaf_again n position (literal v) _ rest (literal_leaf position v lexeme rest says)
expr_again n position (name x) ls rest (deep, (lexeme, says, is)) = ap (expr_at n position) is ∙ leaf_again n position (name x) _ rest (name_leaf_again position x lexeme rest says)
expr_again n position (logical x) ls rest (deep, (there, is)) = ap (expr_at n position) is ∙ leaf_again n position (logical x) _ rest (logical_leaf_again position x rest there)
expr_again zero position (list_of es) ls rest (deep, h) = absurd (omega arith)
expr_again zero position (unary_of op e) ls rest (deep, h) = absurd (omega arith)
expr_again zero position (binary_of op d e) ls rest (deep, h) = absurd (omega arith)
expr_again (suc n) position (list_of es) ls rest (deep, (inner, is, h)) =
    ap (expr_at (suc n) position) is
    ∙ bracketed_again n position (list_of es) _ rest refl (list_read n position (λ d ls after p k. record { is = expr_again n position d ls after k; under = tt; shorter = expr_shortens position d ls after k.1 }) es inner rest (omega arith) h)
expr_again (suc n) position (unary_of op e) ls rest (deep, (inner, is, h)) =
    let read = unary_read op (expr_at n position) e inner rest (expr_again n position e inner _ (omega arith, h)) in
    ap (expr_at (suc n) position) is ∙ bracketed_again n position (unary_of op e) _ rest read.0 read.1
expr_again (suc n) position (binary_of op d e) ls rest (deep, (left, right, is, h, k)) =
    let read = binary_read op (expr_at n position) d e left right rest (expr_again n position d left _ (omega arith, h)) (expr_again n position e right _ (omega arith, k)) in
    ap (expr_at (suc n) position) is ∙ bracketed_again n position (binary_of op d e) _ rest read.0 read.1
