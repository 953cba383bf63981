-- Brackets that are open within expressions, and expressions that are read where no more are open than may be.
use Rattle.std.proofs.Common.{◌≡◌, ◌≤◌, ◌+◌, ◌-◌, ℕ, List, ◌∷◌, Some, refl, ◌∙◌, subst, arith, inl, inr}
use Rattle.gil_values.specs.declared.operators.BinOp.{BinOp}
use Rattle.gil_values.specs.declared.operators.BinOp.TheVariants as binary
use Rattle.gil_values.specs.Pure.{PureValue, integer, boolean, text, symbol, kind, procedure, list}
use Rattle.gil_lexemes.specs.declared.standing.Lexeme.{Lexeme}
use Rattle.gil_lexemes.specs.declared.standing.Lexeme.TheVariants as lexemes
use Rattle.gil_syntax.specs.Pure.{PureExpr, literal, name, logical, list_of, unary_of, binary_of, PureExprs, no_exprs, expr_and}
use Rattle.gil_grammar.specs.declared.positions.Position.{Position}
use Rattle.gil_grammar.specs.Expressions.{SpellsExpr, SpellsElements, SpellsMoreElements}
use Rattle.gil_grammar.specs.Nesting.{most_open, open_behind, IsNestedFrom}
use Rattle.gil_grammar.specs.Vocabulary.{between_operands, before_operands, literal_lexeme, closing_parenthesis, closing_bracket, IsNameAt}
use Rattle.gil_grammar.specs.Reading.Assertions.{expression_at}
use Rattle.gil_grammar.proofs.ListLaws.{Again, found_is}
use Rattle.gil_grammar.proofs.ExpressionLaws.{depth, depths, expr_again, expr_shortens}

-- in these lexemes no more brackets are open than may be, where some number of them were open before
pub record Nested (ls : List Lexeme) : Type 0 where
  pub count : ℕ
  pub nested : IsNestedFrom count ls

pub nested_tail : (l : Lexeme) (ls : List Lexeme) → Nested (l ∷ ls) → Nested ls
nested_tail l ls h = record { count = open_behind h.count l; nested = h.nested.1 }

-- a lexeme that is no bracket
abbrev Opens : ℕ → Lexeme → Type 0
Opens count lexeme = open_behind count lexeme ≡ count

literal_opens : (count : ℕ) (v : PureValue) (lexeme : Lexeme) → literal_lexeme v ≡ Some lexeme → Opens count lexeme
literal_opens count (integer n) lexeme e = subst (Opens count) (found_is _ lexeme e) refl
literal_opens count (boolean b) lexeme e = subst (Opens count) (found_is _ lexeme e) refl
literal_opens count (text t) lexeme e = subst (Opens count) (found_is _ lexeme e) refl
literal_opens count (symbol n) lexeme e = absurd cc
literal_opens count (kind k) lexeme e = subst (Opens count) (found_is _ lexeme e) refl
literal_opens count (procedure f) lexeme e = subst (Opens count) (found_is _ lexeme e) refl
literal_opens count (list vs) lexeme e = absurd cc

named_opens : (count : ℕ) (position : Position) (x : List ℕ) (lexeme : Lexeme) → IsNameAt position x lexeme → Opens count lexeme
named_opens count position x lexeme (inl is) = rw is refl
named_opens count position x lexeme (inr (word, says, is)) = rw is refl

between_opens : (count : ℕ) (op : BinOp) → Opens count (between_operands op)
between_opens count binary.Nth = refl
between_opens count _ = refl

-- behind a lexeme that is no bracket
passes : (count : ℕ) (lexeme : Lexeme) (rest : List Lexeme) → Opens count lexeme → IsNestedFrom count (lexeme ∷ rest) → (count ≤ most_open) × IsNestedFrom count rest
passes count lexeme rest same h = rw same at h

-- behind what stands before the operands one bracket more is open
before_opens : (count : ℕ) (op : BinOp) (rest : List Lexeme) → IsNestedFrom count (before_operands op rest) → IsNestedFrom (count + 1) rest
before_opens count binary.Nth rest h = h.1.1
before_opens count _ rest h = h.1

-- behind a closing bracket one less is open
closes : (count : ℕ) (lexeme : Lexeme) (rest : List Lexeme) → open_behind (count + 1) lexeme ≡ count + 1 - 1 → IsNestedFrom (count + 1) (lexeme ∷ rest) → IsNestedFrom count rest
closes count lexeme rest e h =
    let same : open_behind (count + 1) lexeme ≡ count = e ∙ omega arith in
    (rw same at h).1

-- So many brackets are open at most, and as many behind them as before.
abbrev Stays : ℕ → ℕ → List Lexeme → Type 0
Stays count deep rest = (deep + count ≤ most_open) × IsNestedFrom count rest

mutual
  expr_stays : (position : Position) (e : PureExpr) (ls rest : List Lexeme) (count : ℕ) → SpellsExpr position e ls rest → IsNestedFrom count ls → Stays count (depth e) rest
  expr_stays position (literal v) ls rest count (lexeme, says, is) h = let p = passes count lexeme rest (literal_opens count v lexeme says) (rw is at h) in (omega (arith, p.0), p.1)
  expr_stays position (name x) ls rest count (lexeme, says, is) h = let p = passes count lexeme rest (named_opens count position x lexeme says) (rw is at h) in (omega (arith, p.0), p.1)
  expr_stays position (logical x) ls rest count (there, is) h = let p = passes count (lexemes.Logical x) rest refl (rw is at h) in (omega (arith, p.0), p.1)
  expr_stays position (list_of es) ls rest count (inner, is, k) h =
      let opened = rw is at h in
      let p = elements_stay position es inner _ (count + 1) k opened.0 opened.1 in
      (omega (arith, p.0), closes count closing_bracket rest refl p.1)
  expr_stays position (unary_of op e) ls rest count (inner, is, k) h =
      let opened = rw is at h in
      let p = expr_stays position e inner _ (count + 1) k opened.1.1 in
      (omega (arith, p.0), closes count closing_parenthesis rest refl p.1)
  expr_stays position (binary_of op d e) ls rest count (left, right, is, k, j) h =
      let opened = before_opens count op left (rw is at h) in
      let p = expr_stays position d left _ (count + 1) k opened in
      let q = expr_stays position e right _ (count + 1) j (passes (count + 1) (between_operands op) right (between_opens (count + 1) op) p.1).1 in
      (omega (arith, p.0, q.0), closes count closing_parenthesis rest refl q.1)

  elements_stay : (position : Position) (es : PureExprs) (ls rest : List Lexeme) (count : ℕ) → SpellsElements position es ls rest → count ≤ most_open → IsNestedFrom count ls → Stays count (depths es) rest
  elements_stay position no_exprs ls rest count is within h = (omega (arith, within), rw is at h)
  elements_stay position (expr_and e es) ls rest count (after, k, j) within h =
      let p = expr_stays position e ls after count k h in
      let q = more_elements_stay position es after rest count j within p.1 in
      (omega (arith, p.0, q.0), q.1)

  more_elements_stay : (position : Position) (es : PureExprs) (ls rest : List Lexeme) (count : ℕ) → SpellsMoreElements position es ls rest → count ≤ most_open → IsNestedFrom count ls → Stays count (depths es) rest
  more_elements_stay position no_exprs ls rest count is within h = (omega (arith, within), rw is at h)
  more_elements_stay position (expr_and e es) ls rest count (inner, after, is, k, j) within h =
      let p = expr_stays position e inner after count k (rw is at h).1 in
      let q = more_elements_stay position es after rest count j within p.1 in
      (omega (arith, p.0, q.0), q.1)

-- what is spelled as an expression is read so, where no more brackets are open than may be
pub expression_again : (position : Position) → Again Nested (SpellsExpr position) (expression_at position)
expression_again position e ls rest h spells =
    let stays = expr_stays position e ls rest h.count spells h.nested in
    record {
      is = expr_again most_open position e ls rest (omega (arith, stays.0), spells);
      under = record { count = h.count; nested = stays.1 };
      shorter = expr_shortens position e ls rest spells;
    }
