-- What is spelled as an expression or a statement without statements in it is read so.
use Rattle.std.proofs.Common.{◌≡◌, inl, inr, ◌≤◌, ◌<◌, ℕ, zero, suc, List, ◌∷◌, length, Some, None, refl, ap, ◌∙◌, arith}
use Rattle.gil_lexer.specs.declared.signs.Sign.TheVariants as signs
use Rattle.gil_lexer.specs.declared.words.Word.TheVariants as words
use Rattle.gil_lexemes.specs.declared.standing.Lexeme.{Lexeme}
use Rattle.gil_lexemes.specs.declared.standing.Lexeme.TheVariants as lexemes
use Rattle.gil_lexemes.specs.Reading.{◌>>=◌, same_sign, name_at}
use Rattle.gil_lexemes.proofs.ReadingLaws.{same_sign-refl}
use Rattle.gil_grammar.specs.Vocabulary.{opening_parenthesis, closing_parenthesis, semicolon}
use Rattle.source_operators.specs.Pure.{variable, constant, brackets, prefixed, joined, skipping}
use Rattle.source_text.specs.Vocabulary.{equals}
use Rattle.operator_text.specs.Pieces.{SpellsArguments}
use Rattle.operator_text.specs.Signs.{tight}
use Rattle.operator_text.proofs.Beginnings.{BeginsSo}
use Rattle.operator_text.proofs.ExpressionReads.{shorter}
use Rattle.operator_text.proofs.PieceReads as pieces
use Rattle.operator_text.proofs.PieceReads.{IsRead, Ends}
use Rattle.clike_operators.specs.Pure.{PureExpression}
use Rattle.clike_lang.specs.Pure.{PureSimple, assign, input, malloc, call, free, store}
use Rattle.clike_grammar.specs.Reading.{expression_from, value_at, argument_at, arguments_at, input_at, behind_value, assigned_at, target_at, store_at, behind_name, begun_by, behind_stars, simple_at}
use Rattle.clike_grammar.specs.Signs.{clike_signs}
use Rattle.clike_grammar.specs.Statements.{SpellsExpressionAt, SpellsExpression, stars, SpellsTarget, SpellsArgument, SpellsCall, place_parts, SpellsSimple}
use Rattle.clike_grammar.proofs.Beginnings.{clike_apart, begins_expression, expression_begins, given_so, begun_so, never_closes}

pub expression_reads : (k : ℕ) (e : PureExpression) (l : Lexeme) (ls rest : List Lexeme) → Ends clike_signs l → SpellsExpressionAt k e ls (l ∷ rest)
    → IsRead (expression_from k) e ls (l ∷ rest)
expression_reads k e l ls rest ends h = pieces.expression_reads clike_signs clike_apart k e l ls rest ends h

value_reads : (e : PureExpression) (ls rest : List Lexeme) → SpellsExpression e ls (semicolon ∷ rest) → IsRead value_at e ls rest
value_reads e ls rest h = pieces.value_reads clike_signs clike_apart e ls rest h

argument_reads : (e : PureExpression) (ls rest : List Lexeme) → SpellsArgument e ls rest → IsRead argument_at e ls rest
argument_reads e ls rest h = pieces.argument_reads clike_signs clike_apart e ls rest h

arguments_read : (es : List PureExpression) (ls rest : List Lexeme) → SpellsArguments clike_signs es ls rest → IsRead arguments_at es ls rest
arguments_read es ls rest h = pieces.arguments_read clike_signs clike_apart never_closes es ls rest h

-- ---- what is assigned

name_reads : (k : ℕ) (x : List ℕ) (l : Lexeme) (rest : List Lexeme) → Ends clike_signs l → expression_from k (lexemes.Name x ∷ l ∷ rest) ≡ Some (variable x, l ∷ rest)
name_reads k x l rest ends = (expression_reads k (variable x) l (lexemes.Name x ∷ l ∷ rest) rest ends (lexemes.Name x, refl, refl)).is

given_reads : (x : List ℕ) (e : PureExpression) (ls rest : List Lexeme) → SpellsExpression e ls (semicolon ∷ rest)
    → assigned_at x ls ≡ Some (assign x e, rest)
unfolding behind_value same_sign
given_reads x e ls rest h =
    let read = expression_reads 0 e semicolon ls rest refl h in
    given_so x ls (expression_begins e 0 ls (semicolon ∷ rest) h) ∙ ap (λ r. r >>= λ f. behind_value x f.0 f.1) read.is

called_reads : (x f : List ℕ) (es : List PureExpression) (ls rest : List Lexeme) → SpellsCall f es ls rest
    → assigned_at x ls ≡ Some (call (Some x) f es, rest)
unfolding behind_value same_sign
called_reads x f es ls rest (inner, is, h) =
    ap (assigned_at x) is
    ∙ ap (λ r. r >>= λ e. behind_value x e.0 e.1) (name_reads 0 f opening_parenthesis inner refl)
    ∙ ap (λ r. r >>= λ a. Some (call (Some x) f a.0, a.1)) (arguments_read es inner rest h).is

input_reads : (x : List ℕ) (rest : List Lexeme)
    → input_at x (opening_parenthesis ∷ closing_parenthesis ∷ semicolon ∷ rest) ≡ Some (input x, rest)
unfolding input_at
input_reads x rest = rw (same_sign-refl signs.LeftParenthesis, same_sign-refl signs.RightParenthesis, same_sign-refl signs.Semicolon) refl

-- ---- how a statement begins

pub past_stars : (n : ℕ) (x : List ℕ) (ls : List Lexeme) → behind_stars (stars n (lexemes.Name x ∷ ls)) ≡ lexemes.Name x ∷ ls
unfolding same_sign
past_stars zero x ls = refl
past_stars (suc n) x ls = past_stars n x ls

pub stars_length : (n : ℕ) (ls : List Lexeme) → length ls ≤ length (stars n ls)
stars_length zero ls = omega arith
stars_length (suc n) ls = omega (arith, stars_length n ls)

target_shorter : (x : List ℕ) (ls value : List Lexeme) → SpellsTarget x ls value → length value < length ls
target_shorter x ls value (inl is) = omega (arith, ap length is)
target_shorter x ls value (inr (n, is)) = omega (arith, ap length is, stars_length n (lexemes.Name x ∷ equals ∷ value))

equals_read : (x : List ℕ) (value : List Lexeme) → target_at x (equals ∷ value) ≡ assigned_at x value
equals_read x value = rw (same_sign-refl signs.Equal) refl

target_reads : (x : List ℕ) (ls value : List Lexeme) → SpellsTarget x ls value → simple_at ls ≡ assigned_at x value
unfolding simple_at behind_name same_sign
target_reads x ls value (inl is) =
    ap simple_at is
    ∙ ap (λ r. r >>= λ e. begun_by e.0 e.1) (name_reads tight x equals value refl)
target_reads x ls value (inr (n, is)) =
    ap simple_at is
    ∙ ap (λ m. name_at m >>= λ y. target_at y.0 y.1) (past_stars n x (equals ∷ value))
    ∙ equals_read x value

place_begins : (e a b : PureExpression) (ls : List Lexeme) → place_parts e ≡ Some (a, b) → begun_by e ls ≡ store_at e ls
place_begins (constant v) a b ls says = refl
place_begins (variable x) a b ls says = absurd (cc says)
place_begins (brackets e) a b ls says = refl
place_begins (prefixed u e) a b ls says = refl
place_begins (joined j d e) a b ls says = refl
place_begins (skipping c d e) a b ls says = refl

calls_read : (f : List ℕ) (es : List PureExpression) (ls inner rest : List Lexeme) → ls ≡ lexemes.Name f ∷ opening_parenthesis ∷ inner
    → SpellsArguments clike_signs es inner rest → simple_at ls ≡ Some (call None f es, rest)
unfolding simple_at behind_name same_sign
calls_read f es ls inner rest is h =
    ap simple_at is
    ∙ ap (λ r. r >>= λ e. begun_by e.0 e.1) (name_reads tight f opening_parenthesis inner refl)
    ∙ ap (λ r. r >>= λ a. Some (call None f a.0, a.1)) (arguments_read es inner rest h).is

frees : (e : PureExpression) (ls value rest : List Lexeme) → ls ≡ lexemes.Word words.Free ∷ value → argument_at value ≡ Some (e, rest)
    → simple_at ls ≡ Some (free e, rest)
unfolding simple_at
frees e ls value rest is read = ap simple_at is ∙ ap (λ r. r >>= λ f. Some (free f.0, f.1)) read

stored : (place a b c : PureExpression) (value rest : List Lexeme) → place_parts place ≡ Some (a, b) → value_at value ≡ Some (c, rest)
    → store_at place (equals ∷ value) ≡ Some (store a b c, rest)
unfolding store_at
stored place a b c value rest says read = rw (says, same_sign-refl signs.Equal, read) refl

stores : (place a b c : PureExpression) (ls value rest : List Lexeme) → BeginsSo begins_expression ls
    → expression_from tight ls ≡ Some (place, equals ∷ value) → place_parts place ≡ Some (a, b) → value_at value ≡ Some (c, rest)
    → simple_at ls ≡ Some (store a b c, rest)
unfolding simple_at
stores place a b c ls value rest begins read says read' =
    begun_so ls begins ∙ ap (λ r. r >>= λ e. begun_by e.0 e.1) read ∙ place_begins place a b (equals ∷ value) says
    ∙ stored place a b c value rest says read'

pub simple_reads : (c : PureSimple) (ls rest : List Lexeme) → SpellsSimple c ls rest → IsRead simple_at c ls rest
simple_reads (assign x e) ls rest (value, target, h) = record {
  is = target_reads x ls value target ∙ given_reads x e value rest h;
  shorter = omega (arith, target_shorter x ls value target, shorter clike_signs e 0 value (semicolon ∷ rest) h);
}
simple_reads (input x) ls rest target = record {
  is = target_reads x ls _ target ∙ input_reads x rest;
  shorter = omega (arith, target_shorter x ls _ target);
}
simple_reads (malloc x e) ls rest (value, target, h) =
    let read = argument_reads e value rest h in
    record {
      is = target_reads x ls (lexemes.Word words.Malloc ∷ value) target ∙ ap (λ r. r >>= λ f. Some (malloc x f.0, f.1)) read.is;
      shorter = omega (arith, target_shorter x ls (lexemes.Word words.Malloc ∷ value) target, read.shorter);
    }
simple_reads (call (Some x) f es) ls rest (value, target, (inner, is, h)) = record {
  is = target_reads x ls value target ∙ called_reads x f es value rest (inner, is, h);
  shorter = omega (arith, target_shorter x ls value target, ap length is, (arguments_read es inner rest h).shorter);
}
simple_reads (call None f es) ls rest (inner, is, h) = record {
  is = calls_read f es ls inner rest is h;
  shorter = omega (arith, ap length is, (arguments_read es inner rest h).shorter);
}
simple_reads (free e) ls rest (value, is, h) =
    let read = argument_reads e value rest h in
    record { is = frees e ls value rest is read.is; shorter = omega (arith, ap length is, read.shorter) }
simple_reads (store a b c) ls rest (place, value, parts, h, k) =
    let first = expression_reads tight place equals ls value refl h in
    let second = value_reads c value rest k in
    record {
      is = stores place a b c ls value rest (expression_begins place tight ls (equals ∷ value) h) first.is parts second.is;
      shorter = omega (arith, first.shorter, second.shorter);
    }
