-- What is read as an expression or a statement without statements in it is spelled so.
use Rattle.std.proofs.Common.{◌≡◌, inl, inr, ◌≤◌, ℕ, suc, Bool, true, false, cond, List, [], ◌∷◌, Some, None, refl, ap, subst, ◌∙◌, arith}
use Rattle.gil_values.specs.Pure.{PureValue, integer}
use Rattle.gil_lexer.specs.declared.signs.Sign.TheVariants as signs
use Rattle.gil_lexer.specs.declared.words.Word.TheVariants as words
use Rattle.gil_lexemes.specs.declared.standing.Lexeme.{Lexeme}
use Rattle.gil_lexemes.specs.declared.standing.Lexeme.TheVariants as lexemes
use Rattle.gil_lexemes.specs.Reading.{◌>>=◌, form_of, first_form, behind, is_sign, sign_at, name_at}
use Rattle.gil_lexemes.proofs.ReadingLaws.{bind_some, at_sign_is, sign_takes, name_takes}
use Rattle.gil_grammar.specs.Vocabulary.{opening_parenthesis, closing_parenthesis, semicolon}
use Rattle.gil_grammar.proofs.ListLaws.{Takes}
use Rattle.gil_grammar.proofs.AssertionLaws.{in_place}
use Rattle.source_operators.specs.Operands.{known, named}
use Rattle.source_operators.specs.Pure.{variable, constant, brackets, prefixed, joined, skipping}
use Rattle.source_text.specs.Vocabulary.{equals}
use Rattle.operator_text.specs.Pieces.{SpellsValue, SpellsArguments}
use Rattle.operator_text.specs.Signs.{tight}
use Rattle.operator_text.proofs.PieceTakes as pieces
use Rattle.clike_operators.specs.Pure.{PureExpression}
use Rattle.clike_operators.specs.Ranges.{is_int}
use Rattle.clike_lang.specs.Pure.{PureSimple, assign, input, malloc, call, free, store}
use Rattle.clike_grammar.specs.Reading.{expression_from, expression_at, value_at, argument_at, arguments_at, call_at, input_at, variable_of, called_at, assign_at, behind_value, given_at, assigned_at, target_at, store_at, behind_name, begun_by, begun_at, behind_stars, simple_at}
use Rattle.clike_grammar.specs.Signs.{clike_signs}
use Rattle.clike_grammar.specs.Statements.{SpellsExpressionAt, SpellsExpression, stars, SpellsDeclared, SpellsTarget, SpellsArgument, SpellsCall, place_parts, SpellsSimple}
use Rattle.clike_grammar.proofs.Beginnings.{clike_apart}

pub from_takes : (k : ℕ) → k ≤ tight → Takes (SpellsExpressionAt k) (expression_from k)
from_takes k le ls found is = pieces.from_takes clike_signs clike_apart k le ls found is

pub expression_takes : Takes SpellsExpression expression_at
expression_takes ls found is = pieces.whole_takes clike_signs clike_apart ls found is

value_takes : Takes (SpellsValue clike_signs) value_at
value_takes ls found is = pieces.value_takes clike_signs clike_apart ls found is

argument_takes : Takes SpellsArgument argument_at
argument_takes ls found is = pieces.argument_takes clike_signs clike_apart ls found is

arguments_take : Takes (SpellsArguments clike_signs) arguments_at
arguments_take ls found is = pieces.arguments_take clike_signs clike_apart ls found is

-- `)` and `;`
closed : (ls end rest : List Lexeme) → sign_at signs.RightParenthesis ls ≡ Some end → sign_at signs.Semicolon end ≡ Some rest
    → ls ≡ closing_parenthesis ∷ semicolon ∷ rest
closed ls end rest is is' =
    sign_takes signs.RightParenthesis ls end is ∙ ap (λ (m : List Lexeme). closing_parenthesis ∷ m) (sign_takes signs.Semicolon end rest is')

-- ---- what is assigned

abbrev Assigned : List ℕ → PureSimple → List Lexeme → List Lexeme → Type 0
Assigned x c value rest = (ls : List Lexeme) → SpellsTarget x ls value → SpellsSimple c ls rest

input_takes : (x : List ℕ) (ls : List Lexeme) (found : PureSimple × List Lexeme) → input_at x ls ≡ Some found
    → Assigned x found.0 (lexemes.Word words.Input ∷ ls) found.1
unfolding input_at
input_takes x ls found is =
    let a = bind_some (sign_at signs.LeftParenthesis ls) _ found is in
    let end = bind_some (sign_at signs.RightParenthesis a.0) _ found a.2 in
    let r = bind_some (sign_at signs.Semicolon end.0) _ found end.2 in
    in_place (Assigned x) (lexemes.Word words.Input ∷ ls) (input x) r.0 found r.2
    (λ front target.
    subst (λ (m : List Lexeme). SpellsTarget x front (lexemes.Word words.Input ∷ m))
    (sign_takes signs.LeftParenthesis ls a.0 a.1 ∙ ap (λ (m : List Lexeme). opening_parenthesis ∷ m) (closed a.0 end.0 r.0 end.1 r.1)) target)

malloc_takes : (x : List ℕ) (ls : List Lexeme) (found : PureSimple × List Lexeme) → (argument_at ls >>= λ e. Some (malloc x e.0, e.1)) ≡ Some found
    → Assigned x found.0 (lexemes.Word words.Malloc ∷ ls) found.1
malloc_takes x ls found is =
    let e = bind_some (argument_at ls) _ found is in
    in_place (Assigned x) (lexemes.Word words.Malloc ∷ ls) (malloc x e.0.0) e.0.1 found e.2 (λ front target. (ls, target, argument_takes ls e.0 e.1))

-- a variable and what follows it
no_number : (b : Bool) (v : PureValue) (f : List ℕ) → cond b (Some (known v)) None ≡ Some (named f) → ⊥
no_number true v f says = cc says
no_number false v f says = cc says

variable_spelled : (k : ℕ) (f : List ℕ) (ls rest : List Lexeme) → SpellsExpressionAt k (variable f) ls rest → ls ≡ lexemes.Name f ∷ rest
variable_spelled k f ls rest (lexemes.Name x, says, is) = let same : x ≡ f = cc says in is ∙ ap (λ y. lexemes.Name y ∷ rest) same
variable_spelled k f ls rest (lexemes.Number n, says, is) = absurd (no_number (is_int n) (integer n) f says)
variable_spelled k f ls rest (lexemes.Word words.NullPointer, says, is) = absurd (cc says)
variable_spelled k f ls rest (lexemes.Word _, says, is) = absurd (cc says)
variable_spelled k f ls rest (lexemes.Logical x, says, is) = absurd (cc says)
variable_spelled k f ls rest (lexemes.Procedure x, says, is) = absurd (cc says)
variable_spelled k f ls rest (lexemes.Literal x, says, is) = absurd (cc says)
variable_spelled k f ls rest (lexemes.Sign x, says, is) = absurd (cc says)

variable_is : (e : PureExpression) (f : List ℕ) → variable_of e ≡ Some f → e ≡ variable f
variable_is (variable x) f says = let same : x ≡ f = cc says in ap (λ y. variable y) same
variable_is (constant v) f says = absurd (cc says)
variable_is (brackets e) f says = absurd (cc says)
variable_is (prefixed u e) f says = absurd (cc says)
variable_is (joined j d e) f says = absurd (cc says)
variable_is (skipping c d e) f says = absurd (cc says)

call_takes : (f : List ℕ) (ls inner : List Lexeme) (es : List PureExpression × List Lexeme) → ls ≡ lexemes.Name f ∷ opening_parenthesis ∷ inner
    → arguments_at inner ≡ Some es → SpellsCall f es.0 ls es.1
call_takes f ls inner es is read = (inner, is, arguments_take inner es read)

given_takes : (x : List ℕ) (ls : List Lexeme) (found : PureSimple × List Lexeme) → given_at x ls ≡ Some found → Assigned x found.0 ls found.1
unfolding behind_value
given_takes x ls found is =
    let e = bind_some (expression_at ls) _ found is in
    by e.0 (expression_takes ls e.0 e.1) (is_sign signs.LeftParenthesis (first_form e.0.1)) refl e.2
  where
    by : (e : PureExpression × List Lexeme) → SpellsExpression e.0 ls e.1 → (b : Bool) → is_sign signs.LeftParenthesis (first_form e.1) ≡ b
        → cond b (called_at x e.0 (behind e.1)) (assign_at x e.0 e.1) ≡ Some found → Assigned x found.0 ls found.1
    by e spelled true here read =
        let f = bind_some (variable_of e.0) _ found read in
        let es = bind_some (arguments_at (behind e.1)) _ found f.2 in
        let front : ls ≡ lexemes.Name f.0 ∷ opening_parenthesis ∷ behind e.1 =
        variable_spelled 0 f.0 ls e.1 (subst (λ d. SpellsExpression d ls e.1) (variable_is e.0 f.0 f.1) spelled)
        ∙ ap (λ (m : List Lexeme). lexemes.Name f.0 ∷ m) (at_sign_is signs.LeftParenthesis e.1 here) in
        in_place (Assigned x) ls (call (Some x) f.0 es.0.0) es.0.1 found es.2
        (λ all target. (ls, target, call_takes f.0 ls (behind e.1) es.0 front es.1))
    by e spelled false here read =
        let r = bind_some (sign_at signs.Semicolon e.1) _ found read in
        in_place (Assigned x) ls (assign x e.0) r.0 found r.2
        (λ all target. (ls, target, subst (SpellsExpression e.0 ls) (sign_takes signs.Semicolon e.1 r.0 r.1) spelled))

-- by the first lexeme
assigned_takes : (x : List ℕ) (ls : List Lexeme) (found : PureSimple × List Lexeme) → assigned_at x ls ≡ Some found → Assigned x found.0 ls found.1
assigned_takes x (lexemes.Word words.Input ∷ ls) found is = input_takes x ls found is
assigned_takes x (lexemes.Word words.Malloc ∷ ls) found is = malloc_takes x ls found is
assigned_takes x ls found is = given_takes x ls found is

target_takes : (x : List ℕ) (ls : List Lexeme) (found : PureSimple × List Lexeme) (front : List Lexeme)
    → ((value : List Lexeme) → ls ≡ equals ∷ value → SpellsTarget x front value) → target_at x ls ≡ Some found → SpellsSimple found.0 front found.1
target_takes x ls found front target is =
    let value = bind_some (sign_at signs.Equal ls) _ found is in
    assigned_takes x value.0 found value.2 front (target value.0 (sign_takes signs.Equal ls value.0 value.1))

-- ---- statements

name_begins : (x : List ℕ) (ls rest : List Lexeme) (found : PureSimple × List Lexeme) → ls ≡ lexemes.Name x ∷ rest → behind_name x rest ≡ Some found
    → SpellsSimple found.0 ls found.1
unfolding behind_name
name_begins x ls rest found front is = by (is_sign signs.LeftParenthesis (first_form rest)) refl is
  where
    by : (b : Bool) → is_sign signs.LeftParenthesis (first_form rest) ≡ b → cond b (call_at None x (behind rest)) (target_at x rest) ≡ Some found
        → SpellsSimple found.0 ls found.1
    by true here read =
        let es = bind_some (arguments_at (behind rest)) _ found read in
        in_place SpellsSimple ls (call None x es.0.0) es.0.1 found es.2
        (call_takes x ls (behind rest) es.0 (front ∙ ap (λ (m : List Lexeme). lexemes.Name x ∷ m) (at_sign_is signs.LeftParenthesis rest here)) es.1)
    by false here read =
        target_takes x rest found ls (λ value is'. inl (front ∙ ap (λ (m : List Lexeme). lexemes.Name x ∷ m) is')) read

store_takes : (e : PureExpression) (ls rest : List Lexeme) (found : PureSimple × List Lexeme) → SpellsExpressionAt tight e ls rest
    → store_at e rest ≡ Some found → SpellsSimple found.0 ls found.1
unfolding store_at
store_takes e ls rest found spelled is =
    let parts = bind_some (place_parts e) _ found is in
    let value = bind_some (sign_at signs.Equal rest) _ found parts.2 in
    let c = bind_some (value_at value.0) _ found value.2 in
    in_place SpellsSimple ls (store parts.0.0 parts.0.1 c.0.0) c.0.1 found c.2 (
      e,
      value.0,
      parts.1,
      subst (SpellsExpressionAt tight e ls) (sign_takes signs.Equal rest value.0 value.1) spelled,
      value_takes value.0 c.0 c.1,
    )

begun_takes : (ls : List Lexeme) (found : PureSimple × List Lexeme) → begun_at ls ≡ Some found → SpellsSimple found.0 ls found.1
begun_takes ls found is =
    let e = bind_some (expression_from tight ls) _ found is in
    by e.0.0 e.0.1 (from_takes tight (omega arith) ls e.0 e.1) e.2
  where
    by : (e : PureExpression) (rest : List Lexeme) → SpellsExpressionAt tight e ls rest → begun_by e rest ≡ Some found → SpellsSimple found.0 ls found.1
    by (variable x) rest spelled read = name_begins x ls rest found (variable_spelled tight x ls rest spelled) read
    by (constant v) rest spelled read = store_takes (constant v) ls rest found spelled read
    by (brackets e) rest spelled read = store_takes (brackets e) ls rest found spelled read
    by (prefixed u e) rest spelled read = store_takes (prefixed u e) ls rest found spelled read
    by (joined j d e) rest spelled read = store_takes (joined j d e) ls rest found spelled read
    by (skipping c d e) rest spelled read = store_takes (skipping c d e) ls rest found spelled read

pub stars_taken : (ls : List Lexeme) → (n : ℕ) × (ls ≡ stars n (behind_stars ls))
stars_taken [] = (0, refl)
stars_taken (l ∷ ls) = by (is_sign signs.Star (Some (form_of l))) refl (stars_taken ls)
  where
    by : (b : Bool) → is_sign signs.Star (Some (form_of l)) ≡ b → (n : ℕ) × (ls ≡ stars n (behind_stars ls))
        → (n : ℕ) × (l ∷ ls ≡ stars n (cond b (behind_stars ls) (l ∷ ls)))
    by true here more =
        (suc more.0, at_sign_is signs.Star (l ∷ ls) here ∙ ap (λ (m : List Lexeme). lexemes.Sign signs.Star ∷ m) more.1)
    by false here more = (0, refl)

pub declared_takes : (x : List ℕ) (ls rest : List Lexeme) → name_at (behind_stars ls) ≡ Some (x, rest) → SpellsDeclared x (lexemes.Word words.Int ∷ ls) rest
declared_takes x ls rest is =
    let front = stars_taken ls in
    (front.0, ap (λ (m : List Lexeme). lexemes.Word words.Int ∷ m) (front.1 ∙ ap (stars front.0) (name_takes (behind_stars ls) (x, rest) is)))

pub simple_takes : Takes SpellsSimple simple_at
unfolding simple_at
simple_takes (lexemes.Word words.Int ∷ ls) found is =
    let x = bind_some (name_at (behind_stars ls)) _ found is in
    target_takes x.0.0 x.0.1 found (lexemes.Word words.Int ∷ ls)
    (λ value is'. inr (declared_takes x.0.0 ls (equals ∷ value) (x.1 ∙ ap (λ (m : List Lexeme). Some (x.0.0, m)) is'))) x.2
simple_takes (lexemes.Word words.Free ∷ ls) found is =
    let e = bind_some (argument_at ls) _ found is in
    in_place SpellsSimple (lexemes.Word words.Free ∷ ls) (free e.0.0) e.0.1 found e.2 (ls, refl, argument_takes ls e.0 e.1)
simple_takes ls found is = begun_takes ls found is
