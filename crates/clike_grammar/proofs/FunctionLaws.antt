-- Functions of the C-like language are read as they are spelled.
use Rattle.std.proofs.Common.{◌≡◌, ◌⊎◌, inl, inr, ◌<◌, ℕ, Bool, true, false, cond, List, ◌∷◌, length, Some, None, refl, sym, ap, subst, ◌∙◌, arith}
use Rattle.gil_lexer.specs.declared.forms.Form.{Form}
use Rattle.gil_lexer.specs.declared.forms.Form.TheVariants as forms
use Rattle.gil_lexer.specs.declared.signs.Sign.TheVariants as signs
use Rattle.gil_lexer.specs.declared.words.Word.TheVariants as words
use Rattle.gil_lexemes.specs.declared.standing.Lexeme.{Lexeme}
use Rattle.gil_lexemes.specs.declared.standing.Lexeme.TheVariants as lexemes
use Rattle.gil_lexemes.specs.Reading.{◌>>=◌, form_of, first_form, behind, same_sign, is_sign, same_word, is_word, sign_at, word_at, name_at}
use Rattle.gil_lexemes.proofs.ReadingLaws.{bind_some, sign_takes, at_word_is, same_sign-refl, same_word-refl}
use Rattle.gil_grammar.specs.Lists.{SpellsSeparated}
use Rattle.gil_grammar.specs.Vocabulary.{opening_parenthesis, closing_parenthesis, comma, semicolon}
use Rattle.gil_grammar.proofs.AssertionLaws.{in_place}
use Rattle.gil_grammar.proofs.ListLaws.{Takes, Again, Reads, NeverBegins, separated_takes, separated_again}
use Rattle.gil_grammar.proofs.NestingLaws.{Nested, nested_tail}
use Rattle.source_text.specs.Grammar.{HasReading}
use Rattle.statement_text.specs.Reading.{is_shared, block_at}
use Rattle.statement_text.proofs.StatementReads.{PiecesRead, block_again}
use Rattle.statement_text.proofs.StatementTakes.{block_takes}
use Rattle.clike_operators.specs.Pure.{PureExpression}
use Rattle.clike_lang.specs.Pure.{PureSimple, PureFunction}
use Rattle.clike_grammar.specs.Functions.{clike_spellings, clike_readers, SpellsFunction, param_at, params_at, function_at}
use Rattle.clike_grammar.specs.Reading.{expression_at, simple_at, declared_name_at}
use Rattle.clike_grammar.specs.Statements.{SpellsExpression, stars, SpellsDeclared, SpellsSimple}
use Rattle.clike_grammar.proofs.Beginnings.{begins_simple, simple_begins}
use Rattle.clike_grammar.proofs.Rests.{expression_keeps, simple_keeps, declared_keeps}
use Rattle.clike_grammar.proofs.SimpleReads.{expression_reads, simple_reads, past_stars, stars_length}
use Rattle.clike_grammar.proofs.SimpleTakes.{expression_takes, declared_takes, simple_takes}

-- ---- expressions and statements without statements in them

expression_again : (e : PureExpression) (ls rest : List Lexeme) (l : Lexeme) → (l ≡ semicolon) ⊎ (l ≡ closing_parenthesis) → Nested ls
    → SpellsExpression e ls (l ∷ rest) → Reads Nested expression_at e ls (l ∷ rest)
expression_again e ls rest l (inl is) p h =
    let read = expression_reads 0 e semicolon ls rest refl (subst (λ m. SpellsExpression e ls (m ∷ rest)) is h) in
    subst (λ m. Reads Nested expression_at e ls (m ∷ rest)) (sym is)
    (record { is = read.is; under = subst (λ m. Nested (m ∷ rest)) is (expression_keeps Nested nested_tail e 0 ls (l ∷ rest) h p); shorter = read.shorter })
expression_again e ls rest l (inr is) p h =
    let read = expression_reads 0 e closing_parenthesis ls rest refl (subst (λ m. SpellsExpression e ls (m ∷ rest)) is h) in
    subst (λ m. Reads Nested expression_at e ls (m ∷ rest)) (sym is)
    (record { is = read.is; under = subst (λ m. Nested (m ∷ rest)) is (expression_keeps Nested nested_tail e 0 ls (l ∷ rest) h p); shorter = read.shorter })

simple_again : Again Nested SpellsSimple simple_at
simple_again c ls rest p h =
    let read = simple_reads c ls rest h in
    record { is = read.is; under = simple_keeps Nested nested_tail c ls rest h p; shorter = read.shorter }

apart_form : (form : Form) → begins_simple form ≡ true → is_shared (Some form) ≡ false
apart_form forms.Name h = refl
apart_form forms.Number h = refl
apart_form (forms.Word words.Int) h = refl
apart_form (forms.Word words.Free) h = refl
apart_form (forms.Word words.NullPointer) h = refl
apart_form (forms.Word _) h = absurd (cc h)
apart_form (forms.Sign s) h = refl
apart_form forms.Logical h = refl
apart_form forms.Procedure h = refl
apart_form forms.Text h = refl

open_form : (form : Form) → begins_simple form ≡ true → is_sign signs.RightBrace (Some form) ≡ false
unfolding same_sign
open_form forms.Name h = refl
open_form forms.Number h = refl
open_form (forms.Word w) h = refl
open_form (forms.Sign signs.LeftParenthesis) h = refl
open_form (forms.Sign signs.Ampersand) h = refl
open_form (forms.Sign signs.Minus) h = refl
open_form (forms.Sign signs.Bang) h = refl
open_form (forms.Sign signs.Star) h = refl
open_form (forms.Sign _) h = absurd (cc h)
open_form forms.Logical h = refl
open_form forms.Procedure h = refl
open_form forms.Text h = refl

simple_apart : (c : PureSimple) (ls rest : List Lexeme) → SpellsSimple c ls rest → is_shared (first_form ls) ≡ false
simple_apart c ls rest h =
    let begins = simple_begins c ls rest h in
    ap (λ m. is_shared (first_form m)) begins.2 ∙ apart_form (form_of begins.0) begins.3

simple_never : NeverBegins SpellsSimple signs.RightBrace
simple_never c ls rest h =
    let begins = simple_begins c ls rest h in
    ap (λ m. is_sign signs.RightBrace (first_form m)) begins.2 ∙ open_form (form_of begins.0) begins.3

pub pieces_read : PiecesRead clike_spellings clike_readers
pieces_read = record {
  same_try = refl;
  expression_takes = expression_takes;
  expression_again = expression_again;
  simple_takes = simple_takes;
  simple_again = simple_again;
  simple_apart = simple_apart;
  simple_never = simple_never;
}

-- ---- names behind `int`

declared_reads : (x : List ℕ) (ls rest : List Lexeme) → SpellsDeclared x ls rest → (declared_name_at (behind ls) ≡ Some (x, rest)) × (length rest < length ls)
declared_reads x ls rest (n, is) = (
  ap (λ m. declared_name_at (behind m)) is ∙ ap name_at (past_stars n x rest),
  omega (arith, ap length is, stars_length n (lexemes.Name x ∷ rest)),
)

at_int : (x : List ℕ) (ls rest : List Lexeme) → SpellsDeclared x ls rest → word_at words.Int ls ≡ Some (behind ls)
at_int x ls rest (n, is) = ap (word_at words.Int) is ∙ int_first n ∙ ap (λ m. Some (behind m)) (sym is)
  where
    int_first : (n : ℕ) → word_at words.Int (lexemes.Word words.Int ∷ stars n (lexemes.Name x ∷ rest)) ≡ Some (stars n (lexemes.Name x ∷ rest))
    int_first n = rw (same_word-refl words.Int) refl

param_again : Again Nested SpellsDeclared param_at
unfolding param_at
param_again x ls rest p h =
    let read = declared_reads x ls rest h in
    record {
      is = ap (λ o. o >>= λ m. declared_name_at m) (at_int x ls rest h) ∙ read.0;
      under = declared_keeps Nested nested_tail x ls rest h p;
      shorter = read.1;
    }

param_never : NeverBegins SpellsDeclared signs.RightParenthesis
param_never x ls rest (n, is) = ap (λ m. is_sign signs.RightParenthesis (first_form m)) is

declared_spelled : (x : List ℕ) (ls rest : List Lexeme) → ls ≡ lexemes.Word words.Int ∷ behind ls → declared_name_at (behind ls) ≡ Some (x, rest)
    → SpellsDeclared x ls rest
declared_spelled x ls rest is read = subst (λ m. SpellsDeclared x m rest) (sym is) (declared_takes x (behind ls) rest read)

word_first : (ls more : List Lexeme) → word_at words.Int ls ≡ Some more → (ls ≡ lexemes.Word words.Int ∷ behind ls) × (more ≡ behind ls)
word_first ls more is = by (is_word words.Int (first_form ls)) refl is
  where
    by : (b : Bool) → is_word words.Int (first_form ls) ≡ b → cond b (Some (behind ls)) None ≡ Some more
        → (ls ≡ lexemes.Word words.Int ∷ behind ls) × (more ≡ behind ls)
    by true here read = (at_word_is words.Int ls here, cc read)
    by false here read = absurd (cc read)

param_takes : Takes SpellsDeclared param_at
unfolding param_at
param_takes ls found is =
    let w = bind_some (word_at words.Int ls) _ found is in
    let front = word_first ls w.0 w.1 in
    declared_spelled found.0 ls found.1 front.0 (sym (ap declared_name_at front.1) ∙ w.2)

-- ---- functions

function_takes : (place : ℕ → ℕ) (ls : List Lexeme) (found : PureFunction × List Lexeme) → ls ≡ lexemes.Word words.Int ∷ behind ls
    → function_at place ls ≡ Some found → SpellsFunction place found.0 ls found.1
unfolding function_at
function_takes place ls found int e =
    let x = bind_some (declared_name_at (behind ls)) _ found e in
    let a = bind_some (sign_at signs.LeftParenthesis x.0.1) _ found x.2 in
    let xs = bind_some (params_at a.0) _ found a.2 in
    let b = bind_some (sign_at signs.RightParenthesis xs.0.1) _ found xs.2 in
    let body = bind_some (block_at clike_readers place (length b.0) b.0) _ found b.2 in
    in_place (SpellsFunction place) ls (record { name = x.0.0; params = xs.0.0; body = body.0.0; at = place (length ls) }) body.0.1 found body.2 (
      a.0,
      b.0,
      refl,
      declared_spelled x.0.0 ls (opening_parenthesis ∷ a.0) int (x.1 ∙ ap (λ m. Some (x.0.0, m)) (sign_takes signs.LeftParenthesis x.0.1 a.0 a.1)),
      subst (SpellsSeparated SpellsDeclared comma xs.0.0 a.0) (sign_takes signs.RightParenthesis xs.0.1 b.0 b.1)
          (separated_takes SpellsDeclared param_at param_takes signs.RightParenthesis signs.Comma a.0 xs.0 xs.1),
      block_takes clike_spellings clike_readers refl expression_takes simple_takes place (length b.0) b.0 body.0 body.1,
    )

no_comma : same_sign signs.RightParenthesis signs.Comma ≡ false
unfolding same_sign
no_comma = refl

function_again : (place : ℕ → ℕ) (f : PureFunction) (ls rest : List Lexeme) → Nested ls → SpellsFunction place f ls rest
    → Reads Nested (function_at place) f ls rest
unfolding function_at
function_again place f ls rest p (params, body, at, h, a, b) =
    let head = declared_reads f.name ls (opening_parenthesis ∷ params) h in
    let under = nested_tail opening_parenthesis params (declared_keeps Nested nested_tail f.name ls (opening_parenthesis ∷ params) h p) in
    let xs = separated_again Nested nested_tail SpellsDeclared param_at param_again signs.RightParenthesis signs.Comma param_never f.params params
    (closing_parenthesis ∷ body) under a (same_sign-refl signs.RightParenthesis) no_comma in
    let read = block_again clike_spellings clike_readers pieces_read place (length body) f.body body rest
    (record { nested = nested_tail closing_parenthesis body xs.under; within = omega arith }) b in
    record {
      is = rw (head.0, same_sign-refl signs.LeftParenthesis, xs.is, same_sign-refl signs.RightParenthesis, read.is)
          (ap (λ k. Some (record { name = f.name; params = f.params; body = f.body; at = k }, rest)) (sym at));
      under = read.under.nested;
      shorter = omega (arith, head.1, xs.shorter, read.shorter);
    }

no_spec : same_word words.Spec words.Int ≡ false
unfolding same_word
no_spec = refl

no_pred : same_word words.Pred words.Int ≡ false
unfolding same_word
no_pred = refl

no_throw : same_word words.Int words.Throw ≡ false
unfolding same_word
no_throw = refl

pub functions_read : HasReading words.Int SpellsFunction function_at
functions_read = record {
  no_spec = no_spec;
  no_pred = no_pred;
  no_throw = no_throw;
  begins = λ place f ls rest h. ap (λ (l : List Lexeme). is_word words.Int (first_form l)) (h.3.1) ∙ same_word-refl words.Int;
  takes = λ place ls found test e. function_takes place ls found (at_word_is words.Int ls test) e;
  again = λ place f ls rest count nested h.
      let read = function_again place f ls rest (record { count = count; nested = nested }) h in
      (read.is, (read.under.count, read.under.nested), read.shorter);
}
