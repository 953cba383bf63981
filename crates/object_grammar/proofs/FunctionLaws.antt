-- Functions of the object language are read as they are spelled.
use Rattle.std.proofs.Common.{◌≡◌, ◌⊎◌, inl, inr, ℕ, true, false, List, ◌∷◌, length, Some, refl, sym, ap, subst, ◌∙◌, arith}
use Rattle.gil_lexer.specs.declared.forms.Form.{Form}
use Rattle.gil_lexer.specs.declared.forms.Form.TheVariants as forms
use Rattle.gil_lexer.specs.declared.signs.Sign.TheVariants as signs
use Rattle.gil_lexer.specs.declared.words.Word.TheVariants as words
use Rattle.gil_lexemes.specs.declared.standing.Lexeme.{Lexeme}
use Rattle.gil_lexemes.specs.declared.standing.Lexeme.TheVariants as lexemes
use Rattle.gil_lexemes.specs.Reading.{form_of, first_form, behind, same_sign, is_sign, same_word, is_word, sign_at, name_at}
use Rattle.gil_lexemes.proofs.ReadingLaws.{bind_some, sign_takes, name_takes, at_word_is, same_sign-refl, same_word-refl}
use Rattle.gil_grammar.specs.Commands.{SpellsNames}
use Rattle.gil_grammar.specs.Reading.Commands.{names_at}
use Rattle.gil_grammar.specs.Vocabulary.{opening_parenthesis, closing_parenthesis, semicolon}
use Rattle.gil_grammar.proofs.AssertionLaws.{in_place}
use Rattle.gil_grammar.proofs.AssertionReads.{parenthesis_closes}
use Rattle.gil_grammar.proofs.CommandLaws.{names_take}
use Rattle.gil_grammar.proofs.CommandReads.{names_again}
use Rattle.gil_grammar.proofs.ListLaws.{Again, Reads, NeverBegins}
use Rattle.gil_grammar.proofs.NestingLaws.{Nested, nested_tail}
use Rattle.source_text.specs.Grammar.{HasReading}
use Rattle.operator_text.proofs.PieceReads.{expression_reads}
use Rattle.statement_text.specs.Reading.{is_shared, block_at}
use Rattle.statement_text.proofs.StatementReads.{PiecesRead, block_again}
use Rattle.statement_text.proofs.StatementTakes.{block_takes}
use Rattle.object_operators.specs.Pure.{PureExpression}
use Rattle.object_lang.specs.Pure.{PureSimple, PureFunction}
use Rattle.object_grammar.specs.Functions.{object_spellings, object_readers, SpellsFunction, function_at}
use Rattle.object_grammar.specs.Reading.{expression_at, simple_at}
use Rattle.object_grammar.specs.Signs.{object_signs}
use Rattle.object_grammar.specs.Statements.{SpellsExpression, SpellsSimple}
use Rattle.object_grammar.proofs.Beginnings.{object_apart, begins_simple, simple_begins}
use Rattle.object_grammar.proofs.NameLaws.{expression_keeps, simple_keeps}
use Rattle.object_grammar.proofs.SimpleReads.{simple_reads}
use Rattle.object_grammar.proofs.SimpleTakes.{expression_takes, simple_takes}

-- ---- expressions and statements without statements in them

before_semicolon : (e : PureExpression) (ls rest : List Lexeme) → Nested ls → SpellsExpression e ls (semicolon ∷ rest) → Reads Nested expression_at e ls (semicolon ∷ rest)
before_semicolon e ls rest p h =
    let read = expression_reads object_signs object_apart 0 e semicolon ls rest refl h in
    record { is = read.is; under = expression_keeps Nested nested_tail e ls (semicolon ∷ rest) h p; shorter = read.shorter }

before_parenthesis : (e : PureExpression) (ls rest : List Lexeme) → Nested ls → SpellsExpression e ls (closing_parenthesis ∷ rest)
    → Reads Nested expression_at e ls (closing_parenthesis ∷ rest)
before_parenthesis e ls rest p h =
    let read = expression_reads object_signs object_apart 0 e closing_parenthesis ls rest refl h in
    record { is = read.is; under = expression_keeps Nested nested_tail e ls (closing_parenthesis ∷ rest) h p; shorter = read.shorter }

expression_again : (e : PureExpression) (ls rest : List Lexeme) (l : Lexeme) → (l ≡ semicolon) ⊎ (l ≡ closing_parenthesis) → Nested ls
    → SpellsExpression e ls (l ∷ rest) → Reads Nested expression_at e ls (l ∷ rest)
expression_again e ls rest l (inl is) p h =
    subst (λ m. Reads Nested expression_at e ls (m ∷ rest)) (sym is) (before_semicolon e ls rest p (subst (λ m. SpellsExpression e ls (m ∷ rest)) is h))
expression_again e ls rest l (inr is) p h =
    subst (λ m. Reads Nested expression_at e ls (m ∷ rest)) (sym is) (before_parenthesis e ls rest p (subst (λ m. SpellsExpression e ls (m ∷ rest)) is h))

simple_again : Again Nested SpellsSimple simple_at
simple_again c ls rest p h =
    let read = simple_reads c ls rest h in
    record { is = read.is; under = simple_keeps Nested nested_tail c ls rest h p; shorter = read.shorter }

apart_form : (form : Form) → begins_simple form ≡ true → is_shared (Some form) ≡ false
apart_form forms.Name h = refl
apart_form forms.Number h = refl
apart_form forms.Text h = refl
apart_form (forms.Word words.Let) h = refl
apart_form (forms.Word words.Delete) h = refl
apart_form (forms.Word words.Setproto) h = refl
apart_form (forms.Word words.Fail) h = refl
apart_form (forms.Word words.Throw) h = refl
apart_form (forms.Word words.True) h = refl
apart_form (forms.Word words.False) h = refl
apart_form (forms.Word words.Undefined) h = refl
apart_form (forms.Word words.Null) h = refl
apart_form (forms.Word _) h = absurd (cc h)
apart_form (forms.Sign s) h = refl
apart_form forms.Logical h = refl
apart_form forms.Procedure h = refl

open_form : (form : Form) → begins_simple form ≡ true → is_sign signs.RightBrace (Some form) ≡ false
unfolding same_sign
open_form forms.Name h = refl
open_form forms.Number h = refl
open_form forms.Text h = refl
open_form (forms.Word w) h = refl
open_form (forms.Sign signs.LeftParenthesis) h = refl
open_form (forms.Sign signs.Ampersand) h = refl
open_form (forms.Sign signs.Minus) h = refl
open_form (forms.Sign signs.Bang) h = refl
open_form (forms.Sign _) h = absurd (cc h)
open_form forms.Logical h = refl
open_form forms.Procedure h = refl

simple_apart : (c : PureSimple) (ls rest : List Lexeme) → SpellsSimple c ls rest → is_shared (first_form ls) ≡ false
simple_apart c ls rest h =
    let begins = simple_begins c ls rest h in
    ap (λ m. is_shared (first_form m)) begins.2 ∙ apart_form (form_of begins.0) begins.3

simple_never : NeverBegins SpellsSimple signs.RightBrace
simple_never c ls rest h =
    let begins = simple_begins c ls rest h in
    ap (λ m. is_sign signs.RightBrace (first_form m)) begins.2 ∙ open_form (form_of begins.0) begins.3

pub pieces_read : PiecesRead object_spellings object_readers
pieces_read = record {
  same_try = refl;
  expression_takes = expression_takes;
  expression_again = expression_again;
  simple_takes = simple_takes;
  simple_again = simple_again;
  simple_apart = simple_apart;
  simple_never = simple_never;
}

-- ---- functions

function_takes : (place : ℕ → ℕ) (ls : List Lexeme) (found : PureFunction × List Lexeme) → function_at place (lexemes.Word words.Function ∷ ls) ≡ Some found
    → SpellsFunction place found.0 (lexemes.Word words.Function ∷ ls) found.1
unfolding function_at
function_takes place ls found e =
    let x = bind_some (name_at ls) _ found e in
    let a = bind_some (sign_at signs.LeftParenthesis x.0.1) _ found x.2 in
    let xs = bind_some (names_at signs.RightParenthesis a.0) _ found a.2 in
    let b = bind_some (sign_at signs.RightParenthesis xs.0.1) _ found xs.2 in
    let body = bind_some (block_at object_readers place (length b.0) b.0) _ found b.2 in
    let head : ls ≡ lexemes.Name x.0.0 ∷ opening_parenthesis ∷ a.0 =
    name_takes ls x.0 x.1 ∙ ap (λ (l : List Lexeme). lexemes.Name x.0.0 ∷ l) (sign_takes signs.LeftParenthesis x.0.1 a.0 a.1) in
    in_place (SpellsFunction place) _
    (record { name = x.0.0; params = xs.0.0; body = body.0.0; at = place (length (lexemes.Word words.Function ∷ ls)) }) body.0.1 found body.2 (
      a.0,
      b.0,
      refl,
      ap (λ (l : List Lexeme). lexemes.Word words.Function ∷ l) head,
      subst (SpellsNames xs.0.0 a.0) (sign_takes signs.RightParenthesis xs.0.1 b.0 b.1) (names_take signs.RightParenthesis a.0 xs.0 xs.1),
      block_takes object_spellings object_readers refl expression_takes simple_takes place (length b.0) b.0 body.0 body.1,
    )

three_tails : (k l m : Lexeme) (ls : List Lexeme) → Nested (k ∷ l ∷ m ∷ ls) → Nested ls
three_tails k l m ls p = nested_tail m ls (nested_tail l (m ∷ ls) (nested_tail k (l ∷ m ∷ ls) p))

function_again : (place : ℕ → ℕ) (f : PureFunction) (ls rest : List Lexeme) → Nested ls → SpellsFunction place f ls rest → Reads Nested (function_at place) f ls rest
unfolding function_at
function_again place f ls rest p (params, body, at, is, a, b) =
    let xs = names_again signs.RightParenthesis parenthesis_closes f.params params body (three_tails _ _ _ params (subst Nested is p)) a in
    let read = block_again object_spellings object_readers pieces_read place (length body) f.body body rest
    (record { nested = nested_tail closing_parenthesis body xs.under; within = omega arith }) b in
    let begins_at = at ∙ ap (λ (l : List Lexeme). place (length l)) is in
    record {
      is = rw (is, same_sign-refl signs.LeftParenthesis, xs.is, same_sign-refl signs.RightParenthesis, read.is)
          (ap (λ k. Some (record { name = f.name; params = f.params; body = f.body; at = k }, rest)) (sym begins_at));
      under = read.under.nested;
      shorter = omega (arith, ap length is, xs.shorter, read.shorter);
    }

no_spec : same_word words.Spec words.Function ≡ false
unfolding same_word
no_spec = refl

no_pred : same_word words.Pred words.Function ≡ false
unfolding same_word
no_pred = refl

no_throw : same_word words.Function words.Throw ≡ false
unfolding same_word
no_throw = refl

pub functions_read : HasReading words.Function SpellsFunction function_at
functions_read = record {
  no_spec = no_spec;
  no_pred = no_pred;
  no_throw = no_throw;
  begins = λ place f ls rest h. ap (λ (l : List Lexeme). is_word words.Function (first_form l)) (h.3) ∙ same_word-refl words.Function;
  takes = λ place ls found test e.
      let is = at_word_is words.Function ls test in
      subst (λ (l : List Lexeme). SpellsFunction place found.0 l found.1) (sym is)
      (function_takes place (behind ls) found (sym (ap (function_at place) is) ∙ e));
  again = λ place f ls rest count nested h.
      let read = function_again place f ls rest (record { count = count; nested = nested }) h in
      (read.is, (read.under.count, read.under.nested), read.shorter);
}
