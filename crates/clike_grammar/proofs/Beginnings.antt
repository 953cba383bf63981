-- With which lexemes C-like expressions and statements begin, and which of them are apart.
use Rattle.std.proofs.Common.{◌≡◌, inl, inr, ℕ, List, ◌∷◌, Bool, true, false, Some, None, refl, sym, ap, ◌∙◌}
use Rattle.gil_lexer.specs.declared.forms.Form.{Form}
use Rattle.gil_lexer.specs.declared.forms.Form.TheVariants as forms
use Rattle.gil_lexer.specs.declared.signs.Sign.TheVariants as signs
use Rattle.gil_lexer.specs.declared.words.Word.TheVariants as words
use Rattle.gil_lexemes.specs.declared.standing.Lexeme.{Lexeme}
use Rattle.gil_lexemes.specs.declared.standing.Lexeme.TheVariants as lexemes
use Rattle.gil_lexemes.specs.Reading.{form_of, first_form, same_sign, is_sign}
use Rattle.gil_grammar.specs.Vocabulary.{opening_parenthesis}
use Rattle.gil_grammar.proofs.ListLaws.{NeverBegins}
use Rattle.source_operators.specs.Operands.{Operand}
use Rattle.operator_text.specs.Apart.{AreApart}
use Rattle.operator_text.proofs.Beginnings.{BeginsSo, expression_begins as begins_by}
use Rattle.clike_operators.specs.declared.trees.Prefix.{Prefix}
use Rattle.clike_operators.specs.declared.trees.Joint.{Joint}
use Rattle.clike_operators.specs.declared.trees.Joint.TheVariants.{Operation, Cell, Address}
use Rattle.clike_operators.specs.Pure.{PureExpression}
use Rattle.clike_lang.specs.Pure.{PureSimple, assign, input, malloc, call, free, store}
use Rattle.clike_grammar.specs.Reading.{given_at, assigned_by, begun_at, simple_by}
use Rattle.clike_grammar.specs.Signs.{prefix, leaf, taken, clike_signs}
use Rattle.clike_grammar.specs.Statements.{SpellsExpressionAt, SpellsExpression, SpellsTarget, SpellsSimple}

-- ---- which lexemes are apart

leaf_opens : (l : Lexeme) (a : Operand) → leaf l ≡ Some a → is_sign signs.LeftParenthesis (Some (form_of l)) ≡ false
leaf_opens (lexemes.Name x) a says = refl
leaf_opens (lexemes.Number n) a says = refl
leaf_opens (lexemes.Word w) a says = refl
leaf_opens (lexemes.Logical x) a says = refl
leaf_opens (lexemes.Procedure f) a says = refl
leaf_opens (lexemes.Literal t) a says = refl
leaf_opens (lexemes.Sign s) a says = absurd (cc says)

leaf_takes : (l : Lexeme) (a : Operand) → leaf l ≡ Some a → is_sign signs.Ampersand (Some (form_of l)) ≡ false
leaf_takes (lexemes.Name x) a says = refl
leaf_takes (lexemes.Number n) a says = refl
leaf_takes (lexemes.Word w) a says = refl
leaf_takes (lexemes.Logical x) a says = refl
leaf_takes (lexemes.Procedure f) a says = refl
leaf_takes (lexemes.Literal t) a says = refl
leaf_takes (lexemes.Sign s) a says = absurd (cc says)

leaf_prefix : (l : Lexeme) (a : Operand) → leaf l ≡ Some a → prefix (form_of l) ≡ None
leaf_prefix (lexemes.Name x) a says = refl
leaf_prefix (lexemes.Number n) a says = refl
leaf_prefix (lexemes.Word w) a says = refl
leaf_prefix (lexemes.Logical x) a says = refl
leaf_prefix (lexemes.Procedure f) a says = refl
leaf_prefix (lexemes.Literal t) a says = refl
leaf_prefix (lexemes.Sign s) a says = absurd (cc says)

prefix_opens : (form : Form) (u : Prefix) → prefix form ≡ Some u → is_sign signs.LeftParenthesis (Some form) ≡ false
unfolding same_sign
prefix_opens (forms.Sign signs.Minus) u says = refl
prefix_opens (forms.Sign signs.Bang) u says = refl
prefix_opens (forms.Sign signs.Star) u says = refl
prefix_opens _ u says = absurd (cc says)

prefix_takes : (form : Form) (u : Prefix) → prefix form ≡ Some u → is_sign signs.Ampersand (Some form) ≡ false
unfolding same_sign
prefix_takes (forms.Sign signs.Minus) u says = refl
prefix_takes (forms.Sign signs.Bang) u says = refl
prefix_takes (forms.Sign signs.Star) u says = refl
prefix_takes _ u says = absurd (cc says)

taken_once : (i j : Joint) → taken i ≡ Some j → taken j ≡ None
taken_once Cell j says = let same : Address ≡ j = cc says in ap taken (sym same)
taken_once Address j says = absurd (cc says)
taken_once (Operation op) j says = absurd (cc says)

pub clike_apart : AreApart clike_signs
clike_apart = record {
  leaf_opens = leaf_opens;
  leaf_takes = leaf_takes;
  leaf_prefix = leaf_prefix;
  prefix_opens = prefix_opens;
  prefix_takes = prefix_takes;
  taken_once = taken_once;
}

-- ---- how expressions begin

abbrev pub begins_expression : Form → Bool
begins_expression forms.Name = true
begins_expression forms.Number = true
begins_expression (forms.Word words.NullPointer) = true
begins_expression (forms.Sign signs.LeftParenthesis) = true
begins_expression (forms.Sign signs.Ampersand) = true
begins_expression (forms.Sign signs.Minus) = true
begins_expression (forms.Sign signs.Bang) = true
begins_expression (forms.Sign signs.Star) = true
begins_expression _ = false

leaf_begins : (l : Lexeme) (a : Operand) → leaf l ≡ Some a → begins_expression (form_of l) ≡ true
leaf_begins (lexemes.Name x) a says = refl
leaf_begins (lexemes.Number n) a says = refl
leaf_begins (lexemes.Word words.NullPointer) a says = refl
leaf_begins _ a says = absurd (cc says)

prefix_begins : (form : Form) (u : Prefix) → prefix form ≡ Some u → begins_expression form ≡ true
prefix_begins (forms.Sign signs.Minus) u says = refl
prefix_begins (forms.Sign signs.Bang) u says = refl
prefix_begins (forms.Sign signs.Star) u says = refl
prefix_begins _ u says = absurd (cc says)

pub expression_begins : (e : PureExpression) (k : ℕ) (ls rest : List Lexeme) → SpellsExpressionAt k e ls rest → BeginsSo begins_expression ls
expression_begins e k ls rest h = begins_by clike_signs begins_expression leaf_begins prefix_begins refl refl e k ls rest h

-- so such lexemes are given as an expression, and begin a statement of an expression
given_form : (form : Form) (x : List ℕ) (ls : List Lexeme) → begins_expression form ≡ true → assigned_by (Some form) x ls ≡ given_at x ls
given_form forms.Name x ls h = refl
given_form forms.Number x ls h = refl
given_form (forms.Word words.NullPointer) x ls h = refl
given_form (forms.Word _) x ls h = absurd (cc h)
given_form (forms.Sign s) x ls h = refl
given_form forms.Logical x ls h = refl
given_form forms.Procedure x ls h = refl
given_form forms.Text x ls h = refl

begun_form : (form : Form) (ls : List Lexeme) → begins_expression form ≡ true → simple_by (Some form) ls ≡ begun_at ls
begun_form forms.Name ls h = refl
begun_form forms.Number ls h = refl
begun_form (forms.Word words.NullPointer) ls h = refl
begun_form (forms.Word _) ls h = absurd (cc h)
begun_form (forms.Sign s) ls h = refl
begun_form forms.Logical ls h = refl
begun_form forms.Procedure ls h = refl
begun_form forms.Text ls h = refl

pub given_so : (x : List ℕ) (ls : List Lexeme) → BeginsSo begins_expression ls → assigned_by (first_form ls) x ls ≡ given_at x ls
given_so x ls (l, more, is, begins) =
    ap (λ m. assigned_by (first_form m) x ls) is ∙ given_form (form_of l) x ls begins

pub begun_so : (ls : List Lexeme) → BeginsSo begins_expression ls → simple_by (first_form ls) ls ≡ begun_at ls
begun_so ls (l, more, is, begins) = ap (λ m. simple_by (first_form m) ls) is ∙ begun_form (form_of l) ls begins

-- ---- how statements begin

abbrev pub begins_simple : Form → Bool
begins_simple (forms.Word words.Int) = true
begins_simple (forms.Word words.Free) = true
begins_simple form = begins_expression form

simple_too : (form : Form) → begins_expression form ≡ true → begins_simple form ≡ true
simple_too forms.Name h = refl
simple_too forms.Number h = refl
simple_too (forms.Word words.NullPointer) h = refl
simple_too (forms.Word _) h = absurd (cc h)
simple_too (forms.Sign s) h = h
simple_too forms.Logical h = absurd (cc h)
simple_too forms.Procedure h = absurd (cc h)
simple_too forms.Text h = absurd (cc h)

begins_too : (ls : List Lexeme) → BeginsSo begins_expression ls → BeginsSo begins_simple ls
begins_too ls (l, more, is, begins) = (l, more, is, simple_too (form_of l) begins)

target_begins : (x : List ℕ) (ls value : List Lexeme) → SpellsTarget x ls value → BeginsSo begins_simple ls
target_begins x ls value (inl is) = (lexemes.Name x, _, is, refl)
target_begins x ls value (inr (n, is)) = (lexemes.Word words.Int, _, is, refl)

pub simple_begins : (c : PureSimple) (ls rest : List Lexeme) → SpellsSimple c ls rest → BeginsSo begins_simple ls
simple_begins (assign x e) ls rest (value, target, h) = target_begins x ls value target
simple_begins (input x) ls rest target = target_begins x ls _ target
simple_begins (malloc x e) ls rest (value, target, h) = target_begins x ls (lexemes.Word words.Malloc ∷ value) target
simple_begins (call (Some x) f es) ls rest (value, target, h) = target_begins x ls value target
simple_begins (call None f es) ls rest (inner, is, h) = (lexemes.Name f, opening_parenthesis ∷ inner, is, refl)
simple_begins (free e) ls rest (value, is, h) = (lexemes.Word words.Free, value, is, refl)
simple_begins (store a b c) ls rest (place, value, parts, h, k) = begins_too ls (expression_begins place _ ls _ h)

-- an expression begins with no closing parenthesis
open_form : (form : Form) → begins_expression form ≡ true → is_sign signs.RightParenthesis (Some form) ≡ false
unfolding same_sign
open_form (forms.Sign signs.LeftParenthesis) h = refl
open_form (forms.Sign signs.Ampersand) h = refl
open_form (forms.Sign signs.Minus) h = refl
open_form (forms.Sign signs.Bang) h = refl
open_form (forms.Sign signs.Star) h = refl
open_form (forms.Sign _) h = absurd (cc h)
open_form forms.Name h = refl
open_form forms.Number h = refl
open_form (forms.Word w) h = refl
open_form forms.Logical h = refl
open_form forms.Procedure h = refl
open_form forms.Text h = refl

pub never_closes : NeverBegins SpellsExpression signs.RightParenthesis
never_closes e ls rest h =
    let begins = expression_begins e 0 ls rest h in
    ap (λ m. is_sign signs.RightParenthesis (first_form m)) begins.2 ∙ open_form (form_of begins.0) begins.3
