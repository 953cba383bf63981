-- With which lexemes expressions and statements of the object language begin, and which of them are apart.
use Rattle.std.proofs.Common.{◌≡◌, inl, inr, ℕ, List, ◌∷◌, Bool, true, false, Some, None, refl, ap, ◌∙◌}
use Rattle.gil_lexer.specs.declared.forms.Form.{Form}
use Rattle.gil_lexer.specs.declared.forms.Form.TheVariants as forms
use Rattle.gil_lexer.specs.declared.signs.Sign.TheVariants as signs
use Rattle.gil_lexer.specs.declared.words.Word.TheVariants as words
use Rattle.gil_lexemes.specs.declared.standing.Lexeme.{Lexeme}
use Rattle.gil_lexemes.specs.declared.standing.Lexeme.TheVariants as lexemes
use Rattle.gil_lexemes.specs.Reading.{form_of, first_form, same_sign, is_sign}
use Rattle.gil_grammar.proofs.ListLaws.{NeverBegins}
use Rattle.source_operators.specs.Operands.{Operand}
use Rattle.source_operators.specs.Pure.{joined}
use Rattle.operator_text.specs.Apart.{AreApart}
use Rattle.operator_text.specs.Grammar.{SpellsExpression as SpellsAt}
use Rattle.operator_text.specs.Signs.{tight}
use Rattle.operator_text.proofs.Beginnings.{BeginsSo, expression_begins as begins_by}
use Rattle.object_operators.specs.declared.trees.Prefix.{Prefix}
use Rattle.object_operators.specs.declared.trees.Joint.{Joint}
use Rattle.object_operators.specs.declared.trees.Joint.TheVariants.{Property}
use Rattle.object_operators.specs.Pure.{PureExpression}
use Rattle.object_lang.specs.Pure.{PureSimple, assign, input, create, proto, has, call, set, delete, set_proto, fail, throw}
use Rattle.object_grammar.specs.Reading.{given_at, assigned_by, begun_at, simple_by}
use Rattle.object_grammar.specs.Signs.{prefix, leaf, taken, object_signs}
use Rattle.object_grammar.specs.Statements.{SpellsExpression, SpellsTarget, SpellsSimple}

-- ---- which lexemes are apart

leaf_opens : (l : Lexeme) (a : Operand) → leaf l ≡ Some a → is_sign signs.LeftParenthesis (Some (form_of l)) ≡ false
leaf_opens (lexemes.Name x) a says = refl
leaf_opens (lexemes.Number n) a says = refl
leaf_opens (lexemes.Word w) a says = refl
leaf_opens (lexemes.Logical x) a says = refl
leaf_opens (lexemes.Procedure f) a says = refl
leaf_opens (lexemes.Literal t) a says = refl
leaf_opens (lexemes.Sign s) a says = absurd (cc says)

leaf_takes : (l : Lexeme) (a : Operand) → leaf l ≡ Some a → is_sign signs.Ampersand (Some (form_of l)) ≡ false
leaf_takes (lexemes.Name x) a says = refl
leaf_takes (lexemes.Number n) a says = refl
leaf_takes (lexemes.Word w) a says = refl
leaf_takes (lexemes.Logical x) a says = refl
leaf_takes (lexemes.Procedure f) a says = refl
leaf_takes (lexemes.Literal t) a says = refl
leaf_takes (lexemes.Sign s) a says = absurd (cc says)

leaf_prefix : (l : Lexeme) (a : Operand) → leaf l ≡ Some a → prefix (form_of l) ≡ None
leaf_prefix (lexemes.Name x) a says = refl
leaf_prefix (lexemes.Number n) a says = refl
leaf_prefix (lexemes.Word w) a says = refl
leaf_prefix (lexemes.Logical x) a says = refl
leaf_prefix (lexemes.Procedure f) a says = refl
leaf_prefix (lexemes.Literal t) a says = refl
leaf_prefix (lexemes.Sign s) a says = absurd (cc says)

prefix_opens : (form : Form) (u : Prefix) → prefix form ≡ Some u → is_sign signs.LeftParenthesis (Some form) ≡ false
unfolding same_sign
prefix_opens (forms.Sign signs.Minus) u says = refl
prefix_opens (forms.Sign signs.Bang) u says = refl
prefix_opens _ u says = absurd (cc says)

prefix_takes : (form : Form) (u : Prefix) → prefix form ≡ Some u → is_sign signs.Ampersand (Some form) ≡ false
unfolding same_sign
prefix_takes (forms.Sign signs.Minus) u says = refl
prefix_takes (forms.Sign signs.Bang) u says = refl
prefix_takes _ u says = absurd (cc says)

taken_once : (i j : Joint) → taken i ≡ Some j → taken j ≡ None
taken_once i j says = refl

pub object_apart : AreApart object_signs
object_apart = record {
  leaf_opens = leaf_opens;
  leaf_takes = leaf_takes;
  leaf_prefix = leaf_prefix;
  prefix_opens = prefix_opens;
  prefix_takes = prefix_takes;
  taken_once = taken_once;
}

-- ---- how expressions begin

abbrev pub begins_expression : Form → Bool
begins_expression forms.Name = true
begins_expression forms.Number = true
begins_expression forms.Text = true
begins_expression (forms.Word words.True) = true
begins_expression (forms.Word words.False) = true
begins_expression (forms.Word words.Undefined) = true
begins_expression (forms.Word words.Null) = true
begins_expression (forms.Sign signs.LeftParenthesis) = true
begins_expression (forms.Sign signs.Ampersand) = true
begins_expression (forms.Sign signs.Minus) = true
begins_expression (forms.Sign signs.Bang) = true
begins_expression _ = false

leaf_begins : (l : Lexeme) (a : Operand) → leaf l ≡ Some a → begins_expression (form_of l) ≡ true
leaf_begins (lexemes.Name x) a says = refl
leaf_begins (lexemes.Number n) a says = refl
leaf_begins (lexemes.Literal t) a says = refl
leaf_begins (lexemes.Word words.True) a says = refl
leaf_begins (lexemes.Word words.False) a says = refl
leaf_begins (lexemes.Word words.Undefined) a says = refl
leaf_begins (lexemes.Word words.Null) a says = refl
leaf_begins _ a says = absurd (cc says)

prefix_begins : (form : Form) (u : Prefix) → prefix form ≡ Some u → begins_expression form ≡ true
prefix_begins (forms.Sign signs.Minus) u says = refl
prefix_begins (forms.Sign signs.Bang) u says = refl
prefix_begins _ u says = absurd (cc says)

pub expression_begins : (e : PureExpression) (k : ℕ) (ls rest : List Lexeme) → SpellsAt object_signs k e ls rest → BeginsSo begins_expression ls
expression_begins e k ls rest h = begins_by object_signs begins_expression leaf_begins prefix_begins refl refl e k ls rest h

-- so such lexemes are given as an expression, and begin a statement of a place or a variable
given_form : (form : Form) (x : List ℕ) (ls : List Lexeme) → begins_expression form ≡ true → assigned_by (Some form) x ls ≡ given_at x ls
given_form forms.Name x ls h = refl
given_form forms.Number x ls h = refl
given_form forms.Text x ls h = refl
given_form (forms.Word words.True) x ls h = refl
given_form (forms.Word words.False) x ls h = refl
given_form (forms.Word words.Undefined) x ls h = refl
given_form (forms.Word words.Null) x ls h = refl
given_form (forms.Word _) x ls h = absurd (cc h)
given_form (forms.Sign s) x ls h = refl
given_form forms.Logical x ls h = refl
given_form forms.Procedure x ls h = refl

begun_form : (form : Form) (ls : List Lexeme) → begins_expression form ≡ true → simple_by (Some form) ls ≡ begun_at ls
begun_form forms.Name ls h = refl
begun_form forms.Number ls h = refl
begun_form forms.Text ls h = refl
begun_form (forms.Word words.True) ls h = refl
begun_form (forms.Word words.False) ls h = refl
begun_form (forms.Word words.Undefined) ls h = refl
begun_form (forms.Word words.Null) ls h = refl
begun_form (forms.Word _) ls h = absurd (cc h)
begun_form (forms.Sign s) ls h = refl
begun_form forms.Logical ls h = refl
begun_form forms.Procedure ls h = refl

pub given_so : (x : List ℕ) (ls : List Lexeme) → BeginsSo begins_expression ls → assigned_by (first_form ls) x ls ≡ given_at x ls
given_so x ls (l, more, is, begins) = ap (λ m. assigned_by (first_form m) x ls) is ∙ given_form (form_of l) x ls begins

pub begun_so : (ls : List Lexeme) → BeginsSo begins_expression ls → simple_by (first_form ls) ls ≡ begun_at ls
begun_so ls (l, more, is, begins) = ap (λ m. simple_by (first_form m) ls) is ∙ begun_form (form_of l) ls begins

-- ---- how statements begin

abbrev pub begins_simple : Form → Bool
begins_simple (forms.Word words.Let) = true
begins_simple (forms.Word words.Delete) = true
begins_simple (forms.Word words.Setproto) = true
begins_simple (forms.Word words.Fail) = true
begins_simple (forms.Word words.Throw) = true
begins_simple form = begins_expression form

simple_too : (form : Form) → begins_expression form ≡ true → begins_simple form ≡ true
simple_too forms.Name h = refl
simple_too forms.Number h = refl
simple_too forms.Text h = refl
simple_too (forms.Word words.True) h = refl
simple_too (forms.Word words.False) h = refl
simple_too (forms.Word words.Undefined) h = refl
simple_too (forms.Word words.Null) h = refl
simple_too (forms.Word _) h = absurd (cc h)
simple_too (forms.Sign s) h = h
simple_too forms.Logical h = absurd (cc h)
simple_too forms.Procedure h = absurd (cc h)

begins_too : (ls : List Lexeme) → BeginsSo begins_expression ls → BeginsSo begins_simple ls
begins_too ls (l, more, is, begins) = (l, more, is, simple_too (form_of l) begins)

target_begins : (x : List ℕ) (ls value : List Lexeme) → SpellsTarget x ls value → BeginsSo begins_simple ls
target_begins x ls value (inl is) = (lexemes.Name x, _, is, refl)
target_begins x ls value (inr is) = (lexemes.Word words.Let, _, is, refl)

pub simple_begins : (c : PureSimple) (ls rest : List Lexeme) → SpellsSimple c ls rest → BeginsSo begins_simple ls
simple_begins (assign x e) ls rest (value, target, h) = target_begins x ls value target
simple_begins (input x k) ls rest (sort, says, target) = target_begins x ls _ target
simple_begins (create x e) ls rest (value, target, h) = target_begins x ls (lexemes.Word words.Create ∷ value) target
simple_begins (proto x e) ls rest (value, target, h) = target_begins x ls (lexemes.Word words.Proto ∷ value) target
simple_begins (has x a b) ls rest (value, target, h) = target_begins x ls (lexemes.Word words.Has ∷ value) target
simple_begins (call x f es) ls rest (value, inner, target, h, i) = target_begins x ls value target
simple_begins (set a b c) ls rest (value, h, i) = begins_too ls (expression_begins (joined Property a b) tight ls _ h)
simple_begins (delete a b) ls rest (place, is, h) = (lexemes.Word words.Delete, place, is, refl)
simple_begins (set_proto a b) ls rest (pair, is, h) = (lexemes.Word words.Setproto, pair, is, refl)
simple_begins (fail e) ls rest (value, is, h) = (lexemes.Word words.Fail, value, is, refl)
simple_begins (throw e) ls rest (value, is, h) = (lexemes.Word words.Throw, value, is, refl)

-- an expression begins with no closing parenthesis
open_form : (form : Form) → begins_expression form ≡ true → is_sign signs.RightParenthesis (Some form) ≡ false
unfolding same_sign
open_form (forms.Sign signs.LeftParenthesis) h = refl
open_form (forms.Sign signs.Ampersand) h = refl
open_form (forms.Sign signs.Minus) h = refl
open_form (forms.Sign signs.Bang) h = refl
open_form (forms.Sign _) h = absurd (cc h)
open_form forms.Name h = refl
open_form forms.Number h = refl
open_form forms.Text h = refl
open_form (forms.Word w) h = refl
open_form forms.Logical h = refl
open_form forms.Procedure h = refl

pub never_closes : NeverBegins SpellsExpression signs.RightParenthesis
never_closes e ls rest h =
    let begins = expression_begins e 0 ls rest h in
    ap (λ m. is_sign signs.RightParenthesis (first_form m)) begins.2 ∙ open_form (form_of begins.0) begins.3
