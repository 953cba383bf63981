-- Reading the statements of the object language without statements in them, as functions: what the functions of a reader answer.
use Rattle.std.specs.Prelude.{ℕ, true, false, List, Option, Some, None, if◌then◌else◌}
use Rattle.gil_values.specs.declared.kinds.Kind.TheVariants.{Undef, Null}
use Rattle.gil_values.specs.Pure.{PureValue, integer, boolean, text, kind}
use Rattle.gil_lexer.specs.declared.forms.Form.{Form}
use Rattle.gil_lexer.specs.declared.forms.Form.TheVariants as forms
use Rattle.gil_lexer.specs.declared.signs.Sign.TheVariants.{LeftParenthesis, Semicolon, Equal}
use Rattle.gil_lexer.specs.declared.words.Word.TheVariants as words
use Rattle.gil_lexemes.specs.declared.standing.Lexeme.{Lexeme}
use Rattle.gil_lexemes.specs.Reading.{Reading, ◌>>=◌, first_form, behind, is_sign, sign_at, name_at, number_at, characters_at}
use Rattle.gil_grammar.specs.Reading.Vocabulary.{word_of, input_of_word}
use Rattle.source_operators.specs.Pure.{constant, variable, joined}
use Rattle.operator_text.specs.PieceReading as pieces
use Rattle.operator_text.specs.Signs.{tight}
use Rattle.object_operators.specs.declared.trees.Joint.TheVariants.{Property}
use Rattle.object_operators.specs.Pure.{PureExpression}
use Rattle.object_lang.specs.Pure.{PureSimple, assign, input, create, proto, has, call, set, delete, set_proto, fail, throw}
use Rattle.object_grammar.specs.Signs.{object_signs}

-- ---- what stands by itself

abbrev pub variable_leaf : List Lexeme → Reading PureExpression
variable_leaf ls = name_at ls >>= λ x. Some (variable x.0, x.1)

abbrev pub number_leaf : List Lexeme → Reading PureExpression
number_leaf ls = number_at ls >>= λ n. Some (constant (integer n.0), n.1)

abbrev pub text_leaf : List Lexeme → Reading PureExpression
text_leaf ls = characters_at ls >>= λ t. Some (constant (text t.0), t.1)

abbrev pub constant_leaf : PureValue → List Lexeme → Reading PureExpression
constant_leaf v ls = Some (constant v, behind ls)

abbrev pub leaf_by : Option Form → List Lexeme → Reading PureExpression
leaf_by (Some forms.Name) ls = variable_leaf ls
leaf_by (Some forms.Number) ls = number_leaf ls
leaf_by (Some forms.Text) ls = text_leaf ls
leaf_by (Some (forms.Word words.True)) ls = constant_leaf (boolean true) ls
leaf_by (Some (forms.Word words.False)) ls = constant_leaf (boolean false) ls
leaf_by (Some (forms.Word words.Undefined)) ls = constant_leaf (kind Undef) ls
leaf_by (Some (forms.Word words.Null)) ls = constant_leaf (kind Null) ls
leaf_by _ ls = None

abbrev pub leaf_at : List Lexeme → Reading PureExpression
leaf_at ls = leaf_by (first_form ls) ls

-- ---- expressions and what they stand in

abbrev pub expression_at : List Lexeme → Reading PureExpression
expression_at ls = pieces.whole_at object_signs ls

abbrev pub value_at : List Lexeme → Reading PureExpression
value_at ls = pieces.value_at object_signs ls

abbrev pub argument_at : List Lexeme → Reading PureExpression
argument_at ls = pieces.argument_at object_signs ls

abbrev pub pair_at : List Lexeme → Reading (PureExpression × PureExpression)
pair_at ls = pieces.pair_at object_signs ls

abbrev pub arguments_at : List Lexeme → Reading (List PureExpression)
arguments_at ls = pieces.arguments_at object_signs ls

-- ---- what is assigned

-- sort;   behind `input`
unfoldable pub input_at : List ℕ → List Lexeme → Reading PureSimple
input_at x ls = do
  word ← word_of (first_form ls)
  k ← input_of_word word
  rest ← sign_at Semicolon (behind ls)
  Some (input x k, rest)

abbrev pub create_at : List ℕ → List Lexeme → Reading PureSimple
create_at x ls = argument_at ls >>= λ e. Some (create x e.0, e.1)

abbrev pub proto_at : List ℕ → List Lexeme → Reading PureSimple
proto_at x ls = argument_at ls >>= λ e. Some (proto x e.0, e.1)

abbrev pub has_at : List ℕ → List Lexeme → Reading PureSimple
has_at x ls = pair_at ls >>= λ p. Some (has x p.0.0 p.0.1, p.1)

-- e, ..);   behind the callee and `(`
abbrev pub call_at : List ℕ → PureExpression → List Lexeme → Reading PureSimple
call_at x f ls = arguments_at ls >>= λ es. Some (call x f es.0, es.1)

abbrev pub assign_at : List ℕ → PureExpression → List Lexeme → Reading PureSimple
assign_at x e ls = sign_at Semicolon ls >>= λ rest. Some (assign x e, rest)

-- behind an expression, which is assigned to x or called
unfoldable pub behind_value : List ℕ → PureExpression → List Lexeme → Reading PureSimple
behind_value x e ls = if is_sign LeftParenthesis (first_form ls) then call_at x e (behind ls) else assign_at x e ls

abbrev pub given_at : List ℕ → List Lexeme → Reading PureSimple
given_at x ls = expression_at ls >>= λ e. behind_value x e.0 e.1

-- what is assigned to x, behind `=`
abbrev pub assigned_by : Option Form → List ℕ → List Lexeme → Reading PureSimple
assigned_by (Some (forms.Word words.Input)) x ls = input_at x (behind ls)
assigned_by (Some (forms.Word words.Create)) x ls = create_at x (behind ls)
assigned_by (Some (forms.Word words.Proto)) x ls = proto_at x (behind ls)
assigned_by (Some (forms.Word words.Has)) x ls = has_at x (behind ls)
assigned_by _ x ls = given_at x ls

abbrev pub assigned_at : List ℕ → List Lexeme → Reading PureSimple
assigned_at x ls = assigned_by (first_form ls) x ls

abbrev pub target_at : List ℕ → List Lexeme → Reading PureSimple
target_at x ls = sign_at Equal ls >>= λ value. assigned_at x value

-- ---- places

-- the object and the property of a place
abbrev pub place_parts : PureExpression → Option (PureExpression × PureExpression)
place_parts (joined Property a b) = Some (a, b)
place_parts _ = None

abbrev pub place_at : List Lexeme → Reading PureExpression
place_at ls = pieces.expression_from object_signs tight ls

-- behind a place
unfoldable pub set_at : PureExpression → List Lexeme → Reading PureSimple
set_at e ls = do
  parts ← place_parts e
  value ← sign_at Equal ls
  c ← value_at value
  Some (set parts.0 parts.1 c.0, c.1)

-- a[b];   behind `delete`
unfoldable pub delete_at : List Lexeme → Reading PureSimple
delete_at ls = do
  e ← place_at ls
  parts ← place_parts e.0
  rest ← sign_at Semicolon e.1
  Some (delete parts.0 parts.1, rest)

-- ---- statements

abbrev pub begun_by : PureExpression → List Lexeme → Reading PureSimple
begun_by (variable x) ls = target_at x ls
begun_by e ls = set_at e ls

abbrev pub begun_at : List Lexeme → Reading PureSimple
begun_at ls = place_at ls >>= λ e. begun_by e.0 e.1

-- x = ..   behind `let`
abbrev pub declared_at : List Lexeme → Reading PureSimple
declared_at ls = name_at ls >>= λ x. target_at x.0 x.1

abbrev pub set_proto_at : List Lexeme → Reading PureSimple
set_proto_at ls = pair_at ls >>= λ p. Some (set_proto p.0.0 p.0.1, p.1)

abbrev pub fail_at : List Lexeme → Reading PureSimple
fail_at ls = value_at ls >>= λ e. Some (fail e.0, e.1)

abbrev pub throw_at : List Lexeme → Reading PureSimple
throw_at ls = value_at ls >>= λ e. Some (throw e.0, e.1)

abbrev pub simple_by : Option Form → List Lexeme → Reading PureSimple
simple_by (Some (forms.Word words.Let)) ls = declared_at (behind ls)
simple_by (Some (forms.Word words.Delete)) ls = delete_at (behind ls)
simple_by (Some (forms.Word words.Setproto)) ls = set_proto_at (behind ls)
simple_by (Some (forms.Word words.Fail)) ls = fail_at (behind ls)
simple_by (Some (forms.Word words.Throw)) ls = throw_at (behind ls)
simple_by _ ls = begun_at ls

-- a statement without statements in it
unfoldable pub simple_at : List Lexeme → Reading PureSimple
simple_at ls = simple_by (first_form ls) ls
