-- Reading the C-like statements without statements in them, as functions: what the functions of a reader answer.
use Rattle.std.specs.Prelude.{ℕ, List, [], ◌∷◌, Option, Some, None, if◌then◌else◌}
use Rattle.gil_values.specs.declared.kinds.Kind.TheVariants.{Null}
use Rattle.gil_values.specs.Pure.{integer, kind}
use Rattle.gil_lexer.specs.declared.forms.Form.{Form}
use Rattle.gil_lexer.specs.declared.forms.Form.TheVariants as forms
use Rattle.gil_lexer.specs.declared.signs.Sign.TheVariants.{LeftParenthesis, RightParenthesis, Semicolon, Equal, Star}
use Rattle.gil_lexer.specs.declared.words.Word.TheVariants.{Int, Input, Malloc, Free, NullPointer}
use Rattle.gil_lexemes.specs.declared.standing.Lexeme.{Lexeme}
use Rattle.gil_lexemes.specs.Reading.{Reading, ◌>>=◌, form_of, first_form, behind, is_sign, sign_at, name_at, number_at}
use Rattle.source_operators.specs.Pure.{constant, variable}
use Rattle.operator_text.specs.PieceReading as pieces
use Rattle.operator_text.specs.Signs.{tight}
use Rattle.clike_operators.specs.Pure.{PureExpression}
use Rattle.clike_operators.specs.Ranges.{is_int}
use Rattle.clike_lang.specs.Pure.{PureSimple, assign, input, malloc, call, free, store}
use Rattle.clike_grammar.specs.Signs.{clike_signs}
use Rattle.clike_grammar.specs.Statements.{place_parts}

-- ---- what stands by itself

abbrev pub variable_leaf : List Lexeme → Reading PureExpression
variable_leaf ls = name_at ls >>= λ x. Some (variable x.0, x.1)

unfoldable pub number_leaf : List Lexeme → Reading PureExpression
number_leaf ls = number_at ls >>= λ n. if is_int n.0 then Some (constant (integer n.0), n.1) else None

abbrev pub leaf_by : Option Form → List Lexeme → Reading PureExpression
leaf_by (Some forms.Name) ls = variable_leaf ls
leaf_by (Some forms.Number) ls = number_leaf ls
leaf_by (Some (forms.Word NullPointer)) ls = Some (constant (kind Null), behind ls)
leaf_by _ ls = None

abbrev pub leaf_at : List Lexeme → Reading PureExpression
leaf_at ls = leaf_by (first_form ls) ls

-- ---- expressions

-- an expression where only operators of at least a strength may stand
abbrev pub expression_from : ℕ → List Lexeme → Reading PureExpression
expression_from k ls = pieces.expression_from clike_signs k ls

abbrev pub expression_at : List Lexeme → Reading PureExpression
expression_at ls = pieces.whole_at clike_signs ls

abbrev pub value_at : List Lexeme → Reading PureExpression
value_at ls = pieces.value_at clike_signs ls

abbrev pub argument_at : List Lexeme → Reading PureExpression
argument_at ls = pieces.argument_at clike_signs ls

abbrev pub arguments_at : List Lexeme → Reading (List PureExpression)
arguments_at ls = pieces.arguments_at clike_signs ls

abbrev pub call_at : Option (List ℕ) → List ℕ → List Lexeme → Reading PureSimple
call_at x f ls = arguments_at ls >>= λ es. Some (call x f es.0, es.1)

-- ();   behind `input`
unfoldable pub input_at : List ℕ → List Lexeme → Reading PureSimple
input_at x ls = do
  inner ← sign_at LeftParenthesis ls
  end ← sign_at RightParenthesis inner
  rest ← sign_at Semicolon end
  Some (input x, rest)

abbrev pub malloc_at : List ℕ → List Lexeme → Reading PureSimple
malloc_at x ls = argument_at ls >>= λ e. Some (malloc x e.0, e.1)

abbrev pub free_at : List Lexeme → Reading PureSimple
free_at ls = argument_at ls >>= λ e. Some (free e.0, e.1)

-- the variable or the function that an expression names
abbrev pub variable_of : PureExpression → Option (List ℕ)
variable_of (variable f) = Some f
variable_of _ = None

abbrev pub called_at : List ℕ → PureExpression → List Lexeme → Reading PureSimple
called_at x e ls = variable_of e >>= λ f. call_at (Some x) f ls

abbrev pub assign_at : List ℕ → PureExpression → List Lexeme → Reading PureSimple
assign_at x e ls = sign_at Semicolon ls >>= λ rest. Some (assign x e, rest)

-- behind an expression, which is assigned to x or called
unfoldable pub behind_value : List ℕ → PureExpression → List Lexeme → Reading PureSimple
behind_value x e ls = if is_sign LeftParenthesis (first_form ls) then called_at x e (behind ls) else assign_at x e ls

abbrev pub given_at : List ℕ → List Lexeme → Reading PureSimple
given_at x ls = expression_at ls >>= λ e. behind_value x e.0 e.1

-- what is assigned to x, behind `=`
abbrev pub assigned_by : Option Form → List ℕ → List Lexeme → Reading PureSimple
assigned_by (Some (forms.Word Input)) x ls = input_at x (behind ls)
assigned_by (Some (forms.Word Malloc)) x ls = malloc_at x (behind ls)
assigned_by _ x ls = given_at x ls

abbrev pub assigned_at : List ℕ → List Lexeme → Reading PureSimple
assigned_at x ls = assigned_by (first_form ls) x ls

abbrev pub target_at : List ℕ → List Lexeme → Reading PureSimple
target_at x ls = sign_at Equal ls >>= λ value. assigned_at x value

-- behind a place
unfoldable pub store_at : PureExpression → List Lexeme → Reading PureSimple
store_at e ls = do
  parts ← place_parts e
  value ← sign_at Equal ls
  c ← value_at value
  Some (store parts.0 parts.1 c.0, c.1)

-- behind a variable, which is assigned or called
unfoldable pub behind_name : List ℕ → List Lexeme → Reading PureSimple
behind_name x ls = if is_sign LeftParenthesis (first_form ls) then call_at None x (behind ls) else target_at x ls

abbrev pub begun_named : Option (List ℕ) → PureExpression → List Lexeme → Reading PureSimple
begun_named (Some x) e ls = behind_name x ls
begun_named None e ls = store_at e ls

abbrev pub begun_by : PureExpression → List Lexeme → Reading PureSimple
begun_by e ls = begun_named (variable_of e) e ls

abbrev pub begun_at : List Lexeme → Reading PureSimple
begun_at ls = expression_from tight ls >>= λ e. begun_by e.0 e.1

-- the lexemes behind the stars at the front
abbrev pub behind_stars : List Lexeme → List Lexeme
behind_stars [] = []
behind_stars (l ∷ ls) = if is_sign Star (Some (form_of l)) then behind_stars ls else l ∷ ls

-- stars and x, behind `int`
abbrev pub declared_name_at : List Lexeme → Reading (List ℕ)
declared_name_at ls = name_at (behind_stars ls)

abbrev pub declared_at : List Lexeme → Reading PureSimple
declared_at ls = declared_name_at ls >>= λ x. target_at x.0 x.1

abbrev pub simple_by : Option Form → List Lexeme → Reading PureSimple
simple_by (Some (forms.Word Int)) ls = declared_at (behind ls)
simple_by (Some (forms.Word Free)) ls = free_at (behind ls)
simple_by _ ls = begun_at ls

-- a statement without statements in it
unfoldable pub simple_at : List Lexeme → Reading PureSimple
simple_at ls = simple_by (first_form ls) ls
