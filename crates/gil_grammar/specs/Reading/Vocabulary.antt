-- Reading values, operators and names.
use Rattle.std.specs.Prelude.{ℕ, true, false, List, Option, Some, None}
use Rattle.gil_values.specs.declared.kinds.Kind.{Kind}
use Rattle.gil_values.specs.declared.kinds.Kind.TheVariants as kinds
use Rattle.gil_values.specs.declared.operators.UnOp.{UnOp}
use Rattle.gil_values.specs.declared.operators.UnOp.TheVariants as unary
use Rattle.gil_values.specs.declared.operators.BinOp.{BinOp}
use Rattle.gil_values.specs.declared.operators.BinOp.TheVariants as binary
use Rattle.gil_values.specs.Pure.{PureValue, boolean, kind}
use Rattle.gil_lexer.specs.declared.forms.Form.{Form}
use Rattle.gil_lexer.specs.declared.forms.Form.TheVariants as forms
use Rattle.gil_lexer.specs.declared.words.Word.{Word}
use Rattle.gil_lexer.specs.declared.words.Word.TheVariants as words
use Rattle.gil_lexer.specs.declared.signs.Sign.{Sign}
use Rattle.gil_lexer.specs.declared.signs.Sign.TheVariants as signs
use Rattle.gil_lexemes.specs.declared.standing.Lexeme.{Lexeme}
use Rattle.gil_lexemes.specs.Reading.{Reading, ◌>>=◌, first_form, behind, name_at}
use Rattle.gil_syntax.specs.declared.assertions.SpecSort.{SpecSort}
use Rattle.gil_syntax.specs.declared.assertions.SpecSort.TheVariants as sorts
use Rattle.gil_grammar.specs.declared.positions.Position.{Position}
use Rattle.gil_grammar.specs.Vocabulary.{word_name}

-- the value for which a reserved word stands
abbrev pub word_value : Word → Option PureValue
word_value words.True = Some (boolean true)
word_value words.False = Some (boolean false)
word_value words.IntKind = Some (kind kinds.Int)
word_value words.BoolKind = Some (kind kinds.Bool)
word_value words.StrKind = Some (kind kinds.Str)
word_value words.SymKind = Some (kind kinds.Sym)
word_value words.KindKind = Some (kind kinds.Kind)
word_value words.ProcKind = Some (kind kinds.Proc)
word_value words.ListKind = Some (kind kinds.List)
word_value words.UndefKind = Some (kind kinds.Undef)
word_value words.NullKind = Some (kind kinds.Null)
word_value _ = None

abbrev pub unary_of_word : Word → Option UnOp
unary_of_word words.Not = Some unary.Not
unary_of_word words.Neg = Some unary.Neg
unary_of_word words.Len = Some unary.Len
unary_of_word words.Kind = Some unary.Kind
unary_of_word _ = None

abbrev pub operator_of_sign : Sign → Option BinOp
operator_of_sign signs.Plus = Some binary.Add
operator_of_sign signs.Minus = Some binary.Subtract
operator_of_sign signs.Star = Some binary.Multiply
operator_of_sign signs.Slash = Some binary.Divide
operator_of_sign signs.Percent = Some binary.Remainder
operator_of_sign signs.Equal = Some binary.Equal
operator_of_sign signs.Less = Some binary.Less
operator_of_sign signs.LessEqual = Some binary.LessOrEqual
operator_of_sign signs.PlusPlus = Some binary.Append
operator_of_sign _ = None

abbrev pub operator_of_word : Word → Option BinOp
operator_of_word words.And = Some binary.And
operator_of_word words.Or = Some binary.Or
operator_of_word _ = None

-- the operator that a token of this form is, where it stands between its operands
abbrev pub operator_of : Option Form → Option BinOp
operator_of (Some (forms.Sign sign)) = operator_of_sign sign
operator_of (Some (forms.Word word)) = operator_of_word word
operator_of _ = None

abbrev pub sort_of_word : Word → Option SpecSort
sort_of_word words.Int = Some sorts.Int
sort_of_word words.Bool = Some sorts.Bool
sort_of_word words.Str = Some sorts.Str
sort_of_word words.Sym = Some sorts.Sym
sort_of_word words.List = Some sorts.List
sort_of_word words.Any = Some sorts.Any
sort_of_word _ = None

-- the kind of an input
abbrev pub input_of_word : Word → Option Kind
input_of_word words.Int = Some kinds.Int
input_of_word words.Bool = Some kinds.Bool
input_of_word words.Str = Some kinds.Str
input_of_word _ = None

-- the reserved word that a token of this form is
abbrev pub word_of : Option Form → Option Word
word_of (Some (forms.Word word)) = Some word
word_of _ = None

-- the name at a position
abbrev pub named_by : Option Form → Position → List Lexeme → Reading (List ℕ)
named_by (Some forms.Name) position ls = name_at ls
named_by (Some (forms.Word word)) position ls = word_name position word >>= λ x. Some (x, behind ls)
named_by _ position ls = None

abbrev pub named_at : Position → List Lexeme → Reading (List ℕ)
named_at position ls = named_by (first_form ls) position ls
