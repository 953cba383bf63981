-- What the lexemes of expressions of the object language are.
use Rattle.std.specs.Prelude.{true, false, Option, Some, None}
use Rattle.gil_values.specs.declared.kinds.Kind.TheVariants.{Undef, Null}
use Rattle.gil_values.specs.Pure.{integer, boolean, text, kind}
use Rattle.gil_lexer.specs.declared.forms.Form.{Form}
use Rattle.gil_lexer.specs.declared.forms.Form.TheVariants as forms
use Rattle.gil_lexer.specs.declared.signs.Sign.TheVariants as signs
use Rattle.gil_lexer.specs.declared.words.Word.TheVariants as words
use Rattle.gil_lexemes.specs.declared.standing.Lexeme.{Lexeme}
use Rattle.gil_lexemes.specs.declared.standing.Lexeme.TheVariants.{Name, Word, Number, Literal}
use Rattle.source_operators.specs.Operands.{Operand, known, named}
use Rattle.operator_text.specs.Signs.{Signs}
use Rattle.object_operators.specs.declared.trees.Prefix.{Prefix}
use Rattle.object_operators.specs.declared.trees.Prefix.TheVariants.{Minus, Not}
use Rattle.object_operators.specs.declared.trees.Joint.{Joint}
use Rattle.object_operators.specs.declared.trees.Joint.TheVariants.{Operation, Property}

abbrev pub prefix : Form → Option Prefix
prefix (forms.Sign signs.Minus) = Some Minus
prefix (forms.Sign signs.Bang) = Some Not
prefix _ = None

-- `&` makes nothing
abbrev pub taken : Joint → Option Joint
taken _ = None

-- a variable, a number, a text, `true`, `false`, `undefined` or `null`
abbrev pub leaf : Lexeme → Option Operand
leaf (Name x) = Some (named x)
leaf (Number n) = Some (known (integer n))
leaf (Literal characters) = Some (known (text characters))
leaf (Word words.True) = Some (known (boolean true))
leaf (Word words.False) = Some (known (boolean false))
leaf (Word words.Undefined) = Some (known (kind Undef))
leaf (Word words.Null) = Some (known (kind Null))
leaf _ = None

abbrev pub object_signs : Signs Prefix Joint
object_signs = record { prefix = prefix; operation = Operation; indexed = Property; taken = taken; dots = true; leaf = leaf }
