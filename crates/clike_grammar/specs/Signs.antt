-- What the lexemes of C-like expressions are.
use Rattle.std.specs.Prelude.{false, Option, Some, None, if◌then◌else◌}
use Rattle.gil_values.specs.declared.kinds.Kind.TheVariants.{Null}
use Rattle.gil_values.specs.Pure.{integer, kind}
use Rattle.gil_lexer.specs.declared.forms.Form.{Form}
use Rattle.gil_lexer.specs.declared.forms.Form.TheVariants as forms
use Rattle.gil_lexer.specs.declared.signs.Sign.TheVariants as signs
use Rattle.gil_lexer.specs.declared.words.Word.TheVariants.{NullPointer}
use Rattle.gil_lexemes.specs.declared.standing.Lexeme.{Lexeme}
use Rattle.gil_lexemes.specs.declared.standing.Lexeme.TheVariants.{Name, Word, Number}
use Rattle.source_operators.specs.Operands.{Operand, known, named}
use Rattle.operator_text.specs.Signs.{Signs}
use Rattle.clike_operators.specs.declared.trees.Prefix.{Prefix}
use Rattle.clike_operators.specs.declared.trees.Prefix.TheVariants.{Minus, Not, Pointee}
use Rattle.clike_operators.specs.declared.trees.Joint.{Joint}
use Rattle.clike_operators.specs.declared.trees.Joint.TheVariants.{Operation, Cell, Address}
use Rattle.clike_operators.specs.Ranges.{is_int}

abbrev pub prefix : Form → Option Prefix
prefix (forms.Sign signs.Minus) = Some Minus
prefix (forms.Sign signs.Bang) = Some Not
prefix (forms.Sign signs.Star) = Some Pointee
prefix _ = None

-- &a[b]
abbrev pub taken : Joint → Option Joint
taken Cell = Some Address
taken _ = None

-- a variable, a number in range, or `NULL`
abbrev pub leaf : Lexeme → Option Operand
leaf (Name x) = Some (named x)
leaf (Number n) = if is_int n then Some (known (integer n)) else None
leaf (Word NullPointer) = Some (known (kind Null))
leaf _ = None

abbrev pub clike_signs : Signs Prefix Joint
clike_signs = record { prefix = prefix; operation = Operation; indexed = Cell; taken = taken; dots = false; leaf = leaf }
